use Rattle.std.proofs.Common.{◌≡◌, ◌+◌, ◌++◌, List, Ok, Err, ap, sym, ◌∙◌}
use Rattle.std.proofs.lemmas.Result.{err_from_is_err_and}
use Rattle.br_model.specs.Block.{Header, read_block}
use Rattle.br_model.specs.Volume.{LaidBlock}
use Rattle.br_model.specs.Meaning.{Hit, Piece, hits_in}
use Rattle.br_match.specs.Fault.{cause}
use Rattle.br_match.specs.Walk.{BlockAnswers, step_on}
use Rattle.br_match.proofs.GroupLaws.{hits_in_alike}
use Rattle.br_match.proofs.OverLaws.{IsCall, of_block, refused_for, read_is_refused, block_there, bad_block_there}
use Rattle.br_match.proofs.walk.Walk.push_covered.Goals as goal

pub returns-in_err-read_bytes-clause-hits : goal.returns-in_err-read_bytes-clause-hits
returns-in_err-read_bytes-clause-hits g c =
    let piece = c.args.self.now.piece.now in
    let h = c.args.head in
    let buf = c.read_bytes.new.buf.items in
    let e = c.in_err-read_bytes.field-0.0 in
    let hits = c.args.hits.now.items in
    let size : c.head.inside.size ≡ h.size = ap (λ (x : Header). x.size) c.head.view_is in
    let call : IsCall (g.D.Drive.shows c.args.drive.now) (g.D.Drive.shows c.read_bytes.new.drive) piece c.piece.inside.vol c.args.self.now.addr c.head.inside.size buf c.read_bytes.result =
    record { near = c.requires.near; volume_is = ap (λ (q : Piece). q.volume) c.piece.view_is; grows = c.read_bytes.ensures.grows; reads = c.read_bytes.ensures.read } in
    let p = err_from_is_err_and c.from_residual.result c.from_residual.ensures.1 in
    rw (p.1, p.2)
    (of_block h (BlockAnswers piece c.args.self.now.addr (c.args.self.now.addr + h.size) hits hits (Err e)) (rw size at call) c.requires.covered c.in_err-read_bytes.was
    (λ volumes reads has. read_is_refused volumes piece c.args.self.now.addr h.size buf e reads))

pub returns-in_ok-push_hits-in-Ok-clause-hits : goal.returns-in_ok-push_hits-in-Ok-clause-hits
returns-in_ok-push_hits-in-Ok-clause-hits g c =
    let piece = c.args.self.now.piece.now in
    let h = c.args.head in
    let buf = c.read_bytes.new.buf.items in
    let size : c.head.inside.size ≡ h.size = ap (λ (x : Header). x.size) c.head.view_is in
    let call : IsCall (g.D.Drive.shows c.args.drive.now) (g.D.Drive.shows c.read_bytes.new.drive) piece c.piece.inside.vol c.args.self.now.addr c.head.inside.size buf c.read_bytes.result =
    record { near = c.requires.near; volume_is = ap (λ (q : Piece). q.volume) c.piece.view_is; grows = c.read_bytes.ensures.grows; reads = c.read_bytes.ensures.read } in
    let b : LaidBlock = record { address = c.args.self.now.addr; bytes = c.in-Ok.block } in
    let pushed : c.push_hits.new.hits.items ≡ c.args.hits.now.items ++ hits_in piece.groups b =
    c.in_ok-push_hits-in-Ok.ensures ∙ ap (λ (hs : List Hit). c.args.hits.now.items ++ hs) (hits_in_alike c.args.self.now.matchers piece.groups b c.args.self.now.alike) in
    of_block h (BlockAnswers piece c.args.self.now.addr (c.args.self.now.addr + h.size) c.args.hits.now.items c.push_hits.new.hits.items (Ok tt)) (rw size at call) c.requires.covered c.in_ok-read_bytes.was
    (λ volumes reads has.
    block_there volumes piece c.args.self.now.addr h buf c.in-Ok.block c.in_ok-read_bytes.field-0 c.args.hits.now.items c.push_hits.new.hits.items c.requires.near
    (ap read_block (sym c.deref.ensures.value) ∙ c.in-Ok.ensures) pushed reads has)

pub returns-in-Err-clause-hits : goal.returns-in-Err-clause-hits
returns-in-Err-clause-hits g c =
    let piece = c.args.self.now.piece.now in
    let h = c.args.head in
    let buf = c.read_bytes.new.buf.items in
    let hits = c.args.hits.now.items in
    let volume : c.piece.inside.vol ≡ piece.volume = ap (λ (q : Piece). q.volume) c.piece.view_is in
    let size : c.head.inside.size ≡ h.size = ap (λ (x : Header). x.size) c.head.view_is in
    let call : IsCall (g.D.Drive.shows c.args.drive.now) (g.D.Drive.shows c.read_bytes.new.drive) piece c.piece.inside.vol c.args.self.now.addr c.head.inside.size buf c.read_bytes.result =
    record { near = c.requires.near; volume_is = volume; grows = c.read_bytes.ensures.grows; reads = c.read_bytes.ensures.read } in
    of_block h (BlockAnswers piece c.args.self.now.addr (c.args.self.now.addr + h.size) hits hits (Err c.refused.result)) (rw size at call) c.requires.covered c.in_ok-read_bytes.was
    (λ volumes reads has.
    refused_for _ (cause c.refused.result) (step_on volumes piece c.args.self.now.addr) c.refused.ensures.why
    (rw (c.of_block.ensures.told c.piece.inside.vol c.args.self.now.addr, volume)
    (bad_block_there volumes piece c.args.self.now.addr _ h buf c.in_ok-read_bytes.field-0 c.requires.near c.requires.covered (ap read_block (sym c.deref.ensures.value) ∙ c.in-Err.ensures) reads has)))
