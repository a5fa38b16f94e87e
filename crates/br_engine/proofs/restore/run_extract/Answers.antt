use Rattle.std.proofs.Common.{◌≡◌, List, [], ℕ, None, map, sym, subst}
use Rattle.std.specs.Prelude.{option_map}
use Rattle.std.proofs.lemmas.Result.{err_from_is_err_and}
use Rattle.br_model.specs.Bootstrap.{Group}
use Rattle.br_pool.proofs.WorkedLaws.{all_kept}
use Rattle.br_engine.specs.BootstrapText.{ReadsAs}
use Rattle.br_engine.specs.Restores.{change}
use Rattle.br_engine.specs.Restoring.{NoneStand}
use Rattle.br_engine.proofs.DeliverLaws.{none_read, read_refused}
use Rattle.br_engine.proofs.RestoreLaws.{by_plain_order, changed_weaker, text_restores, text_wanted}
use Rattle.br_engine.proofs.restore.run_extract.Goals as goal

-- ---- the text is not read

pub returns-in_err-text-clause-places : goal.returns-in_err-text-clause-places
returns-in_err-text-clause-places g c = all_kept g.D.Drive.shows g.D.Drive.failures c.args.restore.now.drives.items

-- ---- a line is refused

pub returns-in_err-bootstrap-clause-restores : goal.returns-in_err-bootstrap-clause-restores
returns-in_err-bootstrap-clause-restores g c =
    let p = err_from_is_err_and c.from_residual-in_err-bootstrap.result c.from_residual-in_err-bootstrap.ensures.1 in
    let known = g.R.Read.remaining c.args.reader.now in
    let shown = map g.D.Drive.shows c.args.restore.now.drives.items in
    let alike = subst (λ (t : List ℕ). ReadsAs t known) (sym c.deref.ensures.value) c.in_ok-text.ensures.alike in
    rw (p.1, p.2)
    (read_refused known shown shown (g.W.Write.contents c.args.writer.now) (option_map g.S.Sink.has c.args.restore.now.sink) c.deref.result.now c.in_err-bootstrap.field-0.0 alike
    c.in_err-bootstrap.ensures.exact)

pub returns-in_err-bootstrap-clause-places : goal.returns-in_err-bootstrap-clause-places
returns-in_err-bootstrap-clause-places g c = all_kept g.D.Drive.shows g.D.Drive.failures c.args.restore.now.drives.items

-- ---- the bootstrap is restored

pub returns-clause-restores : goal.returns-clause-restores
returns-clause-restores g c =
    let known = g.R.Read.remaining c.args.reader.now in
    let alike = subst (λ (t : List ℕ). ReadsAs t known) (sym c.deref.ensures.value) c.in_ok-text.ensures.alike in
    let earlier = map g.D.Drive.shows c.args.restore.now.drives.items in
    let later = map g.D.Drive.shows c.run.new.self.drives.items in
    text_restores known earlier later (g.W.Write.contents c.args.writer.now) (g.W.Write.contents c.run.new.writer) (option_map g.S.Sink.has c.args.restore.now.sink)
    (option_map g.S.Sink.has c.run.new.self.sink) c.deref.result.now c.in_ok-bootstrap.bootstrap (λ rs lines. lines ≡ []) c.run.result alike c.in_ok-bootstrap.ensures.exact
    (by_plain_order c.plain.result (change g.D.Drive g.W.Write g.S.Sink (c.args.restore.now, c.args.writer.now) (c.run.new.self, c.run.new.writer)) c.run.result
    c.in_ok-bootstrap.bootstrap None c.plain.ensures.bootstrap c.plain.ensures.names c.plain.ensures.wanted c.run.ensures.restores)

pub returns-clause-wanted : goal.returns-clause-wanted
returns-clause-wanted g c =
    let known = g.R.Read.remaining c.args.reader.now in
    let alike = subst (λ (t : List ℕ). ReadsAs t known) (sym c.deref.ensures.value) c.in_ok-text.ensures.alike in
    text_wanted known (map g.D.Drive.shows c.args.restore.now.drives.items) (map g.D.Drive.shows c.run.new.self.drives.items) c.deref.result.now
    c.in_ok-bootstrap.bootstrap c.plain.result c.run.result alike c.in_ok-bootstrap.ensures.exact c.plain.ensures.bootstrap c.plain.ensures.names c.plain.ensures.wanted
    c.run.ensures.wanted

pub returns-clause-changed : goal.returns-clause-changed
returns-clause-changed g c =
    let known = g.R.Read.remaining c.args.reader.now in
    let alike = subst (λ (t : List ℕ). ReadsAs t known) (sym c.deref.ensures.value) c.in_ok-text.ensures.alike in
    let earlier = map g.D.Drive.shows c.args.restore.now.drives.items in
    let later = map g.D.Drive.shows c.run.new.self.drives.items in
    changed_weaker (NoneStand earlier later c.plain.result.asked.bootstrap.now) _ c.run.result
    (λ none.
    none_read known earlier later c.deref.result.now c.in_ok-bootstrap.bootstrap alike c.in_ok-bootstrap.ensures.exact
    (subst (λ (gs : List Group). NoneStand earlier later gs) c.plain.ensures.bootstrap none))
    c.run.ensures.changed
