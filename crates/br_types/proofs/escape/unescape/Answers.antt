use Rattle.std.proofs.Common.{rules, ◌≡◌, [], Some, ap, sym, ◌∙◌}
use Rattle.br_model.specs.Answer.{some_or}
use Rattle.br_types.specs.Escape.{unescaped, in_front}
use Rattle.br_types.proofs.EscapeLaws.{behind, read_more, read_all}
use Rattle.br_types.proofs.escape.unescape.Goals as goal

pub loop-bytes-preserved : goal.loop-bytes-preserved
loop-bytes-preserved c =
    let first : unescaped c.loop-bytes.left.now ≡ in_front (Some c.in-Some.byte) (unescaped c.in-Some.rest.now) = search rules in
    let more = read_more c.args.text.now c.loop-bytes.left.now c.in-Some.rest.now c.loop-bytes.bytes.items c.in-Some.byte c.loop-bytes.invariant first in
    more ∙ ap (λ bytes. behind bytes (unescaped c.in-Some.rest.now)) (sym c.in_ok-extend_from_slice.ensures.items)

pub returns : goal.returns
returns c =
    let none : c.loop-bytes.left.now ≡ [] = search rules in
    ap (λ o. some_or o tt) (read_all c.args.text.now c.loop-bytes.left.now c.loop-bytes.bytes.items c.loop-bytes.invariant none)
