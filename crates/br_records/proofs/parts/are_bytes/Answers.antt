use Rattle.std.proofs.Common.{◌+◌, List, ℕ, length, take, bytes_eq, not, sym, ap, ◌∙◌, drop}
use Rattle.br_records.specs.Records.{bytes_in}
use Rattle.br_records.proofs.PartLaws.{bytes_more, eq_more, eq_other, eq_short}
use Rattle.br_records.proofs.parts.are_bytes.Goals as goal

pub returns-then-rest-held : goal.returns-then-rest-held
returns-then-rest-held c =
    let front = c.part-item.result.fragment.bytes in
    let rest = bytes_in (drop (c.loop-part.part-index + 1) c.args.parts.now) in
    let more = bytes_more c.args.parts.now c.loop-part.part-index c.part-item.result c.loop-part-test.true c.part-item.is in
    let held = c.in_ok-held.ensures in
    let short = eq_short front rest c.loop-part.rest.now (rw held at c.if-rest-held.true) in
    sym (sym c.loop-part.invariant ∙ ap (λ (xs : List ℕ). bytes_eq xs c.loop-part.rest.now) more ∙ short)

pub returns-then-ne : goal.returns-then-ne
returns-then-ne c =
    let zs = c.loop-part.rest.now in
    let front = c.part-item.result.fragment.bytes in
    let rest = bytes_in (drop (c.loop-part.part-index + 1) c.args.parts.now) in
    let more = bytes_more c.args.parts.now c.loop-part.part-index c.part-item.result c.loop-part-test.true c.part-item.is in
    let differ = c.ne.ensures ∙ ap (λ (xs : List ℕ). not (bytes_eq c.in_ok-held.held.now xs)) c.split_at.ensures.front ∙ ap (λ (xs : List ℕ). not (bytes_eq xs (take (length xs) zs))) c.in_ok-held.ensures in
    sym (sym c.loop-part.invariant ∙ ap (λ (xs : List ℕ). bytes_eq xs zs) more ∙ eq_other front rest zs c.ne.result differ c.if-ne.true)

pub loop-part-preserved : goal.loop-part-preserved
loop-part-preserved c =
    let zs = c.loop-part.rest.now in
    let front = c.part-item.result.fragment.bytes in
    let rest = bytes_in (drop (c.loop-part.part-index + 1) c.args.parts.now) in
    let more = bytes_more c.args.parts.now c.loop-part.part-index c.part-item.result c.loop-part-test.true c.part-item.is in
    let differ = c.ne.ensures ∙ ap (λ (xs : List ℕ). not (bytes_eq c.in_ok-held.held.now xs)) c.split_at.ensures.front ∙ ap (λ (xs : List ℕ). not (bytes_eq xs (take (length xs) zs))) c.in_ok-held.ensures in
    ap (λ (xs : List ℕ). bytes_eq rest xs) (c.split_at.ensures.back ∙ ap (λ (xs : List ℕ). drop (length xs) zs) c.in_ok-held.ensures)
    ∙ sym (eq_more front rest zs c.ne.result differ c.if-ne.false) ∙ sym (ap (λ (xs : List ℕ). bytes_eq xs zs) more) ∙ c.loop-part.invariant
