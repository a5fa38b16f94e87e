use Rattle.std.proofs.Common.{ℕ, ◌+◌, ◌<◌, ◌≤◌, ◌≢◌, Bool, not, List, length, take, drop, pos, ap, sym, ◌∙◌, arith, rules, tests}
use Rattle.std.proofs.lemmas.Iterator.{YieldsList-from_take}
use Rattle.std.proofs.lemmas.Iterator.Consumers.{YieldsList-at, YieldsList-from_filter, YieldsList-turn, YieldsList-end}
use Rattle.std.proofs.lemmas.Iterator.Splits.{YieldsList-from_slice_split}
use Rattle.std.proofs.lemmas.Result.{err_from_is_err_and}
use Rattle.std.proofs.lemmas.List.{take_more_set, get_or-set_other, length-set, length_push, length-take}
use Rattle.std.proofs.lemmas.Int.{to_z-of_z}
use mir.Syntax.{w64}
use mir.Val.{SFits}
use Rattle.br_model.specs.Text.{is_space, is_empty, words}
use Rattle.br_model.specs.Attribute.{read_numbers}
use Rattle.br_attr.specs.Numbers.{behind}
use Rattle.br_attr.proofs.ReadingLaws.{turn_at, reads_refusal, reads_more, reads_all}
use Rattle.br_attr.proofs.stat.numbers_in.Goals as goal

abbrev has_bytes : List ℕ → Bool
has_bytes word = not (is_empty word)

pub returns-in_err-numbers-clause-read : goal.returns-in_err-numbers-clause-read
unfolding words
returns-in_err-numbers-clause-read c =
    let turn = YieldsList-turn
    (YieldsList-at c.into_iter-word-iterator.ensures.into_iter_gives
    (YieldsList-from_take 14
    (YieldsList-at c.take-word-items.ensures.source
    (YieldsList-from_filter _ has_bytes
    (YieldsList-at c.filter.ensures.source
    (YieldsList-from_slice_split _ is_space c.args.text.now c.split.ensures.rest c.split.ensures.done c.split.ensures.closure (λ x b q k. search (rules, tests))))
    c.filter.ensures.closure (λ x b q k. search (rules, tests))))
    c.take-word-items.ensures.count))
    c.loop-word.yielded _ c.loop-word.yielded_by _ _ c.in-Some.word c.in-Some.is c.next.ensures.steps in
    let all = take 14 (words c.args.text.now) in
    let at = turn_at all (length c.loop-word.yielded) c.loop-word.count c.in-Some.word.now c.loop-word.invariant.counts turn in
    let front = take c.loop-word.count c.loop-word.numbers in
    let refused = reads_refusal all c.loop-word.count c.in-Some.word.now front at.0 at.1 _ c.in_err-numbers.ensures in
    let p = err_from_is_err_and c.from_residual.result c.from_residual.ensures.1 in
    rw (p.1, p.2) (sym c.loop-word.invariant.reads ∙ refused)

pub loop-word-preserved : goal.loop-word-preserved
unfolding words
loop-word-preserved c =
    let turn = YieldsList-turn
    (YieldsList-at c.into_iter-word-iterator.ensures.into_iter_gives
    (YieldsList-from_take 14
    (YieldsList-at c.take-word-items.ensures.source
    (YieldsList-from_filter _ has_bytes
    (YieldsList-at c.filter.ensures.source
    (YieldsList-from_slice_split _ is_space c.args.text.now c.split.ensures.rest c.split.ensures.done c.split.ensures.closure (λ x b q k. search (rules, tests))))
    c.filter.ensures.closure (λ x b q k. search (rules, tests))))
    c.take-word-items.ensures.count))
    c.loop-word.yielded _ c.loop-word.yielded_by _ _ c.in-Some.word c.in-Some.is c.next.ensures.steps in
    let all = take 14 (words c.args.text.now) in
    let at = turn_at all (length c.loop-word.yielded) c.loop-word.count c.in-Some.word.now c.loop-word.invariant.counts turn in
    let front = take c.loop-word.count c.loop-word.numbers in
    let more = reads_more all c.loop-word.count c.in-Some.word.now front at.0 at.1 c.in_ok-numbers.field-0 c.in_ok-numbers.ensures in
    let counts = c.loop-word.invariant.counts in
    let size = c.loop-word.invariant.size in
    let few : length all ≤ 14 = omega (arith, length-take 14 (words c.args.text.now)) in
    let place : c.loop-word.count < length c.loop-word.numbers = omega (arith, at.0, few, size) in
    let fits : SFits w64 c.in_ok-numbers.field-0 = search rules in
    let same = to_z-of_z w64 c.in_ok-numbers.field-0 fits in
    let written = take_more_set c.loop-word.numbers c.loop-word.count c.in_ok-numbers.field-0 place in
    rw same (record {
      counts = omega (arith, length_push c.loop-word.yielded c.in-Some.word, counts);
      size = length-set c.loop-word.numbers c.loop-word.count c.in_ok-numbers.field-0 ∙ size;
      reads = ap (λ ns. behind ns (read_numbers (drop (c.loop-word.count + 1) all))) written ∙ sym more ∙ c.loop-word.invariant.reads;
      zeros = λ k le. let other : k ≢ c.loop-word.count = omega arith in get_or-set_other c.loop-word.numbers c.loop-word.count k c.in_ok-numbers.field-0 (pos 0) other ∙ c.loop-word.invariant.zeros k (omega arith);
    })

pub returns-clause-read : goal.returns-clause-read
unfolding words
returns-clause-read c =
    let end = YieldsList-end
    (YieldsList-at c.into_iter-word-iterator.ensures.into_iter_gives
    (YieldsList-from_take 14
    (YieldsList-at c.take-word-items.ensures.source
    (YieldsList-from_filter _ has_bytes
    (YieldsList-at c.filter.ensures.source
    (YieldsList-from_slice_split _ is_space c.args.text.now c.split.ensures.rest c.split.ensures.done c.split.ensures.closure (λ x b q k. search (rules, tests))))
    c.filter.ensures.closure (λ x b q k. search (rules, tests))))
    c.take-word-items.ensures.count))
    c.loop-word.yielded _ c.loop-word.yielded_by _ _ c.in-None.is c.next.ensures.steps in
    let all = take 14 (words c.args.text.now) in
    sym c.loop-word.invariant.reads ∙ reads_all all c.loop-word.count (take c.loop-word.count c.loop-word.numbers) (omega (arith, end.1, c.loop-word.invariant.counts))
