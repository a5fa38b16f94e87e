use Rattle.std.proofs.Common.{ℕ, length, drop, ap, sym, ◌∙◌, arith, rules, tests}
use Rattle.std.proofs.lemmas.Iterator.Consumers.{YieldsList-at, YieldsList-turn, YieldsList-end}
use Rattle.std.proofs.lemmas.Iterator.Splits.{YieldsList-from_slice_split}
use Rattle.std.proofs.lemmas.List.{length_push}
use Rattle.std.proofs.lemmas.Result.{err_from_is_err_and}
use Rattle.br_mark.specs.Fault.{cause}
use Rattle.std.specs.List.{slice_split}
use Rattle.br_model.specs.Name.{is_slash}
use Rattle.br_model.specs.Console.{walk}
use Rattle.br_mark.proofs.WayLaws.{walk_more, walk_refused, walk_all}
use Rattle.br_mark.proofs.working_folder.follow.Goals as goal

pub loop-component-preserved : goal.loop-component-preserved
loop-component-preserved c =
    let turn = YieldsList-turn
    (YieldsList-at c.into_iter-component-iterator.ensures.into_iter_gives
    (YieldsList-from_slice_split _ is_slash c.args.way.now c.split-component-items.ensures.rest c.split-component-items.ensures.done c.split-component-items.ensures.closure (λ x b q k. search (rules, tests))))
    c.loop-component.yielded _ c.loop-component.yielded_by _ _ c.in-Some.component c.in-Some.is c.next.ensures.steps in
    let all = slice_split is_slash c.args.way.now in
    let more = walk_more all (length c.loop-component.yielded) c.in-Some.component.now c.loop-component.directory.items turn.0 turn.1 c.go_on.new.directory.items c.in_ok-go_on.ensures in
    ap (λ (n : ℕ). walk c.go_on.new.directory.items (drop n all)) (length_push c.loop-component.yielded c.in-Some.component) ∙ sym more ∙ c.loop-component.invariant

pub returns-in_err-go_on : goal.returns-in_err-go_on
returns-in_err-go_on c =
    let turn = YieldsList-turn
    (YieldsList-at c.into_iter-component-iterator.ensures.into_iter_gives
    (YieldsList-from_slice_split _ is_slash c.args.way.now c.split-component-items.ensures.rest c.split-component-items.ensures.done c.split-component-items.ensures.closure (λ x b q k. search (rules, tests))))
    c.loop-component.yielded _ c.loop-component.yielded_by _ _ c.in-Some.component c.in-Some.is c.next.ensures.steps in
    let all = slice_split is_slash c.args.way.now in
    let p = err_from_is_err_and c.from_residual.result c.from_residual.ensures.1 in
    rw (p.1, p.2) (walk_refused all (length c.loop-component.yielded) c.in-Some.component.now c.loop-component.directory.items turn.0 turn.1 (cause c.in_err-go_on.field-0.0) (walk c.args.directory.now.items all) c.in_err-go_on.ensures c.loop-component.invariant)

pub returns : goal.returns
returns c =
    let end = YieldsList-end
    (YieldsList-at c.into_iter-component-iterator.ensures.into_iter_gives
    (YieldsList-from_slice_split _ is_slash c.args.way.now c.split-component-items.ensures.rest c.split-component-items.ensures.done c.split-component-items.ensures.closure (λ x b q k. search (rules, tests))))
    c.loop-component.yielded _ c.loop-component.yielded_by _ _ c.in-None.is c.next.ensures.steps in
    sym c.loop-component.invariant ∙ walk_all (slice_split is_slash c.args.way.now) (length c.loop-component.yielded) c.loop-component.directory.items (omega (arith, end.1))
