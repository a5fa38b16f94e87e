use Rattle.std.proofs.Common.{Ok, Some, rules, tests}
use Rattle.std.proofs.lemmas.Iterator.{YieldsList-from_slice}
use Rattle.std.proofs.lemmas.Iterator.Consumers.{YieldsList-from_filter, map_from_collect}
use Rattle.std.proofs.lemmas.List.Sorted.{answers_always}
use Rattle.br_choose.specs.Wanted.{is_wanted}
use Rattle.br_choose.proofs.RankLaws.{rank_pair, sorted_by_pairs}
use Rattle.br_choose.proofs.ChoiceLaws.{kept_distinct, kept_once}
use Rattle.br_choose.proofs.choice.wanted_after.Goals as goal

pub returns : goal.returns
returns c =
    let test = is_wanted c.args.request.now c.args.level (Some c.args.earlier.now) in
    let are =
    map_from_collect {E = Unit {0}} (Ok c.in_ok-found.found) c.in_ok-found.ensures.ran
    (YieldsList-from_filter _ test (YieldsList-from_slice c.args.jobs.now cc) c.filter.ensures.closure (λ x b q k. search (rules, tests))) in
    sorted_by_pairs _ c.in_ok-found.found.items c.sort_unstable_by_key.new.self.items are c.sort_unstable_by_key.ensures.permutation
    (c.sort_unstable_by_key.ensures.sorted (λ b. rank_pair b.now) (answers_always _ _ _ (λ f a r q k. search rules)))
    (kept_distinct c.args.jobs.now test c.requires) (kept_once c.args.jobs.now test c.requires)
