use Rattle.std.proofs.Common.{sym, ap, ◌∙◌}
use Rattle.br_tree.specs.Lists.{last_part}
use Rattle.br_tree.proofs.ListsLaws.{last_more, last_whole}
use Rattle.br_console.proofs.marked_paths.part_behind.Goals as goal

pub loop-place-preserved : goal.loop-place-preserved
loop-place-preserved c = ap last_part c.behind-rest.ensures ∙ last_more c.loop-place.rest.now c.in-Some.place (sym c.place_of.ensures.place ∙ c.in-Some.is) ∙ c.loop-place.invariant

pub returns : goal.returns
returns c = last_whole c.loop-place.rest.now (sym c.place_of.ensures.place ∙ c.in_default.is) ∙ c.loop-place.invariant
