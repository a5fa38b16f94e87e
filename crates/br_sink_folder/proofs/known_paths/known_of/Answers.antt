use Rattle.std.proofs.Common.{◌≡◌, List, take, sym, subst, arith}
use Rattle.std.proofs.lemmas.List.{take_all}
use Rattle.br_model.specs.Name.{FileKey}
use Rattle.br_join.specs.declared.item.Outcome.{Outcome}
use Rattle.br_sink_folder.specs.OtherPaths.{Has, paths_in}
use Rattle.br_sink_folder.proofs.OtherLaws.{paths_more}
use Rattle.br_sink_folder.proofs.known_paths.known_of.Goals as goal

pub loop-key-preserved : goal.loop-key-preserved
loop-key-preserved c =
    let os = c.args.outcomes.now in
    let i = c.loop-key.key-index in
    subst (Has c.note.new.self) (paths_more os i c.loop-key-item.result c.loop-key-test.true (sym c.loop-key-item.is))
    (c.in_ok-note.ensures (paths_in (take i os)) c.loop-key.invariant)

pub returns : goal.returns
returns c =
    let os = c.args.outcomes.now in
    let all : take c.loop-key.key-index os ≡ os = take_all c.loop-key.key-index os (omega (arith, c.loop-key-test.false)) in
    subst (λ (xs : List (FileKey × Outcome)). Has c.loop-key.known (paths_in xs)) all c.loop-key.invariant
