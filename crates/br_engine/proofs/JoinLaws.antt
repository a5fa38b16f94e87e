-- The files that are made of what a joiner took while drives read.
use Rattle.std.proofs.Common.{◌≡◌, ℕ, List, [], map, Option, Some, None, Result, Ok, Err, refl, ap, sym, subst, ◌∙◌}
use Rattle.std.specs.Prelude.{IfErr, IfOk}
use Rattle.br_model.specs.Answer.{IsRefusal}
use Rattle.br_model.specs.Volume.{Volume}
use Rattle.br_model.specs.Meaning as model
use Rattle.br_model.specs.Meaning.{Piece, Hits, hits_of, with_hits, hits_on_each, pieces_of, meaning}
use Rattle.br_model.specs.Bootstrap.{Group}
use Rattle.br_model.specs.Restored.{Names, Planned, files}
use Rattle.br_pool.specs.Fault as pool
use Rattle.br_pool.specs.Streaming.{StreamsOver}
use Rattle.br_pool.specs.declared.fault.PoolFault.{PoolFault}
use Rattle.br_pool.specs.declared.fault.PoolFault.TheVariants.{Memory}
use Rattle.br_join.specs.Joining.{Joining, IsMadeFor, begun_within}
use Rattle.br_join.specs.Outcome.{restored}
use Rattle.br_join.proofs.ReadyLaws.{begun_is_made}
use Rattle.br_join.proofs.TakingLaws.{taken_together}
use Rattle.br_engine.specs.Restoring.{Told, AllStand, Outcomes, RestoredOver, restored_files, set_of_each}

-- a new joiner is made for its pieces
pub fresh_is_made : (bound : Option ℕ) (shown pieces : List Piece) (names : Option Names) (j : Joining) → shown ≡ pieces → j ≡ begun_within bound pieces names → IsMadeFor shown j.pieces
fresh_is_made bound shown pieces names j same is =
    subst (λ (k : Joining). IsMadeFor shown k.pieces) (sym is) (subst (λ (ps : List Piece). IsMadeFor shown (begun_within bound ps names).pieces) same (begun_is_made shown names))

-- ---- a joiner of what all drives found

-- it has the hits of the bootstrap
pub joined_found : (earlier later : Told) (groups : List Group) (pieces : List Piece) (hits : Hits) → pieces ≡ pieces_of groups
    → StreamsOver (earlier, later) pieces (hits_of []) hits (Ok tt) → (volumes : List Volume) → AllStand earlier later (pieces_of groups) volumes → meaning groups volumes ≡ Ok hits
unfolding meaning
joined_found earlier later groups pieces hits are given volumes stands =
    let s = given volumes (subst (λ (ps : List Piece). AllStand earlier later ps volumes) (sym are) stands) in
    let all : hits_of s.0 ≡ hits = sym (taken_together [] s.0) ∙ sym s.2 in
    subst (λ (ps : List Piece). set_of_each volumes ps ≡ Ok hits) are (rw s.1 (ap Ok all))

-- or one of the pieces has a fault
pub joined_refused : (earlier later : Told) (groups : List Group) (pieces : List Piece) (held hits : Hits) (fault : PoolFault) → pieces ≡ pieces_of groups
    → StreamsOver (earlier, later) pieces held hits (Err fault) → (volumes : List Volume) → AllStand earlier later (pieces_of groups) volumes
    → IsRefusal (pool.cause fault) (meaning groups volumes)
unfolding meaning
joined_refused earlier later groups pieces held hits fault are given volumes stands =
    let s = given volumes (subst (λ (ps : List Piece). AllStand earlier later ps volumes) (sym are) stands) in
    go (pool.cause fault) (subst (λ (ps : List Piece). IsRefusal (pool.cause fault) (hits_on_each volumes ps)) are s.0)
  where
    go : (r : Option model.PieceFault) → IsRefusal r (hits_on_each volumes (pieces_of groups)) → IsRefusal r (set_of_each volumes (pieces_of groups))
    go None h = tt
    go (Some e) h = rw h refl

-- then there are no files either
pub no_files_of : (earlier later : Told) (groups : List Group) (names : Option (List Planned)) (fault : PoolFault)
    → ((volumes : List Volume) → AllStand earlier later (pieces_of groups) volumes → IsRefusal (pool.cause fault) (meaning groups volumes))
    → RestoredOver earlier later groups names (Err fault)
unfolding restored_files
no_files_of earlier later groups names fault given = λ volumes stands. go volumes (pool.cause fault) (given volumes stands)
  where
    go : (volumes : List Volume) (r : Option model.PieceFault) → IsRefusal r (meaning groups volumes) → IsRefusal r (restored_files groups names volumes)
    go volumes None h = tt
    go volumes (Some e) h = rw h refl

-- the files of its hits are those of the bootstrap, or memory runs out
pub files_of_hits : (earlier later : Told) (groups : List Group) (names : Option (List Planned)) (hits : Hits) (result : Result Outcomes PoolFault)
    → ((volumes : List Volume) → AllStand earlier later (pieces_of groups) volumes → meaning groups volumes ≡ Ok hits)
    → IfOk result (λ os. map restored os.items ≡ files hits names) → IfErr result (λ why. why ≡ Memory) → RestoredOver earlier later groups names result
unfolding restored_files
files_of_hits earlier later groups names hits (Ok os) means made short = λ volumes stands. rw (means volumes stands) (ap Ok (sym made))
files_of_hits earlier later groups names hits (Err why) means made short = rw short (λ volumes stands. tt)
