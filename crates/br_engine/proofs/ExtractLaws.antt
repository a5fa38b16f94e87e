-- Files that are extracted, from those that a bootstrap gives.
use Rattle.std.proofs.Common.{◌≡◌, ℕ, List, Option, Some, None, Ok, Err, refl, ap, sym, ◌∙◌}
use Rattle.std.specs.Prelude.{option_map, IfSome}
use Rattle.br_model.specs.Answer.{IsRefusal, refused_as}
use Rattle.br_model.specs.Volume.{Volume}
use Rattle.br_model.specs.Bootstrap.{Group}
use Rattle.br_model.specs.BootstrapText.{LineFault, read_bootstrap}
use Rattle.br_model.specs.Meaning as model
use Rattle.br_model.specs.Restored.{Planned}
use Rattle.br_bsr.specs.Fault as bootstrap
use Rattle.br_bsr.specs.declared.fault.BsrFault.{BsrFault}
use Rattle.br_pool.specs.Fault as pool
use Rattle.br_pool.specs.declared.fault.PoolFault.{PoolFault}
use Rattle.br_engine.specs.Fault.{OfLine, OfPiece, cause}
use Rattle.br_engine.specs.Restoring.{Told, Outcomes, RestoredOver, restored_files}
use Rattle.br_engine.specs.Extracting.{GivesOver, OverText, OverVolumes, Said, extracted}
use Rattle.br_engine.specs.declared.fault.ExtractFault.TheVariants.{Bootstrap, Piece}

-- ---- what is said over all volumes

-- of the bootstrap of a text
pub over_text : (known : Option (List ℕ)) (earlier later : Told) (text : List ℕ) (groups : List Group) (P : Said)
    → IfSome known (λ bytes. text ≡ bytes) → read_bootstrap text ≡ Ok groups → OverVolumes earlier later groups None P → OverText known earlier later P
unfolding extracted
over_text None earlier later text groups P is read given = tt
over_text (Some bytes) earlier later text groups P is read given = λ volumes stands.
    let reads : read_bootstrap bytes ≡ Ok groups = ap read_bootstrap (sym is) ∙ read in
    rw reads (given volumes (stands groups reads))

-- of a text that is none
pub over_no_text : (known : Option (List ℕ)) (earlier later : Told) (text : List ℕ) (fault : BsrFault)
    → IfSome known (λ bytes. text ≡ bytes) → IsRefusal (bootstrap.cause fault) (read_bootstrap text) → OverText known earlier later (IsRefusal (cause (Bootstrap fault)))
unfolding extracted
over_no_text None earlier later text fault is refused = tt
over_no_text (Some bytes) earlier later text fault is refused = λ volumes stands. go volumes (bootstrap.cause fault) refused
  where
    go : (volumes : List Volume) (r : Option LineFault) → IsRefusal r (read_bootstrap text) → IsRefusal (option_map OfLine r) (extracted bytes volumes)
    go volumes None h = tt
    go volumes (Some e) h = let reads : read_bootstrap bytes ≡ Err e = ap read_bootstrap (sym is) ∙ h in rw reads refl

-- ---- from what was restored

pub gives_files : (earlier later : Told) (groups : List Group) (names : Option (List Planned)) (os : Outcomes) → RestoredOver earlier later groups names (Ok os)
    → GivesOver earlier later groups names (Ok os)
gives_files earlier later groups names os given = λ volumes stands. ap (refused_as OfPiece) (given volumes stands)

pub gives_refused : (earlier later : Told) (groups : List Group) (names : Option (List Planned)) (fault : PoolFault) → RestoredOver earlier later groups names (Err fault)
    → GivesOver earlier later groups names (Err (Piece fault))
gives_refused earlier later groups names fault given = λ volumes stands. go volumes (pool.cause fault) (given volumes stands)
  where
    go : (volumes : List Volume) (r : Option model.PieceFault) → IsRefusal r (restored_files groups names volumes)
        → IsRefusal (option_map OfPiece r) (refused_as OfPiece (restored_files groups names volumes))
    go volumes None h = tt
    go volumes (Some e) h = rw h refl
