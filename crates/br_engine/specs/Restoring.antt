-- What a bootstrap gives over the volumes of some drives, whatever happens to these meanwhile.
use Rattle.std.specs.Prelude.{List, map, Vec, Option, Result, Ok}
use Rattle.std.specs.Global.{Global}
use Rattle.std.specs.List.{AllZip}
use Rattle.br_model.specs.Answer.{Answers, ◌>>=◌}
use Rattle.br_model.specs.Name.{FileKey}
use Rattle.br_model.specs.Volume.{Volume}
use Rattle.br_model.specs.Bootstrap.{Group}
use Rattle.br_model.specs.Meaning as model
use Rattle.br_model.specs.Meaning.{Piece, Hits, hits_on_each, hits_of, pieces_of, meaning}
use Rattle.br_model.specs.Restored.{Planned, Restored, files}
use Rattle.br_pool.specs.Fault.{cause}
use Rattle.br_pool.specs.Pool.{StandsTold}
use Rattle.br_pool.specs.declared.fault.PoolFault.{PoolFault}
use Rattle.br_join.specs.Joining.{Joining}
use Rattle.br_join.specs.Outcome.{restored}
use Rattle.br_join.specs.declared.item.Outcome.{Outcome}

-- the volumes of some drives, for each that reports them
abbrev pub Told : Type 0
Told = List (Option (List Volume))

-- each of the drives may be taken to show these volumes, for these pieces; so all of them report
-- their volumes
abbrev pub AllStand : Told → Told → List Piece → List Volume → Type 0
AllStand earlier later pieces volumes = AllZip (StandsTold pieces volumes) earlier later

-- there are no volumes that each of the drives may be taken to show
abbrev pub NoneStand : Told → Told → List Group → Type 0
NoneStand earlier later groups = (volumes : List Volume) → AllStand earlier later (pieces_of groups) volumes → ⊥

-- the same of drives before and after
abbrev pub NoneStandBy : {D : Type 0} → (D → Option (List Volume)) → List D → List D → List Group → Type 0
NoneStandBy shows before after groups = NoneStand (map shows before) (map shows after) groups

-- the set of the hits of some pieces, or the first fault
abbrev pub set_of_each : List Volume → List Piece → Result Hits model.PieceFault
set_of_each volumes pieces = do
  found ← hits_on_each volumes pieces
  Ok (hits_of found)

-- the files that a bootstrap gives over volumes, the planned ones if there is a plan; or the first fault of a piece
unfoldable pub restored_files : List Group → Option (List Planned) → List Volume → Result (List Restored) model.PieceFault
restored_files groups names volumes = do
  set ← meaning groups volumes
  Ok (files set names)

-- the outcomes of a restore, each with its key
abbrev pub Outcomes : Type 0
Outcomes = Vec (FileKey × Outcome) Global

-- Over all volumes that each of the drives may be taken to show, the outcomes are the files that
-- the bootstrap gives, or the refusal is the first fault. Each drive may fail, and memory may run
-- out, at any time.
abbrev pub RestoredOver : Told → Told → List Group → Option (List Planned) → Result Outcomes PoolFault → Type 0
RestoredOver earlier later groups names result =
    (volumes : List Volume) → AllStand earlier later (pieces_of groups) volumes
    → Answers (λ (os : Outcomes). map restored os.items) cause result (restored_files groups names volumes)

-- over all volumes that each of the drives may be taken to show, a joiner has the hits of the bootstrap, or the refusal is the first fault
abbrev pub JoinsOver : {D : Type 0} → (D → Option (List Volume)) → List D → List D → List Group → Result Joining PoolFault → Type 0
JoinsOver shows before after groups result =
    (volumes : List Volume) → AllStand (map shows before) (map shows after) (pieces_of groups) volumes
    → Answers (λ (j : Joining). j.hits) cause result (meaning groups volumes)
