-- What several drives find of some pieces, whatever happens to their volumes meanwhile.
use Rattle.std.specs.Prelude.{◌≡◌, ℕ, ◌<◌, ◌≤◌, List, [], ◌∷◌, map, length, Vec, Option, Some, None, Result, Ok, IfErr}
use Rattle.std.specs.Global.{Global}
use Rattle.std.specs.List.{AllZip, range_with_len}
use Rattle.br_model.specs.Answer.{◌>>=◌, Answers}
use Rattle.br_model.specs.Volume.{Volume}
use Rattle.br_model.specs.Meaning as model
use Rattle.br_model.specs.Meaning.{Piece, Hit, hits_on}
use Rattle.br_volume.specs.Drive.{OnlyGrows}
use Rattle.br_match.specs.Matching.{StandsForEach}
use Rattle.br_match.specs.declared.hit.Found.{Found}
use Rattle.br_pool.specs.Fault.{cause}
use Rattle.br_pool.specs.declared.fault.PoolFault.{PoolFault}

-- a restore uses 1 to 16 drives
abbrev pub IsDriveCount : ℕ → Type 0
IsDriveCount n = (0 < n) × (n ≤ 16)

-- there are 1 to 16 of these drives
abbrev pub AreDrives : {D : Type 0} → List D → Type 0
AreDrives drives = IsDriveCount (length drives)

-- Each drive is in its place again. Its volumes only grew, and its number of failures did not fall.
abbrev pub StayInPlace : {D : Type 0} → (D → Option (List Volume)) → (D → ℕ) → List D → List D → Type 0
StayInPlace shows failures before after = AllZip (λ old new. OnlyGrows (shows old) (shows new) × (failures old ≤ failures new)) before after

-- the pieces are numbered from 0, as a bootstrap's pieces are
abbrev pub AreNumbered : List Piece → Type 0
AreNumbered pieces = map (λ (p : Piece). p.number) pieces ≡ range_with_len 0 (length pieces)

-- A drive that reports its volumes may be taken to show these. A drive that reports none may not.
abbrev pub StandsTold : List Piece → List Volume → Option (List Volume) → Option (List Volume) → Type 0
StandsTold pieces volumes (Some earlier) (Some later) = StandsForEach earlier later pieces volumes
StandsTold pieces volumes None later = ⊥
StandsTold pieces volumes (Some earlier) None = ⊥

-- the hits of each piece, piece by piece, or the fault of the first piece that has one
unfoldable pub hits_lists : List Volume → List Piece → Result (List (List Hit)) model.PieceFault
hits_lists volumes [] = Ok []
hits_lists volumes (piece ∷ pieces) = do
  found ← hits_on volumes piece
  more ← hits_lists volumes pieces
  Ok (found ∷ more)

-- the hits of what was found, piece by piece
abbrev pub found_hits : Vec Found Global → List (List Hit)
found_hits founds = map (λ (f : Found). f.hits.items) founds.items

-- Over all volumes that each of the drives may be taken to show, the result is the hits of each
-- piece, or the fault of the first piece that has one. Each drive may fail, and memory may run out,
-- at any time.
abbrev pub PoolOver : List (Option (List Volume)) → List (Option (List Volume)) → List Piece → Result (Vec Found Global) PoolFault → Type 0
PoolOver before after pieces result =
    (volumes : List Volume) → AllZip (StandsTold pieces volumes) before after → Answers found_hits cause result (hits_lists volumes pieces)

-- There is a refusal of this kind only if each of the drives failed meanwhile.
abbrev pub OnlyIfAllFail : {D A E : Type 0} → (D → ℕ) → List D → List D → (E → Type 0) → Result A E → Type 0
OnlyIfAllFail failures before after is_refusal result =
    IfErr result (λ fault. is_refusal fault → AllZip (λ old new. failures old < failures new) before after)
