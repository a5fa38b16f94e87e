-- What many drives give a joiner of some pieces, whatever their volumes do meanwhile.
use Rattle.std.specs.Prelude.{◌≡◌, ℕ, List, map, Vec, Option, Result, Ok, Err, IfOk, OnOk}
use Rattle.std.specs.Global.{Global}
use Rattle.std.specs.List.{AllZip}
use Rattle.br_model.specs.Answer.{IsRefusal}
use Rattle.br_model.specs.Volume.{Volume}
use Rattle.br_model.specs.Meaning.{Piece, Hit, Hits, hits_on_each, with_hits}
use Rattle.br_match.specs.Come.{AllComeTo}
use Rattle.br_claim.specs.Claims.{Claimed, Seated}
use Rattle.br_join.specs.Joining.{Joining}
use Rattle.br_pool.specs.Fault.{cause}
use Rattle.br_pool.specs.Gathers.{Gathers}
use Rattle.br_pool.specs.Pool.{StandsTold}
use Rattle.br_pool.specs.Rounds.{OverAll}
use Rattle.br_pool.specs.Sending.{IsSent}
use Rattle.br_pool.specs.Slots.{AddsBy, FillsBy, with_each}
use Rattle.br_pool.specs.Workers.{Answer, HaveWorkedBy, outs}
use Rattle.br_pool.specs.declared.fault.PoolFault.{PoolFault}
use Rattle.br_pool.specs.declared.worker.Reader.{Reader}
use Rattle.br_pool.specs.declared.worker.Round.{Round}

-- Readers sent the hits of pieces that are left, and the joiner took hits. If nothing was lost, the
-- slots are filled with the answers of the workers of these seats, for pieces whose hits were
-- taken.
abbrev pub ReadsTo : {D E : Type 0} → (D → Option (List Volume)) → Claimed → List Piece → List ℕ → List (Reader D) → List (Reader D) → List (Option Answer) → List (Option Answer)
    → Joining → Joining → Result (Vec Seated Global) E → Type 0
ReadsTo shows claims pieces left before after slots filled old new result =
    Gathers (OverAll shows pieces before after) pieces old new (λ taken. IfOk result (λ seats. (answers : List (ℕ × Answer)) × (filled ≡ with_each slots answers)
    × HaveWorkedBy (IsSent (OverAll shows pieces before after) taken) claims.claims pieces left (outs before) (outs after) seats.items answers))

-- the same for a round
abbrev pub ReadsRoundTo : {D G E : Type 0} → (D → Option (List Volume)) → Round G → List (Reader D) → List (Reader D) → List (Option Answer) → List (Option Answer)
    → Joining → Joining → Result (Vec Seated Global) E → Type 0
ReadsRoundTo shows round before after slots filled old new result =
    ReadsTo shows round.claims.now round.pieces.now round.left.now before after slots filled old new result

-- the joiner took hits, and answers for pieces whose hits were taken were put into their slots
abbrev pub AddsTo : {D E : Type 0} → (D → Option (List Volume)) → List Piece → List (Reader D) → List (Reader D) → List (Option Answer) → List (Option Answer)
    → Joining → Joining → Result (Unit {0}) E → Type 0
AddsTo shows pieces before after slots filled old new result =
    Gathers (OverAll shows pieces before after) pieces old new (λ taken. OnOk result (AddsBy (IsSent (OverAll shows pieces before after) taken) pieces slots filled))

-- the joiner took hits, and each filled slot has the answer for a piece whose hits were taken
abbrev pub FilledTo : {D E : Type 0} → (D → Option (List Volume)) → List Piece → List (Reader D) → List (Reader D) → List (Option Answer) → Joining → Joining → Result (Unit {0}) E → Type 0
FilledTo shows pieces before after slots old new result =
    Gathers (OverAll shows pieces before after) pieces old new (λ taken. OnOk result (AllZip (FillsBy (IsSent (OverAll shows pieces before after) taken)) pieces slots))

-- Over these volumes, the set has the hits that it had, and those of all pieces. Or the refusal is
-- that of the first piece that has one, and the set has the hits that it had, and others that walks
-- come to.
abbrev pub Streams : List Volume → List Piece → Hits → Hits → Result (Unit {0}) PoolFault → Type 0
Streams volumes pieces held new (Ok _) = (found : List Hit) × (hits_on_each volumes pieces ≡ Ok found) × (new ≡ with_hits held found)
Streams volumes pieces held new (Err fault) = IsRefusal (cause fault) (hits_on_each volumes pieces) × (found : List Hit) × (new ≡ with_hits held found) × AllComeTo volumes pieces found

-- what each drive shows before and after, if it tells its volumes
abbrev pub told_by : {D : Type 0} → (D → Option (List Volume)) → List D → List D → List (Option (List Volume)) × List (Option (List Volume))
told_by shows before after = (map shows before, map shows after)

-- The same over all volumes that each of the drives may be taken to show. Each drive may fail, and
-- memory may run out, at any time.
abbrev pub StreamsOver : List (Option (List Volume)) × List (Option (List Volume)) → List Piece → Hits → Hits → Result (Unit {0}) PoolFault → Type 0
StreamsOver shown pieces held new result =
    (volumes : List Volume) → AllZip (StandsTold pieces volumes) shown.0 shown.1 → Streams volumes pieces held new result
