-- The readers of a round, before and after it.
use Rattle.std.specs.Prelude.{◌≡◌, ℕ, zero, suc, ◌≤◌, ◌<◌, ◌==◌, ◌⊎◌, Bool, true, false, List, [], ◌∷◌, map, length, slice_index_or, Vec, vec_capacity, Option, Result, Ok, Err, IfOk}
use Rattle.std.specs.Global.{Global}
use Rattle.std.specs.List.{AllByRecursion, AllZip}
use Rattle.atomic_table.specs.Seated.{TableId}
use Rattle.br_model.specs.Volume.{Volume}
use Rattle.br_model.specs.Meaning.{Piece}
use Rattle.br_volume.specs.Drive.{OnlyGrows}
use Rattle.br_claim.specs.Claims.{Seated, AllOf, some_ended, times_in}
use Rattle.br_claim.specs.Rule.{times}
use Rattle.br_match.specs.Fault as piece
use Rattle.br_match.specs.Matching.{AnswersPiece}
use Rattle.br_match.specs.declared.hit.Found.{Found}
use Rattle.br_match.specs.declared.fault.PieceFault.{PieceFault}
use Rattle.br_pool.specs.Pool.{StandsTold}
use Rattle.br_pool.specs.declared.worker.Reader.{Reader}
use Rattle.br_pool.specs.declared.worker.Round.{Round}
use Rattle.br_pool.specs.declared.worker.Worker.{Worker}

-- ---- answers

-- what a drive finds of a piece, or the reason why it gave the piece up
abbrev pub Answer : Type 0
Answer = Result Found PieceFault

-- the drive failed
abbrev pub is_failure : Answer → Bool
is_failure (Ok found) = false
is_failure (Err why) = piece.fault_number why == 13

-- What was found is of this piece. Over all volumes for which `over` holds it is what these say. No
-- drive failed.
pub record IsAnswer (over : List Volume → Type 0) (p : Piece) (a : Answer) : Type 0 where
  pub number : IfOk a (λ f. f.piece ≡ p.number)
  pub hits : (volumes : List Volume) → over volumes → AnswersPiece volumes p a
  pub sound : is_failure a ≡ false

-- this holds of the piece at a place and of its answer
abbrev pub HoldsAt : (Piece → Answer → Type 0) → List Piece → ℕ → Answer → Type 0
HoldsAt is [] x a = ⊥
HoldsAt is (p ∷ ps) zero a = is p a
HoldsAt is (p ∷ ps) (suc x) a = HoldsAt is ps x a

-- this holds of each answer and of the piece at its number
abbrev pub EachHolds : (Piece → Answer → Type 0) → List Piece → List (ℕ × Answer) → Type 0
EachHolds is pieces answers = AllByRecursion (λ (a : ℕ × Answer). HoldsAt is pieces a.0 a.1) answers

-- the answer is that of the piece at a place
abbrev pub AnswersAt : (List Volume → Type 0) → List Piece → ℕ → Answer → Type 0
AnswersAt over = HoldsAt (IsAnswer over)

-- each answer is that of the piece at its number
abbrev pub AllAnswer : (List Volume → Type 0) → List Piece → List (ℕ × Answer) → Type 0
AllAnswer over = EachHolds (IsAnswer over)

-- the numbers of answers
abbrev pub numbers_of : List (ℕ × Answer) → List ℕ
numbers_of answers = map (λ (a : ℕ × Answer). a.0) answers

-- the number at a place of the list
abbrev pub number_at : List ℕ → ℕ → ℕ
number_at left place = slice_index_or left place 0

-- ---- drives that go out

-- A drive and whether it is out, before and after some calls: its volumes only grew, the number of
-- its failures did not fall, and a drive that was out is out. It went out only if it failed.
pub record HasServed (before after : Option (List Volume)) (failed_before failed_after : ℕ) (was_out is_out : Bool) : Type 0 where
  pub grows : OnlyGrows before after
  pub counted : failed_before ≤ failed_after
  pub stays : was_out ≡ true → is_out ≡ true
  pub risen : was_out ≡ false → is_out ≡ true → failed_before < failed_after

-- a reader before and after
abbrev pub Served : {D : Type 0} → (D → Option (List Volume)) → (D → ℕ) → Reader D → Reader D → Type 0
Served shows failures before after =
    HasServed (shows before.drive) (shows after.drive) (failures before.drive) (failures after.drive) before.out after.out

-- each of the readers, in its place
abbrev pub HaveServed : {D : Type 0} → (D → Option (List Volume)) → (D → ℕ) → List (Reader D) → List (Reader D) → Type 0
HaveServed shows failures before after = AllZip (Served shows failures) before after

-- what the drives of these readers show
abbrev pub shown_by : {D : Type 0} → (D → Option (List Volume)) → List (Reader D) → List (Option (List Volume))
shown_by {D} shows readers = map (λ (r : Reader D). shows r.drive) readers

-- which of the readers are out
abbrev pub outs : {D : Type 0} → List (Reader D) → List Bool
outs {D} readers = map (λ (r : Reader D). r.out) readers

-- the number of drives that are not out
abbrev pub count_in : List Bool → ℕ
count_in [] = 0
count_in (true ∷ flags) = count_in flags
count_in (false ∷ flags) = suc (count_in flags)

-- ---- a round

-- the seat is of these claims and has drawn nothing, and there is room for an answer to each number
pub record IsReady (claims : TableId) (n : ℕ) (seat : Seated) (answers : Vec (ℕ × Answer) Global) : Type 0 where
  pub claims_are : seat.claims ≡ claims
  pub limit_is : seat.limit ≡ n
  pub drawn_none : seat.drawn ≡ []
  pub answered_none : answers.items ≡ []
  pub room : n ≤ vec_capacity answers

-- A worker ran: this holds of each of its answers. If it did not go out, it answered each piece
-- whose place it drew. If it is not out, it drew until none was left.
pub record HasWorkedBy (is : Piece → Answer → Type 0) (claims : TableId) (pieces : List Piece) (left : List ℕ) (before after : Option (List Volume)) (failed_before failed_after : ℕ) (was_out is_out : Bool) (seat : Seated) (answers : List (ℕ × Answer)) : Type 0 where
  pub claims_are : seat.claims ≡ claims
  pub served : HasServed before after failed_before failed_after was_out is_out
  pub each : EachHolds is pieces answers
  pub answered : is_out ≡ was_out → numbers_of answers ≡ map (number_at left) seat.drawn
  pub ended : is_out ≡ false → seat.ended ≡ true

-- A worker ran, and each of its answers is over what its drive showed meanwhile.
abbrev pub HasWorked : TableId → List Piece → List ℕ → Option (List Volume) → Option (List Volume) → ℕ → ℕ → Bool → Bool → Seated → List (ℕ × Answer) → Type 0
HasWorked claims pieces left before after = HasWorkedBy (IsAnswer (λ volumes. StandsTold pieces volumes before after)) claims pieces left before after

-- A reader ran as a worker of this round, with this seat, and gave these answers.
abbrev pub HasWorkedIn : {D G : Type 0} → (D → Option (List Volume)) → (D → ℕ) → Round G → Reader D → Reader D → Seated → List (ℕ × Answer) → Type 0
HasWorkedIn shows failures round before after =
    HasWorked round.claims.now.claims round.pieces.now round.left.now (shows before.drive) (shows after.drive)
    (failures before.drive) (failures after.drive) before.out after.out

-- a worker before its run
abbrev pub IsSetUp : {D : Type 0} → TableId → ℕ → Worker D → Type 0
IsSetUp claims n worker = IsReady claims n worker.seat worker.answers

-- a worker before its run and after it
abbrev pub HasRun : {D : Type 0} → (D → Option (List Volume)) → (D → ℕ) → TableId → List Piece → List ℕ → Worker D → Worker D → Type 0
HasRun shows failures claims pieces left before after =
    HasWorked claims pieces left (shows before.reader.drive) (shows after.reader.drive) (failures before.reader.drive) (failures after.reader.drive)
    before.reader.out after.reader.out after.seat after.answers.items

-- this holds of the element at each place
abbrev pub EachAt : {A : Type 0} → (A → Type 0) → List A → Type 0
EachAt {A} P xs = (i : ℕ) (d : A) → i < length xs → P (slice_index_or xs i d)

-- this holds of the two elements at each place
abbrev pub EachPairAt : {A : Type 0} → (A → A → Type 0) → List A → List A → Type 0
EachPairAt {A} R xs ys = (i : ℕ) (d : A) → i < length xs → R (slice_index_or xs i d) (slice_index_or ys i d)

-- a seat found that no place is left, and each piece whose place was drawn has an answer
abbrev pub AreAllAnswered : List ℕ → List Seated → List (ℕ × Answer) → Type 0
AreAllAnswered left seats answers =
    (some_ended seats ≡ true) × ((x : ℕ) → 0 < times_in x (map (λ (s : Seated). s.drawn) seats) → 0 < times (number_at left x) (numbers_of answers))

-- Several workers, each with its own drive, gave these answers. This holds of each answer. If some
-- drive was not out before, then a drive went out, or all places were drawn and answered.
pub record HaveWorkedBy (is : Piece → Answer → Type 0) (claims : TableId) (pieces : List Piece) (left : List ℕ) (were_out are_out : List Bool) (seats : List Seated) (answers : List (ℕ × Answer)) : Type 0 where
  pub claims_are : AllOf claims seats
  pub each : EachHolds is pieces answers
  pub progress : 0 < count_in were_out → (count_in are_out < count_in were_out) ⊎ AreAllAnswered left seats answers

-- Several workers gave these answers, each over all volumes that all drives may be taken to show.
abbrev pub HaveWorked : TableId → List Piece → List ℕ → List (Option (List Volume)) → List (Option (List Volume)) → List Bool → List Bool → List Seated → List (ℕ × Answer) → Type 0
HaveWorked claims pieces left before after = HaveWorkedBy (IsAnswer (λ volumes. AllZip (StandsTold pieces volumes) before after)) claims pieces left
