-- The answer for a piece, over more and more volumes.
use Rattle.std.proofs.Common.{◌≡◌, ℕ, zero, suc, ◌<◌, inl, inr, false, List, [], ◌∷◌, ◌++◌, length, slice_index_or, Option, Some, None, sym, subst, arith}
use Rattle.std.specs.Prelude.{IfOk}
use Rattle.std.specs.List.{AllByRecursion}
use Rattle.br_model.specs.Volume.{Volume}
use Rattle.br_model.specs.Meaning.{Piece}
use Rattle.br_volume.specs.Drive.{OnlyGrows}
use Rattle.br_match.specs.Matching.{IsEnclosed, AnswersPiece, FoundOver}
use Rattle.br_volume.proofs.ExtendLaws.{extends_more}
use Rattle.br_pool.specs.Pool.{StandsTold}
use Rattle.br_pool.specs.Workers.{Answer, is_failure, IsAnswer, HoldsAt, EachHolds, AnswersAt, AllAnswer}
use Rattle.br_pool.proofs.ListLaws.{all_at, all_more}

-- what holds of a piece and its answer holds at the place of the piece
pub holds_at : (is : Piece → Answer → Type 0) (pieces : List Piece) (x : ℕ) (p : Piece) (a : Answer) → x < length pieces → p ≡ slice_index_or pieces x p → is p a → HoldsAt is pieces x a
holds_at is [] x p a low e h = absurd (omega (arith, low))
holds_at is (q ∷ pieces) zero p a low e h = subst (λ r. is r a) e h
holds_at is (q ∷ pieces) (suc x) p a low e h = holds_at is pieces x p a (omega (arith, low)) e h

-- over fewer volumes
pub answer_weaker : (over fewer : List Volume → Type 0) → ((volumes : List Volume) → fewer volumes → over volumes) → (p : Piece) (a : Answer) → IsAnswer over p a → IsAnswer fewer p a
answer_weaker over fewer so p a is = record {
  number = is.number;
  hits = λ volumes few. is.hits volumes (so volumes few);
  sound = is.sound;
}

-- what is weaker holds too
at_so : (is weaker : Piece → Answer → Type 0) → ((p : Piece) (a : Answer) → is p a → weaker p a) → (pieces : List Piece) (x : ℕ) (a : Answer) → HoldsAt is pieces x a → HoldsAt weaker pieces x a
at_so is weaker so [] x a h = h
at_so is weaker so (p ∷ pieces) zero a h = so p a h
at_so is weaker so (p ∷ pieces) (suc x) a h = at_so is weaker so pieces x a h

pub each_so : (is weaker : Piece → Answer → Type 0) → ((p : Piece) (a : Answer) → is p a → weaker p a) → (pieces : List Piece) (answers : List (ℕ × Answer))
    → EachHolds is pieces answers → EachHolds weaker pieces answers
each_so is weaker so pieces [] all = tt
each_so is weaker so pieces (a ∷ answers) all = (at_so is weaker so pieces a.0 a.1 all.0, each_so is weaker so pieces answers all.1)

pub all_weaker : (over fewer : List Volume → Type 0) → ((volumes : List Volume) → fewer volumes → over volumes)
    → (pieces : List Piece) (answers : List (ℕ × Answer)) → AllAnswer over pieces answers → AllAnswer fewer pieces answers
all_weaker over fewer so = each_so (IsAnswer over) (IsAnswer fewer) (answer_weaker over fewer so)

-- each number is that of a piece
at_below : (is : Piece → Answer → Type 0) (pieces : List Piece) (x : ℕ) (a : Answer) → HoldsAt is pieces x a → x < length pieces
at_below is [] x a h = absurd h
at_below is (p ∷ pieces) zero a h = omega arith
at_below is (p ∷ pieces) (suc x) a h = let low = at_below is pieces x a h in omega (arith, low)

pub each_below : (is : Piece → Answer → Type 0) (pieces : List Piece) (answers : List (ℕ × Answer)) → EachHolds is pieces answers
    → AllByRecursion (λ (a : ℕ × Answer). a.0 < length pieces) answers
each_below is pieces [] all = tt
each_below is pieces (a ∷ answers) all = (at_below is pieces a.0 a.1 all.0, each_below is pieces answers all.1)

-- ---- the volumes of a drive, while it reads

-- those that it may be taken to show over the whole time, it may so far
pub told_so_far : (pieces : List Piece) (volumes : List Volume) (a b c : Option (List Volume)) → OnlyGrows a b → OnlyGrows b c → StandsTold pieces volumes a c → StandsTold pieces volumes a b
told_so_far pieces volumes None b c p q told = absurd told
told_so_far pieces volumes (Some a) b None p q told = absurd told
told_so_far pieces volumes (Some a) None (Some c) p q told = absurd p
told_so_far pieces volumes (Some a) (Some b) (Some c) p q (more, inl same) = (more, inl (extends_more b c volumes same q))
told_so_far pieces volumes (Some a) (Some b) (Some c) p q (more, inr each) = (more, inr each)

-- and from then on
pub told_from : (pieces : List Piece) (volumes : List Volume) (a b c : Option (List Volume)) → OnlyGrows a b → OnlyGrows b c → StandsTold pieces volumes a c → StandsTold pieces volumes b c
told_from pieces volumes None b c p q told = absurd told
told_from pieces volumes (Some a) b None p q told = absurd told
told_from pieces volumes (Some a) None (Some c) p q told = absurd p
told_from pieces volumes (Some a) (Some b) (Some c) p q (more, inl same) = (extends_more volumes a b p more, inl same)
told_from pieces volumes (Some a) (Some b) (Some c) p q (more, inr each) = (extends_more volumes a b p more, inr each)

-- and for one of the pieces from then on
found_over : (pieces : List Piece) (volumes : List Volume) (x : ℕ) (piece : Piece) (answer : Answer) (a b c : Option (List Volume)) → OnlyGrows a b → OnlyGrows b c
    → x < length pieces → piece ≡ slice_index_or pieces x piece → FoundOver b c piece answer → StandsTold pieces volumes a c → AnswersPiece volumes piece answer
found_over pieces volumes x piece answer None b c p q low e found told = absurd told
found_over pieces volumes x piece answer (Some a) b None p q low e found told = absurd told
found_over pieces volumes x piece answer (Some a) None (Some c) p q low e found told = absurd p
found_over pieces volumes x piece answer (Some a) (Some b) (Some c) p q low e found (more, inl same) = found volumes (extends_more volumes a b p more, inl same)
found_over pieces volumes x piece answer (Some a) (Some b) (Some c) p q low e found (more, inr each) =
    found volumes (extends_more volumes a b p more, inr (subst (IsEnclosed volumes) (sym e) (all_at (IsEnclosed volumes) pieces x piece low each)))

-- the same answers over a longer time
pub answered_longer : (pieces : List Piece) (a b c : Option (List Volume)) (answers : List (ℕ × Answer)) → OnlyGrows a b → OnlyGrows b c
    → AllAnswer (λ volumes. StandsTold pieces volumes a b) pieces answers → AllAnswer (λ volumes. StandsTold pieces volumes a c) pieces answers
answered_longer pieces a b c answers p q all =
    all_weaker (λ volumes. StandsTold pieces volumes a b) (λ volumes. StandsTold pieces volumes a c) (λ volumes told. told_so_far pieces volumes a b c p q told) pieces answers all

-- one answer more
pub answered_more : (pieces : List Piece) (x : ℕ) (piece : Piece) (answer : Answer) (a b c : Option (List Volume)) (answers : List (ℕ × Answer))
    → OnlyGrows a b → OnlyGrows b c → x < length pieces → piece ≡ slice_index_or pieces x piece
    → IfOk answer (λ found. found.piece ≡ piece.number) → FoundOver b c piece answer → is_failure answer ≡ false
    → AllAnswer (λ volumes. StandsTold pieces volumes a b) pieces answers
    → AllAnswer (λ volumes. StandsTold pieces volumes a c) pieces (answers ++ (x, answer) ∷ [])
answered_more pieces x piece answer a b c answers p q low e number found sound all =
    all_more (λ (y : ℕ × Answer). AnswersAt (λ volumes. StandsTold pieces volumes a c) pieces y.0 y.1) answers (x, answer)
    (answered_longer pieces a b c answers p q all)
    (holds_at (IsAnswer (λ volumes. StandsTold pieces volumes a c)) pieces x piece answer low e (record {
      number = number;
      hits = λ volumes told. found_over pieces volumes x piece answer a b c p q low e found told;
      sound = sound;
    }))
