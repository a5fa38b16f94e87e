-- Calls of a drive for pieces, one after the other.
use Rattle.std.proofs.Common.{◌≡◌, ◌∙◌, ℕ, ◌+◌, ◌<◌, length, get_or, take, List, [], ◌∷◌, ◌++◌, flat_map, refl, sym, ap, subst, append_assoc, append-nil}
use Rattle.std.proofs.lemmas.List.{take_more}
use Rattle.br_model.specs.Meaning.{Piece}
use Rattle.br_check.specs.Calls.{AppendsInTurn, InTurn}
use Rattle.br_check.specs.Shown.{Moment}

-- a call after these
turn_more : {B : Type 0} (Call : Moment → Moment → Piece → B → Type 0) (a b c : Moment) (ps : List Piece) (rs : List B) (p : Piece) (r : B) → InTurn Call a b ps rs → Call b c p r
    → InTurn Call a c (ps ++ p ∷ []) (rs ++ r ∷ [])
turn_more Call a b c [] [] p r same one = (c, subst (λ (m : Moment). Call m c p r) same one, refl)
turn_more Call a b c [] (s ∷ rs) p r so_far one = absurd so_far
turn_more Call a b c (q ∷ ps) [] p r so_far one = absurd so_far
turn_more Call a b c (q ∷ ps) (s ∷ rs) p r so_far one = (so_far.0, so_far.1, turn_more Call so_far.0 b c ps rs p r so_far.2 one)

-- one piece more
pub piece_more : {B : Type 0} (Call : Moment → Moment → Piece → B → Type 0) (a b c : Moment) (pieces : List Piece) (place : ℕ) (p : Piece) (rs new : List B) (r : B) → place < length pieces
    → p ≡ get_or pieces place p → new ≡ rs ++ r ∷ [] → InTurn Call a b (take place pieces) rs → Call b c p r → InTurn Call a c (take (place + 1) pieces) new
piece_more Call a b c pieces place p rs new r inside is pushed so_far one =
    let more : InTurn Call a c (take place pieces ++ p ∷ []) (rs ++ r ∷ []) = turn_more Call a b c (take place pieces) rs p r so_far one in
    rw (take_more pieces place p inside, pushed) (subst (λ (x : Piece). InTurn Call a c (take place pieces ++ x ∷ []) (rs ++ r ∷ [])) is more)

flat_more : (ts : List (List ℕ)) (t : List ℕ) → flat_map (λ lines. lines) (ts ++ t ∷ []) ≡ flat_map (λ lines. lines) ts ++ t
flat_more [] t = append-nil t
flat_more (s ∷ ts) t = ap (λ (xs : List ℕ). s ++ xs) (flat_more ts t) ∙ sym (append_assoc s (flat_map (λ lines. lines) ts) t)

-- no lines so far
pub none_told : (Call : Moment → Moment → Piece → List ℕ → Type 0) (m : Moment) (start : List ℕ) → AppendsInTurn Call (record { earlier = m; later = m }) [] start start
none_told Call m start = ([], refl, sym (append-nil start))

-- the lines about one piece more
pub lines_more : (Call : Moment → Moment → Piece → List ℕ → Type 0) (a b c : Moment) (pieces : List Piece) (place : ℕ) (p : Piece) (start before after told : List ℕ) → place < length pieces
    → p ≡ get_or pieces place p → AppendsInTurn Call (record { earlier = a; later = b }) (take place pieces) start before → Call b c p told → after ≡ before ++ told
    → AppendsInTurn Call (record { earlier = a; later = c }) (take (place + 1) pieces) start after
lines_more Call a b c pieces place p start before after told inside is so_far one pushed =
    let ts = so_far.0 in (
      ts ++ told ∷ [],
      piece_more Call a b c pieces place p ts (ts ++ told ∷ []) told inside is refl so_far.1 one,
      pushed ∙ ap (λ (xs : List ℕ). xs ++ told) so_far.2 ∙ append_assoc start (flat_map (λ line. line) ts) told ∙ ap (λ (xs : List ℕ). start ++ xs) (sym (flat_more ts told)),
    )
