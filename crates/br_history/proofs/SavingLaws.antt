-- The order of saved files, and their rows, one after another.
use Rattle.std.proofs.Common.{◌≡◌, ℕ, ◌+◌, ◌<◌, ◌^◌, Bool, true, false, ◌&&◌, cond, ltb, List, [], ◌∷◌, ◌++◌, map, take, length, get_or, Ok, Err, sym, ap, ◌∙◌, inl, inr, arith}
use Rattle.std.proofs.lemmas.Bool.{ltb-true, and_parts}
use Rattle.std.proofs.lemmas.List.{take_more, map-append}
use Rattle.std.proofs.lemmas.List.FromFn.{length-enumerate_from, get_or-enumerate_from}
use Rattle.std.specs.List.{enumerate_from}
use Rattle.br_model.specs.Job.{FileRow}
use Rattle.br_model.specs.Session.{ToSave, checked_order, file_row}
use Rattle.br_model.proofs.AnswerLaws.{chosen, err_is_not_ok}
use Rattle.br_session.specs.Order.{are_linked_back}
use Rattle.br_session.proofs.OrderLaws.{order_is}

-- files whose order is refused are refused with 16
pub order_refused : (files : List ToSave) (n : ℕ) → checked_order files ≡ Err n → checked_order files ≡ Err 16
order_refused files n h = go (are_linked_back [] files && ltb (length files) (2 ^ 31)) (order_is files)
  where
    go : (b : Bool) → checked_order files ≡ cond b (Ok files) (Err 16) → checked_order files ≡ Err 16
    go true e = absurd (err_is_not_ok n files (sym h ∙ e))
    go false e = e

-- there are fewer than 2 ^ 31 files in order
pub few_in_order : (files : List ToSave) → checked_order files ≡ Ok files → length files < 2 ^ 31
few_in_order files h =
    let linked = are_linked_back [] files in
    elim (chosen (linked && ltb (length files) (2 ^ 31)) (Ok files) (Err 16) (Ok files) (sym (order_is files) ∙ h)) [
      | inl p ↦ ltb-true (length files) (2 ^ 31) (and_parts linked (ltb (length files) (2 ^ 31)) p.0).1
      | inr p ↦ absurd (err_is_not_ok 16 files p.1)
    ]

-- the row of one file more
pub row_more : (files : List ToSave) (i index : ℕ) (f : ToSave) (rows : List FileRow) (row : FileRow) → i < length files → f ≡ get_or files i f → index ≡ i + 1
    → rows ≡ map file_row (take i (enumerate_from 1 files)) → row ≡ file_row (index, f) → rows ++ row ∷ [] ≡ map file_row (take (i + 1) (enumerate_from 1 files))
row_more files i index f rows row lt is number before this =
    let numbered : List (ℕ × ToSave) = enumerate_from 1 files in
    let within : i < length numbered = omega (arith, lt, length-enumerate_from 1 files) in
    let place : 1 + i ≡ index = omega (arith, number) in
    let last : ◌≡◌ {A = ℕ × ToSave} (get_or numbered i (0, f)) (index, f) =
    get_or-enumerate_from 1 files i (0, f) lt ∙ ap (λ (g : ToSave). (1 + i, g)) (sym is) ∙ ap (λ (n : ℕ). (n, f)) place in
    ap (λ (rs : List FileRow). rs ++ row ∷ []) before ∙ ap (λ (r : FileRow). map file_row (take i numbered) ++ r ∷ []) this
    ∙ sym (ap (map file_row) (take_more numbered i (0, f) within ∙ ap (λ (p : ℕ × ToSave). take i numbered ++ p ∷ []) last) ∙ map-append file_row (take i numbered) ((index, f) ∷ []))
