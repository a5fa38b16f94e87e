-- Bytes appended to files that are kept as pairs.
use Rattle.std.proofs.Common.{◌≡◌, ℕ, zero, suc, ◌<◌, ◌≤◌, Bool, Some, None, List, [], ◌∷◌, ◌++◌, length, refl, ap, arith}
use Rattle.std.specs.Prelude.{Vec, bytes_eq, slice_set, slice_index_or, position}
use Rattle.std.specs.List.{position_or_len}
use Rattle.br_model.specs.Volume.{Volume}
use Rattle.br_fs.specs.Memory.{kept_files, with_appended}
use Rattle.br_model.proofs.ListLaws.{at_front, behind, behind_all, found_at, not_found}

module _ {A : Type 0} (path bytes : List ℕ) where
  abbrev is_of : List ℕ × Vec ℕ A → Bool
  is_of v = bytes_eq v.0 path

  longer_at : (kept : List (List ℕ × Vec ℕ A)) (i : ℕ) (x : List ℕ × Vec ℕ A) (now : Vec ℕ A)
      → position_or_len is_of kept ≡ i → i < length kept → x ≡ slice_index_or kept i x → now.items ≡ x.1.items ++ bytes
      → kept_files (slice_set kept i (x.0, now)) ≡ with_appended path bytes (kept_files kept)
  longer_at [] i x now at below is long = absurd (omega arith)
  longer_at (v ∷ vs) zero x now at below is long =
      let e : x ≡ v = is in rw (at_front (is_of v) (position_or_len is_of vs) at, long, e) refl
  longer_at (v ∷ vs) (suc i) x now at below is long =
      let b = behind (is_of v) (position_or_len is_of vs) i at in
      rw b.0 (ap (λ (l : List Volume). record { name = v.0; bytes = v.1.items } ∷ l) (longer_at vs i x now b.1 (omega arith) is long))

  at_the_end : (kept : List (List ℕ × Vec ℕ A)) (w : List ℕ × Vec ℕ A) → length kept ≤ position_or_len is_of kept → w.0 ≡ path → w.1.items ≡ bytes
      → kept_files (kept ++ w ∷ []) ≡ with_appended path bytes (kept_files kept)
  at_the_end [] w none named has = rw (named, has) refl
  at_the_end (v ∷ vs) w none named has =
      let b = behind_all (is_of v) (position_or_len is_of vs) (length vs) none in
      rw b.0 (ap (λ (l : List Volume). record { name = v.0; bytes = v.1.items } ∷ l) (at_the_end vs w b.1 named has))

  -- bytes appended to the first at the path
  pub longer_where_found : (kept : List (List ℕ × Vec ℕ A)) (i : ℕ) (x : List ℕ × Vec ℕ A) (now : Vec ℕ A) → Some i ≡ position is_of kept
      → x ≡ slice_index_or kept i x → now.items ≡ x.1.items ++ bytes
      → kept_files (slice_set kept i (x.0, now)) ≡ with_appended path bytes (kept_files kept)
  longer_where_found kept i x now found is long =
      let f = found_at is_of kept i (cc) in longer_at kept i x now f.0 f.1 is long

  -- a new file of them at the end if there is none at the path
  pub made_at_end : (kept : List (List ℕ × Vec ℕ A)) (w : List ℕ × Vec ℕ A) → None ≡ position is_of kept → w.0 ≡ path → w.1.items ≡ bytes
      → kept_files (kept ++ w ∷ []) ≡ with_appended path bytes (kept_files kept)
  made_at_end kept w none named has = at_the_end kept w (not_found is_of kept (cc)) named has

-- setting the same bytes in one of them changes no file
pub same_where_set : {A : Type 0} (kept : List (List ℕ × Vec ℕ A)) (i : ℕ) (x : List ℕ × Vec ℕ A) (now : Vec ℕ A)
    → x ≡ slice_index_or kept i x → now.items ≡ x.1.items → kept_files (slice_set kept i (x.0, now)) ≡ kept_files kept
same_where_set [] i x now is same = refl
same_where_set (v ∷ vs) zero x now is same = let e : x ≡ v = is in rw (same, e) refl
same_where_set (v ∷ vs) (suc i) x now is same =
    ap (λ (l : List Volume). record { name = v.0; bytes = v.1.items } ∷ l) (same_where_set vs i x now is same)
