-- Vouched lengths, entry by entry.
use Rattle.std.proofs.Common.{◌≡◌, ℕ, zero, suc, ◌+◌, ◌<◌, ◌≤◌, Bool, Some, None, List, [], ◌∷◌, length, take, get_or, refl, ap, sym, ◌∙◌, arith}
use Rattle.std.specs.Prelude.{◌-◌, ◌^◌, min, bytes_eq, fold, slice_set, slice_index_or, position}
use Rattle.std.specs.List.{position_or_len}
use Rattle.std.proofs.lemmas.List.{take_more}
use Rattle.std.proofs.lemmas.List.Sums.{fold-append}
use Rattle.br_keeper.specs.declared.vouched_lengths.Vouch.{Vouch}
use Rattle.br_keeper.specs.Vouching.{changed, longer}
use Rattle.br_model.proofs.ListLaws.{at_front, behind, behind_all, found_at, not_found}

-- ---- folds and maps of one element more

pub fold_next : {A B : Type 0} (f : B → A → B) (a : B) (xs : List A) (i : ℕ) (x : A) → i < length xs → x ≡ get_or xs i x
    → fold f a (take (i + 1) xs) ≡ f (fold f a (take i xs)) x
fold_next f a xs i x lt is =
    ap (fold f a) (take_more xs i x lt) ∙ fold-append f a (take i xs) (get_or xs i x ∷ []) ∙ ap (f (fold f a (take i xs))) (sym is)

-- ---- one entry is changed

module _ (f : Vouch → Vouch) (volume : List ℕ) where
  abbrev is_of : Vouch → Bool
  is_of v = bytes_eq v.vol volume

  changed_at : (vs : List Vouch) (i : ℕ) (x : Vouch) → position_or_len is_of vs ≡ i → i < length vs → x ≡ slice_index_or vs i x
      → slice_set vs i (f x) ≡ changed f volume vs
  changed_at [] i x at below is = absurd (omega arith)
  changed_at (v ∷ vs) zero x at below is =
      let e : x ≡ v = is in rw (at_front (is_of v) (position_or_len is_of vs) at, e) refl
  changed_at (v ∷ vs) (suc i) x at below is =
      let b = behind (is_of v) (position_or_len is_of vs) i at in
      rw b.0 (ap (λ (l : List Vouch). v ∷ l) (changed_at vs i x b.1 (omega arith) is))

  none_changed_at : (vs : List Vouch) → length vs ≤ position_or_len is_of vs → changed f volume vs ≡ vs
  none_changed_at [] none = refl
  none_changed_at (v ∷ vs) none =
      let b = behind_all (is_of v) (position_or_len is_of vs) (length vs) none in
      rw b.0 (ap (λ (l : List Vouch). v ∷ l) (none_changed_at vs b.1))

  -- the entry that is found is changed
  pub changed_where_found : (vs : List Vouch) (i : ℕ) (x : Vouch) → position is_of vs ≡ Some i → x ≡ slice_index_or vs i x
      → slice_set vs i (f x) ≡ changed f volume vs
  changed_where_found vs i x found is = let at = found_at is_of vs i found in changed_at vs i x at.0 at.1 is

  -- none is changed if none is found
  pub none_changed : (vs : List Vouch) → position is_of vs ≡ None → changed f volume vs ≡ vs
  none_changed vs none = none_changed_at vs (not_found is_of vs none)

-- an element within the list is the same, whatever stands for one past its end
index_any : (vs : List Vouch) (i : ℕ) (d e : Vouch) → i < length vs → slice_index_or vs i d ≡ slice_index_or vs i e
index_any [] i d e below = absurd (omega (arith, below))
index_any (v ∷ vs) zero d e below = refl
index_any (v ∷ vs) (suc i) d e below = index_any vs i d e (omega (arith, below))

-- more bytes are vouched for if the entry is found
pub grown_where_found : (by : ℕ) (volume : List ℕ) (vs : List Vouch) (i : ℕ) (x y : Vouch) (n : ℕ) → position (λ (v : Vouch). bytes_eq v.vol volume) vs ≡ Some i
    → x ≡ slice_index_or vs i x → n ≡ min (x.bytes + by) (2 ^ 64 - 1)
    → slice_set vs i (record { vol = (slice_index_or vs i y).vol; bytes = n; is_retired = (slice_index_or vs i y).is_retired }) ≡ changed (longer by) volume vs
grown_where_found by volume vs i x y n found is n_is =
    let at = found_at (λ (v : Vouch). bytes_eq v.vol volume) vs i found in
    let same : slice_index_or vs i y ≡ x = index_any vs i y x at.1 ∙ sym is in
    ap (λ (v : Vouch). slice_set vs i (record { vol = v.vol; bytes = n; is_retired = v.is_retired })) same
    ∙ ap (λ (m : ℕ). slice_set vs i (record { vol = x.vol; bytes = m; is_retired = x.is_retired })) n_is
    ∙ changed_where_found (longer by) volume vs i x found is
