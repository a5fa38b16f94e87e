-- The vouched length of one volume while others change.
use Rattle.std.proofs.Common.{◌≡◌, ℕ, ◌+◌, ◌≤◌, Bool, true, false, not, ◌||◌, cond, List, [], ◌∷◌, ◌++◌, length, map, Option, Some, None, refl, ap, subst, ◌∙◌, arith}
use Rattle.std.specs.Prelude.{bytes_eq, filter, find, flat_map, is_some, option_map}
use Rattle.std.specs.Option.{option_map_or}
use Rattle.std.specs.List.{AllByRecursion, list_any}
use Rattle.std.proofs.lemmas.Bool.{or_parts}
use Rattle.std.proofs.lemmas.List.{length-append}
use Rattle.std.proofs.lemmas.Slice.Eq.{bytes_eq-Decides}
use Rattle.br_model.specs.Volume.{Volume}
use Rattle.br_model.specs.Job.{JobRows}
use Rattle.br_model.specs.Session.{Place, length_of}
use Rattle.br_model.specs.SessionHolds.{bytes_for, bytes_of_volume}
use Rattle.br_model.proofs.ListLaws.{keeps_none}
use Rattle.br_keeper.specs.declared.vouched_lengths.Vouch.{Vouch}
use Rattle.br_keeper.specs.Vouching.{changed, end_of_jobs, entry_of, is_retired, longer, new_entries, new_entry, starts_of, vouched}
use Rattle.br_keeper.specs.Writing.{IsVouched, after_blocks}

-- ---- entries

abbrev entry_or : Option Vouch → Option Vouch → Option Vouch
entry_or None other = other
entry_or (Some v) other = Some v

entry_append : (vs more : List Vouch) (name : List ℕ) → entry_of (vs ++ more) name ≡ entry_or (entry_of vs name) (entry_of more name)
entry_append [] more name = refl
entry_append (v ∷ vs) more name =
    elim (bytes_eq v.vol name) as (λ b. cond b (Some v) (entry_of (vs ++ more) name) ≡ entry_or (cond b (Some v) (entry_of vs name)) (entry_of more name)) [
      | true ↦ refl
      | false ↦ entry_append vs more name
    ]

module _ (f : Vouch → Vouch) (keeps_volume : (v : Vouch) → (f v).vol ≡ v.vol) where
  -- the entry that is changed
  pub entry_changed : (vs : List Vouch) (name : List ℕ) → entry_of (changed f name vs) name ≡ option_map f (entry_of vs name)
  entry_changed [] name = refl
  entry_changed (v ∷ vs) name = go (bytes_eq v.vol name) refl (entry_changed vs name)
    where
      go : (b : Bool) → bytes_eq v.vol name ≡ b → entry_of (changed f name vs) name ≡ option_map f (entry_of vs name)
          → entry_of (cond b (f v ∷ vs) (v ∷ changed f name vs)) name ≡ option_map f (cond b (Some v) (entry_of vs name))
      go true e rest = rw (keeps_volume v, e) refl
      go false e rest = rw e rest

  -- the entry of another volume stays
  pub entry_beside : (vs : List Vouch) (volume name : List ℕ) → bytes_eq volume name ≡ false → entry_of (changed f volume vs) name ≡ entry_of vs name
  entry_beside [] volume name other = refl
  entry_beside (v ∷ vs) volume name other = go (bytes_eq v.vol volume) refl (entry_beside vs volume name other)
    where
      go : (b : Bool) → bytes_eq v.vol volume ≡ b → entry_of (changed f volume vs) name ≡ entry_of vs name
          → entry_of (cond b (f v ∷ vs) (v ∷ changed f volume vs)) name ≡ entry_of (v ∷ vs) name
      go true e rest =
          let differs : bytes_eq v.vol name ≡ false = ap (λ (n : List ℕ). bytes_eq n name) ((bytes_eq-Decides v.vol volume).0 e) ∙ other in
          rw (keeps_volume v, differs) refl
      go false e rest = ap (λ (o : Option Vouch). cond (bytes_eq v.vol name) (Some v) o) rest

-- ---- blocks that are appended

-- an entry grows by no more than the blocks for its volume
pub entry_grows : (blocks : List (List ℕ × List ℕ)) (vs : List Vouch) (name : List ℕ) (x : Vouch) → entry_of vs name ≡ Some x
    → (y : Vouch) × (entry_of (after_blocks blocks vs) name ≡ Some y) × (y.bytes ≤ x.bytes + length (bytes_for blocks name))
entry_grows [] vs name x e = (x, e, omega arith)
entry_grows (b ∷ bs) vs name x e = go (bytes_eq b.0 name) refl (λ z is. entry_grows bs (changed (longer (length b.1)) b.0 vs) name z is)
  where
    next : List Vouch
    next = changed (longer (length b.1)) b.0 vs

    mine : List (List ℕ × List ℕ)
    mine = filter (λ (k : List ℕ × List ℕ). bytes_eq k.0 name) bs

    go : (t : Bool) → bytes_eq b.0 name ≡ t
        → ((z : Vouch) → entry_of next name ≡ Some z → (y : Vouch) × (entry_of (after_blocks bs next) name ≡ Some y) × (y.bytes ≤ z.bytes + length (bytes_for bs name)))
        → (y : Vouch) × (entry_of (after_blocks bs next) name ≡ Some y) × (y.bytes ≤ x.bytes + length (flat_map (λ (k : List ℕ × List ℕ). k.1) (cond t (b ∷ mine) mine)))
    go true t rest =
        let same : b.0 ≡ name = (bytes_eq-Decides b.0 name).0 t in
        let here : entry_of next name ≡ Some (longer (length b.1) x) =
        ap (λ (n : List ℕ). entry_of (changed (longer (length b.1)) n vs) name) same ∙ entry_changed (longer (length b.1)) (λ v. refl) vs name
        ∙ ap (option_map (longer (length b.1))) e in
        let r = rest (longer (length b.1) x) here in
        let less : (longer (length b.1) x).bytes ≤ x.bytes + length b.1 = omega arith in
        (r.0, r.1, omega (arith, r.2, less, length-append b.1 (bytes_for bs name)))
    go false t rest = rest x (entry_beside (longer (length b.1)) (λ v. refl) vs b.0 name t ∙ e)

-- the entry of a volume for which there are no blocks stays
pub entry_stays : (blocks : List (List ℕ × List ℕ)) (vs : List Vouch) (name : List ℕ)
    → AllByRecursion (λ (b : List ℕ × List ℕ). bytes_eq b.0 name ≡ false) blocks → entry_of (after_blocks blocks vs) name ≡ entry_of vs name
entry_stays [] vs name other = refl
entry_stays (b ∷ bs) vs name other =
    entry_stays bs (changed (longer (length b.1)) b.0 vs) name other.1 ∙ entry_beside (longer (length b.1)) (λ v. refl) vs b.0 name other.0

-- there are no bytes for it
pub no_bytes : (blocks : List (List ℕ × List ℕ)) (name : List ℕ) → AllByRecursion (λ (b : List ℕ × List ℕ). bytes_eq b.0 name ≡ false) blocks
    → bytes_for blocks name ≡ []
no_bytes blocks name other =
    ap (flat_map (λ (b : List ℕ × List ℕ). b.1)) (keeps_none (λ (b : List ℕ × List ℕ). bytes_eq b.0 name) blocks other)

-- ---- volumes of places

-- the place is of this volume
abbrev pub is_of : List ℕ → Place → Bool
is_of name p = bytes_eq p.volume name

-- the new entry of a volume that has none
new_entry_is : (vs : List Vouch) (name : List ℕ) → entry_of vs name ≡ None → (starts : List (List ℕ × ℕ))
    → entry_of (new_entries vs starts) name ≡ option_map new_entry (find (λ (s : List ℕ × ℕ). bytes_eq s.0 name) starts)
new_entry_is vs name none [] = refl
new_entry_is vs name none (s ∷ ss) = go (bytes_eq s.0 name) refl (new_entry_is vs name none ss)
  where
    is_new : List ℕ × ℕ → Bool
    is_new t = not (is_some (entry_of vs t.0))

    kept : (t : Bool) → bytes_eq s.0 name ≡ false → entry_of (map new_entry (cond t (s ∷ filter is_new ss) (filter is_new ss))) name ≡ entry_of (map new_entry (filter is_new ss)) name
    kept true e = rw e refl
    kept false e = refl

    go : (b : Bool) → bytes_eq s.0 name ≡ b
        → entry_of (new_entries vs ss) name ≡ option_map new_entry (find (λ (t : List ℕ × ℕ). bytes_eq t.0 name) ss)
        → entry_of (new_entries vs (s ∷ ss)) name ≡ option_map new_entry (cond b (Some s) (find (λ (t : List ℕ × ℕ). bytes_eq t.0 name) ss))
    go true e rest =
        let none_here : is_some (entry_of vs s.0) ≡ false =
        ap (λ (n : List ℕ). is_some (entry_of vs n)) ((bytes_eq-Decides s.0 name).0 e) ∙ ap (λ (o : Option Vouch). is_some o) none in
        rw (none_here, e) refl
    go false e rest = kept (not (is_some (entry_of vs s.0))) e ∙ rest

module _ (f : List ℕ → ℕ) where
  -- the volume of a place, and its length
  abbrev pub start_of : Place → List ℕ × ℕ
  start_of p = (p.volume, f p.volume)

  -- the start that is told for a volume of one of the places
  start_among : (ps : List Place) (name : List ℕ) → list_any (is_of name) ps ≡ true
      → find (λ (s : List ℕ × ℕ). bytes_eq s.0 name) (map start_of ps) ≡ Some (name, f name)
  start_among [] name among = absurd cc
  start_among (p ∷ ps) name among = go (bytes_eq p.volume name) refl among (λ any. start_among ps name any)
    where
      go : (b : Bool) → bytes_eq p.volume name ≡ b → (b || list_any (is_of name) ps) ≡ true
          → (list_any (is_of name) ps ≡ true → find (λ (s : List ℕ × ℕ). bytes_eq s.0 name) (map start_of ps) ≡ Some (name, f name))
          → cond b (Some (start_of p)) (find (λ (s : List ℕ × ℕ). bytes_eq s.0 name) (map start_of ps)) ≡ Some (name, f name)
      go true e any rest = ap (λ (n : List ℕ). Some (n, f n)) ((bytes_eq-Decides p.volume name).0 e)
      go false e any rest = rest any

  -- none is told for another volume
  start_not_among : (ps : List Place) (name : List ℕ) → list_any (is_of name) ps ≡ false → find (λ (s : List ℕ × ℕ). bytes_eq s.0 name) (map start_of ps) ≡ None
  start_not_among [] name none = refl
  start_not_among (p ∷ ps) name none =
      let parts = or_parts (is_of name p) (list_any (is_of name) ps) none in rw parts.0 (start_not_among ps name parts.1)

  -- the length that is told for a volume of one of the places
  pub told : (ps : List Place) (name : List ℕ) → list_any (is_of name) ps ≡ true → length_of (map start_of ps) name ≡ f name
  told ps name among = ap (λ (o : Option (List ℕ × ℕ)). option_map_or (λ (l : List ℕ × ℕ). l.1) o 0) (start_among ps name among)

module _ (vs : List Vouch) (rows : List JobRows) (ps : List Place) (name : List ℕ) where
  abbrev entries : List Vouch
  entries = vs ++ new_entries vs (starts_of vs rows ps)

  -- the entry of a volume of one of the places has its vouched length
  pub entered : list_any (is_of name) ps ≡ true → (x : Vouch) × (entry_of (vs ++ new_entries vs (starts_of vs rows ps)) name ≡ Some x) × (x.bytes ≡ vouched vs rows name)
  entered among = go (entry_of vs name) refl
    where
      go : (o : Option Vouch) → entry_of vs name ≡ o
          → (x : Vouch) × (entry_of entries name ≡ Some x) × (x.bytes ≡ option_map_or (λ (v : Vouch). v.bytes) o (end_of_jobs name rows))
      go (Some x) e =
          (x, entry_append vs (new_entries vs (starts_of vs rows ps)) name ∙ ap (λ (o : Option Vouch). entry_or o (entry_of (new_entries vs (starts_of vs rows ps)) name)) e, refl)
      go None e =
          let made = new_entry_is vs name e (starts_of vs rows ps) ∙ ap (option_map new_entry) (start_among (vouched vs rows) ps name among) in (
            new_entry (name, vouched vs rows name),
            entry_append vs (new_entries vs (starts_of vs rows ps)) name ∙ ap (λ (o : Option Vouch). entry_or o (entry_of (new_entries vs (starts_of vs rows ps)) name)) e ∙ made,
            ap (λ (o : Option Vouch). option_map_or (λ (v : Vouch). v.bytes) o (end_of_jobs name rows)) e,
          )

  -- the entry of another volume stays
  pub not_entered : list_any (is_of name) ps ≡ false → entry_of (vs ++ new_entries vs (starts_of vs rows ps)) name ≡ entry_of vs name
  not_entered none = go (entry_of vs name) refl
    where
      go : (o : Option Vouch) → entry_of vs name ≡ o → entry_of entries name ≡ o
      go (Some x) e = entry_append vs (new_entries vs (starts_of vs rows ps)) name ∙ ap (λ (o : Option Vouch). entry_or o (entry_of (new_entries vs (starts_of vs rows ps)) name)) e
      go None e =
          entry_append vs (new_entries vs (starts_of vs rows ps)) name ∙ ap (λ (o : Option Vouch). entry_or o (entry_of (new_entries vs (starts_of vs rows ps)) name)) e
          ∙ new_entry_is vs name e (starts_of vs rows ps) ∙ ap (option_map new_entry) (start_not_among (vouched vs rows) ps name none)

-- a volume of one of the places that may be written to
pub vouched_among : (vs : List Vouch) (rows : List JobRows) (volumes : List Volume) (ps : List Place) (name : List ℕ) → list_any (is_of name) ps ≡ true
    → AllByRecursion (IsVouched vs (Some volumes)) (starts_of vs rows ps) → (is_retired vs name ≡ false) × (vouched vs rows name ≡ length (bytes_of_volume volumes name))
vouched_among vs rows volumes [] name among serve = absurd cc
vouched_among vs rows volumes (p ∷ ps) name among serve = go (bytes_eq p.volume name) refl among (λ any. vouched_among vs rows volumes ps name any serve.1)
  where
    IsReadyAt : List ℕ → Type 0
    IsReadyAt n = (is_retired vs n ≡ false) × (vouched vs rows n ≡ length (bytes_of_volume volumes n))

    go : (b : Bool) → bytes_eq p.volume name ≡ b → (b || list_any (is_of name) ps) ≡ true → (list_any (is_of name) ps ≡ true → IsReadyAt name) → IsReadyAt name
    go true e any rest = subst IsReadyAt ((bytes_eq-Decides p.volume name).0 e) (serve.0.serves, serve.0.bytes_are)
    go false e any rest = rest any
