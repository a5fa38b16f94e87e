-- The view of jobs is in byte order of its paths, and has at each path the newest copy.
use Rattle.std.proofs.Common.{◌≡◌, ℕ, Bool, true, false, cond, List, [], ◌∷◌, map, Option, Some, None, refl, sym, ap, subst, ◌∙◌, inl, inr}
use Rattle.std.proofs.lemmas.Bool.{both_ways}
use Rattle.std.proofs.lemmas.Slice.Eq.{bytes_eq-Decides}
use Rattle.std.specs.Prelude.{Contains, bytes_eq, filter_map, find, flat_map}
use Rattle.std.specs.List.{cons_option}
use Rattle.std.specs.declared.cmp.Ordering.TheVariants.{Less}
use Rattle.br_model.specs.Name.{key_rank}
use Rattle.br_model.specs.Job.{FileRow, JobRows, is_history}
use Rattle.br_model.specs.View.{Entry, entry_of, paths_of, view_of, entry_at, ViewIsInOrder, ViewIsLookups}
use Rattle.br_model.specs.Plan.{planned_entry}
use Rattle.br_model.proofs.PairLaws.{EachPair, pairs_given, pairs_with}
use Rattle.br_model.proofs.EntryLaws.{IsRowIn, entry_is_of_row, view_is_of_rows, one_entry_of_key}
use Rattle.br_model.proofs.ListLaws.{contains_flat_map, contains_map, first_or_later, none_in, to_each}
use Rattle.br_model.proofs.OrderLaws.{not_below_itself, in_order_has_each, in_order_rises, rank_cmp, rising_stays}

-- ---- entries

-- the entry of a path has this path
pub entry_has_path : (jobs : List JobRows) (path : List ℕ) (e : Entry) → entry_of jobs path ≡ Some e → e.path ≡ path
entry_has_path jobs path e is = let r = entry_is_of_row jobs path e is in ap (λ (d : Entry). d.path) r.0.entry_is ∙ r.1

-- a path that has an entry is one of the jobs' paths
pub entry_is_listed : (jobs : List JobRows) (path : List ℕ) (e : Entry) → entry_of jobs path ≡ Some e → Contains (paths_of jobs) path
unfolding paths_of
entry_is_listed jobs path e is =
    let r = entry_is_of_row jobs path e is in
    let paths : JobRows → List (List ℕ) = λ j. map (λ (f : FileRow). f.path) j.files in
    let inside : Contains (paths r.0.job) path = subst (Contains (paths r.0.job)) r.1 (contains_map (λ (f : FileRow). f.path) r.0.job.files r.0.row r.0.row_among) in
    in_order_has_each (λ p. p) (flat_map paths jobs) (λ p q among others same. same) path (contains_flat_map paths jobs r.0.job path r.0.among inside)

-- ---- the view

-- in the view of jobs the paths rise
pub view_rises : (jobs : List JobRows) → EachPair (λ (d e : Entry). rank_cmp d.path e.path ≡ Less) (view_of jobs)
unfolding view_of paths_of
view_rises jobs =
    pairs_given (λ (p q : List ℕ). rank_cmp p q ≡ Less) (λ (d e : Entry). rank_cmp d.path e.path ≡ Less) (entry_of jobs) step (paths_of jobs)
    (in_order_rises (λ p. p) (flat_map (λ (j : JobRows). map (λ (f : FileRow). f.path) j.files) jobs))
  where
    step : (p q : List ℕ) (d e : Entry) → entry_of jobs p ≡ Some d → entry_of jobs q ≡ Some e → rank_cmp p q ≡ Less → rank_cmp d.path e.path ≡ Less
    step p q d e of_p of_q less = rw (entry_has_path jobs p d of_p, entry_has_path jobs q e of_q) less

-- the view of jobs is in order
pub view_is_in_order_lem : ViewIsInOrder
view_is_in_order_lem jobs = rising_stays (λ (e : Entry). e.path) (view_of jobs) (view_rises jobs)

-- two entries with two keys
abbrev pub KeysDiffer : Entry → Entry → Type 0
KeysDiffer d e = key_rank (planned_entry d).key ≡ key_rank (planned_entry e).key → ⊥

-- no two entries of a history's view have one key
pub view_has_keys : (jobs : List JobRows) → is_history jobs ≡ true → EachPair KeysDiffer (view_of jobs)
view_has_keys jobs history =
    pairs_with (IsRowIn jobs) (λ (d e : Entry). rank_cmp d.path e.path ≡ Less) KeysDiffer
    (λ d e p q less same. not_below_itself d.path (ap (λ (g : Entry). rank_cmp d.path g.path) (one_entry_of_key jobs d e history p q same) ∙ less))
    (view_of jobs) (to_each (IsRowIn jobs) (view_of jobs) (λ e inside. view_is_of_rows jobs e inside)) (view_rises jobs)

-- If whatever a path gives has this path, the first thing with a path among what some paths give is
-- what this path gives, if it is one of them or gives nothing.
found_at : (h : List ℕ → Option Entry) → ((p : List ℕ) (e : Entry) → h p ≡ Some e → e.path ≡ p) → (ps : List (List ℕ)) (path : List ℕ) → ((e : Entry) → h path ≡ Some e → Contains ps path)
    → find (λ (e : Entry). bytes_eq e.path path) (filter_map h ps) ≡ h path
found_at h named [] path listed = sym (gives (h path) refl)
  where
    gives : (o : Option Entry) → h path ≡ o → h path ≡ None
    gives None is = is
    gives (Some e) is = absurd (none_in path (listed e is))
found_at h named (p ∷ ps) path listed = go (h p) refl (found_at h named ps path)
  where
    go : (o : Option Entry) → h p ≡ o → (((e : Entry) → h path ≡ Some e → Contains ps path) → find (λ (e : Entry). bytes_eq e.path path) (filter_map h ps) ≡ h path)
        → find (λ (e : Entry). bytes_eq e.path path) (cons_option o (filter_map h ps)) ≡ h path
    go None is rest =
        rest (λ e given. elim (first_or_later p ps path (listed e given)) [
          | inl same ↦ let none : h path ≡ None = ap h (sym same) ∙ is in absurd (clash e (sym none ∙ given))
          | inr later ↦ later
        ])
      where
        clash : (e : Entry) → None ≡ Some e → ⊥
        clash e h = cc
    go (Some e) is rest = at (bytes_eq e.path path) refl
      where
        at : (b : Bool) → bytes_eq e.path path ≡ b → cond b (Some e) (find (λ (d : Entry). bytes_eq d.path path) (filter_map h ps)) ≡ h path
        at true t = sym is ∙ ap h (sym (named p e is) ∙ (bytes_eq-Decides e.path path).0 t)
        at false t =
            rest (λ d given. elim (first_or_later p ps path (listed d given)) [
              | inl same ↦ absurd (both_ways (bytes_eq e.path path) t ((bytes_eq-Decides e.path path).1 (named p e is ∙ same)))
              | inr later ↦ later
            ])

-- the view of jobs has at each path the newest copy
pub view_is_lookups_lem : ViewIsLookups
unfolding view_of entry_at
view_is_lookups_lem jobs path = found_at (entry_of jobs) (entry_has_path jobs) (paths_of jobs) path (entry_is_listed jobs path)
