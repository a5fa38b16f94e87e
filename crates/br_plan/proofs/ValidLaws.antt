-- Ranges and groups that a bootstrap may have.
use Rattle.std.proofs.Common.{◌≡◌, ℕ, ◌+◌, ◌<◌, ◌≤◌, ◌^◌, ◌-◌, Bool, true, false, ◌&&◌, cond, eqb, leb, List, [], ◌∷◌, get_or, length, refl, sym, ap, ◌∙◌, arith}
use Rattle.std.proofs.lemmas.Bool.{and_parts, and_from, eqb-true}
use Rattle.std.proofs.lemmas.Bool.Decides.{nat_tests}
use Rattle.std.specs.List.{list_all}
use Rattle.br_model.specs.Bootstrap.{Range, FileIndex, VolAddr, SessionId, SessionTime, Group, group_on}
use Rattle.br_model.specs.BootstrapText.{is_range, is_group}
use Rattle.br_model.specs.Name.{is_volume_name}
use Rattle.br_model.specs.Job.{Span, is_span, are_rows, JobRows}
use Rattle.br_model.proofs.GroupLaws.{rows_say}
use Rattle.br_model.proofs.ListLaws.{all_pass, of_each}
use Rattle.br_plan.specs.Parts.{with_run}

one_range : (low high : ℕ) → 1 ≤ low → low ≤ high → high < 2 ^ 31 → is_range FileIndex (record { low = low; high = high }) ≡ true
one_range low high some le small = grind (arith, nat_tests)

wider : (first last low high : ℕ) → (leb 1 first && leb first last && leb last (2 ^ 31 - 1)) ≡ true → last + 1 ≡ low → low ≤ high → high < 2 ^ 31
    → (leb 1 first && leb first high && leb high (2 ^ 31 - 1)) ≡ true
wider first last low high e next le small = grind (arith, nat_tests)

-- ranges that an index may be given, with a range after them
pub with_run_valid : (rs : List Range) (low high : ℕ) → 1 ≤ low → low ≤ high → high < 2 ^ 31 → list_all (is_range FileIndex) rs ≡ true → list_all (is_range FileIndex) (with_run rs low high) ≡ true
with_run_valid [] low high some le small e = and_from (is_range FileIndex (record { low = low; high = high })) true (one_range low high some le small) refl
with_run_valid (r ∷ []) low high some le small e = go (eqb (r.high + 1) low) refl
  where
    first : is_range FileIndex r ≡ true
    first = (and_parts (is_range FileIndex r) true e).0

    go : (b : Bool) → eqb (r.high + 1) low ≡ b
        → list_all (is_range FileIndex) (cond b (record { low = r.low; high = high } ∷ []) (r ∷ record { low = low; high = high } ∷ [])) ≡ true
    go true is = and_from (is_range FileIndex (record { low = r.low; high = high })) true (wider r.low r.high low high first (eqb-true (r.high + 1) low is) le small) refl
    go false is =
        and_from (is_range FileIndex r) (is_range FileIndex (record { low = low; high = high }) && true) first
        (and_from (is_range FileIndex (record { low = low; high = high })) true (one_range low high some le small) refl)
with_run_valid (r ∷ s ∷ rs) low high some le small e =
    let p = and_parts (is_range FileIndex r) (list_all (is_range FileIndex) (s ∷ rs)) e in
    and_from (is_range FileIndex r) (list_all (is_range FileIndex) (with_run (s ∷ rs) low high)) p.0 (with_run_valid (s ∷ rs) low high some le small p.1)

-- ---- groups

-- a group on a volume with ranges that its criteria may be given
pub group_valid : (empty : Group) (name : List ℕ) (ids times addresses indexes : List Range) → empty ≡ group_on name → is_volume_name name ≡ true
    → list_all (is_range SessionId) ids ≡ true → list_all (is_range SessionTime) times ≡ true → list_all (is_range VolAddr) addresses ≡ true → list_all (is_range FileIndex) indexes ≡ true
    → is_group (record empty { session_ids = ids; session_times = times; addresses = addresses; indexes = indexes }) ≡ true
unfolding is_group
group_valid empty name ids times addresses indexes on valid are_ids are_times are_addresses are_indexes = rw (on, valid, are_ids, are_times, are_addresses, are_indexes) refl

-- a span of a job with consistent rows has its ends in order
pub span_of_job : (j : JobRows) (spans : List Span) (i : ℕ) (s : Span) → spans ≡ j.spans → are_rows j ≡ true → i < length spans → s ≡ get_or spans i s → is_span s ≡ true
span_of_job j spans i s same valid lt is =
    of_each (λ (t : Span). is_span t ≡ true) spans s (all_pass is_span spans (ap (list_all is_span) same ∙ (rows_say j valid).spans_fit)) (i, lt, sym is)
