-- What a plan's groups find of a selected file is what the spans of its job have of it.
use Rattle.std.proofs.Common.{◌≡◌, ℕ, zero, suc, ◌+◌, Bool, true, false, not, ◌&&◌, eqb, List, [], ◌∷◌, ◌++◌, length, map, filter, Some, refl, sym, ap, subst, ◌∙◌, inl, inr, arith}
use Rattle.std.proofs.Math.Nat.{zero-add, add_assoc}
use Rattle.std.proofs.lemmas.Option.{same_Some, slice_get-map}
use Rattle.std.proofs.lemmas.Bool.{eqb-true, and_parts}
use Rattle.std.proofs.lemmas.List.Elements.{Contains-append_left, Contains-append_right}
use Rattle.std.specs.Prelude.{Contains, slice_get, flat_map, option_map, nat_abs}
use Rattle.std.specs.Int.{is_positive, is_in_range}
use Rattle.std.specs.List.{AllByRecursion, AllZip, enumerate_from}
use Rattle.std.specs.FinMap.{entries}
use Rattle.br_model.specs.Text.{is_empty}
use Rattle.br_model.specs.Name.{SessionKey, FileKey, same_session, same_key}
use Rattle.br_model.specs.Block.{Fragment, fragments_of}
use Rattle.br_model.specs.Volume.{Volume, Extends, LaidBlock}
use Rattle.br_model.specs.Bootstrap.{Group}
use Rattle.br_model.specs.Meaning.{Hit, key_of, hits_of, first_hitting, groups_on, volumes_of}
use Rattle.br_model.specs.Restored.{fragments_for}
use Rattle.br_model.specs.Job.{Span, JobRows, is_history}
use Rattle.br_model.specs.View.{Entry}
use Rattle.br_model.specs.Plan.{indexes_in, planned_entry, plan_groups}
use Rattle.br_model.specs.Stored.{is_in_span, file_fragments, IsSpanLaid, AreInSpan}
use Rattle.br_model.proofs.CutLaws.{has_index}
use Rattle.br_model.proofs.FileLaws.{session_fragments}
use Rattle.br_model.proofs.EntryFileLaws.{kept_blocks, kept_zip, index_is_selected}
use Rattle.br_model.proofs.RisingLaws.{same_key_is, same_key_self, fragments_of_found}
use Rattle.br_model.proofs.SpanHitLaws.{is_of_file, hit_there, block_hits, span_hits, spans_hits, spans_hits_are, spans_hits_have_key, spans_hits_rise, AddressesRise, span_rises, of_zip, each_hit}
use Rattle.br_model.proofs.GroupLaws.{asked_at, asked_of_job, asked_from, IsAsked, one_job_of_session, first_hitting_says, first_hitting_is, has_part}
use Rattle.br_model.proofs.PlanVolumeLaws.{IsJobLaid, job_spans, plan_spans, hits_found, blocks_found, span_is_found}
use Rattle.br_model.proofs.ListLaws.{contains_filter, contains_flat_map, contains_map, first_or_later, has_at, none_in, numbered_in, of_each, place_of, at_number, kept_passes, number_at}
use Rattle.br_model.proofs.FoundLaws.{block_is_of_span, found_is, is_found, volume_is_named}

-- ---- elements

-- places of images, and in joined lists
pub image_at : {X Y : Type 0} (f : X → Y) (xs : List X) (i : ℕ) (x : X) → slice_get xs i ≡ Some x → slice_get (map f xs) i ≡ Some (f x)
image_at f xs i x e = slice_get-map f xs i ∙ ap (option_map f) e

-- what is at a place of the first list is there in the joined list
pub at_front : {X : Type 0} (xs ys : List X) (i : ℕ) (x : X) → slice_get xs i ≡ Some x → slice_get (xs ++ ys) i ≡ Some x
at_front [] ys i x e = absurd cc
at_front (z ∷ zs) ys zero x e = e
at_front (z ∷ zs) ys (suc i) x e = at_front zs ys i x e

-- places after the first list are those of the second
pub at_back : {X : Type 0} (xs ys : List X) (i : ℕ) → slice_get (xs ++ ys) (length xs + i) ≡ slice_get ys i
at_back [] ys i = ap (slice_get ys) (zero-add i)
at_back (x ∷ xs) ys i = ap (slice_get (x ∷ xs ++ ys)) (next (length xs) i) ∙ at_back xs ys i
  where
    next : (m n : ℕ) → suc m + n ≡ suc (m + n)
    next m n = omega arith

-- two relations place by place are one
pub zip_both : {X Y : Type 0} (R S : X → Y → Type 0) (xs : List X) (ys : List Y) → AllZip R xs ys → AllZip S xs ys → AllZip (λ (x : X) (y : Y). R x y × S x y) xs ys
zip_both R S [] [] p q = tt
zip_both R S [] (y ∷ ys) p q = absurd p
zip_both R S (x ∷ xs) [] p q = absurd p
zip_both R S (x ∷ xs) (y ∷ ys) p q = ((p.0, q.0), zip_both R S xs ys p.1 q.1)

-- what is related to the element at a place, from either side
pub zip_right : {X Y : Type 0} (R : X → Y → Type 0) (xs : List X) (ys : List Y) (i : ℕ) (x : X) → AllZip R xs ys → slice_get xs i ≡ Some x → (y : Y) × (slice_get ys i ≡ Some y) × R x y
zip_right R [] ys i x h e = absurd cc
zip_right R (w ∷ ws) [] i x h e = absurd h
zip_right R (w ∷ ws) (y ∷ ys) zero x h e = let same : w ≡ x = cc in (y, refl, subst (λ z. R z y) same h.0)
zip_right R (w ∷ ws) (y ∷ ys) (suc i) x h e = zip_right R ws ys i x h.1 e

-- the same from the right list to the left one
pub zip_left : {X Y : Type 0} (R : X → Y → Type 0) (xs : List X) (ys : List Y) (i : ℕ) (y : Y) → AllZip R xs ys → slice_get ys i ≡ Some y → (x : X) × (slice_get xs i ≡ Some x) × R x y
zip_left R xs [] i y h e = absurd cc
zip_left R [] (z ∷ zs) i y h e = absurd h
zip_left R (x ∷ xs) (z ∷ zs) zero y h e = let same : z ≡ y = cc in (x, refl, subst (λ w. R x w) same h.0)
zip_left R (x ∷ xs) (z ∷ zs) (suc i) y h e = zip_left R xs zs i y h.1 e

-- ---- the hits of a file in spans, one by one

-- the hit on a fragment of a file in spans is one of its hits
pub hit_in : (key : FileKey) (n : ℕ) (blocks : List (List LaidBlock)) (i : ℕ) (bs : List LaidBlock) (b : LaidBlock) (m : ℕ) (f : Fragment) → slice_get blocks i ≡ Some bs → Contains bs b
    → Contains (enumerate_from 0 (fragments_of b.bytes)) (m, f) → is_of_file key f ≡ true → Contains (spans_hits key n blocks) (hit_there key (n + i) b.address (m, f))
hit_in key n [] i bs b m f at b_in f_in passes = absurd cc
hit_in key n (cs ∷ css) zero bs b m f at b_in f_in passes =
    let same : cs ≡ bs = cc in
    let none : n + 0 ≡ n = omega arith in
    let test : ℕ × Fragment → Bool = λ g. is_of_file key g.1 in
    let there : Contains (block_hits key n b) (hit_there key n b.address (m, f)) =
    contains_map (hit_there key n b.address) (filter test (enumerate_from 0 (fragments_of b.bytes))) (m, f) (contains_filter test (enumerate_from 0 (fragments_of b.bytes)) (m, f) f_in passes) in
    subst (λ (g : ℕ). Contains (spans_hits key n (cs ∷ css)) (hit_there key g b.address (m, f))) (sym none)
    (Contains-append_left (span_hits key n cs) (spans_hits key (n + 1) css) (hit_there key n b.address (m, f))
    (contains_flat_map (block_hits key n) cs b (hit_there key n b.address (m, f)) (subst (λ (ds : List LaidBlock). Contains ds b) (sym same) b_in) there))
hit_in key n (cs ∷ css) (suc i) bs b m f at b_in f_in passes =
    let next : (n + 1) + i ≡ n + suc i = omega arith in
    subst (λ (g : ℕ). Contains (spans_hits key n (cs ∷ css)) (hit_there key g b.address (m, f))) next
    (Contains-append_right (span_hits key n cs) (spans_hits key (n + 1) css) (hit_there key ((n + 1) + i) b.address (m, f)) (hit_in key (n + 1) css i bs b m f at b_in f_in passes))

-- ---- the numbers of a job's groups

-- the spans of a chosen job that have groups have them one after the other
pub record AreNumbered (selected : List Entry) (start : ℕ) (jobs : List JobRows) (j : JobRows) : Type 0 where
  pub place : ℕ
  pub first : ℕ
  pub each : (i : ℕ) (s : Span) → slice_get (job_spans selected j) i ≡ Some s → slice_get (asked_from start selected jobs) (first + i) ≡ Some (asked_at (place, j) s)

pub job_is_numbered : (selected : List Entry) (start : ℕ) (jobs : List JobRows) (j : JobRows) → Contains jobs j → AreNumbered selected start jobs j
job_is_numbered selected start [] j inside = absurd (none_in j inside)
job_is_numbered selected start (x ∷ xs) j inside =
    elim (first_or_later x xs j inside) [
      | inl same ↦ subst (AreNumbered selected start (x ∷ xs)) same (record {
        place = start;
        first = 0;
        each = λ i s at.
            ap (slice_get (asked_from start selected (x ∷ xs))) (zero-add i)
            ∙ at_front (asked_of_job selected (start, x)) (asked_from (start + 1) selected xs) i (asked_at (start, x) s) (image_at (asked_at (start, x)) (job_spans selected x) i s at);
      })
      | inr later ↦
          let r = job_is_numbered selected (start + 1) xs j later in
          let here = asked_of_job selected (start, x) in
          record {
            place = r.place;
            first = length here + r.first;
            each = λ i s at.
                ap (slice_get (asked_from start selected (x ∷ xs))) (add_assoc (length here) r.first i) ∙ at_back here (asked_from (start + 1) selected xs) (r.first + i) ∙ r.each i s at;
          }
    ]

-- ---- what is found of a selected file

-- a fragment of a session's file in a block is among the session's
pub in_file_fragments : (key : SessionKey) (bs : List LaidBlock) (b : LaidBlock) (f : Fragment) → Contains bs b → Contains (fragments_of b.bytes) f
    → (same_session f.session key && is_positive f.index) ≡ true → Contains (file_fragments key bs) f
unfolding file_fragments
in_file_fragments key bs b f b_in f_in passes =
    contains_filter (λ (g : Fragment). same_session g.session key && is_positive g.index) (flat_map (λ (c : LaidBlock). fragments_of c.bytes) bs) f (contains_flat_map (λ (c : LaidBlock). fragments_of c.bytes) bs b f b_in f_in) passes

-- what a fragment of a file has
pub record IsOfFile (key : FileKey) (f : Fragment) : Type 0 where
  pub session_is : same_session f.session key.session ≡ true
  pub positive : is_positive f.index ≡ true
  pub index_is : nat_abs f.index ≡ key.index
  pub key_is : key_of f ≡ key

-- a fragment that passes the test of a file is of it
pub file_says : (key : FileKey) (f : Fragment) → is_of_file key f ≡ true → IsOfFile key f
file_says key f passes =
    let outer = and_parts (same_session f.session key.session && is_positive f.index) (has_index key.index f) passes in
    let inner = and_parts (same_session f.session key.session) (is_positive f.index) outer.0 in
    let same : same_key (key_of f) key ≡ true = rw (inner.0, outer.1) refl in
    record { session_is = inner.0; positive = inner.1; index_is = eqb-true (nat_abs f.index) key.index outer.1; key_is = same_key_is (key_of f) key same }

-- a fragment of a file passes its test
pub passes_file : (key : FileKey) (f : Fragment) → is_positive f.index ≡ true → key_of f ≡ key → is_of_file key f ≡ true
passes_file key f positive same =
    let self = and_parts (same_session f.session f.session) (eqb (nat_abs f.index) (nat_abs f.index)) (same_key_self (key_of f)) in
    subst (λ (k : FileKey). is_of_file k f ≡ true) same (rw (self.0, positive, self.1) refl)

-- all that is found for the groups of a plan
abbrev pub plan_found : List Volume → List Entry → List JobRows → List Hit
plan_found later selected jobs = flat_map (hits_found (plan_groups selected jobs) later) (volumes_of (plan_groups selected jobs))

-- a job of a plan whose spans are laid, and a selected entry of it
pub record IsSelectedIn (volumes : List Volume) (selected : List Entry) (jobs : List JobRows) (j : JobRows) (blocks : List (List LaidBlock)) (e : Entry) : Type 0 where
  pub among : Contains jobs j
  pub laid : AllZip (IsSpanLaid volumes) j.spans blocks
  pub in_span : AllZip (AreInSpan j.row.session) j.spans blocks
  pub selects : Contains selected e
  pub of_job : e.job ≡ j.row.id
  pub session_is : e.session ≡ j.row.session

abbrev pub LaidInside : List Volume → SessionKey → Span → List LaidBlock → Type 0
LaidInside volumes key s bs = IsSpanLaid volumes s bs × AreInSpan key s bs

-- each hit on a selected file in the spans of its job that have groups is found
pub span_hits_are_found : (volumes later : List Volume) (selected : List Entry) (jobs : List JobRows) (j : JobRows) (blocks : List (List LaidBlock)) (e : Entry)
    → Extends later volumes → is_history jobs ≡ true → AllByRecursion (IsJobLaid volumes) jobs → IsSelectedIn volumes selected jobs j blocks e → (numbers : AreNumbered selected 0 jobs j)
    → AllByRecursion (λ (h : Hit). Contains (plan_found later selected jobs) h) (spans_hits (planned_entry e).key numbers.first (kept_blocks (has_part selected j) j.spans blocks))
span_hits_are_found volumes later selected jobs j blocks e extends history all_laid is numbers =
    each_hit (λ (h : Hit). Contains (plan_found later selected jobs) h) key numbers.first kept found
  where
    key : FileKey
    key = (planned_entry e).key

    gs : List Group
    gs = plan_groups selected jobs

    kept : List (List LaidBlock)
    kept = kept_blocks (has_part selected j) j.spans blocks

    zipped : AllZip (LaidInside volumes j.row.session) (job_spans selected j) kept
    zipped =
        kept_zip (LaidInside volumes j.row.session) (has_part selected j) j.spans blocks (zip_both (IsSpanLaid volumes) (AreInSpan j.row.session) j.spans blocks is.laid is.in_span)

    found : (i : ℕ) (bs : List LaidBlock) (b : LaidBlock) (m : ℕ) (f : Fragment) → slice_get kept i ≡ Some bs → Contains bs b → Contains (enumerate_from 0 (fragments_of b.bytes)) (m, f)
        → is_of_file key f ≡ true → Contains (plan_found later selected jobs) (hit_there key (numbers.first + i) b.address (m, f))
    found i bs b m f at b_in f_in passes =
        let z = zip_left (LaidInside volumes j.row.session) (job_spans selected j) kept i bs zipped at in
        let s = z.0 in
        let s_in : Contains (job_spans selected j) s = has_at (job_spans selected j) i s z.1 in
        let in_plan : Contains (plan_spans selected jobs) s = contains_flat_map (job_spans selected) jobs j s is.among s_in in
        let number = numbers.each i s z.1 in
        let of = file_says key f passes in
        let b_found : Contains (blocks_found gs later s.volume) b × (is_in_span s b.address ≡ true) =
        kept_passes (λ (c : LaidBlock). is_in_span s c.address) (blocks_found gs later s.volume) b
        (subst (λ (cs : List LaidBlock). Contains cs b) (span_is_found volumes later selected jobs s bs extends all_laid in_plan z.2.0) b_in) in
        let session : f.session ≡ j.row.session = ap (λ (k : FileKey). k.session) of.key_is ∙ is.session_is in
        let tested : (same_session f.session j.row.session && is_positive f.index) ≡ true =
        subst (λ (k : SessionKey). (same_session f.session k && is_positive f.index) ≡ true) is.session_is (rw (of.session_is, of.positive) refl) in
        let f_there : Contains (file_fragments j.row.session bs) f = in_file_fragments j.row.session bs b f b_in (numbered_in 0 (fragments_of b.bytes) m f f_in) tested in
        let said : is_in_range s.first s.last e.index ≡ true =
        subst (λ (n : ℕ). is_in_range s.first s.last n ≡ true) of.index_is (of_each (λ (g : Fragment). is_in_range s.first s.last (nat_abs g.index) ≡ true) (file_fragments j.row.session bs) f z.2.1 f_there) in
        let asks : IsAsked j.row.session s (indexes_in selected j s) b.address f = record {
          positive = of.positive;
          session = session;
          inside = b_found.1;
          among = subst (λ (n : ℕ). Contains (indexes_in selected j s) n) (sym of.index_is) (index_is_selected selected j e s is.selects is.of_job said);
        } in
        let hit : first_hitting (groups_on gs s.volume) b.address f ≡ Some (numbers.first + i) =
        first_hitting_is selected jobs (numbers.first + i) (asked_at (numbers.place, j) s) b.address f history number asks in
        is_found gs later (hit_there key (numbers.first + i) b.address (m, f)) (record {
          volume = s.volume;
          named = volume_is_named selected jobs s in_plan;
          block = b;
          among = b_found.0;
          hit = record { address = refl; ordinal = at_number (fragments_of b.bytes) m f f_in; group = hit; key = sym of.key_is };
        })

-- what is found of a selected file are the hits in the spans of its job that have groups
pub found_are_span_hits : (volumes later : List Volume) (selected : List Entry) (jobs : List JobRows) (j : JobRows) (blocks : List (List LaidBlock)) (e : Entry)
    → Extends later volumes → is_history jobs ≡ true → AllByRecursion (IsJobLaid volumes) jobs → IsSelectedIn volumes selected jobs j blocks e → (numbers : AreNumbered selected 0 jobs j)
    → (h : Hit) → h.key ≡ (planned_entry e).key → Contains (plan_found later selected jobs) h
    → Contains (spans_hits (planned_entry e).key numbers.first (kept_blocks (has_part selected j) j.spans blocks)) h
found_are_span_hits volumes later selected jobs j blocks e extends history all_laid is numbers h h_key inside =
    let key = (planned_entry e).key in
    let gs = plan_groups selected jobs in
    let kept = kept_blocks (has_part selected j) j.spans blocks in
    let zipped : AllZip (LaidInside volumes j.row.session) (job_spans selected j) kept =
    kept_zip (LaidInside volumes j.row.session) (has_part selected j) j.spans blocks (zip_both (IsSpanLaid volumes) (AreInSpan j.row.session) j.spans blocks is.laid is.in_span) in
    let found = found_is gs later h inside in
    let b = found.block in
    let f = h.fragment in
    let said = first_hitting_says selected jobs found.volume b.address f h.spot.group found.hit.group in
    let a = said.of in
    let s = a.span in
    let f_key : key_of f ≡ key = sym found.hit.key ∙ h_key in
    let session : a.job.row.session ≡ j.row.session = sym said.asks_it.session ∙ ap (λ (k : FileKey). k.session) f_key ∙ is.session_is in
    let job_is : a.job ≡ j = one_job_of_session jobs a.job j history (has_at jobs a.place a.job said.part.place) is.among session in
    let s_in_j : Contains j.spans s = subst (λ (k : JobRows). Contains k.spans s) job_is said.part.span in
    let part : is_empty (indexes_in selected j s) ≡ false = subst (λ (k : JobRows). is_empty (indexes_in selected k s) ≡ false) job_is said.part.part in
    let s_kept : Contains (job_spans selected j) s = contains_filter (has_part selected j) j.spans s s_in_j (ap not part) in
    let p = place_of (job_spans selected j) s s_kept in
    let i = p.0 in
    let asks : IsAsked j.row.session s (indexes_in selected j s) b.address f =
    subst (λ (k : JobRows). IsAsked k.row.session s (indexes_in selected k s) b.address f) job_is said.asks_it in
    let hit : first_hitting (groups_on gs s.volume) b.address f ≡ Some (numbers.first + i) =
    first_hitting_is selected jobs (numbers.first + i) (asked_at (numbers.place, j) s) b.address f history (numbers.each i s p.1) asks in
    let number : h.spot.group ≡ numbers.first + i =
    same_Some h.spot.group (numbers.first + i) (sym found.hit.group ∙ ap (λ (w : List ℕ). first_hitting (groups_on gs w) b.address f) (sym said.volume_is) ∙ hit) in
    let z = zip_right (LaidInside volumes j.row.session) (job_spans selected j) kept i s zipped p.1 in
    let in_plan : Contains (plan_spans selected jobs) s = contains_flat_map (job_spans selected) jobs j s is.among s_kept in
    let b_found : Contains (blocks_found gs later s.volume) b = subst (λ (w : List ℕ). Contains (blocks_found gs later w) b) (sym said.volume_is) found.among in
    let b_in : Contains z.0 b = block_is_of_span volumes later selected jobs s z.0 b extends all_laid in_plan z.2.0 b_found asks.inside in
    let hit_is : hit_there key (numbers.first + i) b.address (h.spot.ordinal, f) ≡ h =
    λ t. record { key = sym h_key t; spot = record { group = sym number t; address = sym found.hit.address t; ordinal = h.spot.ordinal }; fragment = f } in
    subst (λ (k : Hit). Contains (spans_hits key numbers.first kept) k) hit_is
    (hit_in key numbers.first kept i z.0 b h.spot.ordinal f z.1 b_in (number_at (fragments_of b.bytes) h.spot.ordinal f found.hit.ordinal) (passes_file key f asks.positive f_key))

-- the set of all that is found has, for a selected file, the fragments of its index in the spans of its job that have groups
pub planned_fragments : (volumes later : List Volume) (selected : List Entry) (jobs : List JobRows) (j : JobRows) (blocks : List (List LaidBlock)) (e : Entry)
    → Extends later volumes → is_history jobs ≡ true → AllByRecursion (IsJobLaid volumes) jobs → IsSelectedIn volumes selected jobs j blocks e
    → fragments_for (planned_entry e).key (entries (hits_of (plan_found later selected jobs)))
    ≡ filter (has_index e.index) (session_fragments j.row.session (kept_blocks (has_part selected j) j.spans blocks))
planned_fragments volumes later selected jobs j blocks e extends history all_laid is =
    let key = (planned_entry e).key in
    let kept = kept_blocks (has_part selected j) j.spans blocks in
    let numbers = job_is_numbered selected 0 jobs j is.among in
    let laid : AllZip (IsSpanLaid volumes) (job_spans selected j) kept = kept_zip (IsSpanLaid volumes) (has_part selected j) j.spans blocks is.laid in
    fragments_of_found key (plan_found later selected jobs) (spans_hits key numbers.first kept) (spans_hits_have_key key numbers.first kept)
    (spans_hits_rise key numbers.first kept (of_zip (IsSpanLaid volumes) AddressesRise (span_rises volumes) (job_spans selected j) kept laid))
    (span_hits_are_found volumes later selected jobs j blocks e extends history all_laid is numbers)
    (found_are_span_hits volumes later selected jobs j blocks e extends history all_laid is numbers)
    ∙ spans_hits_are key numbers.first kept
    ∙ ap (λ (k : SessionKey). filter (has_index e.index) (session_fragments k kept)) is.session_is
