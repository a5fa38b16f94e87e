-- The groups of a plan on one volume: over all volumes that extend those that hold its jobs, the
-- walk finds the blocks of each of their spans.
use Rattle.std.proofs.Common.{◌≡◌, ℕ, suc, ◌+◌, ◌<◌, Bool, true, false, not, ◌||◌, cond, List, [], ◌∷◌, length, ◌++◌, map, filter, Option, Some, None, Result, Ok, Err, refl, sym, ap, subst, ◌∙◌, arith}
use Rattle.std.proofs.Math.Bool.{or-false}
use Rattle.std.proofs.lemmas.Bool.{or_parts}
use Rattle.std.proofs.lemmas.Slice.Eq.{bytes_eq-Decides}
use Rattle.std.specs.Prelude.{bytes_eq, Contains, flat_map, filter_map, find, fold, max, option_map, unwrap_or}
use Rattle.std.specs.Int.{is_in_range}
use Rattle.std.specs.List.{AllByRecursion, AllZip, enumerate_from, list_any}
use Rattle.br_model.specs.Answer.{◌>>=◌, refused_as, some_or}
use Rattle.br_model.specs.Text.{is_empty}
use Rattle.br_model.specs.Volume.{Volume, volume_bytes, Extends, LaidBlock, BlockFault, AreLaid}
use Rattle.br_model.specs.Block.{Fragment, fragments_of}
use Rattle.br_model.specs.Bootstrap.{Range, Group, hits}
use Rattle.br_model.specs.Meaning.{Hit, PieceFault, IsPiece, first_hitting, hit_at, covers, last_address, bound_of, is_covered, groups_on, just_groups, volumes_of, pieces_of, hits_in, blocks_for, hits_among, hits_on, hits_on_each, hits_of, meaning}
use Rattle.br_model.specs.Job.{Span, JobRows, Job}
use Rattle.br_model.specs.Stored.{is_in_span, IsSpanLaid, Holds}
use Rattle.br_model.specs.View.{Entry}
use Rattle.br_model.specs.PlanMeaning.{rows_of_jobs}
use Rattle.br_model.specs.Plan.{indexes_in, span_group, job_groups, plan_groups}
use Rattle.br_model.proofs.VolumeLaws.{walk_is_exact_lem}
use Rattle.br_model.proofs.PieceLaws.{on_from, piece_of, pieces_are_whole_lem}
use Rattle.br_model.proofs.SpanLaws.{everywhere, less_covered, IsWholeTo, blocks_in, span_stays, IsLaidIn, IsLaidOn, last_end, is_in_any, end_not_above, AreSpansLaid, spans_are_laid}
use Rattle.br_model.proofs.ListLaws.{all_append, all_filter, all_weaker, contains_filter, from_image, to_each}
use Rattle.br_model.proofs.ReachLaws.{hit_is_covered, IsWalked}

-- ---- groups of spans

-- the group is on the span's volume and asks for its bytes alone
pub record IsGroupOf (g : Group) (s : Span) : Type 0 where
  pub volume_is : g.volume ≡ s.volume
  pub addresses_are : g.addresses ≡ record { low = s.start; high = s.end } ∷ []

is_whole_of : (g : Group) (s : Span) → IsGroupOf g s → is_empty g.addresses ≡ false
is_whole_of g s is = ap (λ (rs : List Range). is_empty rs) is.addresses_are

last_of : (g : Group) (s : Span) → IsGroupOf g s → last_address g ≡ s.end
last_of g s is =
    let same : last_address g ≡ max 0 s.end = ap (λ (rs : List Range). fold (λ n (r : Range). max n r.high) 0 rs) is.addresses_are in
    omega (arith, same)

covers_span : (g : Group) (s : Span) (address : ℕ) → IsGroupOf g s → covers g address ≡ is_in_span s address
covers_span g s address is =
    ap (λ (rs : List Range). is_empty rs || list_any (λ (r : Range). is_in_range r.low r.high address) rs) is.addresses_are
    ∙ or-false (is_in_span s address)

none_is_whole : (gs : List Group) (ss : List Span) → AllZip IsGroupOf gs ss → list_any (λ (g : Group). is_empty g.addresses) gs ≡ false
none_is_whole [] [] are = refl
none_is_whole [] (s ∷ ss) are = absurd are
none_is_whole (g ∷ gs) [] are = absurd are
none_is_whole (g ∷ gs) (s ∷ ss) are =
    ap (λ b. b || list_any (λ (h : Group). is_empty h.addresses) gs) (is_whole_of g s are.0) ∙ none_is_whole gs ss are.1

last_among : (n : ℕ) (gs : List Group) (ss : List Span) → AllZip IsGroupOf gs ss
    → fold (λ m g. max m (last_address g)) n gs ≡ fold (λ m (s : Span). max m s.end) n ss
last_among n [] [] are = refl
last_among n [] (s ∷ ss) are = absurd are
last_among n (g ∷ gs) [] are = absurd are
last_among n (g ∷ gs) (s ∷ ss) are =
    ap (λ (m : ℕ). fold (λ k h. max k (last_address h)) (max n m) gs) (last_of g s are.0) ∙ last_among (max n s.end) gs ss are.1

-- the walk for the groups of some spans ends at the greatest end of these
pub bound_of_spans : (gs : List Group) (ss : List Span) → AllZip IsGroupOf gs ss → bound_of gs ≡ Some (last_end ss)
unfolding bound_of
bound_of_spans gs ss are =
    ap (λ b. cond b None (Some (fold (λ m g. max m (last_address g)) 0 gs))) (none_is_whole gs ss are) ∙ ap (λ (n : ℕ). Some n) (last_among 0 gs ss are)

-- the groups of some spans cover what is in one of the spans
pub covered_in_spans : (gs : List Group) (ss : List Span) (address : ℕ) → AllZip IsGroupOf gs ss → is_covered gs address ≡ is_in_any ss address
covered_in_spans [] [] address are = refl
covered_in_spans [] (s ∷ ss) address are = absurd are
covered_in_spans (g ∷ gs) [] address are = absurd are
covered_in_spans (g ∷ gs) (s ∷ ss) address are =
    ap (λ b. b || is_covered gs address) (covers_span g s address are.0) ∙ ap (λ b. is_in_span s address || b) (covered_in_spans gs ss address are.1)

-- ---- the groups of a plan

-- the spans of a job that have a part of a selected file
abbrev pub job_spans : List Entry → JobRows → List Span
job_spans selected j = filter (λ s. not (is_empty (indexes_in selected j s))) j.spans

-- the same of some jobs, in order
abbrev pub plan_spans : List Entry → List JobRows → List Span
plan_spans selected jobs = flat_map (job_spans selected) jobs

zip_append : {X Y : Type 0} (R : X → Y → Type 0) (xs more : List X) (ys others : List Y) → AllZip R xs ys → AllZip R more others → AllZip R (xs ++ more) (ys ++ others)
zip_append R [] more [] others p q = q
zip_append R [] more (y ∷ ys) others p q = absurd p
zip_append R (x ∷ xs) more [] others p q = absurd p
zip_append R (x ∷ xs) more (y ∷ ys) others p q = (p.0, zip_append R xs more ys others p.1 q)

zip_map : {X Y : Type 0} (R : Y → X → Type 0) (f : X → Y) → ((x : X) → R (f x) x) → (xs : List X) → AllZip R (map f xs) xs
zip_map R f each [] = tt
zip_map R f each (x ∷ xs) = (each x, zip_map R f each xs)

-- each group of a plan is that of a span with a part of a selected file
pub plan_groups_are : (selected : List Entry) (jobs : List JobRows) → AllZip IsGroupOf (plan_groups selected jobs) (plan_spans selected jobs)
unfolding plan_groups
plan_groups_are selected [] = tt
plan_groups_are selected (j ∷ js) =
    zip_append IsGroupOf (job_groups selected j) (flat_map (job_groups selected) js) (job_spans selected j) (plan_spans selected js)
    (zip_map IsGroupOf (λ s. span_group j.row.session s (indexes_in selected j s)) (λ s. record { volume_is = refl; addresses_are = refl }) (job_spans selected j))
    (plan_groups_are selected js)

-- ---- the groups on one volume

-- the spans that are on a volume
abbrev pub spans_on : List Span → List ℕ → List Span
spans_on spans volume = filter (λ (s : Span). bytes_eq s.volume volume) spans

groups_are_on : (n : ℕ) (gs : List Group) (ss : List Span) (volume : List ℕ) → AllZip IsGroupOf gs ss
    → AllZip IsGroupOf (just_groups (on_from n gs volume)) (spans_on ss volume)
groups_are_on n [] [] volume are = tt
groups_are_on n [] (s ∷ ss) volume are = absurd are
groups_are_on n (g ∷ gs) [] volume are = absurd are
groups_are_on n (g ∷ gs) (s ∷ ss) volume are =
    go (bytes_eq g.volume volume) (bytes_eq s.volume volume) (ap (λ (v : List ℕ). bytes_eq v volume) are.0.volume_is) (groups_are_on (n + 1) gs ss volume are.1)
  where
    here : List (ℕ × Group)
    here = on_from (n + 1) gs volume

    go : (a b : Bool) → a ≡ b → AllZip IsGroupOf (just_groups here) (spans_on ss volume)
        → AllZip IsGroupOf (just_groups (cond a ((n, g) ∷ here) here)) (cond b (s ∷ spans_on ss volume) (spans_on ss volume))
    go true true e rest = (are.0, rest)
    go true false e rest = absurd cc
    go false true e rest = absurd cc
    go false false e rest = rest

-- the groups of some spans that are on a volume are those of the spans on it
pub groups_on_are : (gs : List Group) (ss : List Span) (volume : List ℕ) → AllZip IsGroupOf gs ss → AllZip IsGroupOf (just_groups (groups_on gs volume)) (spans_on ss volume)
unfolding groups_on
groups_on_are gs ss volume are = groups_are_on 0 gs ss volume are

-- if the spans of some groups are laid together, the walk for the groups finds the blocks
pub blocks_for_spans : (volumes : List Volume) (bytes : List ℕ) (numbered : List (ℕ × Group)) (spans : List Span) → AllZip IsGroupOf (just_groups numbered) spans
    → (are : AreSpansLaid volumes bytes spans) → blocks_for numbered bytes ≡ Ok are.all
blocks_for_spans volumes bytes numbered spans groups_are are =
    let gs = just_groups numbered in
    let laid : AreLaid bytes (bound_of gs) (is_covered gs) are.all =
    less_covered 0 bytes (bound_of gs) everywhere (is_covered gs) are.all (λ a q. refl)
    (subst (λ (bound : Option ℕ). AreLaid bytes bound everywhere are.all) (sym (bound_of_spans gs spans groups_are)) are.whole.laid) in
    (walk_is_exact_lem bytes (bound_of gs) (is_covered gs) are.all).1 laid

-- ---- the spans of jobs that volumes hold

-- each span of the job is laid
abbrev pub IsJobLaid : List Volume → JobRows → Type 0
IsJobLaid volumes j = AllByRecursion (IsLaidIn volumes) j.spans

zip_laid : (volumes : List Volume) (spans : List Span) (blocks : List (List LaidBlock)) → AllZip (IsSpanLaid volumes) spans blocks → AllByRecursion (IsLaidIn volumes) spans
zip_laid volumes [] [] laid = tt
zip_laid volumes [] (bs ∷ bss) laid = absurd laid
zip_laid volumes (s ∷ ss) [] laid = absurd laid
zip_laid volumes (s ∷ ss) (bs ∷ bss) laid = ((bs, laid.0), zip_laid volumes ss bss laid.1)

-- the spans of a job that volumes hold are laid there
pub job_is_laid : (volumes : List Volume) (j : Job) → Holds volumes j → IsJobLaid volumes j.rows
job_is_laid volumes j holds = zip_laid volumes j.rows.spans holds.blocks holds.laid

-- if volumes hold the chosen ones of some jobs, the spans of these are laid there
pub chosen_are_laid : (volumes : List Volume) (jobs : List Job) (chosen : List JobRows) → ((r : JobRows) → Contains chosen r → Contains (rows_of_jobs jobs) r)
    → ((j : Job) → Contains jobs j → Contains chosen j.rows → Holds volumes j) → AllByRecursion (IsJobLaid volumes) chosen
chosen_are_laid volumes jobs chosen among holds = to_each (IsJobLaid volumes) chosen laid
  where
    laid : (r : JobRows) → Contains chosen r → IsJobLaid volumes r
    laid r inside =
        let j = from_image (λ (j : Job). j.rows) jobs r (among r inside) in
        subst (IsJobLaid volumes) j.2 (job_is_laid volumes j.0 (holds j.0 j.1 (subst (λ (x : JobRows). Contains chosen x) (sym j.2) inside)))

plan_spans_laid : (volumes : List Volume) (selected : List Entry) (jobs : List JobRows) → AllByRecursion (IsJobLaid volumes) jobs → AllByRecursion (IsLaidIn volumes) (plan_spans selected jobs)
plan_spans_laid volumes selected [] laid = tt
plan_spans_laid volumes selected (j ∷ js) laid =
    all_append (IsLaidIn volumes) (job_spans selected j) (plan_spans selected js)
    (all_filter (IsLaidIn volumes) (λ s. not (is_empty (indexes_in selected j s))) j.spans laid.0)
    (plan_spans_laid volumes selected js laid.1)

-- spans that are laid in volumes are laid in all volumes that extend these, those on one volume there
pub spans_laid_on : (volumes later : List Volume) (volume : List ℕ) (spans : List Span) → Extends later volumes
    → AllByRecursion (IsLaidIn volumes) spans → AllByRecursion (IsLaidOn later volume) (spans_on spans volume)
spans_laid_on volumes later volume [] extends laid = tt
spans_laid_on volumes later volume (s ∷ ss) extends laid = go (bytes_eq s.volume volume) refl (spans_laid_on volumes later volume ss extends laid.1)
  where
    go : (b : Bool) → bytes_eq s.volume volume ≡ b → AllByRecursion (IsLaidOn later volume) (spans_on ss volume)
        → AllByRecursion (IsLaidOn later volume) (cond b (s ∷ spans_on ss volume) (spans_on ss volume))
    go true e rest = (((bytes_eq-Decides s.volume volume).0 e, (laid.0.0, span_stays volumes later s laid.0.0 extends laid.0.1)), rest)
    go false e rest = rest

bytes_of_first : (volumes : List Volume) (volume : List ℕ) (spans : List Span) → 0 < length spans → AllByRecursion (IsLaidOn volumes volume) spans
    → (bytes : List ℕ) × (volume_bytes volumes volume ≡ Some bytes)
bytes_of_first volumes volume [] some on = absurd (omega arith)
bytes_of_first volumes volume (s ∷ ss) some on = (on.0.1.1.bytes, ap (volume_bytes volumes) (sym on.0.0) ∙ on.0.1.1.found)

same_length : {X Y : Type 0} (R : X → Y → Type 0) (xs : List X) (ys : List Y) → AllZip R xs ys → length xs ≡ length ys
same_length R [] [] h = refl
same_length R [] (y ∷ ys) h = absurd h
same_length R (x ∷ xs) [] h = absurd h
same_length R (x ∷ xs) (y ∷ ys) h = ap suc (same_length R xs ys h.1)

length_just : (numbered : List (ℕ × Group)) → length (just_groups numbered) ≡ length numbered
length_just [] = refl
length_just (g ∷ gs) = ap suc (length_just gs)

-- ---- the walk for a plan

-- The walk for a plan's groups on one volume is not refused: it finds the volume's blocks up to the greatest end of the
-- groups' spans, and those in each span are the blocks in which it was laid.
pub record IsPlanWalked (volumes later : List Volume) (selected : List Entry) (jobs : List JobRows) (volume : List ℕ) : Type 0 where
  pub bytes : List ℕ
  pub all : List LaidBlock
  pub found : volume_bytes later volume ≡ Some bytes
  pub walked : blocks_for (groups_on (plan_groups selected jobs) volume) bytes ≡ Ok all
  pub whole : IsWholeTo bytes (last_end (spans_on (plan_spans selected jobs) volume)) all
  pub each : (s : Span) (blocks : List LaidBlock) → Contains (plan_spans selected jobs) s → s.volume ≡ volume → IsSpanLaid volumes s blocks → blocks ≡ blocks_in s all

-- over all volumes that extend those that hold its jobs, a plan is walked on each volume that it
-- has groups on
pub plan_is_walked : (volumes later : List Volume) (selected : List Entry) (jobs : List JobRows) (volume : List ℕ) → Extends later volumes
    → AllByRecursion (IsJobLaid volumes) jobs → 0 < length (groups_on (plan_groups selected jobs) volume) → IsPlanWalked volumes later selected jobs volume
plan_is_walked volumes later selected jobs volume extends laid some =
    let gs = plan_groups selected jobs in
    let ss = plan_spans selected jobs in
    let here = spans_on ss volume in
    let are : AllZip IsGroupOf (just_groups (groups_on gs volume)) here = groups_on_are gs ss volume (plan_groups_are selected jobs) in
    let on : AllByRecursion (IsLaidOn later volume) here = spans_laid_on volumes later volume ss extends (plan_spans_laid volumes selected jobs laid) in
    let same : length (just_groups (groups_on gs volume)) ≡ length here = same_length IsGroupOf (just_groups (groups_on gs volume)) here are in
    let some_here : 0 < length here = omega (arith, same, length_just (groups_on gs volume)) in
    let b = bytes_of_first later volume here some_here on in
    let r = spans_are_laid later volume b.0 here b.1 some_here on in
    record {
      bytes = b.0;
      all = r.all;
      found = b.1;
      walked = blocks_for_spans later b.0 (groups_on gs volume) here are r;
      whole = r.whole;
      each = λ s blocks among is laid_here.
          r.each s blocks (ap (volume_bytes later) is ∙ b.1)
          (end_not_above here s (contains_filter (λ (t : Span). bytes_eq t.volume volume) ss s among ((bytes_eq-Decides s.volume volume).1 is)))
          (span_stays volumes later s blocks extends laid_here);
    }

-- ---- the meaning of a bootstrap whose volumes are laid

abbrev pub found_or_none : Result (List LaidBlock) BlockFault → List LaidBlock
found_or_none (Ok blocks) = blocks
found_or_none (Err e) = []

-- the blocks that the groups on a volume ask for, none if the walk is refused
abbrev pub blocks_found : List Group → List Volume → List ℕ → List LaidBlock
blocks_found groups volumes volume = found_or_none (blocks_for (groups_on groups volume) (unwrap_or (volume_bytes volumes volume) []))

-- the hits of the groups on a volume, in order of address and place
abbrev pub hits_found : List Group → List Volume → List ℕ → List Hit
hits_found groups volumes volume = flat_map (hits_in (groups_on groups volume)) (blocks_found groups volumes volume)

-- the blocks of a walk that is not refused
pub walked_blocks : (groups : List Group) (volumes : List Volume) (volume : List ℕ) → (w : IsWalked groups volumes volume) → blocks_found groups volumes volume ≡ w.all
walked_blocks groups volumes volume w =
    ap (λ (o : Option (List ℕ)). found_or_none (blocks_for (groups_on groups volume) (unwrap_or o []))) w.found ∙ ap found_or_none w.walked

hits_of_walked : (groups : List Group) (volumes : List Volume) (number : ℕ) (volume : List ℕ) → IsWalked groups volumes volume
    → hits_on volumes (piece_of groups (number, volume)) ≡ Ok (hits_found groups volumes volume)
unfolding hits_on hits_among
hits_of_walked groups volumes number volume w =
    ap (λ (o : Option (List ℕ)). some_or o missing >>= λ bytes. refused_as fault_of (blocks_for numbered bytes >>= gather)) w.found
    ∙ ap (λ (r : Result (List LaidBlock) BlockFault). refused_as fault_of (r >>= gather)) w.walked
    ∙ ap (λ (blocks : List LaidBlock). Ok (flat_map (hits_in numbered) blocks)) (sym (walked_blocks groups volumes volume w))
  where
    numbered : List (ℕ × Group)
    numbered = groups_on groups volume

    missing : PieceFault
    missing = record { number = 14; volume = volume; address = 0 }

    fault_of : BlockFault → PieceFault
    fault_of e = record { number = e.number; volume = volume; address = e.address }

    gather : List LaidBlock → Result (List Hit) BlockFault
    gather blocks = Ok (flat_map (hits_in numbered) blocks)

hits_of_each : (groups : List Group) (volumes : List Volume) (n : ℕ) (names : List (List ℕ)) → AllByRecursion (IsWalked groups volumes) names
    → hits_on_each volumes (map (piece_of groups) (enumerate_from n names)) ≡ Ok (flat_map (hits_found groups volumes) names)
unfolding hits_on_each
hits_of_each groups volumes n [] w = refl
hits_of_each groups volumes n (name ∷ names) w =
    rw (hits_of_walked groups volumes n name w.0, hits_of_each groups volumes (n + 1) names w.1) refl

-- if the walk of each volume that a bootstrap names is not refused, its meaning is the set of
-- what is found
pub walked_meaning : (groups : List Group) (volumes : List Volume) → AllByRecursion (IsWalked groups volumes) (volumes_of groups)
    → meaning groups volumes ≡ Ok (hits_of (flat_map (hits_found groups volumes) (volumes_of groups)))
unfolding meaning pieces_of
walked_meaning groups volumes w = rw (hits_of_each groups volumes 0 (volumes_of groups) w) refl

some_groups : (groups : List Group) (n : ℕ) (names : List (List ℕ)) → AllByRecursion IsPiece (map (piece_of groups) (enumerate_from n names))
    → AllByRecursion (λ (v : List ℕ). 0 < length (groups_on groups v)) names
some_groups groups n [] pieces = tt
some_groups groups n (v ∷ vs) pieces = (pieces.0.some, some_groups groups (n + 1) vs pieces.1)

-- each volume that a bootstrap names has groups
pub each_volume_has_groups : (groups : List Group) → AllByRecursion (λ (v : List ℕ). 0 < length (groups_on groups v)) (volumes_of groups)
unfolding pieces_of
each_volume_has_groups groups = some_groups groups 0 (volumes_of groups) (pieces_are_whole_lem groups)

-- ---- the meaning of a plan

abbrev walked_of_plan : (volumes later : List Volume) (selected : List Entry) (jobs : List JobRows) (volume : List ℕ) → IsPlanWalked volumes later selected jobs volume
    → IsWalked (plan_groups selected jobs) later volume
walked_of_plan volumes later selected jobs volume w = record { bytes = w.bytes; all = w.all; found = w.found; walked = w.walked }

-- over all volumes that extend those that hold its jobs, a plan has a meaning: the set of what is
-- found on each volume
pub plan_has_meaning : (volumes later : List Volume) (selected : List Entry) (jobs : List JobRows) → Extends later volumes → AllByRecursion (IsJobLaid volumes) jobs
    → meaning (plan_groups selected jobs) later ≡ Ok (hits_of (flat_map (hits_found (plan_groups selected jobs) later) (volumes_of (plan_groups selected jobs))))
plan_has_meaning volumes later selected jobs extends laid =
    walked_meaning (plan_groups selected jobs) later
    (all_weaker (λ (v : List ℕ). 0 < length (groups_on (plan_groups selected jobs) v)) (IsWalked (plan_groups selected jobs) later)
    (λ v some. walked_of_plan volumes later selected jobs v (plan_is_walked volumes later selected jobs v extends laid some))
    (volumes_of (plan_groups selected jobs)) (each_volume_has_groups (plan_groups selected jobs)))

-- the blocks of a span of a plan are those of its addresses that the walk of its volume finds
pub span_is_found : (volumes later : List Volume) (selected : List Entry) (jobs : List JobRows) (s : Span) (blocks : List LaidBlock) → Extends later volumes
    → AllByRecursion (IsJobLaid volumes) jobs → Contains (plan_spans selected jobs) s → IsSpanLaid volumes s blocks
    → blocks ≡ blocks_in s (blocks_found (plan_groups selected jobs) later s.volume)
span_is_found volumes later selected jobs s blocks extends laid among is =
    let gs = plan_groups selected jobs in
    let ss = plan_spans selected jobs in
    let here : Contains (spans_on ss s.volume) s = contains_filter (λ (t : Span). bytes_eq t.volume s.volume) ss s among ((bytes_eq-Decides s.volume s.volume).1 refl) in
    let are : AllZip IsGroupOf (just_groups (groups_on gs s.volume)) (spans_on ss s.volume) = groups_on_are gs ss s.volume (plan_groups_are selected jobs) in
    let same : length (just_groups (groups_on gs s.volume)) ≡ length (spans_on ss s.volume) = same_length IsGroupOf (just_groups (groups_on gs s.volume)) (spans_on ss s.volume) are in
    let some : 0 < length (groups_on gs s.volume) = omega (arith, same, length_just (groups_on gs s.volume), here.1) in
    let w = plan_is_walked volumes later selected jobs s.volume extends laid some in
    w.each s blocks among refl is ∙ ap (blocks_in s) (sym (walked_blocks gs later s.volume (walked_of_plan volumes later selected jobs s.volume w)))

-- ---- only covered blocks are hit

-- no group hits at an address that is not covered
pub uncovered_is_not_hit : (numbered : List (ℕ × Group)) (address : ℕ) (f : Fragment) → is_covered (just_groups numbered) address ≡ false → first_hitting numbered address f ≡ None
unfolding first_hitting
uncovered_is_not_hit [] address f e = refl
uncovered_is_not_hit (g ∷ gs) address f e =
    let apart = or_parts (covers g.1 address) (is_covered (just_groups gs) address) e in
    go apart.0 (hits g.1 address f) refl (uncovered_is_not_hit gs address f apart.1)
  where
    here : Option (ℕ × Group)
    here = find (λ (h : ℕ × Group). hits h.1 address f) gs

    go : covers g.1 address ≡ false → (b : Bool) → hits g.1 address f ≡ b → option_map (λ (h : ℕ × Group). h.0) here ≡ None
        → option_map (λ (h : ℕ × Group). h.0) (cond b (Some g) here) ≡ None
    go none true hit rest = let c = hit_is_covered g.1 address f hit in absurd cc
    go none false hit rest = rest

nothing_mapped : {X Y : Type 0} (h : X → Option Y) → ((x : X) → h x ≡ None) → (xs : List X) → filter_map h xs ≡ []
nothing_mapped h none [] = refl
nothing_mapped h none (x ∷ xs) = rw (none x, nothing_mapped h none xs) refl

-- a block that is not covered has no hits
pub uncovered_has_no_hits : (numbered : List (ℕ × Group)) (b : LaidBlock) → is_covered (just_groups numbered) b.address ≡ false → hits_in numbered b ≡ []
unfolding hits_in
uncovered_has_no_hits numbered b e =
    nothing_mapped (λ (f : ℕ × Fragment). option_map (hit_at b f) (first_hitting numbered b.address f.1))
    (λ f. ap (option_map (hit_at b f)) (uncovered_is_not_hit numbered b.address f.1 e)) (enumerate_from 0 (fragments_of b.bytes))
