-- The spans of visits whose blocks are appended to their volumes: each is laid, and has the fragments of its blocks.
use Rattle.std.proofs.Common.{◌≡◌, ℕ, ◌+◌, ◌-◌, ◌<◌, ◌≤◌, Bool, true, false, ◌&&◌, cond, List, [], ◌∷◌, ◌++◌, length, map, filter, min, max, Option, Some, None, refl, sym, ap, subst, ◌∙◌, arith, append_assoc}
use Rattle.std.proofs.lemmas.List.{append-nil, length-append}
use Rattle.std.proofs.lemmas.List.Concat.{length-flat_map}
use Rattle.std.proofs.lemmas.Slice.Eq.{bytes_eq-Decides}
use Rattle.std.specs.Prelude.{flat_map, fold, nat_abs, bytes_eq, unwrap_or, find}
use Rattle.std.specs.Int.{is_positive, is_in_range}
use Rattle.std.specs.Option.{option_map_or}
use Rattle.std.specs.List.{AllByRecursion, AllZip}
use Rattle.br_model.specs.Name.{SessionKey, same_session}
use Rattle.br_model.specs.Block.{Fragment, fragments_of}
use Rattle.br_model.specs.Volume.{Volume, volume_bytes, LaidBlock, AreLaid}
use Rattle.br_model.specs.Job.{Span}
use Rattle.br_model.specs.Stored.{IsSpanLaid, file_fragments, AreInSpan}
use Rattle.br_model.specs.Session.{Visit, length_of, least_of, greatest_of, visit_indexes, visit_length, spans_from}
use Rattle.br_model.specs.SessionHolds.{bytes_of_volume}
use Rattle.br_model.proofs.VolumeLaws.{header_has_16}
use Rattle.br_model.proofs.SpanLaws.{everywhere}
use Rattle.br_model.proofs.WrittenVolumeLaws.{IsWholeBlock, joined, laid_at, whole_appended, in_range, appended_are_laid}
use Rattle.br_model.proofs.ListLaws.{all_filter, all_weaker, keeps_all}

-- a visit with blocks, each whole
pub record IsWholeVisit (v : Visit) : Type 0 where
  pub some : 0 < length v.blocks
  pub whole : AllByRecursion IsWholeBlock v.blocks

-- what a visit brings to a volume
abbrev pub brought : List ℕ → Visit → List ℕ
brought name v = cond (bytes_eq v.volume name) (joined v.blocks) []

-- what visits bring to a volume
abbrev pub all_brought : List Visit → List ℕ → List ℕ
all_brought vs name = flat_map (brought name) vs

-- the lengths of volumes after a visit
abbrev pub with_visit : Visit → List (List ℕ × ℕ) → List (List ℕ × ℕ)
with_visit v lengths = (v.volume, length_of lengths v.volume + visit_length v) ∷ lengths

-- the bytes of a volume are whole blocks, and as many as is said
pub record IsWholeFor (lengths : List (List ℕ × ℕ)) (bytes : List ℕ → List ℕ) (name : List ℕ) : Type 0 where
  pub blocks : List LaidBlock
  pub laid : AreLaid (bytes name) None everywhere blocks
  pub length_is : length_of lengths name ≡ length (bytes name)

-- the blocks of visits where they lie
abbrev pub visits_at : List (List ℕ × ℕ) → List Visit → List (List LaidBlock)
visits_at lengths [] = []
visits_at lengths (v ∷ more) = laid_at (length_of lengths v.volume) v.blocks ∷ visits_at (with_visit v lengths) more

-- the length of a visit is that of its blocks, joined
length_of_visit : (v : Visit) → visit_length v ≡ length (joined v.blocks)
length_of_visit v = sym (length-flat_map (λ (b : List ℕ). b) v.blocks)

-- a visit leaves volumes of whole blocks
pub whole_behind : (lengths : List (List ℕ × ℕ)) (bytes : List ℕ → List ℕ) (v : Visit) (name : List ℕ) → IsWholeVisit v → IsWholeFor lengths bytes name
    → IsWholeFor (with_visit v lengths) (λ n. bytes n ++ brought n v) name
whole_behind lengths bytes v name is whole = let r = go (bytes_eq v.volume name) refl in record { blocks = r.0; laid = r.1; length_is = r.2 }
  where
    behind : ℕ
    behind = length_of lengths v.volume + visit_length v

    go : (b : Bool) → bytes_eq v.volume name ≡ b
        → (blocks : List LaidBlock) × AreLaid (bytes name ++ cond b (joined v.blocks) []) None everywhere blocks
        × (option_map_or (λ (l : List ℕ × ℕ). l.1) (cond b (Some (v.volume, behind)) (find (λ (l : List ℕ × ℕ). bytes_eq l.0 name) lengths)) 0 ≡ length (bytes name ++ cond b (joined v.blocks) []))
    go true e =
        let same : length_of lengths v.volume ≡ length_of lengths name = ap (length_of lengths) ((bytes_eq-Decides v.volume name).0 e) in (
          whole.blocks ++ laid_at (length (bytes name)) v.blocks,
          whole_appended (bytes name) whole.blocks v.blocks is.whole whole.laid,
          omega (arith, same, whole.length_is, length_of_visit v, length-append (bytes name) (joined v.blocks)),
        )
    go false e =
        let none = sym (append-nil (bytes name)) in
        (whole.blocks, subst (λ (xs : List ℕ). AreLaid xs None everywhere whole.blocks) none whole.laid, whole.length_is ∙ ap length none)

-- an option that gives some bytes, but none by default, holds them
some_of : (o : Option (List ℕ)) (xs : List ℕ) → unwrap_or o [] ≡ xs → 0 < length xs → o ≡ Some xs
some_of None xs e lt = absurd (omega (arith, lt, ap length e))
some_of (Some ys) xs e lt = ap (λ (zs : List ℕ). Some zs) e

-- a visit's blocks are laid in its span, after the volume's earlier bytes
visit_is_laid : (volumes : List Volume) (s : Span) (old more : List ℕ) (before : List LaidBlock) (blocks : List (List ℕ)) → 0 < length blocks → AllByRecursion IsWholeBlock blocks
    → AreLaid old None everywhere before → bytes_of_volume volumes s.volume ≡ (old ++ joined blocks) ++ more → s.start ≡ length old → s.end ≡ s.start + length (joined blocks) - 1
    → IsSpanLaid volumes s (laid_at s.start blocks)
visit_is_laid volumes s old more before [] some whole laid has start end = absurd (omega arith)
visit_is_laid volumes s old more before (b ∷ bs) some whole laid has start end =
    let new = joined (b ∷ bs) in
    let long : 16 ≤ length b = (header_has_16 b whole.0.header whole.0.read).0 in
    let some_new : 0 < length new = omega (arith, long, length-append b (joined bs)) in
    let found : volume_bytes volumes s.volume ≡ Some ((old ++ new) ++ more) =
    some_of (volume_bytes volumes s.volume) ((old ++ new) ++ more) has (omega (arith, some_new, length-append old new, length-append (old ++ new) more)) in
    subst (λ (n : ℕ). IsSpanLaid volumes s (laid_at n (b ∷ bs))) (sym start)
    (appended_are_laid volumes s old more before b bs whole laid found start (omega (arith, start, end, some_new)))

-- the spans of visits are laid, each in the blocks of its visit
pub spans_are_laid : (volumes : List Volume) (number : ℕ) (lengths : List (List ℕ × ℕ)) (bytes : List ℕ → List ℕ) (vs : List Visit) → AllByRecursion IsWholeVisit vs
    → AllByRecursion (λ (v : Visit). IsWholeFor lengths bytes v.volume) vs
    → ((name : List ℕ) → bytes_of_volume volumes name ≡ bytes name ++ all_brought vs name)
    → AllZip (IsSpanLaid volumes) (spans_from number lengths vs) (visits_at lengths vs)
unfolding spans_from
spans_are_laid volumes number lengths bytes [] are whole grown = tt
spans_are_laid volumes number lengths bytes (v ∷ vs) are whole grown =
    let own : brought v.volume v ≡ joined v.blocks = ap (λ (t : Bool). cond t (joined v.blocks) []) ((bytes_eq-Decides v.volume v.volume).1 refl) in
    let has : bytes_of_volume volumes v.volume ≡ (bytes v.volume ++ joined v.blocks) ++ all_brought vs v.volume =
    grown v.volume ∙ sym (append_assoc (bytes v.volume) (brought v.volume v) (all_brought vs v.volume))
    ∙ ap (λ (xs : List ℕ). (bytes v.volume ++ xs) ++ all_brought vs v.volume) own in
    let here = visit_is_laid volumes (record {
      volume = v.volume;
      first = least_of (visit_indexes v);
      last = greatest_of (visit_indexes v);
      start = length_of lengths v.volume;
      end = length_of lengths v.volume + visit_length v - 1;
      vol_index = number;
    }) (bytes v.volume) (all_brought vs v.volume) whole.0.blocks v.blocks are.0.some are.0.whole whole.0.laid has whole.0.length_is (omega (arith, length_of_visit v)) in
    let next : AllByRecursion (λ (w : Visit). IsWholeFor (with_visit v lengths) (λ n. bytes n ++ brought n v) w.volume) vs =
    all_weaker (λ (w : Visit). IsWholeFor lengths bytes w.volume) (λ (w : Visit). IsWholeFor (with_visit v lengths) (λ n. bytes n ++ brought n v) w.volume)
    (λ w is. whole_behind lengths bytes v w.volume are.0 is) vs whole.1 in
    (here, spans_are_laid volumes (number + 1) (with_visit v lengths) (λ n. bytes n ++ brought n v) vs are.1 next (λ name. grown name ∙ sym (append_assoc (bytes name) (brought name v) (all_brought vs name))))

-- ---- fragments

-- the fragment is of a file of the session
abbrev pub is_of_files : SessionKey → Fragment → Bool
is_of_files key f = same_session f.session key && is_positive f.index

-- the fragments of blocks where they lie are those of the blocks
pub fragments_at : (address : ℕ) (blocks : List (List ℕ)) → flat_map (λ (b : LaidBlock). fragments_of b.bytes) (laid_at address blocks) ≡ flat_map fragments_of blocks
fragments_at address [] = refl
fragments_at address (b ∷ bs) = ap (λ (fs : List Fragment). fragments_of b ++ fs) (fragments_at (address + length b) bs)

-- a running least is no more than what it came by
fold_min : (m : ℕ) (ns : List ℕ) → (fold min m ns ≤ m) × AllByRecursion (λ n. fold min m ns ≤ n) ns
fold_min m [] = (omega arith, tt)
fold_min m (n ∷ ns) = let h = fold_min (min m n) ns in (omega (arith, h.0), (omega (arith, h.0), h.1))

-- a running greatest is no less than what it came by
fold_max : (m : ℕ) (ns : List ℕ) → (m ≤ fold max m ns) × AllByRecursion (λ n. n ≤ fold max m ns) ns
fold_max m [] = (omega arith, tt)
fold_max m (n ∷ ns) = let h = fold_max (max m n) ns in (omega (arith, h.0), (omega (arith, h.0), h.1))

-- the least of some numbers is no more than each
least_is_least : (ns : List ℕ) → AllByRecursion (λ n. least_of ns ≤ n) ns
least_is_least [] = tt
least_is_least (n ∷ ns) = let h = fold_min n ns in (h.0, h.1)

-- the index of a fragment
abbrev index_of : Fragment → ℕ
index_of f = nat_abs f.index

-- fragments whose indexes are from a number to another one
indexes_within : (low high : ℕ) (fs : List Fragment) → AllByRecursion (λ n. low ≤ n) (map index_of fs) → AllByRecursion (λ n. n ≤ high) (map index_of fs)
    → AllByRecursion (λ (f : Fragment). is_in_range low high (nat_abs f.index) ≡ true) fs
indexes_within low high [] from to = tt
indexes_within low high (f ∷ fs) from to = (in_range low high (nat_abs f.index) from.0 to.0, indexes_within low high fs from.1 to.1)

-- each fragment of a visit has an index that its span says
pub indexes_in_spans : (key : SessionKey) (number : ℕ) (lengths : List (List ℕ × ℕ)) (vs : List Visit)
    → AllZip (AreInSpan key) (spans_from number lengths vs) (visits_at lengths vs)
unfolding spans_from file_fragments
indexes_in_spans key number lengths [] = tt
indexes_in_spans key number lengths (v ∷ vs) =
    let fs = flat_map fragments_of v.blocks in
    let start = length_of lengths v.volume in
    let IsIn = λ (f : Fragment). is_in_range (least_of (visit_indexes v)) (greatest_of (visit_indexes v)) (nat_abs f.index) ≡ true in
    let all : AllByRecursion IsIn fs = indexes_within (least_of (visit_indexes v)) (greatest_of (visit_indexes v)) fs (least_is_least (visit_indexes v)) (fold_max 0 (visit_indexes v)).1 in
    let there : AllByRecursion IsIn (flat_map (λ (b : LaidBlock). fragments_of b.bytes) (laid_at start v.blocks)) = subst (λ (gs : List Fragment). AllByRecursion IsIn gs) (sym (fragments_at start v.blocks)) all in (
      all_filter IsIn (is_of_files key) (flat_map (λ (b : LaidBlock). fragments_of b.bytes) (laid_at start v.blocks)) there,
      indexes_in_spans key (number + 1) (with_visit v lengths) vs,
    )

-- what holds of each of a joined list holds of each of the two
pub all_parted : {X : Type 0} (P : X → Type 0) (xs ys : List X) → AllByRecursion P (xs ++ ys) → AllByRecursion P xs × AllByRecursion P ys
all_parted P [] ys h = (tt, h)
all_parted P (x ∷ xs) ys h = let r = all_parted P xs ys h.1 in ((h.0, r.0), r.1)

-- the fragments of a visit's blocks
abbrev pub fragments_of_visit : Visit → List Fragment
fragments_of_visit v = flat_map fragments_of v.blocks

-- if all fragments of visits are of files of a session, these are its fragments in the spans
pub fragments_in_visits : (key : SessionKey) (lengths : List (List ℕ × ℕ)) (vs : List Visit)
    → AllByRecursion (λ (f : Fragment). is_of_files key f ≡ true) (flat_map fragments_of_visit vs)
    → flat_map (file_fragments key) (visits_at lengths vs) ≡ flat_map fragments_of_visit vs
unfolding file_fragments
fragments_in_visits key lengths [] all = refl
fragments_in_visits key lengths (v ∷ vs) all =
    let both = all_parted (λ (f : Fragment). is_of_files key f ≡ true) (fragments_of_visit v) (flat_map fragments_of_visit vs) all in
    let here : filter (is_of_files key) (flat_map (λ (b : LaidBlock). fragments_of b.bytes) (laid_at (length_of lengths v.volume) v.blocks)) ≡ fragments_of_visit v =
    ap (filter (is_of_files key)) (fragments_at (length_of lengths v.volume) v.blocks) ∙ keeps_all (is_of_files key) (fragments_of_visit v) both.0 in
    let rest = fragments_in_visits key (with_visit v lengths) vs both.1 in
    ap (λ (fs : List Fragment). fs ++ flat_map (file_fragments key) (visits_at (with_visit v lengths) vs)) here ∙ ap (λ (fs : List Fragment). fragments_of_visit v ++ fs) rest
