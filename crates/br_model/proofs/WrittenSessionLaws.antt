-- The volumes to which a session was written hold it.
use Rattle.std.proofs.Common.{◌≡◌, ℕ, ◌+◌, ◌-◌, ◌^◌, ◌<◌, ◌≤◌, Bool, true, false, ◌&&◌, ◌||◌, cond, ltb, List, [], ◌∷◌, ◌++◌, length, map, filter, take, drop, Result, Ok, Err, refl, sym, ap, subst, ◌∙◌, inl, inr, arith}
use Rattle.std.proofs.lemmas.Bool.{ltb-true, eqb-true, eqb-false, eq-eqb, and_parts}
use Rattle.std.proofs.lemmas.List.{append-nil, take-append-drop, nil_from_length}
use Rattle.std.proofs.lemmas.List.Concat.{flat_map-append}
use Rattle.std.proofs.lemmas.List.Elements.{filter-append}
use Rattle.std.specs.Prelude.{flat_map, bytes_eq, nat_le}
use Rattle.std.specs.Int.{is_positive}
use Rattle.std.specs.List.{AllByRecursion, AllZip, enumerate_from, list_any, list_all}
use Rattle.br_model.specs.Text.{is_empty}
use Rattle.br_model.specs.Name.{SessionKey, same_session}
use Rattle.br_model.specs.Block.{Fragment, fragments_of}
use Rattle.br_model.specs.Record.{Record, IsCut}
use Rattle.br_model.specs.Job.{Span}
use Rattle.br_model.specs.Stored.{IsSpanLaid, AreInSpan, file_fragments}
use Rattle.br_model.specs.Session.{ToSave, links_back, checked_order, session_records, IsPart, AreClosed, written_block, Place, Visit, onto_visits, visits, spans_from, checked_spans, rows_of}
use Rattle.br_model.specs.SessionHolds.{bytes_of_volume, bytes_for, IsReady, WrittenSessionsHold}
use Rattle.br_model.proofs.AnswerLaws.{chosen, ok_is}
use Rattle.br_model.proofs.SpanLaws.{job_stays}
use Rattle.br_model.proofs.WrittenBlockLaws.{IsSound, IsKey, header_of, cut_is_sound, written_header, length-written_block, written_fragments}
use Rattle.br_model.proofs.WrittenVolumeLaws.{IsWholeBlock, joined}
use Rattle.br_model.proofs.WrittenSpanLaws.{all_parted, IsWholeVisit, IsWholeFor, brought, all_brought, visits_at, fragments_of_visit, is_of_files, spans_are_laid, indexes_in_spans, fragments_in_visits}
use Rattle.br_model.proofs.WrittenFileLaws.{records_writable, files_are_made, no_other_files}
use Rattle.br_model.proofs.ListLaws.{all_weaker}

-- ---- the blocks

-- each of the parts is within the limit
pub parts_are : (limit : ℕ) (parts : List (List Fragment)) → AreClosed limit parts → AllByRecursion (IsPart limit) parts
parts_are limit [] closed = tt
parts_are limit (part ∷ []) closed = (closed, tt)
parts_are limit (part ∷ next ∷ more) closed = (closed.0, parts_are limit (next ∷ more) closed.2)

-- the parts, joined
abbrev all_of : List (List Fragment) → List Fragment
all_of parts = flat_map (λ (part : List Fragment). part) parts

-- the blocks that are written of parts are whole
pub blocks_are_whole : (key : SessionKey) (limit n : ℕ) (parts : List (List Fragment)) → IsKey key → limit ≤ 64512 → AllByRecursion (IsPart limit) parts
    → AllByRecursion IsWholeBlock (map (written_block key) (enumerate_from n parts))
blocks_are_whole key limit n [] is to are = tt
blocks_are_whole key limit n (part ∷ parts) is to are = (
  record {
    header = header_of key (n, part);
    read = written_header key (n, part) is (omega (arith, are.0.1, to));
    size_is = sym (length-written_block key (n, part));
  },
  blocks_are_whole key limit (n + 1) parts is to are.1,
)

-- their fragments are those of the parts
blocks_have_fragments : (key : SessionKey) (limit n : ℕ) (parts : List (List Fragment)) → IsKey key → limit ≤ 64512 → AllByRecursion (IsPart limit) parts
    → AllByRecursion (λ (f : Fragment). f.session ≡ key) (all_of parts) → AllByRecursion IsSound (all_of parts)
    → flat_map fragments_of (map (written_block key) (enumerate_from n parts)) ≡ all_of parts
blocks_have_fragments key limit n [] is to are of_session sound = refl
blocks_have_fragments key limit n (part ∷ parts) is to are of_session sound =
    let sessions = all_parted (λ (f : Fragment). f.session ≡ key) part (all_of parts) of_session in
    let sounds = all_parted IsSound part (all_of parts) sound in
    let here = written_fragments key (n, part) is (omega (arith, are.0.1, to)) are.0.2 sessions.0 sounds.0 in
    let rest = blocks_have_fragments key limit (n + 1) parts is to are.1 sessions.1 sounds.1 in
    ap (λ (fs : List Fragment). fs ++ flat_map fragments_of (map (written_block key) (enumerate_from (n + 1) parts))) here ∙ ap (λ (fs : List Fragment). part ++ fs) rest

-- ---- the visits

-- what a visit before others makes, with blocks or without
visit_or_none : (P : List Visit → Type 0) (v : Visit) (more : List Visit) → (v.blocks ≡ [] → P more) → (0 < length v.blocks → P (v ∷ more)) → P (onto_visits v more)
visit_or_none P v more none some = go (is_empty v.blocks) refl
  where
    go : (b : Bool) → is_empty v.blocks ≡ b → P (cond b more (v ∷ more))
    go true e = none (nil_from_length v.blocks (eqb-true (length v.blocks) 0 e))
    go false e = let ne = eqb-false (length v.blocks) 0 e in some (omega (arith, ne))

-- visits have whole blocks where all blocks are whole
pub visits_are_whole : (places : List Place) (blocks : List (List ℕ)) → AllByRecursion IsWholeBlock blocks → AllByRecursion IsWholeVisit (visits places blocks)
unfolding visits
visits_are_whole [] blocks whole = tt
visits_are_whole (p ∷ []) blocks whole =
    visit_or_none (AllByRecursion IsWholeVisit) (record { volume = p.volume; blocks = blocks }) [] (λ none. tt) (λ some. (record { some = some; whole = whole }, tt))
visits_are_whole (p ∷ q ∷ more) blocks whole =
    let parted = all_parted IsWholeBlock (take p.blocks blocks) (drop p.blocks blocks)
    (subst (λ (bs : List (List ℕ)). AllByRecursion IsWholeBlock bs) (sym (take-append-drop p.blocks blocks)) whole) in
    let rest = visits_are_whole (q ∷ more) (drop p.blocks blocks) parted.1 in
    visit_or_none (AllByRecursion IsWholeVisit) (record { volume = p.volume; blocks = take p.blocks blocks }) (visits (q ∷ more) (drop p.blocks blocks))
    (λ none. rest) (λ some. (record { some = some; whole = parted.0 }, rest))

-- the blocks of visits
abbrev blocks_of_visits : List Visit → List (List ℕ)
blocks_of_visits vs = flat_map (λ (v : Visit). v.blocks) vs

blocks_onto : (v : Visit) (more : List Visit) → blocks_of_visits (onto_visits v more) ≡ v.blocks ++ blocks_of_visits more
blocks_onto v more =
    visit_or_none (λ (vs : List Visit). blocks_of_visits vs ≡ v.blocks ++ blocks_of_visits more) v more (λ none. ap (λ (bs : List (List ℕ)). bs ++ blocks_of_visits more) (sym none)) (λ some. refl)

-- the visits of places have all blocks, in order
visits_have_all : (places : List Place) (blocks : List (List ℕ)) → 0 < length places → blocks_of_visits (visits places blocks) ≡ blocks
unfolding visits
visits_have_all [] blocks some = absurd (omega arith)
visits_have_all (p ∷ []) blocks some = blocks_onto (record { volume = p.volume; blocks = blocks }) [] ∙ append-nil blocks
visits_have_all (p ∷ q ∷ more) blocks some =
    blocks_onto (record { volume = p.volume; blocks = take p.blocks blocks }) (visits (q ∷ more) (drop p.blocks blocks))
    ∙ ap (λ (bs : List (List ℕ)). take p.blocks blocks ++ bs) (visits_have_all (q ∷ more) (drop p.blocks blocks) (omega arith)) ∙ take-append-drop p.blocks blocks

-- what holds of the volume of each place holds of that of each visit
visited_are_places : (P : List ℕ → Type 0) (places : List Place) (blocks : List (List ℕ)) → AllByRecursion (λ (p : Place). P p.volume) places
    → AllByRecursion (λ (v : Visit). P v.volume) (visits places blocks)
unfolding visits
visited_are_places P [] blocks all = tt
visited_are_places P (p ∷ []) blocks all =
    visit_or_none (AllByRecursion (λ (v : Visit). P v.volume)) (record { volume = p.volume; blocks = blocks }) [] (λ none. tt) (λ some. (all.0, tt))
visited_are_places P (p ∷ q ∷ more) blocks all =
    let rest = visited_are_places P (q ∷ more) (drop p.blocks blocks) all.1 in
    visit_or_none (AllByRecursion (λ (v : Visit). P v.volume)) (record { volume = p.volume; blocks = take p.blocks blocks }) (visits (q ∷ more) (drop p.blocks blocks))
    (λ none. rest) (λ some. (all.0, rest))

-- the blocks of visits, each with its volume
abbrev with_volumes : List Visit → List (List ℕ × List ℕ)
with_volumes vs = flat_map (λ (v : Visit). map (λ (block : List ℕ). (v.volume, block)) v.blocks) vs

-- the blocks for a volume among those of one volume: all or none
bytes_of_one : (volume name : List ℕ) (b : Bool) (blocks : List (List ℕ)) → bytes_eq volume name ≡ b
    → bytes_for (map (λ (block : List ℕ). (volume, block)) blocks) name ≡ cond b (joined blocks) []
bytes_of_one volume name true [] e = refl
bytes_of_one volume name false [] e = refl
bytes_of_one volume name true (x ∷ xs) e = rw e (ap (λ (bytes : List ℕ). x ++ bytes) (bytes_of_one volume name true xs e))
bytes_of_one volume name false (x ∷ xs) e = rw e (bytes_of_one volume name false xs e)

-- the blocks for a volume are what the visits bring to it
bytes_are_brought : (name : List ℕ) (vs : List Visit) → bytes_for (with_volumes vs) name ≡ all_brought vs name
bytes_are_brought name [] = refl
bytes_are_brought name (v ∷ vs) =
    let mine = map (λ (block : List ℕ). (v.volume, block)) v.blocks in
    let is_for = λ (b : List ℕ × List ℕ). bytes_eq b.0 name in
    let bytes_in = λ (b : List ℕ × List ℕ). b.1 in
    ap (flat_map bytes_in) (filter-append is_for mine (with_volumes vs)) ∙ flat_map-append bytes_in (filter is_for mine) (filter is_for (with_volumes vs))
    ∙ ap (λ (bytes : List ℕ). bytes ++ bytes_for (with_volumes vs) name) (bytes_of_one v.volume name (bytes_eq v.volume name) v.blocks refl)
    ∙ ap (λ (bytes : List ℕ). brought name v ++ bytes) (bytes_are_brought name vs)

-- the fragments of visits are those of their blocks
fragments_of_visits : (vs : List Visit) → flat_map fragments_of_visit vs ≡ flat_map fragments_of (blocks_of_visits vs)
fragments_of_visits [] = refl
fragments_of_visits (v ∷ vs) =
    ap (λ (fs : List Fragment). fragments_of_visit v ++ fs) (fragments_of_visits vs) ∙ sym (flat_map-append fragments_of v.blocks (blocks_of_visits vs))

-- ---- the session

-- the fragments of a session that are sound are of its files
sound_is_of_files : (key : SessionKey) (fs : List Fragment) → AllByRecursion (λ (f : Fragment). f.session ≡ key) fs → AllByRecursion IsSound fs
    → AllByRecursion (λ (f : Fragment). is_of_files key f ≡ true) fs
sound_is_of_files key [] of_session sound = tt
sound_is_of_files key (f ∷ fs) of_session sound = (one f.session of_session.0 sound.0.positive, sound_is_of_files key fs of_session.1 sound.1)
  where
    one : (other : SessionKey) → other ≡ key → is_positive f.index ≡ true → (same_session other key && is_positive f.index) ≡ true
    one other e positive =
        let id = eq-eqb other.id key.id (ap (λ (k : SessionKey). k.id) e) in
        let time = eq-eqb other.time key.time (ap (λ (k : SessionKey). k.time) e) in
        rw (id, time, positive) refl

-- there are fewer than 2 ^ 31 files
few_files : (files : List ToSave) → checked_order files ≡ Ok files → length files < 2 ^ 31
unfolding checked_order
few_files files e =
    let link = list_all (links_back (enumerate_from 1 files)) (enumerate_from 1 files) in
    elim (chosen (link && ltb (length files) (2 ^ 31)) (Ok files) (Err 16) (Ok files) e) [
      | inl p ↦ ltb-true (length files) (2 ^ 31) (and_parts link (ltb (length files) (2 ^ 31)) p.0).1
      | inr p ↦ absurd (not_ok p.1)
    ]
  where
    not_ok : ◌≡◌ {A = Result (List ToSave) ℕ} (Err 16) (Ok files) → ⊥
    not_ok h = absurd cc

-- the spans are those of the visits
spans_are_of_visits : (starts : List (List ℕ × ℕ)) (vs : List Visit) (spans : List Span) → checked_spans starts vs ≡ Ok spans → spans_from 1 starts vs ≡ spans
unfolding checked_spans
spans_are_of_visits starts vs spans e =
    let made = spans_from 1 starts vs in
    elim (chosen (list_any (λ (s : Span). ltb (2 ^ 63 - 2) s.end) made || nat_le (2 ^ 32) (length made)) (Err 42) (Ok made) (Ok spans) e) [
      | inl p ↦ absurd (not_ok p.1)
      | inr p ↦ ok_is made spans p.1
    ]
  where
    not_ok : ◌≡◌ {A = Result (List Span) ℕ} (Err 42) (Ok spans) → ⊥
    not_ok h = absurd cc

-- parts without a fragment are none
no_parts : (limit : ℕ) (parts : List (List Fragment)) → AllByRecursion (IsPart limit) parts → all_of parts ≡ [] → parts ≡ []
no_parts limit [] are e = refl
no_parts limit ([] ∷ more) are e = absurd (omega (arith, are.0.0))
no_parts limit ((f ∷ part) ∷ more) are e = absurd cc

-- the visits have all the blocks, and with no place there are none
visits_have_blocks : (places : List Place) (blocks : List (List ℕ)) → (places ≡ [] → blocks ≡ []) → blocks_of_visits (visits places blocks) ≡ blocks
unfolding visits
visits_have_blocks [] blocks none = sym (none refl)
visits_have_blocks (p ∷ more) blocks none = visits_have_all (p ∷ more) blocks (omega arith)

pub written_sessions_hold_lem : WrittenSessionsHold
unfolding rows_of
written_sessions_hold_lem files row limit places starts written deleted earlier later after are ordered placed id_to time_to to is ready appended extends =
    job_stays later after (record { rows = rows_of row files deleted written.spans; saved = map (λ (f : ToSave). f.file) files }) extends (record {
      blocks = visits_at starts vs;
      laid = subst (λ (ss : List Span). AllZip (IsSpanLaid later) ss (visits_at starts vs)) spans laid;
      in_span = subst (λ (ss : List Span). AllZip (AreInSpan key) ss (visits_at starts vs)) spans (indexes_in_spans key 1 starts vs);
      records = session_records files;
      cut = subst (λ (fs : List Fragment). IsCut (session_records files) fs) (sym fragments) is.packed.cut;
      files = files_are_made files few are;
      no_others = no_other_files files;
    })
  where
    key : SessionKey
    key = row.session

    is_key : IsKey key
    is_key = record { id_to = id_to; time_to = time_to }

    parts : List (List Fragment)
    parts = is.packed.parts

    vs : List Visit
    vs = visits places is.blocks

    few : length files < 2 ^ 31
    few = few_files files ordered

    within : AllByRecursion (IsPart limit) parts
    within = parts_are limit parts is.packed.closed

    sound : AllByRecursion IsSound (all_of parts)
    sound = cut_is_sound (session_records files) (all_of parts) (records_writable 1 files (omega arith) (omega (arith, few)) are) is.packed.cut

    whole : AllByRecursion IsWholeBlock is.blocks
    whole = subst (λ (bs : List (List ℕ)). AllByRecursion IsWholeBlock bs) (sym is.packed.bytes_are) (blocks_are_whole key limit 0 parts is_key to within)

    none : places ≡ [] → is.blocks ≡ []
    none nowhere =
        let records = ap session_records (placed nowhere) in
        let no_fragments = subst (λ (rs : List Record). IsCut rs (all_of parts)) records is.packed.cut in
        is.packed.bytes_are ∙ ap (λ (ps : List (List Fragment)). map (written_block key) (enumerate_from 0 ps)) (no_parts limit parts within no_fragments)

    spans : spans_from 1 starts vs ≡ written.spans
    spans = spans_are_of_visits starts vs written.spans is.spans_are

    all_fragments : flat_map fragments_of_visit vs ≡ all_of parts
    all_fragments =
        fragments_of_visits vs ∙ ap (flat_map fragments_of) (visits_have_blocks places is.blocks none ∙ is.packed.bytes_are)
        ∙ blocks_have_fragments key limit 0 parts is_key to within is.packed.of_session sound

    of_files : AllByRecursion (λ (f : Fragment). is_of_files key f ≡ true) (flat_map fragments_of_visit vs)
    of_files = subst (λ (fs : List Fragment). AllByRecursion (λ (f : Fragment). is_of_files key f ≡ true) fs) (sym all_fragments) (sound_is_of_files key (all_of parts) is.packed.of_session sound)

    fragments : flat_map (file_fragments key) (visits_at starts vs) ≡ all_of parts
    fragments = fragments_in_visits key starts vs of_files ∙ all_fragments

    brought_to : (name : List ℕ) → bytes_of_volume later name ≡ bytes_of_volume earlier name ++ all_brought vs name
    brought_to name =
        appended name ∙ ap (λ (xs : List ℕ). bytes_of_volume earlier name ++ xs) (ap (λ (bs : List (List ℕ × List ℕ)). bytes_for bs name) is.placed ∙ bytes_are_brought name vs)

    ready_for : (p : Place) → IsReady earlier starts p.volume → IsWholeFor starts (bytes_of_volume earlier) p.volume
    ready_for p r = record { blocks = r.blocks; laid = r.laid; length_is = r.length_is }

    whole_for : AllByRecursion (λ (v : Visit). IsWholeFor starts (bytes_of_volume earlier) v.volume) vs
    whole_for =
        visited_are_places (IsWholeFor starts (bytes_of_volume earlier)) places is.blocks
        (all_weaker (λ (p : Place). IsReady earlier starts p.volume) (λ (p : Place). IsWholeFor starts (bytes_of_volume earlier) p.volume) ready_for places ready)

    laid : AllZip (IsSpanLaid later) (spans_from 1 starts vs) (visits_at starts vs)
    laid = spans_are_laid later 1 starts (bytes_of_volume earlier) vs (visits_are_whole places is.blocks whole) whole_for brought_to
