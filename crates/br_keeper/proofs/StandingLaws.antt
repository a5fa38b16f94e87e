-- A keeper that stands still does so after blocks and other bytes were appended to its volumes.
use Rattle.std.proofs.Common.{◌≡◌, ℕ, ◌≤◌, Bool, true, false, ◌||◌, cond, List, [], ◌∷◌, ◌++◌, length, map, drop, take, Option, Some, None, refl, sym, ap, subst, ◌∙◌, inl, inr, arith}
use Rattle.std.specs.Prelude.{IfSome, bytes_eq, filter, flat_map, option_map}
use Rattle.std.specs.Option.{option_map_or}
use Rattle.std.specs.List.{AllByRecursion, list_any}
use Rattle.std.proofs.lemmas.Bool.{both_ways}
use Rattle.std.proofs.lemmas.List.{append-nil, length-append, map-append, nil_from_length}
use Rattle.std.proofs.lemmas.Slice.Eq.{bytes_eq-Decides}
use Rattle.br_model.specs.Text.{is_empty}
use Rattle.br_model.specs.Volume.{Volume, Extends}
use Rattle.br_model.specs.Job.{JobRows, Job}
use Rattle.br_model.specs.Stored.{Holds}
use Rattle.br_model.specs.Session.{Place, Visit, Written, onto_visits, visits}
use Rattle.br_model.specs.SessionHolds.{AreAppended, IsReady, bytes_for, bytes_of_volume}
use Rattle.br_model.proofs.ListLaws.{all_any, all_append, all_filter, all_flat_map, all_map, all_weaker}
use Rattle.br_model.proofs.SpanLaws.{job_stays}
use Rattle.br_model.proofs.WrittenBlockLaws.{IsKey}
use Rattle.br_model.proofs.WrittenVolumeLaws.{IsWholeBlock, joined, laid_at, whole_appended}
use Rattle.br_model.proofs.WrittenSpanLaws.{IsWholeVisit, all_parted}
use Rattle.br_model.proofs.WrittenSessionLaws.{blocks_are_whole, parts_are, visits_are_whole}
use Rattle.br_history.specs.Preparing.{IsSession}
use Rattle.br_history.specs.Saving.{ToCommit}
use Rattle.br_volume.specs.Store.{AppendsInPartTo, AppendsTo, IsAppendedInPart}
use Rattle.br_volume.proofs.AppendLaws.{append_grows, appends_add_up_lem, none_appended, one_appended, part_grows}
use Rattle.br_volume.proofs.ExtendLaws.{extends_itself}
use Rattle.br_keeper.specs.declared.vouched_lengths.Vouch.{Vouch}
use Rattle.br_keeper.specs.Vouching.{changed, end_of_jobs, entry_of, new_entries, retired, starts_of, vouched}
use Rattle.br_keeper.specs.Writing.{AppendInTurn, IsVouched, Shelf, after_blocks}
use Rattle.br_keeper.specs.Committing.{IsWrittenTo, MeetsFailedSync, MeetsFailure}
use Rattle.br_keeper.specs.Holding.{AreBlocks, AreStanding, job_with, rows_in}
use Rattle.br_keeper.proofs.EntryLaws.{entered, entry_beside, entry_changed, entry_grows, entry_stays, is_of, no_bytes, not_entered, told, vouched_among}
use Rattle.br_keeper.proofs.ReachingLaws.{Reaches, volumes_reach}

-- ---- the blocks of a session

onto : (P : Visit → Type 0) (v : Visit) (more : List Visit) → P v → AllByRecursion P more → AllByRecursion P (onto_visits v more)
onto P v more one all = elim (is_empty v.blocks) as (λ b. AllByRecursion P (cond b more (v ∷ more))) [ true ↦ all | false ↦ (one, all) ]

-- the volumes of visits are those of places
visited : (P : List ℕ → Type 0) (places : List Place) (blocks : List (List ℕ)) → AllByRecursion (λ (p : Place). P p.volume) places
    → AllByRecursion (λ (v : Visit). P v.volume) (visits places blocks)
unfolding visits
visited P [] blocks all = tt
visited P (p ∷ []) blocks all = onto (λ (v : Visit). P v.volume) (record { volume = p.volume; blocks = blocks }) [] all.0 tt
visited P (p ∷ q ∷ more) blocks all =
    onto (λ (v : Visit). P v.volume) (record { volume = p.volume; blocks = take p.blocks blocks }) (visits (q ∷ more) (drop p.blocks blocks)) all.0
    (visited P (q ∷ more) (drop p.blocks blocks) all.1)

-- the blocks of a visit, with their volume
abbrev blocks_in : Visit → List (List ℕ × List ℕ)
blocks_in v = map (λ (block : List ℕ). (v.volume, block)) v.blocks

-- each place is one of the places
pub each_among : (all ps : List Place) → ((name : List ℕ) → list_any (is_of name) ps ≡ true → list_any (is_of name) all ≡ true)
    → AllByRecursion (λ (p : Place). list_any (is_of p.volume) all ≡ true) ps
each_among all [] within = tt
each_among all (p ∷ ps) within = (
  within p.volume (ap (λ b. b || list_any (is_of p.volume) ps) ((bytes_eq-Decides p.volume p.volume).1 refl)),
  each_among all ps (λ name any. within name (later name any)),
)
  where
    later : (name : List ℕ) → list_any (is_of name) ps ≡ true → list_any (is_of name) (p ∷ ps) ≡ true
    later name any = elim (is_of name p) as (λ b. (b || list_any (is_of name) ps) ≡ true) [ true ↦ refl | false ↦ any ]

-- blocks are whole, and go to volumes of the places
pub record AreFor (places : List Place) (blocks : List (List ℕ × List ℕ)) : Type 0 where
  pub among : AllByRecursion (λ (b : List ℕ × List ℕ). list_any (is_of b.0) places ≡ true) blocks
  pub whole : AllByRecursion (λ (b : List ℕ × List ℕ). IsWholeBlock b.1) blocks

pub session_blocks : (c : ToCommit) (starts : List (List ℕ × ℕ)) (rows : JobRows) (written : Written) → IsSession c starts rows written → AreFor c.places written.blocks
session_blocks c starts rows written is =
    let w = is.is_written.is_written in
    let vs = visits c.places w.blocks in
    let IsAmong : List ℕ → Type 0 = λ name. list_any (is_of name) c.places ≡ true in
    let GoesThere : List ℕ × List ℕ → Type 0 = λ b. IsAmong b.0 in
    let IsWhole : List ℕ × List ℕ → Type 0 = λ b. IsWholeBlock b.1 in
    let key : IsKey c.row.session = record { id_to = is.in_range.id_fits; time_to = is.in_range.time_fits } in
    let whole : AllByRecursion IsWholeBlock w.blocks =
    subst (λ (bs : List (List ℕ)). AllByRecursion IsWholeBlock bs) (sym w.packed.bytes_are)
    (blocks_are_whole c.row.session c.limit 0 w.packed.parts key is.in_range.commits.bounds.1 (parts_are c.limit w.packed.parts w.packed.closed)) in
    let there : AllByRecursion GoesThere (flat_map blocks_in vs) =
    all_flat_map GoesThere blocks_in vs
    (all_weaker (λ (v : Visit). IsAmong v.volume) (λ (v : Visit). AllByRecursion GoesThere (blocks_in v))
    (λ v any. all_map GoesThere (λ (block : List ℕ). (v.volume, block)) v.blocks (all_any (λ (block : List ℕ). IsAmong v.volume) (λ block. any) v.blocks)) vs
    (visited IsAmong c.places w.blocks (each_among c.places c.places (λ name any. any)))) in
    let all_whole : AllByRecursion IsWhole (flat_map blocks_in vs) =
    all_flat_map IsWhole blocks_in vs
    (all_weaker IsWholeVisit (λ (v : Visit). AllByRecursion IsWhole (blocks_in v)) (λ v is. all_map IsWhole (λ (block : List ℕ). (v.volume, block)) v.blocks is.whole) vs
    (visits_are_whole c.places w.blocks whole)) in
    record {
      among = subst (λ (bs : List (List ℕ × List ℕ)). AllByRecursion GoesThere bs) (sym w.placed) there;
      whole = subst (λ (bs : List (List ℕ × List ℕ)). AllByRecursion IsWhole bs) (sym w.placed) all_whole;
    }

-- blocks for volumes of the places are not for another volume
pub not_for : (places : List Place) (blocks : List (List ℕ × List ℕ)) (name : List ℕ) → list_any (is_of name) places ≡ false
    → AllByRecursion (λ (b : List ℕ × List ℕ). list_any (is_of b.0) places ≡ true) blocks → AllByRecursion (λ (b : List ℕ × List ℕ). bytes_eq b.0 name ≡ false) blocks
not_for places blocks name none among =
    all_weaker (λ (b : List ℕ × List ℕ). list_any (is_of b.0) places ≡ true) (λ (b : List ℕ × List ℕ). bytes_eq b.0 name ≡ false)
    (λ b any. go b any (bytes_eq b.0 name) refl) blocks among
  where
    go : (b : List ℕ × List ℕ) → list_any (is_of b.0) places ≡ true → (t : Bool) → bytes_eq b.0 name ≡ t → t ≡ false
    go b any true e =
        absurd (both_ways (list_any (is_of name) places) none (ap (λ (n : List ℕ). list_any (is_of n) places) (sym ((bytes_eq-Decides b.0 name).0 e)) ∙ any))
    go b any false e = refl

joined_is : (blocks : List (List ℕ × List ℕ)) → joined (map (λ (b : List ℕ × List ℕ). b.1) blocks) ≡ flat_map (λ (b : List ℕ × List ℕ). b.1) blocks
joined_is [] = refl
joined_is (b ∷ bs) = ap (λ (bytes : List ℕ). b.1 ++ bytes) (joined_is bs)

-- whole blocks after whole blocks
whole_with : (bytes : List ℕ) (blocks : List (List ℕ × List ℕ)) (name : List ℕ) → AreBlocks bytes → AllByRecursion (λ (b : List ℕ × List ℕ). IsWholeBlock b.1) blocks
    → AreBlocks (bytes ++ bytes_for blocks name)
whole_with bytes blocks name is whole =
    let mine = filter (λ (b : List ℕ × List ℕ). bytes_eq b.0 name) blocks in
    let new = map (λ (b : List ℕ × List ℕ). b.1) mine in
    let each : AllByRecursion IsWholeBlock new =
    all_map IsWholeBlock (λ (b : List ℕ × List ℕ). b.1) mine
    (all_filter (λ (b : List ℕ × List ℕ). IsWholeBlock b.1) (λ (b : List ℕ × List ℕ). bytes_eq b.0 name) blocks whole) in
    let all : AreBlocks (bytes ++ joined new) = (is.0 ++ laid_at (length bytes) new, whole_appended bytes is.0 new each is.1) in
    subst (λ (more : List ℕ). AreBlocks (bytes ++ more)) (joined_is mine) all

-- ---- one volume

-- The volume is no shorter than its entry says, or than this if it has none. It consists of whole
-- blocks if it is just as long and not retired.
abbrev pub Stood : Option Vouch → ℕ → List ℕ → Type 0
Stood entry end bytes =
    (option_map_or (λ (v : Vouch). v.bytes) entry end ≤ length bytes)
    × (option_map_or (λ (v : Vouch). v.is_retired) entry false ≡ false → option_map_or (λ (v : Vouch). v.bytes) entry end ≡ length bytes → AreBlocks bytes)

-- an entry that serves
stood_whole : (entry : Option Vouch) (v : Vouch) (end : ℕ) (bytes : List ℕ) → entry ≡ Some v → v.bytes ≤ length bytes → AreBlocks bytes → Stood entry end bytes
stood_whole entry v end bytes e le whole = subst (λ (o : Option Vouch). Stood o end bytes) (sym e) (le, λ serves same. whole)

-- one that is retired
stood_retired : (entry : Option Vouch) (v : Vouch) (end : ℕ) (bytes : List ℕ) → entry ≡ Some v → v.bytes ≤ length bytes → v.is_retired ≡ true → Stood entry end bytes
stood_retired entry v end bytes e le is = subst (λ (o : Option Vouch). Stood o end bytes) (sym e) (le, λ serves same. absurd (both_ways v.is_retired serves is))

-- a volume that stayed as it was
stood_as_before : (before after : Option Vouch) (end later : ℕ) (old new : List ℕ) → Stood before end old → after ≡ before → new ≡ old → Reaches new later → Stood after later new
stood_as_before before after end later old new is e same reaches =
    subst (λ (o : Option Vouch). Stood o later new) (sym e) (go before is)
  where
    go : (o : Option Vouch) → Stood o end old → Stood o later new
    go None is = (reaches.0, λ serves e. reaches.1 e)
    go (Some v) is = subst (λ (bytes : List ℕ). Stood (Some v) later bytes) (sym same) is

-- one that grew, whatever came to its end
stood_longer : (entry : Option Vouch) (end : ℕ) (old more : List ℕ) → Stood entry end old → Stood entry end (old ++ more)
stood_longer entry end old more is =
    let long = length-append old more in (
      omega (arith, is.0, long),
      λ serves same.
          let none : more ≡ [] = nil_from_length more (omega (arith, is.0, same, long)) in
          let equal : old ≡ old ++ more = sym (append-nil old) ∙ ap (λ (m : List ℕ). old ++ m) (sym none) in
          subst (λ (bytes : List ℕ). AreBlocks bytes) equal (is.1 serves (same ∙ ap length (sym equal))),
    )

-- one that is retired now
stood_then_retired : (before after : Option Vouch) (end : ℕ) (bytes : List ℕ) → Stood before end bytes → after ≡ option_map retired before → Stood after end bytes
stood_then_retired before after end bytes is e = subst (λ (o : Option Vouch). Stood o end bytes) (sym e) (go before is)
  where
    go : (o : Option Vouch) → Stood o end bytes → Stood (option_map retired o) end bytes
    go None is = is
    go (Some v) is = (is.0, λ serves same. absurd cc)

-- ---- all volumes

stood : (vs : List Vouch) (rows : List JobRows) (jobs : List Job) (volumes : List Volume) → AreStanding vs rows jobs volumes → (name : List ℕ)
    → Stood (entry_of vs name) (end_of_jobs name rows) (bytes_of_volume volumes name)
stood vs rows jobs volumes is name = (is.long name, is.whole name)

pub standing_by : (vs : List Vouch) (rows : List JobRows) (jobs : List Job) (volumes : List Volume) → rows_in jobs ≡ rows → AllByRecursion (Holds volumes) jobs
    → ((name : List ℕ) → Stood (entry_of vs name) (end_of_jobs name (rows_in jobs)) (bytes_of_volume volumes name)) → AreStanding vs rows jobs volumes
standing_by vs rows jobs volumes are hold each =
    subst (λ (rs : List JobRows). AreStanding vs rs jobs volumes) are
    (record { rows_are = refl; hold = hold; long = λ name. (each name).0; whole = λ name. (each name).1 })

-- jobs that hold do so while volumes grow
pub held_on : (earlier later : List Volume) (jobs : List Job) → Extends later earlier → AllByRecursion (Holds earlier) jobs → AllByRecursion (Holds later) jobs
held_on earlier later jobs extends hold = all_weaker (Holds earlier) (Holds later) (λ j h. job_stays earlier later j extends h) jobs hold

-- ---- bytes for which no job vouches

module _ (vs : List Vouch) (rows : List JobRows) (jobs : List Job) where
  grown_stands : (blocks : List (List ℕ × List ℕ)) (earlier later : List Volume) → AreAppended blocks earlier later → Extends later earlier
      → AreStanding vs rows jobs earlier → AreStanding vs rows jobs later
  grown_stands blocks earlier later appended extends is =
      let rows_same : (name : List ℕ) → end_of_jobs name rows ≡ end_of_jobs name (rows_in jobs) = λ name. ap (end_of_jobs name) (sym is.rows_are) in
      standing_by vs rows jobs later is.rows_are (held_on earlier later jobs extends is.hold) (λ name.
      subst (λ (bytes : List ℕ). Stood (entry_of vs name) (end_of_jobs name (rows_in jobs)) bytes) (sym (appended name))
      (subst (λ (end : ℕ). Stood (entry_of vs name) end (bytes_of_volume earlier name ++ bytes_for blocks name)) (rows_same name)
      (stood_longer (entry_of vs name) (end_of_jobs name rows) (bytes_of_volume earlier name) (bytes_for blocks name) (stood vs rows jobs earlier is name))))

  pub appended_stands : (volume bytes : List ℕ) (earlier later : Option (List Volume)) → AppendsTo volume bytes earlier later
      → IfSome earlier (AreStanding vs rows jobs) → IfSome later (AreStanding vs rows jobs)
  appended_stands volume bytes earlier None h is = tt
  appended_stands volume bytes None (Some later) h is = absurd h
  appended_stands volume bytes (Some earlier) (Some later) h is =
      grown_stands ((volume, bytes) ∷ []) earlier later (one_appended volume bytes earlier later h) (append_grows volume bytes (Some earlier) (Some later) h) is

-- at most the first of some bytes are a block, or none
pub part_is : (volume bytes : List ℕ) (earlier later : List Volume) → IsAppendedInPart volume bytes earlier later
    → (part : List (List ℕ × List ℕ)) × AllByRecursion (λ (b : List ℕ × List ℕ). b.0 ≡ volume) part × AreAppended part earlier later
part_is volume bytes earlier later (inl same) = ([], tt, subst (λ (vs : List Volume). AreAppended [] earlier vs) (sym same) (none_appended earlier))
part_is volume bytes earlier later (inr part) = ((volume, part.0) ∷ [], (refl, tt), one_appended volume part.0 earlier later part.3)

module _ (vs : List Vouch) (rows : List JobRows) (jobs : List Job) where
  pub part_stands : (volume bytes : List ℕ) (earlier later : Option (List Volume)) → AppendsInPartTo volume bytes earlier later
      → IfSome earlier (AreStanding vs rows jobs) → IfSome later (AreStanding vs rows jobs)
  part_stands volume bytes earlier None h is = tt
  part_stands volume bytes None (Some later) h is = absurd h
  part_stands volume bytes (Some earlier) (Some later) h is =
      let part = part_is volume bytes earlier later h in
      grown_stands vs rows jobs part.0 earlier later part.2 (part_grows volume bytes (Some earlier) (Some later) h) is

-- ---- the blocks of a session

module _ (c : ToCommit) (history : List JobRows) (vs : List Vouch) (jobs : List Job) where
  -- the entries once all places have one
  abbrev entries : List Vouch
  entries = vs ++ new_entries vs (starts_of vs history c.places)

  module _ (earlier later : List Volume) (is : AreStanding vs history jobs earlier) (serve : AllByRecursion (IsVouched vs (Some earlier)) (starts_of vs history c.places)) where
    -- one volume after blocks were appended
    appended_stood : (blocks : List (List ℕ × List ℕ)) (now : List Job) (name : List ℕ) → AreFor c.places blocks → AreAppended blocks earlier later → AllByRecursion (Holds later) now
        → Stood (entry_of (after_blocks blocks entries) name) (end_of_jobs name (rows_in now)) (bytes_of_volume later name)
    appended_stood blocks now name are appended hold = go (list_any (is_of name) c.places) refl
      where
        old : List ℕ
        old = bytes_of_volume earlier name

        go : (t : Bool) → list_any (is_of name) c.places ≡ t
            → Stood (entry_of (after_blocks blocks entries) name) (end_of_jobs name (rows_in now)) (bytes_of_volume later name)
        go true among =
            let before = entered vs history c.places name among in
            let here = vouched_among vs history earlier c.places name among serve in
            let after = entry_grows blocks entries name before.0 before.1 in
            let le : after.0.bytes ≤ length (bytes_of_volume later name) =
            omega (arith, after.2, before.2, here.1, length-append old (bytes_for blocks name), ap length (appended name)) in
            stood_whole (entry_of (after_blocks blocks entries) name) after.0 (end_of_jobs name (rows_in now)) (bytes_of_volume later name) after.1 le
            (subst (λ (bytes : List ℕ). AreBlocks bytes) (sym (appended name)) (whole_with old blocks name (is.whole name here.0 here.1) are.whole))
        go false none =
            let other = not_for c.places blocks name none are.among in
            let same : bytes_of_volume later name ≡ old = appended name ∙ ap (λ (bytes : List ℕ). old ++ bytes) (no_bytes blocks name other) ∙ append-nil old in
            stood_as_before (entry_of vs name) (entry_of (after_blocks blocks entries) name) (end_of_jobs name history) (end_of_jobs name (rows_in now)) old (bytes_of_volume later name)
            (stood vs history jobs earlier is name) (entry_stays blocks entries name other ∙ not_entered vs history c.places name none) same (volumes_reach later name now hold)

    -- the job that was written holds
    pub written_holds : (rows : JobRows) (written : Written) → IsSession c (starts_of vs history c.places) rows written → AreAppended written.blocks earlier later → Holds later (job_with c rows)
    written_holds rows written session appended =
        let starts = starts_of vs history c.places in
        let ready : AllByRecursion (λ (p : Place). IsReady earlier starts p.volume) c.places =
        all_weaker (λ (p : Place). list_any (is_of p.volume) c.places ≡ true) (λ (p : Place). IsReady earlier starts p.volume)
        (λ p among.
        let here = vouched_among vs history earlier c.places p.volume among serve in
        let whole = is.whole p.volume here.0 here.1 in
        record { blocks = whole.0; laid = whole.1; length_is = told (vouched vs history) c.places p.volume among ∙ here.1 }) c.places
        (each_among c.places c.places (λ name any. any)) in
        subst (λ (r : JobRows). Holds later (job_with c r)) (sym session.rows_are)
        (session.is_written.holds c.row c.deleted earlier later later refl ready appended (extends_itself later))

  -- all blocks were appended
  pub written_stands : (rows : JobRows) (written : Written) (earlier later : Option (List Volume)) → IsSession c (starts_of vs history c.places) rows written
      → AllByRecursion (IsVouched vs earlier) (starts_of vs history c.places) → AppendInTurn written.blocks earlier later → IfSome earlier (AreStanding vs history jobs)
      → IfSome later (λ volumes. Holds volumes (job_with c rows)) × IfSome later (AreStanding (after_blocks written.blocks entries) history jobs)
      × IfSome later (AreStanding (after_blocks written.blocks entries) (history ++ rows ∷ []) (jobs ++ job_with c rows ∷ []))
  written_stands rows written earlier None session serve appended is = (tt, tt, tt)
  written_stands rows written None (Some later) session serve appended is = absurd appended
  written_stands rows written (Some earlier) (Some later) session serve appended is =
      let both = appends_add_up_lem written.blocks earlier later appended in
      let are = session_blocks c (starts_of vs history c.places) rows written session in
      let job = job_with c rows in
      let holds = written_holds earlier later is serve rows written session both.0 in
      let hold = held_on earlier later jobs both.1 is.hold in
      let all = all_append (Holds later) jobs (job ∷ []) hold (holds, tt) in
      let rows_are : rows_in (jobs ++ job ∷ []) ≡ history ++ rows ∷ [] = map-append (λ (j : Job). j.rows) jobs (job ∷ []) ∙ ap (λ (rs : List JobRows). rs ++ rows ∷ []) is.rows_are in (
        holds,
        standing_by (after_blocks written.blocks entries) history jobs later is.rows_are hold (λ name. appended_stood earlier later is serve written.blocks jobs name are both.0 hold),
        standing_by (after_blocks written.blocks entries) (history ++ rows ∷ []) (jobs ++ job ∷ []) later rows_are all
            (λ name. appended_stood earlier later is serve written.blocks (jobs ++ job ∷ []) name are both.0 all),
      )

  -- the append of a block failed
  module _ (done rest : List (List ℕ × List ℕ)) (block : List ℕ × List ℕ) where
    cut_off_stood : (earlier middle later : List Volume) (part : List (List ℕ × List ℕ)) (name : List ℕ) → AreStanding vs history jobs earlier
        → AllByRecursion (IsVouched vs (Some earlier)) (starts_of vs history c.places) → AreFor c.places done → list_any (is_of block.0) c.places ≡ true
        → AreAppended done earlier middle → AllByRecursion (Holds middle) jobs → AllByRecursion (λ (b : List ℕ × List ℕ). b.0 ≡ block.0) part → AreAppended part middle later
        → Stood (entry_of (changed retired block.0 (after_blocks done entries)) name) (end_of_jobs name (rows_in jobs)) (bytes_of_volume later name)
    cut_off_stood earlier middle later part name is serve are among appended hold mine parted = go (bytes_eq block.0 name) refl
      where
        vouches : List Vouch
        vouches = after_blocks done entries

        go : (t : Bool) → bytes_eq block.0 name ≡ t
            → Stood (entry_of (changed retired block.0 vouches) name) (end_of_jobs name (rows_in jobs)) (bytes_of_volume later name)
        go true e =
            let same : block.0 ≡ name = (bytes_eq-Decides block.0 name).0 e in
            let named : list_any (is_of name) c.places ≡ true = subst (λ (n : List ℕ). list_any (is_of n) c.places ≡ true) same among in
            let before = entered vs history c.places name named in
            let here = vouched_among vs history earlier c.places name named serve in
            let after = entry_grows done entries name before.0 before.1 in
            let entry : entry_of (changed retired block.0 vouches) name ≡ Some (retired after.0) =
            ap (λ (n : List ℕ). entry_of (changed retired n vouches) name) same ∙ entry_changed retired (λ v. refl) vouches name ∙ ap (λ (o : Option Vouch). option_map retired o) after.1 in
            let le : after.0.bytes ≤ length (bytes_of_volume later name) =
            omega (
              arith,
              after.2,
              before.2,
              here.1,
              length-append (bytes_of_volume earlier name) (bytes_for done name),
              ap length (appended name),
              length-append (bytes_of_volume middle name) (bytes_for part name),
              ap length (parted name),
            ) in
            stood_retired (entry_of (changed retired block.0 vouches) name) (retired after.0) (end_of_jobs name (rows_in jobs)) (bytes_of_volume later name) entry le refl
        go false e =
            let other : AllByRecursion (λ (b : List ℕ × List ℕ). bytes_eq b.0 name ≡ false) part =
            all_weaker (λ (b : List ℕ × List ℕ). b.0 ≡ block.0) (λ (b : List ℕ × List ℕ). bytes_eq b.0 name ≡ false) (λ b same. ap (λ (n : List ℕ). bytes_eq n name) same ∙ e) part mine in
            let same : bytes_of_volume later name ≡ bytes_of_volume middle name =
            parted name ∙ ap (λ (bytes : List ℕ). bytes_of_volume middle name ++ bytes) (no_bytes part name other) ∙ append-nil (bytes_of_volume middle name) in
            let entry : entry_of (changed retired block.0 vouches) name ≡ entry_of vouches name = entry_beside retired (λ v. refl) vouches block.0 name e in
            subst (λ (bytes : List ℕ). Stood (entry_of (changed retired block.0 vouches) name) (end_of_jobs name (rows_in jobs)) bytes) (sym same)
            (subst (λ (o : Option Vouch). Stood o (end_of_jobs name (rows_in jobs)) (bytes_of_volume middle name)) (sym entry)
            (appended_stood earlier middle is serve done jobs name are appended hold))

    pub cut_off_stands : (blocks : List (List ℕ × List ℕ)) (earlier middle later : Option (List Volume)) → AreFor c.places blocks → done ++ block ∷ rest ≡ blocks
        → AllByRecursion (IsVouched vs earlier) (starts_of vs history c.places) → AppendInTurn done earlier middle → AppendsInPartTo block.0 block.1 middle later
        → IfSome earlier (AreStanding vs history jobs) → IfSome later (AreStanding (changed retired block.0 (after_blocks done entries)) history jobs)
    cut_off_stands blocks earlier middle None are split serve appended parted is = tt
    cut_off_stands blocks earlier None (Some later) are split serve appended parted is = absurd parted
    cut_off_stands blocks None (Some middle) (Some later) are split serve appended parted is = absurd appended
    cut_off_stands blocks (Some earlier) (Some middle) (Some later) are split serve appended parted is =
        let GoesThere : List ℕ × List ℕ → Type 0 = λ b. list_any (is_of b.0) c.places ≡ true in
        let IsWhole : List ℕ × List ℕ → Type 0 = λ b. IsWholeBlock b.1 in
        let among = all_parted GoesThere done (block ∷ rest) (subst (λ (bs : List (List ℕ × List ℕ)). AllByRecursion GoesThere bs) (sym split) are.among) in
        let whole = all_parted IsWhole done (block ∷ rest) (subst (λ (bs : List (List ℕ × List ℕ)). AllByRecursion IsWhole bs) (sym split) are.whole) in
        let those : AreFor c.places done = record { among = among.0; whole = whole.0 } in
        let first = appends_add_up_lem done earlier middle appended in
        let part = part_is block.0 block.1 middle later parted in
        let held = held_on earlier middle jobs first.1 is.hold in
        let hold = held_on middle later jobs (part_grows block.0 block.1 (Some middle) (Some later) parted) held in
        standing_by (changed retired block.0 (after_blocks done entries)) history jobs later is.rows_are hold
        (λ name. cut_off_stood earlier middle later part.0 name is serve those among.1.0 first.0 held part.1 part.2)

-- ---- shelves

-- a session that is written to a shelf whose volumes hold the jobs
pub written_to_stands : {C : Type 0} (change : JobRows → C → C → Type 0) (history : List JobRows) (c : ToCommit) (before after : C) (old new : Shelf) (rows : JobRows) (jobs : List Job)
    → IsWrittenTo change history c before after old new rows → IfSome old.volumes (AreStanding old.vouches history jobs)
    → IfSome new.volumes (λ volumes. Holds volumes (job_with c rows)) × IfSome new.volumes (AreStanding new.vouches history jobs)
    × IfSome new.volumes (AreStanding new.vouches (history ++ rows ∷ []) (jobs ++ job_with c rows ∷ []))
written_to_stands change history c before after old new rows jobs w is =
    let r = written_stands c history old.vouches jobs rows w.written old.volumes new.volumes w.ready.session w.blocks.serve w.blocks.written.appended is in
    let vouches = sym w.blocks.written.vouches_are in (
      r.0,
      subst (λ (vs : List Vouch). IfSome new.volumes (AreStanding vs history jobs)) vouches r.1,
      subst (λ (vs : List Vouch). IfSome new.volumes (AreStanding vs (history ++ rows ∷ []) (jobs ++ job_with c rows ∷ []))) vouches r.2,
    )

-- an append to it failed
pub failed_stands : (history : List JobRows) (c : ToCommit) (old new : Shelf) (jobs : List Job) → MeetsFailure history c old new
    → IfSome old.volumes (AreStanding old.vouches history jobs) → IfSome new.volumes (AreStanding new.vouches history jobs)
failed_stands history c old new jobs m is =
    let cut = m.cut_off.cut_off in
    let are = session_blocks c (starts_of old.vouches history c.places) m.rows m.written m.ready.session in
    subst (λ (vs : List Vouch). IfSome new.volumes (AreStanding vs history jobs)) (sym cut.vouches_are)
    (cut_off_stands c history old.vouches jobs cut.done cut.rest cut.block m.written.blocks old.volumes cut.middle new.volumes are cut.split m.cut_off.serve cut.appended cut.in_part is)

-- a volume that is retired
retired_stands : (vs : List Vouch) (rows : List JobRows) (jobs : List Job) (volumes : List Volume) (volume : List ℕ) → AreStanding vs rows jobs volumes
    → AreStanding (changed retired volume vs) rows jobs volumes
retired_stands vs rows jobs volumes volume is =
    standing_by (changed retired volume vs) rows jobs volumes is.rows_are is.hold
    (λ name. subst (λ (end : ℕ). Stood (entry_of (changed retired volume vs) name) end (bytes_of_volume volumes name)) (ap (end_of_jobs name) (sym is.rows_are))
    (go name (bytes_eq volume name) refl))
  where
    go : (name : List ℕ) (t : Bool) → bytes_eq volume name ≡ t → Stood (entry_of (changed retired volume vs) name) (end_of_jobs name rows) (bytes_of_volume volumes name)
    go name true e =
        let entry : entry_of (changed retired volume vs) name ≡ option_map retired (entry_of vs name) =
        ap (λ (n : List ℕ). entry_of (changed retired n vs) name) ((bytes_eq-Decides volume name).0 e) ∙ entry_changed retired (λ v. refl) vs name in
        stood_then_retired (entry_of vs name) (entry_of (changed retired volume vs) name) (end_of_jobs name rows) (bytes_of_volume volumes name) (stood vs rows jobs volumes is name) entry
    go name false e =
        subst (λ (o : Option Vouch). Stood o (end_of_jobs name rows) (bytes_of_volume volumes name)) (sym (entry_beside retired (λ v. refl) vs volume name e))
        (stood vs rows jobs volumes is name)

retired_stand : (vs : List Vouch) (rows : List JobRows) (jobs : List Job) (told : Option (List Volume)) (volume : List ℕ) → IfSome told (AreStanding vs rows jobs)
    → IfSome told (AreStanding (changed retired volume vs) rows jobs)
retired_stand vs rows jobs None volume is = tt
retired_stand vs rows jobs (Some volumes) volume is = retired_stands vs rows jobs volumes volume is

-- a sync failed
pub unsynced_stands : (history : List JobRows) (c : ToCommit) (old new : Shelf) (jobs : List Job) → MeetsFailedSync history c old new
    → IfSome old.volumes (AreStanding old.vouches history jobs) → IfSome new.volumes (AreStanding new.vouches history jobs)
unsynced_stands history c old new jobs m is =
    let middle = m.unsynced.middle in
    let last = m.unsynced.unsynced.failed in
    let volume = m.unsynced.unsynced.span.volume in
    let r = written_stands c history old.vouches jobs m.rows m.written old.volumes middle.volumes m.ready.session m.unsynced.serve m.unsynced.written.appended is in
    let all = after_blocks m.written.blocks (old.vouches ++ new_entries old.vouches (starts_of old.vouches history c.places)) in
    subst (λ (told : Option (List Volume)). IfSome told (AreStanding new.vouches history jobs)) (sym last.volumes_are)
    (subst (λ (vs : List Vouch). IfSome middle.volumes (AreStanding vs history jobs)) (sym (last.vouches_are ∙ ap (changed retired volume) m.unsynced.written.vouches_are))
    (retired_stand all history jobs middle.volumes volume r.1))
