-- What is delivered of the outcomes of a restore, and what comes of it.
use Rattle.std.proofs.Common.{◌≡◌, ℕ, Bool, true, false, cond, List, [], ◌∷◌, ◌&&◌, Option, None, Result, Ok, Err, refl, sym, ap, subst, ◌∙◌}
use Rattle.std.specs.Prelude.{IfOk, is_ok, filter, map, option_map}
use Rattle.std.specs.List.{AllZip, list_all}
use Rattle.std.specs.Io.KnownBytes.{Appends}
use Rattle.br_model.specs.Answer.{IsRefusal}
use Rattle.br_model.specs.Bootstrap.{Group}
use Rattle.br_model.specs.BootstrapText.{read_bootstrap}
use Rattle.br_model.specs.Delivery.{item_of}
use Rattle.br_model.specs.File.{Outcome}
use Rattle.br_model.specs.Manifest.{manifest}
use Rattle.br_model.specs.Meaning.{pieces_of}
use Rattle.br_model.specs.Name.{FileKey}
use Rattle.br_model.specs.Restored.{Names, Planned, Restored, planned_in}
use Rattle.br_model.specs.Volume.{Volume}
use Rattle.br_join.specs.Outcome.{restored}
use Rattle.br_types.specs.Newest.{Copy, copies_of, copy_of, is_current, is_newest, newest}
use Rattle.br_engine.specs.DeliveredAgain.{EndsLike, IsFileLike}
use Rattle.br_engine.specs.BootstrapText.{ReadsAs}
use Rattle.br_engine.specs.Delivering.{Delivers, EndsWith, IsPut}
use Rattle.br_engine.specs.Extracting.{OverText, OverVolumes, Said}
use Rattle.br_engine.specs.Fault.{cause}
use Rattle.br_engine.specs.Outputs.{EndTells, InSink, are_files}
use Rattle.br_engine.specs.Restoring.{AllStand, Told}
use Rattle.br_engine.specs.declared.restore_end.RestoreEnd.{RestoreEnd}
use Rattle.br_engine.specs.declared.restore_end.RestoreEnd.TheVariants.{AllFiles, SomeFaults, Stopped}
use Rattle.br_engine.specs.declared.fault.ExtractFault.{ExtractFault}
use Rattle.br_engine.proofs.DeliverLaws.{over_read}
use Rattle.br_engine.proofs.LikeLaws.{same_manifest}
use Rattle.br_types.specs.declared.wanted.Copies.{Copies}
use Rattle.br_types.specs.declared.wanted.Copies.TheVariants.{All, Newest}
use Rattle.br_types.specs.declared.wanted.Stops.{Stops}
use Rattle.br_types.specs.declared.wanted.Stops.TheVariants.{AtFirst, Never}
use Rattle.br_types.specs.declared.wanted.Wanted.{Wanted}
use Rattle.br_sink.specs.ConflictsApart.{apart_beside, is_free, with_path}
use Rattle.br_engine.specs.WantedOutcomes.{delivered, kept, left_out, of_copies, plain, reported}
use Rattle.br_engine.specs.Restores.{AreWanted, Change, Extracts, OnlyIfChanged, Restores}
use Rattle.br_engine.specs.declared.extracted.Extracted.{Extracted}
use Rattle.br_engine.specs.declared.restore_order.RestoreOrder.{RestoreOrder}
use Rattle.br_engine.proofs.BackLaws.{in_places, same_report}
use Rattle.br_engine.proofs.EndLaws.{stops_weaker}

-- ---- the newest copies

-- what is left out of a list passes the test
all_of_filtered : {A : Type 0} → (passes stays : A → Bool) (xs : List A) → ((x : A) → stays x ≡ false → passes x ≡ true)
    → list_all passes (filter stays xs) ≡ list_all passes xs
all_of_filtered passes stays [] out = refl
all_of_filtered passes stays (x ∷ xs) out = go (stays x) refl (all_of_filtered passes stays xs out)
  where
    go : (b : Bool) → stays x ≡ b → list_all passes (filter stays xs) ≡ list_all passes xs
        → list_all passes (cond b (x ∷ filter stays xs) (filter stays xs)) ≡ (passes x && list_all passes xs)
    go true e rest = ap (λ b. passes x && b) rest
    go false e rest = rest ∙ sym (ap (λ b. b && list_all passes xs) (out x e))

-- only files are left out
outdated_is_file : (copies : List Copy) (k : FileKey) (o : Outcome) → is_current copies (copy_of (record { key = k; outcome = o })) ≡ false → is_ok o ≡ true
outdated_is_file copies k (Ok item) e = refl
outdated_is_file copies k (Err f) e = absurd cc

-- of the wanted copies each is a file if it is so of all
copies_are_files : (copies : Copies) (rs : List Restored) → are_files (of_copies copies rs) ≡ are_files rs
unfolding newest
copies_are_files All rs = refl
copies_are_files Newest rs = all_of_filtered (λ (r : Restored). is_ok r.outcome) (is_newest rs) rs (λ r e. outdated_is_file (copies_of rs) r.key r.outcome e)

-- only files conflict
conflicting_is_file : (paths : List (List ℕ)) (k : FileKey) (o : Outcome) → is_free paths (item_of (record { key = k; outcome = o })) ≡ false → is_ok o ≡ true
conflicting_is_file paths k (Ok item) e = refl
conflicting_is_file paths k (Err f) e = absurd cc

apart_are_files : (paths : List (List ℕ)) (rs : List Restored) → are_files (apart_beside paths rs) ≡ are_files rs
apart_are_files paths [] = refl
apart_are_files paths (r ∷ rs) = go (is_free paths (item_of r)) refl (apart_are_files (with_path paths (item_of r)) rs) (apart_are_files paths rs)
  where
    go : (b : Bool) → is_free paths (item_of r) ≡ b → are_files (apart_beside (with_path paths (item_of r)) rs) ≡ are_files rs → are_files (apart_beside paths rs) ≡ are_files rs
        → are_files (cond b (r ∷ apart_beside (with_path paths (item_of r)) rs) (apart_beside paths rs)) ≡ (is_ok r.outcome && are_files rs)
    go true e rest others = ap (λ b. is_ok r.outcome && b) rest
    go false e rest others = others ∙ sym (ap (λ b. b && are_files rs) (conflicting_is_file paths r.key r.outcome e))

kept_are_files : (stops : Stops) (rs : List Restored) → are_files (kept stops rs) ≡ are_files rs
kept_are_files AtFirst rs = refl
kept_are_files Never rs = apart_are_files [] rs

-- so of what is delivered each outcome is a file if it is so of all
delivered_are_files : (wanted : Wanted) (rs : List Restored) → are_files (delivered wanted rs) ≡ are_files rs
delivered_are_files wanted rs = kept_are_files wanted.stops (of_copies wanted.copies rs) ∙ copies_are_files wanted.copies rs

-- ---- what came of a restore

-- what the end says of what is delivered, it says of all
end_of_all : (end : RestoreEnd) (kept rs : List Restored) → are_files kept ≡ are_files rs → EndTells end kept → EndTells end rs
end_of_all AllFiles kept rs same h = sym same ∙ h
end_of_all SomeFaults kept rs same h = sym same ∙ h
end_of_all (Stopped stop) kept rs same h = tt

-- the manifest of all outcomes is written, and those that are wanted are delivered
pub extracts_files : (wanted : Wanted) (over : Said → Type 0) (reports : List Restored → List ℕ → Type 0) (before after : Option (List ℕ)) (had has : InSink)
    (rs kept : List Restored) (done : Extracted) → over (λ expected. expected ≡ Ok rs) → Appends before after (manifest rs)
    → kept ≡ delivered wanted rs → EndsWith had has kept done.end → reports rs done.missing.items
    → done.left.items ≡ left_out wanted rs
    → Extracts wanted over reports before after had has (Ok done)
extracts_files wanted over reports before after had has rs kept done given written is ends told left =
    let same : are_files kept ≡ are_files rs = ap are_files is ∙ delivered_are_files wanted rs in
    (rs, (given, written), end_of_all done.end kept rs same ends.0, subst (λ xs. IsPut had has done.end xs) is ends.1, told, left)

-- The same if the files are like those that are wanted, and are these if they can be given: then the others of all outcomes stay in their
-- places.
pub extracts_like : (wanted : Wanted) (earlier later : Told) (groups : List Group) (names : Option (List Planned)) (counts : List (Option ℕ)) (before after : Option (List ℕ)) (had has : InSink) (os kept : List Restored) (done : Extracted)
    (given : Type 0) → OverVolumes earlier later groups names (λ expected. expected ≡ Ok os)
    → ((volumes : List Volume) → AllStand earlier later (pieces_of groups) volumes → given) → Appends before after (manifest os) → kept ≡ delivered wanted os
    → EndsLike given had has kept done.end → done.missing.items ≡ reported wanted.gaps groups counts os → done.left.items ≡ left_out wanted os
    → Extracts wanted (λ holds. OverVolumes earlier later groups names holds) (λ rs lines. lines ≡ reported wanted.gaps groups counts rs) before after had has (Ok done)
extracts_like wanted earlier later groups names counts before after had has os kept done given made can written is like told left =
    let all = in_places wanted os like.rs (subst (AllZip IsFileLike like.rs) is like.like) in
    extracts_files wanted (λ holds. OverVolumes earlier later groups names holds) (λ rs lines. lines ≡ reported wanted.gaps groups counts rs) before after had has
    all.rs like.rs done (λ volumes stands. made volumes stands ∙ ap Ok (sym (all.same (like.same (can volumes stands) ∙ is))))
    (subst (Appends before after) (sym (same_manifest all.rs os all.like)) written) all.chosen like.ends
    (told ∙ sym (same_report wanted.gaps groups counts all.rs os all.like)) (left ∙ sym all.left)

-- ---- plain restores

-- the end of a restore, or its refusal
abbrev pub ended : Result Extracted ExtractFault → Result RestoreEnd ExtractFault
ended (Ok done) = Ok done.end
ended (Err fault) = Err fault

-- a plain restore delivers all of its files
pub plain_delivers : (over : Said → Type 0) (reports : List Restored → List ℕ → Type 0) (before after : Option (List ℕ)) (had has : InSink) (result : Result Extracted ExtractFault)
    → Extracts plain over reports before after had has result → Delivers over before after had has (ended result)
plain_delivers over reports before after had has (Ok done) h = (h.0, h.1, (h.2, h.3))
plain_delivers over reports before after had has (Err fault) h = h

-- what is restored by a plain order is what its bootstrap gives, and nothing is reported
pub by_plain_order : (order : RestoreOrder) (seen : Change) (result : Result Extracted ExtractFault) (groups : List Group) (names : Option Names)
    → order.asked.bootstrap.now ≡ groups → order.names ≡ names → order.wanted ≡ plain → Restores order seen result
    → Extracts plain (λ holds. OverVolumes seen.old.told seen.new.told groups (option_map planned_in names) holds) (λ rs lines. lines ≡ []) seen.old.written seen.new.written
    seen.old.has seen.new.has result
by_plain_order order seen result groups names asked named wanted h =
    let over : Option Names → List Group → (Said → Type 0) = λ ns gs holds. OverVolumes seen.old.told seen.new.told gs (option_map planned_in ns) holds in
    let counts = order.asked.counts.now in
    subst (λ (gs : List Group). Extracts plain (over names gs) (λ rs lines. lines ≡ []) seen.old.written seen.new.written seen.old.has seen.new.has result) asked
    (subst (λ (ns : Option Names). Extracts plain (over ns order.asked.bootstrap.now) (λ rs lines. lines ≡ []) seen.old.written seen.new.written seen.old.has seen.new.has result) named
    (subst (λ (w : Wanted). Extracts w (over order.names order.asked.bootstrap.now) (λ rs lines. lines ≡ reported w.gaps order.asked.bootstrap.now counts rs) seen.old.written seen.new.written
    seen.old.has seen.new.has result) wanted h))

-- what is restored by an order without names is what its bootstrap gives
pub by_order : (order : RestoreOrder) (seen : Change) (result : Result Extracted ExtractFault) (groups : List Group) (counts : List (Option ℕ))
    → order.asked.bootstrap.now ≡ groups → order.asked.counts.now ≡ counts → order.names ≡ None → Restores order seen result
    → Extracts order.wanted (λ holds. OverVolumes seen.old.told seen.new.told groups None holds) (λ rs lines. lines ≡ reported order.wanted.gaps groups counts rs)
    seen.old.written seen.new.written seen.old.has seen.new.has result
by_order order seen result groups counts asked counted named h =
    let extracts : Option (List Planned) → List Group → List (Option ℕ) → Type 0 = λ names gs cs.
    Extracts order.wanted (λ holds. OverVolumes seen.old.told seen.new.told gs names holds) (λ rs lines. lines ≡ reported order.wanted.gaps gs cs rs) seen.old.written
    seen.new.written seen.old.has seen.new.has result in
    subst (λ (gs : List Group). extracts None gs counts) asked
    (subst (λ (cs : List (Option ℕ)). extracts None order.asked.bootstrap.now cs) counted
    (subst (λ (ns : Option Names). extracts (option_map planned_in ns) order.asked.bootstrap.now order.asked.counts.now) named h))

-- ---- over what the bootstrap of a text gives

-- of a text that reads as what a reader had left, if this is known
pub text_restores : (known : Option (List ℕ)) (earlier later : Told) (before after : Option (List ℕ)) (had has : InSink) (text : List ℕ) (groups : List Group)
    (reports : List Restored → List ℕ → Type 0) (result : Result Extracted ExtractFault) → ReadsAs text known → read_bootstrap text ≡ Ok groups
    → Extracts plain (λ holds. OverVolumes earlier later groups None holds) reports before after had has result
    → Extracts plain (λ holds. OverText known earlier later holds) reports before after had has result
text_restores known earlier later before after had has text groups reports (Ok done) alike read h =
    (h.0, (over_read known earlier later text groups (λ expected. expected ≡ Ok h.0) alike read h.1.0, h.1.1), h.2, h.3, h.4, h.5)
text_restores known earlier later before after had has text groups reports (Err fault) alike read h =
    (over_read known earlier later text groups (λ expected. IsRefusal (cause fault) expected) alike read h.0, h.1, h.2)

-- so are the outcomes of its files
pub text_wanted : (known : Option (List ℕ)) (earlier later : Told) (text : List ℕ) (groups : List Group) (order : RestoreOrder) (result : Result Extracted ExtractFault)
    → ReadsAs text known → read_bootstrap text ≡ Ok groups → order.asked.bootstrap.now ≡ groups → order.names ≡ None → order.wanted ≡ plain
    → AreWanted order.wanted (λ holds. OverVolumes earlier later order.asked.bootstrap.now (option_map planned_in order.names) holds) result
    → AreWanted plain (λ holds. OverText known earlier later holds) result
text_wanted known earlier later text groups order (Ok done) alike read asked named wanted h =
    let says : Wanted → Said = λ w expected. IfOk expected (λ rs. map restored done.outcomes.items ≡ delivered w rs) in
    let over : Wanted → Option Names → List Group → Type 0 = λ w names gs. OverVolumes earlier later gs (option_map planned_in names) (says w) in
    over_read known earlier later text groups (says plain) alike read
    (subst (over plain None) asked (subst (λ (ns : Option Names). over plain ns order.asked.bootstrap.now) named
    (subst (λ (w : Wanted). over w order.names order.asked.bootstrap.now) wanted h)))
text_wanted known earlier later text groups order (Err fault) alike read asked named wanted h = tt

-- ---- a volume that was changed

-- what follows from that
pub changed_weaker : (claim more : Type 0) (result : Result Extracted ExtractFault) → (claim → more) → OnlyIfChanged claim result → OnlyIfChanged more result
changed_weaker claim more (Ok done) so only = stops_weaker 72 claim more done.end so only
changed_weaker claim more (Err why) so only = λ is. so (only is)
