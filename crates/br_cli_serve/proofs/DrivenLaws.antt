-- Restores by drives over memory.
use Rattle.std.proofs.Common.{◌≡◌, refl, ap, subst, ◌∙◌, ℕ, true, List, [], length, map, replicate, Option, Some, None, Result, Ok, Err}
use Rattle.std.specs.Prelude.{option_map}
use Rattle.std.specs.List.{list_all}
use Rattle.std.proofs.KnownBytes.{Keeps-refl}
use Rattle.br_model.specs.Answer.{IsRefusal}
use Rattle.br_model.specs.Volume.{Volume}
use Rattle.br_model.specs.Bootstrap.{Group}
use Rattle.br_model.specs.BootstrapText.{is_group}
use Rattle.br_model.specs.Restored.{Planned, planned_in}
use Rattle.br_pool.specs.Pool.{StayInPlace}
use Rattle.br_engine.specs.Extracting.{OverVolumes, Said}
use Rattle.br_engine.specs.Delivering.{Delivers}
use Rattle.br_engine.specs.Fault.{cause}
use Rattle.br_engine.specs.Outputs.{InSink}
use Rattle.br_engine.specs.Restores.{Change, Restores}
use Rattle.br_engine.specs.Restoring.{Told}
use Rattle.br_engine.specs.WantedOutcomes.{plain}
use Rattle.br_engine.specs.declared.extracted.Extracted.{Extracted}
use Rattle.br_engine.specs.declared.restore_order.RestoreOrder.{RestoreOrder}
use Rattle.br_engine.specs.declared.restore_end.RestoreEnd.{RestoreEnd}
use Rattle.br_engine.specs.declared.restore_end.RestoreEnd.TheVariants.{AllFiles, SomeFaults, Stopped}
use Rattle.br_engine.specs.declared.fault.ExtractFault.{ExtractFault}
use Rattle.br_engine.specs.declared.fault.ExtractFault.TheVariants.{Memory}
use Rattle.br_engine.proofs.RestoreLaws.{by_plain_order, ended, plain_delivers}
use Rattle.br_cli_serve.specs.DriveCount.{EachShows}
use Rattle.br_cli_serve.specs.FixedDrive.{with_inventory}
use Rattle.br_cli_serve.specs.DrivenRestoring.{IsRestored, RestoredBy, RestoresWanted}
use Rattle.br_cli_serve.specs.declared.driven_store.DrivenRestore.{DrivenRestore}
use Rattle.br_cli_serve.specs.declared.fixed_drive.FixedDrive.{FixedDrive}
use Rattle.br_cli_serve.proofs.FixedLaws.{never_fails, over_fixed, show_alike, show_same, shown_fixed}

-- a plain restore by drives
pub driven : (wanted : DrivenRestore) (order : RestoreOrder) (seen : Change) (result : Result Extracted ExtractFault) → order.asked.bootstrap.now ≡ wanted.bootstrap.now
    → order.names ≡ wanted.names → order.wanted ≡ plain → Restores order seen result → RestoredBy wanted seen (ended result)
driven wanted order seen result asked named is h = record {
  delivers =
      plain_delivers (λ holds. OverVolumes seen.old.told seen.new.told wanted.bootstrap.now (option_map planned_in wanted.names) holds) (λ rs lines. lines ≡ [])
      seen.old.written seen.new.written seen.old.has seen.new.has result
      (by_plain_order order seen result wanted.bootstrap.now wanted.names asked named is h);
}

-- ---- a restore without a sink

-- a sink that is not there is not there afterwards
pub no_sink : (over : Said → Type 0) (before after : Option (List ℕ)) (has : InSink) (result : Result RestoreEnd ExtractFault) → Delivers over before after None has result
    → Delivers over before after None None result
no_sink over before after None result h = h
no_sink over before after (Some has) (Ok AllFiles) h = absurd h.2.1
no_sink over before after (Some has) (Ok SomeFaults) h = absurd h.2.1
no_sink over before after (Some has) (Ok (Stopped stop)) h = absurd h.2.1
no_sink over before after (Some has) (Err fault) h = (h.0, h.1, refl)

-- what holds over some volumes is delivered as what it implies
delivers_more : (over more : Said → Type 0) → ((holds : Said) → over holds → more holds) → (before after : Option (List ℕ)) (had has : InSink)
    (result : Result RestoreEnd ExtractFault) → Delivers over before after had has result → Delivers more before after had has result
delivers_more over more implied before after had has (Ok end) h = (h.0, (implied (λ expected. expected ≡ Ok h.0) h.1.0, h.1.1), h.2)
delivers_more over more implied before after had has (Err fault) h = (implied (λ expected. IsRefusal (cause fault) expected) h.0, h.1, h.2)

-- the same over what drives are known to show
pub over_known : (earlier later shown : Told) (groups : List Group) (names : Option (List Planned)) (before after : Option (List ℕ)) (had has : InSink)
    (result : Result RestoreEnd ExtractFault) → earlier ≡ shown → later ≡ shown
    → Delivers (λ holds. OverVolumes earlier later groups names holds) before after had has result
    → Delivers (λ holds. OverVolumes shown shown groups names holds) before after had has result
over_known earlier later shown groups names before after had has result first last h =
    let delivers : Told → Told → Type 0 = λ t u. Delivers (λ holds. OverVolumes t u groups names holds) before after had has result in
    subst (λ (u : Told). delivers shown u) last (subst (λ (t : Told). delivers t later) first h)

-- ---- a restore by drives over volumes that do not change

pub shown_restored : (volumes : List Volume) (wanted : DrivenRestore) (drives later : List FixedDrive) (before after : Option (List ℕ)) (has : InSink)
    (result : Result RestoreEnd ExtractFault) → list_all is_group wanted.bootstrap.now ≡ true → length drives ≡ wanted.drives → EachShows volumes drives
    → StayInPlace shown_fixed never_fails drives later
    → RestoredBy wanted (record {
      old = record { told = map shown_fixed drives; written = before; has = None };
      new = record { told = map shown_fixed later; written = after; has = has };
    }) result
    → RestoresWanted (Some volumes) wanted before after result
shown_restored volumes wanted drives later before after has result valid many each stay by =
    let n = wanted.drives in
    let groups = wanted.bootstrap.now in
    let names = option_map planned_in wanted.names in
    let shown : Told = replicate n (Some (with_inventory volumes)) in
    let first : map shown_fixed drives ≡ shown = show_alike volumes drives each ∙ ap (λ (k : ℕ). replicate k (Some (with_inventory volumes))) many in
    record {
      delivers =
          delivers_more (λ holds. OverVolumes shown shown groups names holds) (λ holds. OverVolumes (replicate n (Some volumes)) (replicate n (Some volumes)) groups names holds)
          (over_fixed n volumes groups names valid) before after None None result
          (over_known (map shown_fixed drives) (map shown_fixed later) shown groups names before after None None result first (show_same drives later stay ∙ first)
          (no_sink (λ holds. OverVolumes (map shown_fixed drives) (map shown_fixed later) groups names holds) before after has result by.delivers));
    }

-- memory ran out for the drives
pub no_drives : (volumes : Option (List Volume)) (count : ℕ) (groups : List Group) (names : Option (List Planned)) (known : Option (List ℕ))
    → IsRestored volumes count groups names known known (Err Memory)
no_drives volumes count groups names known = record { delivers = ((λ over stands. tt), Keeps-refl known, refl) }
