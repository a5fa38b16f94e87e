use Rattle.std.proofs.Common.{◌≡◌, List, map, Result, ap, subst, sym, ◌∙◌}
use Rattle.std.specs.List.{AllZip}
use Rattle.std.specs.Prelude.{IfOk, option_map}
use Rattle.std.proofs.KnownBytes.{Keeps-refl}
use Rattle.std.specs.Io.KnownBytes.{Appends}
use Rattle.std.proofs.lemmas.Result.{err_from_is_err_and}
use Rattle.br_model.specs.Bootstrap.{Group}
use Rattle.br_model.specs.Manifest.{manifest}
use Rattle.br_model.specs.Meaning.{pieces_of}
use Rattle.br_model.specs.Name.{FileKey}
use Rattle.br_model.specs.Restored.{Restored, planned_in}
use Rattle.br_model.specs.Volume.{Volume}
use Rattle.br_join.specs.Outcome.{restored}
use Rattle.br_join.specs.declared.item.Outcome.{Outcome}
use Rattle.br_engine.specs.DeliveredAgain.{CanGive, EndsLike, IsFileLike}
use Rattle.br_engine.specs.Restores.{IsStopPath}
use Rattle.br_engine.specs.Restoring.{AllStand, Outcomes}
use Rattle.br_engine.specs.declared.fault.ExtractFault.TheVariants.{Memory}
use Rattle.br_engine.specs.Outputs.{StopsOnlyIf}
use Rattle.br_engine.proofs.AgainLaws.{fail_later, nothing_written, only_grow, stand_midst, stay_on}
use Rattle.br_engine.proofs.DeliverLaws.{delivers_refused, free_is_no_change, free_is_no_drive, free_is_no_line, gives_free}
use Rattle.br_engine.proofs.EndLaws.{stops_weaker}
use Rattle.br_engine.specs.Fault.{Refusal}
use Rattle.br_engine.specs.WantedOutcomes.{delivered, left_by}
use Rattle.br_engine.specs.declared.extracted.Extracted.{Extracted}
use Rattle.br_engine.proofs.BackLaws.{gives_delivered}
use Rattle.br_engine.proofs.RestoreLaws.{extracts_like}
use Rattle.br_engine.proofs.restore.Restore.run.Goals as goal

-- ---- nothing is restored

pub returns-in_err-made-clause-restores : goal.returns-in_err-made-clause-restores
returns-in_err-made-clause-restores g c =
    let p = err_from_is_err_and c.from_residual.result c.from_residual.ensures.1 in
    let before = g.W.Write.contents c.args.writer.now in
    let fault = c.in_err-made.field-0.0 in
    rw (p.1, p.2)
    (delivers_refused (map g.D.Drive.shows c.args.self.now.drives.items) (map g.D.Drive.shows c.restore_within.new.drives.items) c.args.order.asked.bootstrap.now (option_map planned_in c.args.order.names) before before
    (option_map g.S.Sink.has c.args.self.now.sink) fault c.in_err-made.ensures.files (nothing_written before fault))

pub returns-in_err-made-clause-changed : goal.returns-in_err-made-clause-changed
returns-in_err-made-clause-changed g c =
    let p = err_from_is_err_and c.from_residual.result c.from_residual.ensures.1 in rw (p.1, p.2) c.in_err-made.ensures.changed

-- ---- memory runs out before the manifest

pub returns-in_err-prepared-clause-restores : goal.returns-in_err-prepared-clause-restores
returns-in_err-prepared-clause-restores g c =
    let p = err_from_is_err_and c.from_residual-in_err-prepared.result c.from_residual-in_err-prepared.ensures.1 in
    let earlier = map g.D.Drive.shows c.args.self.now.drives.items in
    let later = map g.D.Drive.shows c.restore_within.new.drives.items in
    let groups = c.args.order.asked.bootstrap.now in
    let names = option_map planned_in c.args.order.names in
    let before = g.W.Write.contents c.args.writer.now in
    rw (p.1, p.2)
    (delivers_refused earlier later groups names before before (option_map g.S.Sink.has c.args.self.now.sink) Memory
    (gives_free earlier later groups names Memory tt) (Keeps-refl before))

-- ---- the manifest is not written

pub returns-in_err-write_manifest-clause-restores : goal.returns-in_err-write_manifest-clause-restores
returns-in_err-write_manifest-clause-restores g c =
    let p = err_from_is_err_and c.from_residual-in_err-write_manifest.result c.from_residual-in_err-write_manifest.ensures.1 in
    let earlier = map g.D.Drive.shows c.args.self.now.drives.items in
    let later = map g.D.Drive.shows c.restore_within.new.drives.items in
    let groups = c.args.order.asked.bootstrap.now in
    let names = option_map planned_in c.args.order.names in
    let fault = c.in_err-write_manifest.field-0.0 in
    rw (p.1, p.2)
    (delivers_refused earlier later groups names (g.W.Write.contents c.args.writer.now) (g.W.Write.contents c.write_manifest.new.writer) (option_map g.S.Sink.has c.args.self.now.sink) fault
    (gives_free earlier later groups names fault c.in_err-write_manifest.ensures.free) c.in_err-write_manifest.ensures.nothing)

pub returns-in_err-write_manifest-clause-driven : goal.returns-in_err-write_manifest-clause-driven
returns-in_err-write_manifest-clause-driven g c =
    let p = err_from_is_err_and c.from_residual-in_err-write_manifest.result c.from_residual-in_err-write_manifest.ensures.1 in
    rw (p.1, p.2) (free_is_no_line c.in_err-write_manifest.field-0.0 c.in_err-write_manifest.ensures.free)

pub returns-in_err-write_manifest-clause-failed : goal.returns-in_err-write_manifest-clause-failed
returns-in_err-write_manifest-clause-failed g c =
    let p = err_from_is_err_and c.from_residual-in_err-write_manifest.result c.from_residual-in_err-write_manifest.ensures.1 in
    rw (p.1, p.2) (λ is. absurd (free_is_no_drive c.in_err-write_manifest.field-0.0 c.in_err-write_manifest.ensures.free is))

pub returns-in_err-write_manifest-clause-changed : goal.returns-in_err-write_manifest-clause-changed
returns-in_err-write_manifest-clause-changed g c =
    let p = err_from_is_err_and c.from_residual-in_err-write_manifest.result c.from_residual-in_err-write_manifest.ensures.1 in
    rw (p.1, p.2) (λ is. absurd (free_is_no_change c.in_err-write_manifest.field-0.0 c.in_err-write_manifest.ensures.free is))

-- ---- the files are restored

pub returns-clause-restores : goal.returns-clause-restores
returns-clause-restores g c =
    let shows = g.D.Drive.shows in
    let failures = g.D.Drive.failures in
    let first = c.args.self.now.drives.items in
    let second = c.restore_within.new.drives.items in
    let third = c.deliver_made-end.new.drives.items in
    let groups = c.args.order.asked.bootstrap.now in
    let names = option_map planned_in c.args.order.names in
    let before = g.W.Write.contents c.args.writer.now in
    let after = g.W.Write.contents c.write_manifest.new.writer in
    let had = option_map g.S.Sink.has c.args.self.now.sink in
    let has = option_map g.S.Sink.has c.deliver_made-end.new.sink in
    let made = c.in_ok-made.made in
    let prepared = c.in_ok-prepared.prepared in
    let os = map restored made.outcomes.items in
    let kept = map restored (left_by prepared.flags made.outcomes.items) in
    let wanted : kept ≡ _ = rw c.deref.ensures.value at c.in_ok-prepared.ensures.flags in
    let given = CanGive shows failures second groups made.gathered kept in
    let midst : (volumes : List Volume) → AllStand (map shows first) (map shows third) (pieces_of groups) volumes
    → AllStand (map shows first) (map shows second) (pieces_of groups) volumes = λ volumes stands.
    stand_midst (pieces_of groups) volumes (map shows first) (map shows second) (map shows third) stands
    (only_grow shows failures first second c.in_ok-made.ensures.places) (only_grow shows failures second third c.deliver_made-end.ensures.places) in
    let done : Extracted = record { end = c.deliver_made-end.result; missing = prepared.missing; left = prepared.left; stopped_at = c.path_at_stop-stopped_at.result; outcomes = c.replace-outcomes.result } in
    extracts_like c.args.order.wanted (map shows first) (map shows third) groups names c.args.order.asked.counts.now before after had has os kept done given
    (λ volumes stands. c.in_ok-made.ensures.files volumes (midst volumes stands))
    (λ volumes stands. gives_delivered shows failures second groups made.gathered c.args.order.wanted os kept wanted (c.in_ok-made.ensures.again volumes (midst volumes stands)))
    (subst (λ os. Appends before after (manifest (map restored os))) c.deref-2.ensures.value c.in_ok-write_manifest.ensures.written)
    wanted
    (subst (λ (gs : List Group). EndsLike (CanGive shows failures second gs made.gathered kept) had has kept c.deliver_made-end.result) c.groups-groups.ensures.same
    (subst (λ os. EndsLike (CanGive shows failures second c.groups-groups.result.now made.gathered (map restored os)) had has (map restored os) c.deliver_made-end.result) c.keep_delivered.ensures
    c.deliver_made-end.ensures.ends))
    (rw c.deref.ensures.value at c.in_ok-prepared.ensures.missing) (rw c.deref.ensures.value at c.in_ok-prepared.ensures.left)

pub returns-clause-wanted : goal.returns-clause-wanted
returns-clause-wanted g c =
    let shows = g.D.Drive.shows in
    let failures = g.D.Drive.failures in
    let first = c.args.self.now.drives.items in
    let second = c.restore_within.new.drives.items in
    let third = c.deliver_made-end.new.drives.items in
    let groups = c.args.order.asked.bootstrap.now in
    let made = c.in_ok-made.made in
    let os = map restored made.outcomes.items in
    let kept = map restored (left_by c.in_ok-prepared.prepared.flags made.outcomes.items) in
    let wanted : kept ≡ delivered c.args.order.wanted os = rw c.deref.ensures.value at c.in_ok-prepared.ensures.flags in
    let told : map restored c.replace-outcomes.result.items ≡ delivered c.args.order.wanted os =
    ap (λ (it : Outcomes). map restored it.items) c.replace-outcomes.ensures.value ∙ ap (λ (it : List (FileKey × Outcome)). map restored it) c.keep_delivered.ensures ∙ wanted in
    λ volumes stands.
    let midst = stand_midst (pieces_of groups) volumes (map shows first) (map shows second) (map shows third) stands
    (only_grow shows failures first second c.in_ok-made.ensures.places) (only_grow shows failures second third c.deliver_made-end.ensures.places) in
    subst (λ (expected : Result (List Restored) Refusal). IfOk expected (λ rs. map restored c.replace-outcomes.result.items ≡ delivered c.args.order.wanted rs))
    (sym (c.in_ok-made.ensures.files volumes midst)) told

pub returns-clause-outcomes : goal.returns-clause-outcomes
returns-clause-outcomes g c =
    let ends = c.deliver_made-end.ensures.ends in (
      ends.rs,
      subst (λ (os : Outcomes). AllZip IsFileLike ends.rs (map restored os.items)) (sym c.replace-outcomes.ensures.value) ends.like,
      ends.ends.1,
    )

pub returns-clause-stopped_at : goal.returns-clause-stopped_at
returns-clause-stopped_at g c =
    let end = c.deliver_made-end.result in
    let path = c.path_at_stop-stopped_at.result in
    subst (λ (os : Outcomes). IsStopPath os.items end path) (sym c.replace-outcomes.ensures.value)
    (subst (λ (os : List (FileKey × Outcome)). IsStopPath os end path) c.deref-3.ensures.value c.path_at_stop-stopped_at.ensures)

pub returns-clause-changed : goal.returns-clause-changed
returns-clause-changed g c =
    let shows = g.D.Drive.shows in
    let failures = g.D.Drive.failures in
    let first = c.args.self.now.drives.items in
    let second = c.restore_within.new.drives.items in
    let third = c.deliver_made-end.new.drives.items in
    let groups = c.args.order.asked.bootstrap.now in
    let made = c.in_ok-made.made in
    let os = map restored made.outcomes.items in
    let kept = map restored (left_by c.in_ok-prepared.prepared.flags made.outcomes.items) in
    let wanted : kept ≡ _ = rw c.deref.ensures.value at c.in_ok-prepared.ensures.flags in
    let end = c.deliver_made-end.result in
    stops_weaker 72 _ _ end
    (λ none volumes stands.
    let midst = stand_midst (pieces_of groups) volumes (map shows first) (map shows second) (map shows third) stands
    (only_grow shows failures first second c.in_ok-made.ensures.places) (only_grow shows failures second third c.deliver_made-end.ensures.places) in
    none (gives_delivered shows failures second groups made.gathered c.args.order.wanted os kept wanted (c.in_ok-made.ensures.again volumes midst)))
    (subst (λ (gs : List Group). StopsOnlyIf 72 (CanGive shows failures second gs made.gathered kept → ⊥) end) c.groups-groups.ensures.same
    (subst (λ os. StopsOnlyIf 72 (CanGive shows failures second c.groups-groups.result.now made.gathered (map restored os) → ⊥) end) c.keep_delivered.ensures
    c.deliver_made-end.ensures.changed))

pub returns-clause-lost : goal.returns-clause-lost
returns-clause-lost g c =
    let first = c.args.self.now.drives.items in
    let second = c.restore_within.new.drives.items in
    let third = c.deliver_made-end.new.drives.items in
    stops_weaker 70 _ _ c.deliver_made-end.result (fail_later g.D.Drive.shows g.D.Drive.failures first second third c.in_ok-made.ensures.places) c.deliver_made-end.ensures.lost

pub returns-clause-places : goal.returns-clause-places
returns-clause-places g c =
    stay_on g.D.Drive.shows g.D.Drive.failures c.args.self.now.drives.items c.restore_within.new.drives.items c.deliver_made-end.new.drives.items c.in_ok-made.ensures.places
    c.deliver_made-end.ensures.places
