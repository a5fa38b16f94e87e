use Rattle.std.proofs.Common.{◌≡◌, ℕ, ◌+◌, List, [], ◌∷◌, ◌++◌, take, drop, length, refl, ap, sym, subst, ◌∙◌, arith, append-nil, append_assoc, length-append, true, false, Err}
use Rattle.br_model.specs.Delivery.{Stop}
use Rattle.br_model.specs.File.{Item, has_bytes}
use Rattle.br_sink.specs.Delivery.{IsStopBelow, items_in}
use Rattle.br_sink.specs.Fault.{fault_number}
use Rattle.br_sink.proofs.DeliveryLaws.{items_at, items_file, items_fault, items_one_more, one_stops, fault_at_80}
use Rattle.br_sink_folder.specs.Below.{AddsFolders, KeepsOutside}
use Rattle.br_sink_folder.proofs.BelowLaws.{outside_same}
use Rattle.br_sink_folder.specs.Removed.{ChangesOne, GivesUp}
use Rattle.br_sink_folder.specs.Resuming.{KeepsWhole, PutsLike}
use Rattle.br_sink_folder.specs.There.{IsThere}
use Rattle.br_sink_folder.specs.Way.{MakesFolder}
use Rattle.br_sink_folder.proofs.WayLaws.{folders_more, stay_like}
use Rattle.br_sink_folder.proofs.LikeLaws.{after_like, keeps_more, keeps_nothing, keeps_rest, leaves_more, leaves_none, outside_both, stops_like}
use Rattle.br_sink_folder.proofs.resumed_delivery.put_each.Goals as goal
use Rattle.br_sink_folder.proofs.resumed_delivery.put_each.Goals.{in-File+in_default-put_missing, in_default}

pub returns-in-Err-clause-stopped : goal.returns-in-Err-clause-stopped
returns-in-Err-clause-stopped g c =
    let os = c.args.outcomes.now in
    let i : ℕ = c.loop-outcome.outcome-index in
    let before : List Item = items_in (take i os) in
    let around = items_at os i c.loop-outcome-item.result c.in-File.item c.loop-outcome-test.true c.loop-outcome-item.is c.in-File.is in
    let same : c.of_sink.result ≡ record { number = fault_number c.in-Err.fault; done = length before } =
    c.of_sink.ensures ∙ ap (λ (n : ℕ). record { number = fault_number c.in-Err.fault; done = n }) c.loop-outcome.invariant.done in
    subst (IsStopBelow (length (items_in os))) (sym same) (one_stops (items_in os) before (items_in (drop (i + 1) os)) c.in-File.item c.in-Err.fault around)

pub returns-in-Err-clause-failed : goal.returns-in-Err-clause-failed
returns-in-Err-clause-failed g c = λ eighty.
    let fault = fault_at_80 c.in-Err.fault (sym (ap (λ (stop : Stop). stop.number) c.of_sink.ensures) ∙ eighty) in
    let a = c.loop-outcome.invariant.counted in
    let b = c.put_missing.ensures.failed (c.in-Err.is ∙ ap Err fault) in
    omega (arith, a, b)

pub returns-in-Err-clause-outside : goal.returns-in-Err-clause-outside
returns-in-Err-clause-outside g c =
    let l = c.loop-outcome.invariant in
    let before = c.loop-outcome.sink.nodes in
    let after = c.put_missing.new.sink.nodes in
    outside_both c.args.sink.now.path c.args.sink.now.nodes before after l.outside
    (subst (λ (p : List ℕ). KeepsOutside p before after) l.path c.put_missing.ensures.outside)

pub returns-in-Err-clause-before : goal.returns-in-Err-clause-before
returns-in-Err-clause-before g c =
    let os = c.args.outcomes.now in
    let i : ℕ = c.loop-outcome.outcome-index in
    let l = c.loop-outcome.invariant in
    let item : Item = c.in-File.item in
    let around = items_at os i c.loop-outcome-item.result item c.loop-outcome-test.true c.loop-outcome-item.is c.in-File.is in
    let middle = c.loop-outcome.sink.nodes in
    let after = c.put_missing.new.sink.nodes in
    stops_like c.args.sink.now.path (items_in os) (items_in (take i os)) (items_in (drop (i + 1) os)) item c.of_sink.result c.args.sink.now.nodes middle after
    around (ap (λ (stop : Stop). stop.done) c.of_sink.ensures ∙ l.done) l.files
    (subst (λ (p : List ℕ). ChangesOne p (p ++ item.path) middle after) l.path c.put_missing.ensures.rest)

pub returns-in-Err-clause-after : goal.returns-in-Err-clause-after
returns-in-Err-clause-after g c =
    let os = c.args.outcomes.now in
    let i : ℕ = c.loop-outcome.outcome-index in
    let l = c.loop-outcome.invariant in
    let item : Item = c.in-File.item in
    let around = items_at os i c.loop-outcome-item.result item c.loop-outcome-test.true c.loop-outcome-item.is c.in-File.is in
    let refused = g.M.Remover.is_refused in
    let middle = c.loop-outcome.sink.nodes in
    let after = c.put_missing.new.sink.nodes in
    after_like refused (items_in os) (items_in (take i os)) (items_in (drop (i + 1) os)) item c.of_sink.result c.args.sink.now c.put_missing.new.sink middle
    around (ap (λ (stop : Stop). stop.done) c.of_sink.ensures ∙ l.done) l.files
    (subst (λ (p : List ℕ). ChangesOne p (p ++ item.path) middle after) l.path c.put_missing.ensures.rest)
    (subst (λ (p : List ℕ). GivesUp refused p item.path middle after) l.path c.in-Err.ensures.removed)

pub returns-in-Err-clause-stays : goal.returns-in-Err-clause-stays
returns-in-Err-clause-stays g c =
    let os = c.args.outcomes.now in
    let i : ℕ = c.loop-outcome.outcome-index in
    let l = c.loop-outcome.invariant in
    let item : Item = c.in-File.item in
    let root : List ℕ = c.args.sink.now.path in
    let first = c.args.sink.now.nodes in
    let before : List Item = items_in (take i os) in
    let rest : List Item = items_in (drop (i + 1) os) in
    let around = items_at os i c.loop-outcome-item.result item c.loop-outcome-test.true c.loop-outcome-item.is c.in-File.is in
    let joined : (before ++ item ∷ []) ++ rest ≡ items_in os = append_assoc before (item ∷ []) rest ∙ sym around in
    let middle = c.loop-outcome.sink.nodes in
    let after = c.put_missing.new.sink.nodes in
    let put = c.put_missing.ensures in
    subst (λ (items : List Item). KeepsWhole root items first after) joined
    (keeps_rest root (before ++ item ∷ []) rest first after
    (keeps_more root before item first middle after l.stays
    (subst (λ (p : List ℕ). has_bytes item.kind ≡ true → IsThere p item middle → AddsFolders p middle after) l.path put.stays)
    (subst (λ (p : List ℕ). has_bytes item.kind ≡ false → AddsFolders p middle after) l.path put.folders)
    (subst (λ (p : List ℕ). ChangesOne p (p ++ item.path) middle after) l.path put.rest)))

pub loop-outcome-init : goal.loop-outcome-init
loop-outcome-init g c = record {
  done = refl;
  few = omega arith;
  counted = omega arith;
  path = refl;
  files = leaves_none c.args.sink.now.path c.args.sink.now.nodes;
  folders = tt;
  stays = keeps_nothing c.args.sink.now.path c.args.sink.now.nodes;
  outside = outside_same c.args.sink.now.path c.args.sink.now.nodes c.args.sink.now.nodes refl;
}

pub loop-outcome-preserved : goal.loop-outcome-preserved
loop-outcome-preserved g c =
    let os = c.args.outcomes.now in
    let i : ℕ = c.loop-outcome.outcome-index in
    let o = c.loop-outcome-item.result in
    let l = c.loop-outcome.invariant in
    let root : List ℕ = c.args.sink.now.path in
    let first = c.args.sink.now.nodes in
    let before : List Item = items_in (take i os) in
    let one_more : items_in (take (i + 1) os) ≡ before ++ items_in (o ∷ []) = items_one_more os i o c.loop-outcome-test.true (sym c.loop-outcome-item.is) in
    elim c.match-outcome.branch [
      | in-File+in_default-put_missing w ↦
          let item : Item = w.in-File.item in
          let put = w.put_missing.ensures in
          let middle = c.loop-outcome.sink.nodes in
          let nodes = w.put_missing.new.sink.nodes in
          let like : PutsLike root item middle nodes =
          subst (λ (p : List ℕ). PutsLike p item middle nodes) l.path w.in_default-put_missing.ensures.file in
          let without = λ (none : has_bytes item.kind ≡ false). subst (λ (p : List ℕ). AddsFolders p middle nodes) l.path (put.folders none) in
          let more : items_in (take (i + 1) os) ≡ before ++ item ∷ [] = one_more ∙ ap (λ (is : List Item). before ++ is) (items_file o item w.in-File.is) in
          let longer : length (items_in (take (i + 1) os)) ≡ length before + 1 = ap length more ∙ length-append before (item ∷ []) in
          record {
            done = omega (arith, longer, l.done, w.done-is);
            few = omega (arith, l.few, w.done-is);
            counted = rw w.sink-is (let a = l.counted in let b = put.counted in omega (arith, a, b));
            path = rw w.sink-is (put.path ∙ l.path);
            files =
                rw (more, w.sink-is) (leaves_more root before item first middle nodes l.files like without);
            folders =
                rw (more, w.sink-is)
                (folders_more root before item middle nodes l.folders (stay_like root item middle nodes like without)
                (subst (λ (p : List ℕ). MakesFolder p item nodes) l.path w.in_default-put_missing.ensures.folder));
            stays =
                rw (more, w.sink-is)
                (keeps_more root before item first c.loop-outcome.sink.nodes nodes l.stays
                (subst (λ (p : List ℕ). has_bytes item.kind ≡ true → IsThere p item c.loop-outcome.sink.nodes → AddsFolders p c.loop-outcome.sink.nodes nodes) l.path put.stays)
                (subst (λ (p : List ℕ). has_bytes item.kind ≡ false → AddsFolders p c.loop-outcome.sink.nodes nodes) l.path put.folders)
                (subst (λ (p : List ℕ). ChangesOne p (p ++ item.path) c.loop-outcome.sink.nodes nodes) l.path put.rest));
            outside =
                rw w.sink-is
                (outside_both root first c.loop-outcome.sink.nodes nodes l.outside
                (subst (λ (p : List ℕ). KeepsOutside p c.loop-outcome.sink.nodes nodes) l.path put.outside));
          }
      | in_default w ↦
          let same : items_in (take (i + 1) os) ≡ before =
          one_more ∙ ap (λ (is : List Item). before ++ is) (items_fault o w.in_default.field-0 w.in_default.field-1 w.in_default.is) ∙ append-nil before in
          record {
            done = w.done-is ∙ l.done ∙ sym (ap length same);
            few = omega (arith, l.few, w.done-is);
            counted = rw w.sink-is l.counted;
            path = rw w.sink-is l.path;
            files = rw (same, w.sink-is) l.files;
            folders = rw (same, w.sink-is) l.folders;
            stays = rw (same, w.sink-is) l.stays;
            outside = rw w.sink-is l.outside;
          }
    ]
