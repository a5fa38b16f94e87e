use Rattle.std.proofs.Common.{◌≡◌, ℕ, ◌+◌, List, [], ◌∷◌, ◌++◌, take, drop, length, ap, sym, subst, ◌∙◌, refl, arith, append-nil, length-append, All}
use Rattle.std.proofs.lemmas.List.{take_all}
use Rattle.std.proofs.lemmas.Result.{err_from_is_err_and}
use Rattle.br_model.specs.File.{Item}
use Rattle.br_sink.specs.Delivery.{items_in}
use Rattle.std.proofs.lemmas.List.Elements.{All-push}
use Rattle.br_sink_folder.specs.FolderSink.{HasName, HasText}
use Rattle.br_sink.proofs.DeliveryLaws.{items_at, items_file, items_fault, items_one_more, some_behind}
use Rattle.br_sink_folder.proofs.BelowLaws.{outside_more, outside_same}
use Rattle.br_sink_folder.proofs.HeldLaws.{all_nothing, files_of_all, folders_of_all, over_again}
use Rattle.br_sink_folder.proofs.WindowLaws.{below_more, on_ok_known}
use Rattle.br_sink_folder.proofs.StopLaws.{after_of, before_of, stops_within}
use Rattle.br_sink_folder.proofs.folder_files.put_each.Goals as goal
use Rattle.br_sink_folder.proofs.folder_files.put_each.Goals.{in-File+in_ok-put_next, in_default}

pub returns-in_err-put_next-clause-stopped : goal.returns-in_err-put_next-clause-stopped
returns-in_err-put_next-clause-stopped g c =
    let os = c.args.outcomes.now in
    let i : ℕ = c.loop-outcome.outcome-index in
    let l = c.loop-outcome.invariant in
    let item : Item = c.in-File.item in
    let before : List Item = items_in (take i os) in
    let around = items_at os i c.loop-outcome-item.result item c.loop-outcome-test.true c.loop-outcome-item.is c.in-File.is in
    let less = some_behind (items_in os) before (items_in (drop (i + 1) os)) item around in
    let count : ℕ = length (items_in os) in
    let p = err_from_is_err_and c.from_residual.result c.from_residual.ensures.1 in
    rw (p.1, p.2)
    (c.in_err-put_next.ensures.stopped count (below_more c.loop-outcome.done count c.loop-outcome.window.made.items (omega (arith, less, l.done)) l.below) (omega (arith, less, l.done)))

pub returns-in_err-put_next-clause-before : goal.returns-in_err-put_next-clause-before
returns-in_err-put_next-clause-before g c =
    let os = c.args.outcomes.now in
    let i : ℕ = c.loop-outcome.outcome-index in
    let l = c.loop-outcome.invariant in
    let item : Item = c.in-File.item in
    let before : List Item = items_in (take i os) in
    let rest : List Item = items_in (drop (i + 1) os) in
    let around = items_at os i c.loop-outcome-item.result item c.loop-outcome-test.true c.loop-outcome-item.is c.in-File.is in
    let next : ℕ = c.loop-outcome.done + 1 in
    let below = below_more c.loop-outcome.done next c.loop-outcome.window.made.items (omega arith) l.below in
    let nodes = g.M.FileMaker.nodes c.args.maker.now in
    let p = err_from_is_err_and c.from_residual.result c.from_residual.ensures.1 in
    let left =
    stops_within g.M.Remover.is_refused c.args.root.now (items_in os) before rest item _ nodes (g.M.FileMaker.nodes c.put_next.new.maker) next around
    (omega (arith, l.done)) (c.in_err-put_next.ensures.stopped next below (omega arith))
    (c.in_err-put_next.ensures.before before nodes l.done l.below l.held) in
    rw (p.1, p.2) left.before

pub returns-in_err-put_next-clause-after : goal.returns-in_err-put_next-clause-after
returns-in_err-put_next-clause-after g c =
    let os = c.args.outcomes.now in
    let i : ℕ = c.loop-outcome.outcome-index in
    let l = c.loop-outcome.invariant in
    let item : Item = c.in-File.item in
    let before : List Item = items_in (take i os) in
    let rest : List Item = items_in (drop (i + 1) os) in
    let around = items_at os i c.loop-outcome-item.result item c.loop-outcome-test.true c.loop-outcome-item.is c.in-File.is in
    let next : ℕ = c.loop-outcome.done + 1 in
    let below = below_more c.loop-outcome.done next c.loop-outcome.window.made.items (omega arith) l.below in
    let nodes = g.M.FileMaker.nodes c.args.maker.now in
    let p = err_from_is_err_and c.from_residual.result c.from_residual.ensures.1 in
    let left =
    stops_within g.M.Remover.is_refused c.args.root.now (items_in os) before rest item _ nodes (g.M.FileMaker.nodes c.put_next.new.maker) next around
    (omega (arith, l.done)) (c.in_err-put_next.ensures.stopped next below (omega arith))
    (c.in_err-put_next.ensures.before before nodes l.done l.below l.held) in
    rw (p.1, p.2) left.after

pub loop-outcome-preserved : goal.loop-outcome-preserved
loop-outcome-preserved g c =
    let os = c.args.outcomes.now in
    let i : ℕ = c.loop-outcome.outcome-index in
    let o = c.loop-outcome-item.result in
    let l = c.loop-outcome.invariant in
    let before : List Item = items_in (take i os) in
    let one_more : items_in (take (i + 1) os) ≡ before ++ items_in (o ∷ []) = items_one_more os i o c.loop-outcome-test.true (sym c.loop-outcome-item.is) in
    elim c.match-outcome.branch [
      | in-File+in_ok-put_next w ↦
          let item : Item = w.in-File.item in
          let more : items_in (take (i + 1) os) ≡ before ++ item ∷ [] = one_more ∙ ap (λ (is : List Item). before ++ is) (items_file o item w.in-File.is) in
          let longer : length (items_in (take (i + 1) os)) ≡ length before + 1 = ap length more ∙ length-append before (item ∷ []) in
          let next : ℕ = c.loop-outcome.done + 1 in
          record {
            done = omega (arith, longer, l.done, w.done-is);
            few = omega (arith, l.few, w.done-is);
            below =
                rw (w.window-is, w.done-is)
                (w.in_ok-put_next.ensures.below next (below_more c.loop-outcome.done next c.loop-outcome.window.made.items (omega arith) l.below) (omega arith));
            room = rw w.window-is w.in_ok-put_next.ensures.few;
            outside = rw w.maker-is (outside_more _ _ _ _ l.outside w.in_ok-put_next.ensures.outside);
            held = rw (more, w.window-is, w.maker-is) (w.in_ok-put_next.ensures.held before (g.M.FileMaker.nodes c.args.maker.now) l.done l.held);
            text = subst (All HasText) (sym more) (All-push HasText before item l.text w.in_ok-put_next.ensures.text);
            name = subst (All HasName) (sym more) (All-push HasName before item l.name w.in_ok-put_next.ensures.name);
          }
      | in_default w ↦
          let same : items_in (take (i + 1) os) ≡ before =
          one_more ∙ ap (λ (is : List Item). before ++ is) (items_fault o w.in_default.field-0 w.in_default.field-1 w.in_default.is) ∙ append-nil before in
          record {
            done = w.done-is ∙ l.done ∙ sym (ap length same);
            few = omega (arith, l.few, w.done-is);
            below = rw (w.window-is, w.done-is) l.below;
            room = rw w.window-is l.room;
            outside = rw w.maker-is l.outside;
            held = rw (same, w.window-is, w.maker-is) l.held;
            text = subst (All HasText) (sym same) l.text;
            name = subst (All HasName) (sym same) l.name;
          }
    ]

pub loop-outcome-init : goal.loop-outcome-init
loop-outcome-init g c =
    let nodes = g.M.FileMaker.nodes c.args.maker.now in
    record {
      done = refl;
      few = omega arith;
      below = rw c.new-window.ensures (λ k d less. absurd (omega (arith, less)));
      room = rw c.new-window.ensures (omega arith);
      outside = outside_same _ _ _ refl;
      held = over_again g.W.Write.contents c.args.root.now [] c.new-window.result.made.items nodes nodes c.new-window.ensures (all_nothing c.args.root.now nodes);
      text = λ k d less. absurd (omega (arith, less));
      name = λ k d less. absurd (omega (arith, less));
    }

pub returns-clause-files : goal.returns-clause-files
returns-clause-files g c =
    let os = c.args.outcomes.now in
    let all : take c.loop-outcome.outcome-index os ≡ os = take_all c.loop-outcome.outcome-index os c.loop-outcome-test.false in
    let nodes = g.M.FileMaker.nodes c.args.maker.now in
    files_of_all c.write.result c.args.root.now (items_in os) nodes (g.M.FileMaker.nodes c.write.new.maker)
    (rw all at (c.write.ensures.left (items_in (take c.loop-outcome.outcome-index os)) nodes c.loop-outcome.invariant.held))

pub returns-clause-folders : goal.returns-clause-folders
returns-clause-folders g c =
    let os = c.args.outcomes.now in
    let all : take c.loop-outcome.outcome-index os ≡ os = take_all c.loop-outcome.outcome-index os c.loop-outcome-test.false in
    let nodes = g.M.FileMaker.nodes c.args.maker.now in
    folders_of_all c.write.result c.args.root.now (items_in os) nodes (g.M.FileMaker.nodes c.write.new.maker)
    (rw all at (c.write.ensures.left (items_in (take c.loop-outcome.outcome-index os)) nodes c.loop-outcome.invariant.held))

pub returns-clause-before : goal.returns-clause-before
returns-clause-before g c =
    let os = c.args.outcomes.now in
    let all : take c.loop-outcome.outcome-index os ≡ os = take_all c.loop-outcome.outcome-index os c.loop-outcome-test.false in
    let nodes = g.M.FileMaker.nodes c.args.maker.now in
    before_of c.write.result g.M.Remover.is_refused c.args.root.now (items_in os) nodes (g.M.FileMaker.nodes c.write.new.maker)
    (rw all at (c.write.ensures.before (items_in (take c.loop-outcome.outcome-index os)) nodes c.loop-outcome.invariant.held))

pub returns-clause-after : goal.returns-clause-after
returns-clause-after g c =
    let os = c.args.outcomes.now in
    let all : take c.loop-outcome.outcome-index os ≡ os = take_all c.loop-outcome.outcome-index os c.loop-outcome-test.false in
    let nodes = g.M.FileMaker.nodes c.args.maker.now in
    after_of c.write.result g.M.Remover.is_refused c.args.root.now (items_in os) nodes (g.M.FileMaker.nodes c.write.new.maker)
    (rw all at (c.write.ensures.before (items_in (take c.loop-outcome.outcome-index os)) nodes c.loop-outcome.invariant.held))

pub returns-clause-text : goal.returns-clause-text
returns-clause-text g c =
    let os = c.args.outcomes.now in
    let all : take c.loop-outcome.outcome-index os ≡ os = take_all c.loop-outcome.outcome-index os c.loop-outcome-test.false in
    on_ok_known c.write.result (rw all at c.loop-outcome.invariant.text)

pub returns-clause-name : goal.returns-clause-name
returns-clause-name g c =
    let os = c.args.outcomes.now in
    let all : take c.loop-outcome.outcome-index os ≡ os = take_all c.loop-outcome.outcome-index os c.loop-outcome-test.false in
    on_ok_known c.write.result (rw all at c.loop-outcome.invariant.name)
