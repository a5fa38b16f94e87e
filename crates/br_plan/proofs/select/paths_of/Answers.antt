use Rattle.std.proofs.Common.{◌≡◌, ℕ, ◌+◌, ◌<◌, ◌||◌, List, length, take, get_or, sym, ap, ◌∙◌}
use Rattle.std.proofs.lemmas.List.Folds.{list_any_more}
use Rattle.std.specs.Prelude.{bytes_eq}
use Rattle.std.specs.Borrow.{Bor}
use Rattle.std.specs.BTreeSet.{BTreeSet, insert_key}
use Rattle.std.specs.Ordering.{is_eq}
use Rattle.br_model.specs.Order.{is_among}
use Rattle.br_model.proofs.OrderLaws.{rank_cmp}
use Rattle.br_plan.specs.Selected.{has_path, ArePaths}
use Rattle.br_plan.proofs.SetLaws.{path_put, paths_tied}
use Rattle.br_plan.proofs.select.paths_of.Goals as goal

one_more : (old new : BTreeSet (Bor (List ℕ))) (k : Bor (List ℕ)) (marks : List (List ℕ)) (i : ℕ) (mark : List ℕ) → i < length marks → mark ≡ get_or marks i mark → k.now ≡ mark
    → ArePaths old (take i marks) → new.keys ≡ insert_key (λ x y. rank_cmp x.now y.now) old.keys k → ArePaths new (take (i + 1) marks)
one_more old new k marks i mark lt is at before puts q =
    ap (λ (ks : List (Bor (List ℕ))). has_path (record { keys = ks }) q) puts ∙ path_put old.keys k q
    ∙ ap (λ b. b || is_eq (rank_cmp q k.now)) (before q) ∙ ap (λ b. is_among (take i marks) q || b) (paths_tied q k.now ∙ ap (bytes_eq q) at)
    ∙ ap (λ (m : List ℕ). is_among (take i marks) q || bytes_eq q m) is ∙ sym (list_any_more (bytes_eq q) marks i mark lt)

pub loop-mark-preserved : goal.loop-mark-preserved
loop-mark-preserved c =
    one_more c.loop-mark.paths c.insert.new.self c.bytes.result c.args.marks.now c.loop-mark.mark-index c.mark-item.result c.loop-mark-test.true c.mark-item.is c.bytes.ensures.same
    c.loop-mark.invariant c.in_ok-insert.ensures.keys
