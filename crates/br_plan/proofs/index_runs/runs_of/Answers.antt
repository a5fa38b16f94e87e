use Rattle.std.proofs.Common.{◌++◌, ◌∷◌, [], List, ap, sym, ◌∙◌, append_assoc}
use Rattle.std.specs.Slice.Iter.{iter_rest}
use Rattle.br_plan.specs.Selected.{FileOf}
use Rattle.br_plan.proofs.RunLaws.{runs_more}
use Rattle.br_plan.proofs.index_runs.runs_of.Goals as goal

pub loop-file-preserved : goal.loop-file-preserved
loop-file-preserved c =
    let l = c.loop-file in
    let i = l.invariant in
    let f : FileOf = c.in-Some.file.now in
    let left : List FileOf = iter_rest c.next.new.self.iter in (
      f ∷ i.0,
      rw (c.in_ok-push.ensures.items) (rw (c.get-next.ensures.same) (runs_more i.0 l.runs.items l.next l.len c.run_len-len.result f c.run_len-len.ensures.some c.run_len-len.ensures.most i.1)),
      sym (append_assoc left (f ∷ []) i.0) ∙ ap (λ (fs : List FileOf). fs ++ i.0) (sym c.in-Some.ensures.steps) ∙ i.2,
    )
