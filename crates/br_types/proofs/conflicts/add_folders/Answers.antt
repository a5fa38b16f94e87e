use Rattle.std.proofs.Common.{◌||◌, ◌∙◌, ap, sym}
use Rattle.br_types.specs.Conflicts.{has_path}
use Rattle.br_types.proofs.PathConflictLaws.{one_more_front, no_more_front}
use Rattle.br_types.proofs.conflicts.add_folders.Goals as goal
use Rattle.br_types.proofs.conflicts.add_folders.Goals.{then-byte-eq47+in_ok-add_path, else-byte-eq47}

pub loop-i-preserved : goal.loop-i-preserved
loop-i-preserved c = λ q.
    elim c.if-byte-eq47.branch [
      | then-byte-eq47+in_ok-add_path w ↦
          one_more_front (has_path (λ k. k.now) c.loop-i.folders q) (has_path (λ k. k.now) c.if-byte-eq47.folders q) q c.args.path.now c.loop-i.i c.loop-i-test.true w.if-byte-eq47.true
          (rw w.folders-is (w.in_ok-add_path.ensures q))
          (has_path (λ k. k.now) c.args.folders.now q) (c.loop-i.invariant q)
      | else-byte-eq47 w ↦
          rw w.folders-is (c.loop-i.invariant q ∙ ap (λ b. b || has_path (λ k. k.now) c.args.folders.now q) (sym (no_more_front q c.args.path.now c.loop-i.i c.loop-i-test.true w.if-byte-eq47.false)))
    ]
