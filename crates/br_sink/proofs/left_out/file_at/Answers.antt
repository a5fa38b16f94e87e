use Rattle.std.proofs.Common.{ℕ, arith}
use Rattle.br_sink.proofs.NotedLaws.{file_here, no_more, one_more}
use Rattle.br_sink.proofs.left_out.file_at.Goals as goal
use Rattle.br_sink.proofs.left_out.file_at.Goals.{in-File+else-left-eq0, in_default}

pub returns-then-left-eq0-clause-at_it : goal.returns-then-left-eq0-clause-at_it
returns-then-left-eq0-clause-at_it c =
    let l = c.loop-outcome.invariant in
    file_here c.args.outcomes.now c.loop-outcome.outcome-index c.loop-outcome-item.result c.loop-outcome-test.true c.loop-outcome-item.is c.in-File.item c.loop-outcome.place
    c.loop-outcome.left c.args.count c.in-File.is l.place c.if-left-eq0.true l.left

pub loop-outcome-preserved : goal.loop-outcome-preserved
loop-outcome-preserved c =
    let os = c.args.outcomes.now in
    let i : ℕ = c.loop-outcome.outcome-index in
    let o = c.loop-outcome-item.result in
    let l = c.loop-outcome.invariant in
    elim c.match-outcome.branch [
      | in-File+else-left-eq0 w ↦
          let more = one_more os i o c.loop-outcome-test.true c.loop-outcome-item.is w.in-File.item w.in-File.is in
          record { place = omega (arith, l.place); left = omega (arith, more, l.left, w.left-is, w.if-left-eq0.false) }
      | in_default w ↦
          let more = no_more os i o c.loop-outcome-test.true c.loop-outcome-item.is w.in_default.field-0 w.in_default.field-1 w.in_default.is in
          record { place = omega (arith, l.place); left = omega (arith, more, l.left, w.left-is) }
    ]
