use Rattle.std.proofs.Common.{ℕ, ◌<◌, length, sym, arith}
use Rattle.br_sink.proofs.ApartLaws.{drop_here, walked_next}
use Rattle.br_sink.proofs.conflicts_apart.keep_apart.Goals as goal

pub loop-outcome-preserved : goal.loop-outcome-preserved
loop-outcome-preserved c =
    let wanted = c.args.wanted.now in
    let i : ℕ = c.loop-outcome.outcome-index in
    let l = c.loop-outcome.invariant in
    let test = c.loop-outcome-test.true in
    let many = c.requires in
    let less : i < length wanted = omega (arith, test, many) in
    record {
      place = omega (arith, l.place);
      walked =
          walked_next c.loop-outcome.ways c.is_kept.new.ways c.loop-outcome.flags.items c.loop-outcome.left.items wanted c.args.outcomes.now i c.outcome-item.result test
          (sym c.outcome-item.is) l.walked _ c.in_ok-kept.kept c.is_out.result c.push.new.self.items c.push_if_out.new.paths.items
          (drop_here wanted i c.loop-outcome.place _ less l.place) c.in_ok-kept.ensures c.is_out.ensures c.in_ok-push.ensures.items c.in_ok-push_if_out.ensures;
    }
