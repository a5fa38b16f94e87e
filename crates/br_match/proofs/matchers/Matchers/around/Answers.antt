use Rattle.std.proofs.Common.{length, ap, arith}
use Rattle.std.proofs.lemmas.Slice.Zip.{AllZip-long}
use Rattle.br_match.specs.Near.{EndsBy, BeginsAt}
use Rattle.br_match.proofs.NearLaws.{around_seen}
use Rattle.br_match.proofs.matchers.Matchers.around.Goals as goal

pub between-requires-clause-bound : goal.between-requires-clause-bound
between-requires-clause-bound c =
    let many = AllZip-long EndsBy c.self.inside.groups.items c.self.inside.ends.items c.self.invariant.ended.each in
    let more = AllZip-long BeginsAt c.self.inside.groups.items c.self.inside.starts.items c.self.invariant.begun.each in
    omega (arith, many, more, c.ended-first.ensures.bound, c.begun.ensures.bound, c.max-end.ensures, ap length c.deref.ensures.value, ap length c.deref-2.ensures.value, ap length c.deref-3.ensures.value)

pub returns : goal.returns
returns c =
    around_seen c.args.self.now c.self.inside.groups.items c.deref-3.result.now c.between.result.now c.self.inside.ends.items c.self.inside.starts.items c.deref.result.now c.deref-2.result.now
    c.args.addr c.ended-first.result c.begun.result c.max-end.result c.self.view_is c.deref-3.ensures.value c.deref.ensures.value c.deref-2.ensures.value c.self.invariant (omega arith)
    c.ended-first.ensures.point c.begun.ensures.point c.max-end.ensures c.between.ensures
