use Rattle.std.proofs.Common.{rules, ◌≡◌}
use Rattle.br_fs.specs.MemMaker.{node_of}
use Rattle.br_fs.proofs.MakingLaws.{sets_own}
use Rattle.br_fs.proofs.mem_maker.MemMaker.leave.Goals as goal

pub returns-clause-set : goal.returns-clause-set
returns-clause-set c =
    let same : c.in_ok-kept.kept ≡ c.args.path.now = search rules in
    sets_own c.args.path.now c.in_ok-kept.kept (node_of c.args.left) c.args.self.now.nodes _ (search rules) same
