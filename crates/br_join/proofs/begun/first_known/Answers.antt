use Rattle.br_join.proofs.FrontLaws.{fresh_begun}
use Rattle.br_join.proofs.begun.first_known.Goals as goal

pub returns : goal.returns
returns c = λ held none. c.with_one.ensures held (fresh_begun held c.args.hit.now.key c.new.result none c.new.ensures)
