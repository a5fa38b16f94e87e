use Rattle.std.proofs.Common.{ap, ◌∙◌, take, drop, arith}
use Rattle.br_catalog_rows.proofs.Cuts.{front_is, rest_is, front_short}
use Rattle.br_catalog_rows.proofs.encode.cut.Goals as goal

pub split_at-requires : goal.split_at-requires
split_at-requires c = omega (arith, c.front_len.ensures, front_short c.args.path.now)

pub returns-clause-front : goal.returns-clause-front
returns-clause-front c = c.split_at.ensures.front ∙ ap (λ n. take n c.args.path.now) c.front_len.ensures ∙ front_is c.args.path.now

pub returns-clause-rest : goal.returns-clause-rest
returns-clause-rest c = c.split_at.ensures.back ∙ ap (λ n. drop n c.args.path.now) c.front_len.ensures ∙ rest_is c.args.path.now
