use Rattle.std.proofs.Common.{sym, ◌∙◌}
use Rattle.br_types.proofs.NewestLaws.{noted}
use Rattle.br_types.proofs.newest.keep.Goals as goal

pub returns-in-Ok : goal.returns-in-Ok
returns-in-Ok c =
    noted c.args.newest.now c.insert.new.self c.args.key c.args.path c.copied.result (c.copied.ensures ∙ c.get.ensures.value)
    (sym c.is_news.ensures ∙ c.if-not-is_news.false) c.in-Ok.ensures.updates
