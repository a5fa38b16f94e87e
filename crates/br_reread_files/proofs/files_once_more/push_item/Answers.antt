use Rattle.std.proofs.Common.{[], ◌∷◌, ap, ◌∙◌}
use Rattle.br_join.specs.declared.item.Outcome.TheVariants.{File}
use Rattle.br_sink.specs.Delivery.{items_in}
use Rattle.br_sink.proofs.DeliveryLaws.{items_of_both}
use Rattle.br_reread_files.proofs.files_once_more.push_item.Goals as goal

pub returns : goal.returns
returns c = ap items_in c.in_ok-push.ensures.items ∙ items_of_both c.args.files.now.items ((c.args.key, File c.args.item) ∷ [])
