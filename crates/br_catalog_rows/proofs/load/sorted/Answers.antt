use Rattle.std.proofs.Common.{rules}
use Rattle.br_catalog_rows.proofs.SpanOrder.{from_sort}
use Rattle.br_catalog_rows.proofs.load.sorted.Goals as goal

pub returns : goal.returns
returns c = from_sort c.args.spans.items c.sort_by_key.new.self.items c.in_ok-sort_by_key.ensures.sorted c.in_ok-sort_by_key.ensures.stable (λ a r q k. search rules)
