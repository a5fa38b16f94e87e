use Rattle.std.proofs.Common.{◌≡◌, rules, sym, ap, subst, ◌∙◌}
use Rattle.std.specs.List.{dedup}
use Rattle.br_model.specs.Meaning.{hits_of}
use Rattle.std.proofs.lemmas.Fn.{dedup_same, always_returns_same}
use Rattle.br_records.specs.Runs.{AreListed}
use Rattle.br_records.proofs.SortLaws.{place, repeats, settled_same, settled_listed}
use Rattle.br_records.proofs.sorted_hits.settle.Goals as goal

pub returns-clause-listed : goal.returns-clause-listed
returns-clause-listed c =
    let kept : c.dedup_by_key.new.self.items ≡ dedup repeats c.sort_by_key.new.self.items =
    dedup_same _ repeats _ (λ x y b f' x' y' k. search (rules, k.compared, k.first, k.second)) c.sort_by_key.new.self.items c.dedup_by_key.new.self.items c.dedup_by_key.ensures.filtered in
    subst AreListed (sym kept) (settled_listed c.sort_by_key.new.self.items
    (c.in_ok-sort_by_key.ensures.sorted place (always_returns_same _ (λ a r. r ≡ place a.0.now) _ (λ a r f' k. search rules))))

pub returns-clause-same : goal.returns-clause-same
returns-clause-same c =
    let kept : c.dedup_by_key.new.self.items ≡ dedup repeats c.sort_by_key.new.self.items =
    dedup_same _ repeats _ (λ x y b f' x' y' k. search (rules, k.compared, k.first, k.second)) c.sort_by_key.new.self.items c.dedup_by_key.new.self.items c.dedup_by_key.ensures.filtered in
    ap hits_of kept ∙ settled_same c.args.hits.now.items c.sort_by_key.new.self.items
    (c.in_ok-sort_by_key.ensures.stable place (always_returns_same _ (λ a r. r ≡ place a.0.now) _ (λ a r f' k. search rules)))
