use Rattle.std.proofs.Common.{ℤ, w64, List, subst, ◌∙◌}
use Rattle.std.specs.List.Sorted.{IsBinarySearchResult}
use Rattle.std.specs.Ordering.{int_cmp}
use Rattle.std.proofs.lemmas.Int.{to_z-of_z}
use Rattle.br_catalog_files.proofs.NameLaws.{is_found}
use Rattle.br_catalog_files.proofs.old_names.NameTable.place.Goals as goal

pub returns-in_default-clause-known : goal.returns-in_default-clause-known
returns-in_default-clause-known c = λ n.
    let at_id = subst (λ (z : ℤ). IsBinarySearchResult (λ (y : ℤ). int_cmp y z) c.deref-in_default.result.now c.binary_search.result) (to_z-of_z w64 c.args.id c.ranges.id) c.binary_search.ensures.position in
    let searched = subst (λ (l : List ℤ). IsBinarySearchResult (λ (y : ℤ). int_cmp y c.args.id) l c.binary_search.result) c.deref-in_default.ensures.value at_id in
    c.ok.ensures.variant ∙ is_found n.rows c.args.self.now.ids.items c.args.id c.binary_search.result n.are.ids n.sorted n.named searched
