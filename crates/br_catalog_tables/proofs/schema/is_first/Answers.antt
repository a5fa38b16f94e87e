use Rattle.std.proofs.Common.{◌≡◌, ◌==◌, Some, None, sym, ap, ◌∙◌}
use Rattle.std.specs.List.{position_from}
use Rattle.std.proofs.lemmas.Bool.Decides.{Decides-eqb}
use Rattle.sqlite.specs.Table.{Table}
use Rattle.br_catalog_tables.proofs.schema.is_first.Goals as goal

pub returns-in-Some : goal.returns-in-Some
returns-in-Some c =
    let is : position_from (λ (u : Table). u.tree == c.args.tree) 0 c.args.schema.now.tables ≡ Some c.in-Some.first = sym (rw c.as_slice.ensures at c.place_in.ensures) ∙ c.in-Some.is in
    (λ same. is ∙ ap Some ((Decides-eqb c.in-Some.first c.args.place).0 same), λ found. (Decides-eqb c.in-Some.first c.args.place).1 (let both = sym is ∙ found in cc))

pub returns-in-None : goal.returns-in-None
returns-in-None c =
    let is : position_from (λ (u : Table). u.tree == c.args.tree) 0 c.args.schema.now.tables ≡ None = sym (rw c.as_slice.ensures at c.place_in.ensures) ∙ c.in-None.is in
    (λ holds. absurd (let e = holds in cc), λ found. absurd (let both = sym is ∙ found in cc))
