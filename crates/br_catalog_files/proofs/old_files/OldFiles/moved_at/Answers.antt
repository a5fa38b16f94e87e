use Rattle.std.proofs.Common.{rules, ◌≡◌, ℤ, SFits, w64, List, length, slice_get, Some, refl, ap, subst, ◌∙◌}
use Rattle.std.proofs.lemmas.Int.{to_z-of_z}
use Rattle.std.proofs.lemmas.Option.{slice_get_read}
use Rattle.sqlite.specs.declared.types.Value.TheVariants.{Int}
use Rattle.sqlite_value.specs.Value.{owned}
use Rattle.br_store.specs.Held.{name_at}
use Rattle.br_catalog_files.specs.declared.old_files.FileNumbers.{FileNumbers}
use Rattle.br_catalog_files.proofs.MovedLaws.{moved_at}
use Rattle.br_catalog_files.proofs.old_files.OldFiles.moved_at.Goals as goal

pub returns-clause-moved : goal.returns-clause-moved
returns-clause-moved c = λ rows ns are named up.
    let n = c.in-Some.numbers.now in
    let there = c.in-Some.ensures.lookup in
    let name : SFits w64 n.name = search rules in
    let found : slice_get c.args.self.now.numbers.items c.args.at ≡ Some n =
    subst (λ (l : List FileNumbers). slice_get l c.args.at ≡ Some n) c.deref.ensures.value (slice_get_read c.deref.result.now (length c.deref.result.now) c.args.at n refl there.3.0 there.1) in
    moved_at ns rows c.args.self.now.numbers.items c.args.self.now.lstats c.args.self.now.digests c.args.at n (owned c.in-Some-get.name) are.numbers are.lstats are.digests found
    (c.in-Some-get.ensures.name ns named up ∙ ap (λ (z : ℤ). name_at ns (Int z)) (to_z-of_z w64 n.name name)) ∙ ap Some (search rules)
