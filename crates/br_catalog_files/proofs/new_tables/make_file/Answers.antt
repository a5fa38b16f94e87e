use Rattle.std.proofs.Common.{◌≢◌, List, codes, refl, sym, subst, arith, ◌∙◌}
use Rattle.std.specs.List.{AllByRecursion}
use Rattle.sqlite.specs.declared.types.Value.TheVariants.{Text}
use Rattle.sqlite.specs.Order.{Row, column}
use Rattle.sqlite_trees.specs.Objects.{catalog_tree}
use Rattle.br_catalog_files.proofs.RenewLaws.{unnamed_in}
use Rattle.br_catalog_files.proofs.new_tables.make_file.Goals as goal

pub create-requires : goal.create-requires
create-requires g c = λ clean. record {
  numbered = c.requires.numbered clean;
  low = omega arith;
  unused = sym c.shape.ensures ∙ c.in-Absent.is;
  shaped = λ e. absurd cc;
  thawed = refl;
  unnamed =
      let objects = (g.S.Store.view c.args.store.now).trees catalog_tree in
      unnamed_in (Text (codes "File")) objects
      (subst (λ (l : List Row). AllByRecursion (λ r. column r 2 ≢ Text (codes "File")) l) (c.deref.ensures.value ∙ c.in_ok-objects.ensures clean) (c.has_file.ensures c.if-not-has_file.true));
}

pub returns-in-Ok-clause-made : goal.returns-in-Ok-clause-made
returns-in-Ok-clause-made g c = λ clean. (_, _, _, c.in-Ok.ensures.ok clean, refl)
