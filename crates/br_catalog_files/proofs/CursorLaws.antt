-- What a call on a cursor does.
use Rattle.std.proofs.Common.{◌≡◌, ℕ, Bool, true, false, [], sym, ap, ◌∙◌}
use Rattle.sqlite.specs.Order.{Row}
use Rattle.sqlite_trees.specs.Tree.{from_key, order_of, sought}
use Rattle.sqlite_trees.specs.View.{View, Advances, with_cursor}
use Rattle.sqlite_trees.specs.declared.store.Direction.TheVariants.{Forward}
use Rattle.sqlite_exec.specs.Loops.{left_of}
use Rattle.sqlite_exec.proofs.CheckLemmas.{ended, from_no_key, placed, stepped}
use Rattle.br_catalog_files.specs.MigrationSteps.{GoesOn, Reads, Starts}

only_reads : (old new at : View) → old.is_broken ≡ false → new ≡ record old { cursors = at.cursors } → Reads old new
only_reads old new at sound is = record { same = is ∙ ap (λ (v : View). record old { cursors = v.cursors }) (sym is); sound = sound }

-- a cursor that is placed by no key has all rows to give
pub placed_first : (old new : View) (tree : ℕ) (key : Row) → key ≡ [] → new ≡ with_cursor old 0 (sought (order_of (old.shape tree)) Forward key (old.trees tree)) → old.is_broken ≡ false → Starts old new tree
placed_first old new tree key empty is sound = record {
  reads = only_reads old new (with_cursor old 0 (sought (order_of (old.shape tree)) Forward key (old.trees tree))) sound is;
  left = ap (λ (v : View). left_of v 0) is ∙ placed old 0 (sought (order_of (old.shape tree)) Forward key (old.trees tree))
      ∙ ap (λ (k : Row). from_key (order_of (old.shape tree)) k (old.trees tree)) empty ∙ from_no_key (order_of (old.shape tree)) (old.trees tree);
}

pub gone_on : (old new : View) (row : Row) (found : Bool) → Advances old new 0 row found → old.is_broken ≡ false → GoesOn old new row found
gone_on old new row true h sound = record { reads = only_reads old new (with_cursor old 0 h.0) sound h.2; gives = stepped old new 0 row h }
gone_on old new row false h sound = record { reads = only_reads old new old sound h.1; gives = ended old new 0 row h }
