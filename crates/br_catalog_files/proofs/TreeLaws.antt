-- The trees of version 2, one by one.
use Rattle.std.proofs.Common.{◌≡◌, ◌≢◌, ◌==◌, ◌^◌, ◌&&◌, ℕ, Bool, true, false, not, nat_le, List, [], cond, refl, sym, ap, ◌∙◌, eq-eqb, ne_eqb}
use Rattle.sqlite.specs.Order.{Row}
use Rattle.sqlite.specs.Tree.{Trees}
use Rattle.sqlite_trees.specs.Objects.{catalog_tree}
use Rattle.sqlite_trees.specs.Tree.{with_tree}
use Rattle.br_catalog_tables.specs.declared.old_schema.OldLayout.{OldLayout}
use Rattle.br_catalog_tables.specs.OldTables.{keeps_tree, spares_tree}
use Rattle.br_catalog_files.specs.Renewed.{relisted, replaced}
use Rattle.br_catalog_files.specs.Sound.{moved_trees}

-- ---- one tree that was changed

pub at_same : (trees : Trees) (tree : ℕ) (rows : List Row) → with_tree trees tree rows tree ≡ rows
at_same trees tree rows = ap (λ (b : Bool). cond b rows (trees tree)) (eq-eqb tree tree refl)

pub at_other : (trees : Trees) (tree : ℕ) (rows : List Row) (t : ℕ) → t ≢ tree → with_tree trees tree rows t ≡ trees t
at_other trees tree rows t apart = ap (λ (b : Bool). cond b rows (trees t)) (ne_eqb t tree apart)

-- a stored tree is not the list of objects
pub stored_low : (t : ℕ) → nat_le (2 ^ 31) t ≡ false → t ≢ catalog_tree
stored_low t low same = absurd (let no : nat_le (2 ^ 31) catalog_tree ≡ false = ap (nat_le (2 ^ 31)) (sym same) ∙ low in cc)

-- ---- what a tree is apart from

-- the two parts of a test
pub both : (a b : Bool) → (a && b) ≡ true → (a ≡ true) × (b ≡ true)
both true true h = (refl, refl)
both true false h = absurd cc
both false b h = absurd cc

differs : (m n : ℕ) → not (m == n) ≡ true → m ≢ n
differs m n h same = absurd (let is : (m == n) ≡ true = eq-eqb m n same in let no : not true ≡ true = sym (ap not is) ∙ h in cc)

pub record IsSpared (l : OldLayout) (t : ℕ) : Type 0 where
  pub filename : t ≢ l.filename
  pub index : t ≢ l.filename_index
  pub file : t ≢ l.file

pub spared : (l : OldLayout) (t : ℕ) → spares_tree l t ≡ true → IsSpared l t
spared l t h =
    let a = both (not (t == l.filename)) (not (t == l.filename_index) && not (t == l.file)) h in
    let b = both (not (t == l.filename_index)) (not (t == l.file)) a.1 in
    record { filename = differs t l.filename a.0; index = differs t l.filename_index b.0; file = differs t l.file b.1 }

stored : (b : Bool) → not b ≡ true → b ≡ false
stored true h = absurd cc
stored false h = refl

pub record IsKeptTree (l : OldLayout) (t : ℕ) : Type 0 where
  pub low : t ≢ catalog_tree
  pub version : t ≢ l.version
  pub spared : spares_tree l t ≡ true

pub kept_tree : (l : OldLayout) (t : ℕ) → keeps_tree l t ≡ true → IsKeptTree l t
kept_tree l t h =
    let a = both (not (nat_le (2 ^ 31) t)) (not (t == l.version) && spares_tree l t) h in
    let b = both (not (t == l.version)) (spares_tree l t) a.1 in
    record { low = stored_low t (stored (nat_le (2 ^ 31) t) a.0); version = differs t l.version b.0; spared = b.1 }

-- ---- the trees after the tables were made again

relisted_same : (trees : Trees) (tree : ℕ) (objects : List Row) → tree ≢ catalog_tree → relisted trees tree objects tree ≡ []
relisted_same trees tree objects low = at_other (with_tree trees tree []) catalog_tree objects tree low ∙ at_same trees tree []

relisted_other : (trees : Trees) (tree : ℕ) (objects : List Row) (t : ℕ) → t ≢ catalog_tree → t ≢ tree → relisted trees tree objects t ≡ trees t
relisted_other trees tree objects t low apart = at_other (with_tree trees tree []) catalog_tree objects t low ∙ at_other trees tree [] t apart

module _ (l : OldLayout) (trees : Trees) (a b c d : List Row) where
  abbrev t1 : Trees
  t1 = relisted trees l.file a

  abbrev t2 : Trees
  t2 = relisted t1 l.filename_index b

  abbrev t3 : Trees
  t3 = relisted t2 l.filename c

  -- the table of files is empty
  pub made_empty : l.file ≢ catalog_tree → replaced l trees a b c d l.file ≡ []
  made_empty low = relisted_same t3 l.file d low

  -- the others are as before
  made_other : (t : ℕ) → spares_tree l t ≡ true → t ≢ catalog_tree → replaced l trees a b c d t ≡ trees t
  made_other t spares low =
      let s = spared l t spares in
      relisted_other t3 l.file d t low s.file ∙ relisted_other t2 l.filename c t low s.filename ∙ relisted_other t1 l.filename_index b t low s.index
      ∙ relisted_other trees l.file a t low s.file

  module _ (files : List Row) where
    -- also once the table of files is filled
    pub filled_other : (t : ℕ) → spares_tree l t ≡ true → t ≢ catalog_tree → with_tree (replaced l trees a b c d) l.file files t ≡ trees t
    filled_other t spares low = at_other (replaced l trees a b c d) l.file files t (spared l t spares).file ∙ made_other t spares low

    module _ (versions : List Row) where
      pub moved_version : moved_trees l trees a b c d files versions l.version ≡ versions
      moved_version = at_same (with_tree (replaced l trees a b c d) l.file files) l.version versions

      pub moved_file : l.file ≢ l.version → moved_trees l trees a b c d files versions l.file ≡ files
      moved_file apart = at_other (with_tree (replaced l trees a b c d) l.file files) l.version versions l.file apart ∙ at_same (replaced l trees a b c d) l.file files

      pub moved_other : (t : ℕ) → keeps_tree l t ≡ true → moved_trees l trees a b c d files versions t ≡ trees t
      moved_other t keeps =
          let k = kept_tree l t keeps in
          at_other (with_tree (replaced l trees a b c d) l.file files) l.version versions t k.version ∙ filled_other t k.spared k.low

      -- the list of objects is the last one
      pub moved_objects : l.file ≢ catalog_tree → l.version ≢ catalog_tree → moved_trees l trees a b c d files versions catalog_tree ≡ d
      moved_objects file version =
          at_other (with_tree (replaced l trees a b c d) l.file files) l.version versions catalog_tree (λ e. version (sym e))
          ∙ at_other (replaced l trees a b c d) l.file files catalog_tree (λ e. file (sym e)) ∙ at_same (with_tree t3 l.file []) catalog_tree d
