-- Calls on a store, one after another.
use Rattle.std.proofs.Common.{◌≡◌, inl, ℕ, true, false, List, [], ◌∷◌, ◌++◌, IsTrue, refl, sym, ap, subst, ◌∙◌, arith, append_assoc, append-nil}
use Rattle.sqlite.specs.Order.{Row}
use Rattle.sqlite_trees.specs.View.{View, IsClean}
use Rattle.sqlite_trees.specs.declared.store.Store.{Ghosts}
use Rattle.sqlite_exec.specs.Loops.{left_of}
use Rattle.sqlite_catalog.proofs.QuietLemmas.{quiet_then}
use Rattle.sqlite_rules.specs.Lists.{Has}
use Rattle.sqlite_rules.proofs.ListLemmas.{has_right}
use Rattle.br_catalog_files.specs.MigrationSteps.{CommitsNothing, GoesOn, KeepsLast, Reads, Starts}

pub last_then : (a b c : View) → KeepsLast a b → KeepsLast b c → KeepsLast a c
last_then a b c p q = record {
  was_open = λ up. p.was_open (q.was_open up);
  committed = λ up. q.committed up ∙ p.committed (q.was_open up);
  numbered = q.numbered ∙ p.numbered;
}

pub kept_then : {S : Type 0} {g : Ghosts S} {a b c : S} → CommitsNothing g a b → CommitsNothing g b c → CommitsNothing g a c
kept_then p q = record {
  quiet = quiet_then p.quiet q.quiet;
  last = λ clean. last_then _ _ _ (p.last (omega (arith, clean, q.quiet.clean))) (q.last clean);
}

-- a store that is clean after a call was clean before it
pub clean_before : {S : Type 0} {g : Ghosts S} {a b : S} → CommitsNothing g a b → IsClean (g.view b) → IsClean (g.view a)
clean_before p clean = omega (arith, clean, p.quiet.clean)

pub reads_then : (a b c : View) → Reads a b → Reads b c → Reads a c
reads_then a b c p q = record {
  same = q.same ∙ ap (λ (v : View). record v { cursors = c.cursors }) p.same;
  sound = p.sound;
}

-- ---- rows that are taken one after another

-- these rows were taken, and the rest is left
pub record AreTaken (start now : View) (tree : ℕ) (done : List Row) : Type 0 where
  pub reads : Reads start now
  pub left : done ++ left_of now 0 ≡ start.trees tree

pub take_next : (start a b : View) (tree : ℕ) (done : List Row) (row : Row) → AreTaken start a tree done → GoesOn a b row true → AreTaken start b tree (done ++ row ∷ [])
take_next start a b tree done row taken next = record {
  reads = reads_then start a b taken.reads next.reads;
  left = append_assoc done (row ∷ []) (left_of b 0) ∙ ap (λ (l : List Row). done ++ l) (sym next.gives) ∙ taken.left;
}

-- a row that is taken is one of the tree
pub row_around : (start a b : View) (tree : ℕ) (done : List Row) (row : Row) → AreTaken start a tree done → GoesOn a b row true → done ++ row ∷ left_of b 0 ≡ start.trees tree
row_around start a b tree done row taken next = ap (λ (l : List Row). done ++ l) (sym next.gives) ∙ taken.left

pub row_has : (start a b : View) (tree : ℕ) (done : List Row) (row : Row) → AreTaken start a tree done → GoesOn a b row true → Has (start.trees tree) row
row_has start a b tree done row taken next = subst (λ (l : List Row). Has l row) (row_around start a b tree done row taken next) (has_right done (row ∷ left_of b 0) row (inl refl))

pub take_all : (start a b : View) (tree : ℕ) (done : List Row) (row : Row) → AreTaken start a tree done → GoesOn a b row false → (Reads start b) × (done ≡ start.trees tree)
take_all start a b tree done row taken last = (
  reads_then start a b taken.reads last.reads,
  sym (append-nil done) ∙ ap (λ (l : List Row). done ++ l) (sym last.gives) ∙ taken.left,
)

-- ---- calls that commit nothing

pub kept_none : {S : Type 0} {g : Ghosts S} (s : S) → CommitsNothing g s s
kept_none s = record {
  quiet = record { shield = λ h. h; clean = omega arith; counts = omega arith; closes = λ clean up. inl up; outcomes = λ db h. h };
  last = λ clean. record { was_open = λ up. up; committed = λ up. refl; numbered = refl };
}

-- a store whose trees are numbered stays so
pub stays_numbered : {S : Type 0} {g : Ghosts S} {a b : S} → CommitsNothing g a b → (IsClean (g.view a) → IsTrue (g.view a).is_numbered) → IsClean (g.view b) → IsTrue (g.view b).is_numbered
stays_numbered p was clean = subst IsTrue (sym (p.last clean).numbered) (was (clean_before p clean))

-- ---- one row

-- the tree has one row if the cursor gave one and then none
pub only_row : (a b c d : View) (tree : ℕ) (row more : Row) → Starts a b tree → GoesOn b c row true → GoesOn c d more false → (Reads a d) × (a.trees tree ≡ row ∷ [])
only_row a b c d tree row more first next last = (
  reads_then a b d first.reads (reads_then b c d next.reads last.reads),
  sym first.left ∙ next.gives ∙ ap (λ (l : List Row). row ∷ l) last.gives,
)

-- the cursor gave the first row of the tree, or the tree has none
pub some_row : (a b c : View) (tree : ℕ) (row : Row) → Starts a b tree → GoesOn b c row true → a.trees tree ≡ row ∷ left_of c 0
some_row a b c tree row first next = sym first.left ∙ next.gives

pub no_row : (a b c : View) (tree : ℕ) (row : Row) → Starts a b tree → GoesOn b c row false → a.trees tree ≡ []
no_row a b c tree row first next = sym first.left ∙ next.gives
