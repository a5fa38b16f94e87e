-- One more row of File is taken.
use Rattle.std.proofs.Common.{◌≡◌, ℕ, pos, ◌<◌, ◌^◌, List, [], ◌∷◌, ◌++◌, map, sym, ap, ap₂, subst, ◌∙◌}
use Rattle.std.specs.BTreeMap.{BTreeMap}
use Rattle.br_catalog_files.specs.declared.seen_indexes.Indexes.{Indexes}
use Rattle.sqlite.specs.declared.types.Value.TheVariants.{Blob, Int}
use Rattle.sqlite.specs.Order.{Row, column}
use Rattle.br_model.specs.Job.{JobRow}
use Rattle.br_catalog_files.specs.OldFiles.{IsOldFile, IsWholeFile, shown_row}
use Rattle.br_store.specs.Held.{name_at, file_cells}
use Rattle.br_catalog_files.specs.SeenIndexes.{Saw}
use Rattle.br_catalog_files.specs.WholeMigration.{AreWhole}
use Rattle.br_catalog_files.specs.declared.old_files.OldFile.{OldFile}
use Rattle.br_catalog_files.proofs.FileLaws.{small_is}
use Rattle.br_catalog_files.proofs.NameLaws.{map_push}
use Rattle.br_catalog_files.proofs.WholeLaws.{one_more}

abbrev cells_of : OldFile → List ℕ → List ℕ → Row
cells_of file front rest = file_cells file.numbers.job file.numbers.index front rest file.lstat.now file.digest.now

pub shown_is : (paths names : List Row) (row : Row) (file : OldFile) (front rest : List ℕ) → IsOldFile file row → Blob front ≡ name_at paths (Int file.numbers.path) → Blob rest ≡ name_at names (Int file.numbers.name)
    → shown_row paths names row ≡ cells_of file front rest
shown_is paths names row file front rest is path name =
    let index : column row 2 ≡ Int (pos file.numbers.index) = ap (λ (l : Row). column l 1) is.numbers in
    let job : column row 3 ≡ Int (pos file.numbers.job) = ap (λ (l : Row). column l 2) is.numbers in
    let first : name_at paths (column row 4) ≡ Blob front = ap (λ (l : Row). name_at paths (column l 3)) is.numbers ∙ sym path in
    let last : name_at names (column row 5) ≡ Blob rest = ap (λ (l : Row). name_at names (column l 4)) is.numbers ∙ sym name in
    ap₂ (λ a b. a ∷ b ∷ name_at paths (column row 4) ∷ name_at names (column row 5) ∷ column row 6 ∷ column row 7 ∷ []) job index
    ∙ ap₂ (λ a b. Int (pos file.numbers.job) ∷ Int (pos file.numbers.index) ∷ a ∷ b ∷ column row 6 ∷ column row 7 ∷ []) first last
    ∙ ap₂ (λ a b. Int (pos file.numbers.job) ∷ Int (pos file.numbers.index) ∷ Blob front ∷ Blob rest ∷ a ∷ b ∷ []) is.lstat is.digest

module _ (jobs : List JobRow) (old new : BTreeMap ℕ Indexes) (paths names rows : List Row) (row : Row) (file : OldFile) (front rest : List ℕ) where
  pub taken : IsOldFile file row → Blob front ≡ name_at paths (Int file.numbers.path) → Blob rest ≡ name_at names (Int file.numbers.name) → IsWholeFile file front rest → file.numbers.job < 2 ^ 32
      → Saw old file.numbers.job file.numbers.index new → AreWhole jobs old (map (shown_row paths names) rows) → AreWhole jobs new (map (shown_row paths names) (rows ++ row ∷ []))
  taken is path name whole low saw w =
      let f = whole.0 in
      let saw_it : Saw old file.numbers.job f.index new = subst (λ i. Saw old file.numbers.job i new) (sym whole.3) saw in
      let more : AreWhole jobs new (map (shown_row paths names) rows ++ cells_of file front rest ∷ []) =
      one_more old new (map (shown_row paths names) rows) (cells_of file front rest) file.numbers.job f (small_is file.numbers.job low) whole.1 whole.2 saw_it jobs w in
      let end : map (shown_row paths names) (rows ++ row ∷ []) ≡ map (shown_row paths names) rows ++ cells_of file front rest ∷ [] =
      map_push (shown_row paths names) rows row ∙ ap (λ s. map (shown_row paths names) rows ++ s ∷ []) (shown_is paths names row file front rest is path name) in
      subst (AreWhole jobs new) (sym end) more
