-- The rows of version 2 are made of what is kept of the rows of version 1.
use Rattle.std.proofs.Common.{◌≡◌, ℕ, pos, zero, suc, List, [], ◌∷◌, ◌++◌, map, slice_get, Some, refl, sym, ap, ap₂, subst, ◌∙◌}
use Rattle.sqlite.specs.declared.types.Value.{Value}
use Rattle.sqlite.specs.declared.types.Value.TheVariants.{Blob, Null, Int}
use Rattle.sqlite.specs.Order.{Row, column}
use Rattle.br_store.specs.Held.{name_at}
use Rattle.br_catalog_files.specs.OldFiles.{IsOldFile, digest_of, lstat_of, moved_row, number_cells, numbers_of}
use Rattle.br_catalog_files.specs.Sound.{AreMovedRows, IsMovedRow}
use Rattle.br_catalog_files.specs.declared.old_files.OldFile.{OldFile}
use Rattle.br_catalog_files.specs.declared.old_files.FileNumbers.{FileNumbers}
use Rattle.br_catalog_files.proofs.NameLaws.{map_push}

abbrev moved_cells : FileNumbers → Value → Value → Value → Row
moved_cells n name lstat digest = Int n.id ∷ Null ∷ Int (pos n.index) ∷ Int (pos n.job) ∷ Int n.path ∷ name ∷ lstat ∷ digest ∷ []

-- the row of a file, with the name that its number has
one_moved : (names : List Row) (row : Row) (n : FileNumbers) (name : Value) → numbers_of row ≡ number_cells n → name ≡ name_at names (Int n.name) → moved_row names row ≡ moved_cells n name (lstat_of row) (digest_of row)
one_moved names row n name same named =
    let id : column row 0 ≡ Int n.id = ap (λ (l : Row). column l 0) same in
    let index : column row 2 ≡ Int (pos n.index) = ap (λ (l : Row). column l 1) same in
    let job : column row 3 ≡ Int (pos n.job) = ap (λ (l : Row). column l 2) same in
    let path : column row 4 ≡ Int n.path = ap (λ (l : Row). column l 3) same in
    let called : name_at names (column row 5) ≡ name = ap (λ (l : Row). name_at names (column l 4)) same ∙ sym named in
    ap₂ (λ a b. a ∷ Null ∷ b ∷ column row 3 ∷ column row 4 ∷ name_at names (column row 5) ∷ lstat_of row ∷ digest_of row ∷ []) id index
    ∙ ap₂ (λ a b. Int n.id ∷ Null ∷ Int (pos n.index) ∷ a ∷ b ∷ name_at names (column row 5) ∷ lstat_of row ∷ digest_of row ∷ []) job path
    ∙ ap (λ a. Int n.id ∷ Null ∷ Int (pos n.index) ∷ Int (pos n.job) ∷ Int n.path ∷ a ∷ lstat_of row ∷ digest_of row ∷ []) called

-- what is kept of a file at a place makes the row at that place
pub moved_at : (names rows : List Row) (numbers : List FileNumbers) (lstats digests : List Value) (at : ℕ) (n : FileNumbers) (name : Value)
    → map numbers_of rows ≡ map number_cells numbers → map lstat_of rows ≡ lstats → map digest_of rows ≡ digests → slice_get numbers at ≡ Some n → name ≡ name_at names (Int n.name)
    → slice_get (map (moved_row names) rows) at ≡ Some (moved_cells n name (column lstats at) (column digests at))
moved_at names rows [] lstats digests at n name same stats sums has named = absurd cc
moved_at names [] (m ∷ numbers) lstats digests at n name same stats sums has named = absurd cc
moved_at names (r ∷ rows) (m ∷ numbers) lstats digests zero n name same stats sums has named =
    let it : m ≡ n = cc in
    let first : numbers_of r ≡ number_cells m = cc in
    let numbers_are : numbers_of r ≡ number_cells n = first ∙ ap number_cells it in
    ap Some (one_moved names r n name numbers_are named ∙ ap₂ (λ l d. moved_cells n name l d) (ap (λ (l : List Value). column l 0) stats) (ap (λ (l : List Value). column l 0) sums))
moved_at names (r ∷ rows) (m ∷ numbers) lstats digests (suc at) n name same stats sums has named =
    let rest : map numbers_of rows ≡ map number_cells numbers = cc in
    moved_at names rows numbers (map lstat_of rows) (map digest_of rows) at n name rest refl refl has named
    ∙ ap Some (ap₂ (λ l d. moved_cells n name l d) (ap (λ (l : List Value). column l (suc at)) stats) (ap (λ (l : List Value). column l (suc at)) sums))

-- a row of a file that was tested is moved
pub moved_is : (names : List Row) (row : Row) (file : OldFile) (rest : List ℕ) → IsOldFile file row → Blob rest ≡ name_at names (Int file.numbers.name) → IsMovedRow row (moved_row names row)
moved_is names row file rest is named = record {
  id = file.numbers.id;
  index = pos file.numbers.index;
  job = pos file.numbers.job;
  path = file.numbers.path;
  name = rest;
  lstat = file.lstat.now;
  digest = file.digest.now;
  of_job = ap (λ (l : Row). column l 2) is.numbers;
  of_path = ap (λ (l : Row). column l 3) is.numbers;
  is = one_moved names row file.numbers (Blob rest) is.numbers named ∙ ap₂ (λ (l d : Value). moved_cells file.numbers (Blob rest) l d) is.lstat is.digest;
}

moved_push : (xs ys : List Row) (x y : Row) → AreMovedRows xs ys → IsMovedRow x y → AreMovedRows (xs ++ x ∷ []) (ys ++ y ∷ [])
moved_push [] [] x y all one = (one, tt)
moved_push [] (b ∷ ys) x y all one = absurd all
moved_push (a ∷ xs) [] x y all one = absurd all
moved_push (a ∷ xs) (b ∷ ys) x y all one = (all.0, moved_push xs ys x y all.1 one)

pub moved_more : (names rows : List Row) (row : Row) → AreMovedRows rows (map (moved_row names) rows) → IsMovedRow row (moved_row names row) → AreMovedRows (rows ++ row ∷ []) (map (moved_row names) (rows ++ row ∷ []))
moved_more names rows row all one =
    subst (AreMovedRows (rows ++ row ∷ [])) (sym (map_push (moved_row names) rows row)) (moved_push rows (map (moved_row names) rows) row (moved_row names row) all one)
