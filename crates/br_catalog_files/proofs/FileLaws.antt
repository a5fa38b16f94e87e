-- The values of rows of File.
use Rattle.std.proofs.Common.{◌≡◌, ℕ, pos, ◌<◌, ◌^◌, true, ◌||◌, ◌==◌, List, ◌++◌, is_ok, Option, Result, Ok, Err, refl, arith}
use Rattle.std.specs.Str.{is_utf8}
use Rattle.std.proofs.lemmas.Bool.{lt-leb, lt-ltb}
use Rattle.sqlite.specs.declared.types.Value.TheVariants.{Int}
use Rattle.br_model.specs.Attribute.{read_stat}
use Rattle.br_model.specs.Job.{FileRow, is_file_row}
use Rattle.br_model.specs.Name.{checked_path, is_path}
use Rattle.br_catalog_rows.specs.Decode.{characters, digest, digest_in, path_in, read_file, small, string_in}
use Rattle.br_store.specs.Held.{file_cells}

-- a number of 32 bits is read
pub small_is : (n : ℕ) → n < 2 ^ 32 → small (Int (pos n)) ≡ Ok n
unfolding small
small_is n low = rw (lt-leb (2 ^ 32) n low) refl

-- A file whose parts are right is read, and is one that a history can have.
pub file_is_whole : (job index : ℕ) (front rest lstat digest' : List ℕ) → index < 2 ^ 31 → is_path (front ++ rest) ≡ true → is_utf8 lstat ≡ true → is_ok (digest digest') ≡ true
    → (index == 0 || is_ok (read_stat lstat)) ≡ true
    → (file : FileRow) × (read_file (file_cells job index front rest lstat digest') ≡ Ok file) × (is_file_row file ≡ true) × (file.index ≡ index)
unfolding read_file path_in string_in digest_in characters checked_path
file_is_whole job index front rest lstat digest' low path text is numbers =
    go (digest digest') refl is
  where
    go : (q : Result (Option (List ℕ)) ℕ) → digest digest' ≡ q → is_ok q ≡ true
        → (file : FileRow) × (read_file (file_cells job index front rest lstat digest') ≡ Ok file) × (is_file_row file ≡ true) × (file.index ≡ index)
    go (Err e) same is = absurd cc
    go (Ok d) same is = (
      record { path = front ++ rest; index = index; lstat = lstat; digest = d },
      rw (small_is index (omega (arith, low)), path, text, same) refl,
      rw (lt-ltb index (2 ^ 31) low, numbers) refl,
      refl,
    )
