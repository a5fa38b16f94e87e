-- A database in memory, and what it shows.
use Rattle.std.proofs.Common.{◌≡◌, ◌<◌, ℕ, List, [], ◌∷◌, length, slice_index, Option, Some, None, Result, Ok, Err, IfOk, refl, arith, subst, subst₂}
use Rattle.std.proofs.lemmas.List.{ext_get_or}
use Rattle.sqlite_disk.specs.declared.Disk.{Ghosts}
use Rattle.sqlite_disk.specs.declared.Files.{Files}
use Rattle.sqlite_disk.specs.Disk.{Holds, Torn}
use Rattle.sqlite_store.specs.declared.store.FileStore.{FileStore}
use Rattle.sqlite.specs.Held.{Held}
use Rattle.sqlite.specs.Start.{FindsIn}
use Rattle.sqlite.specs.Files.{Finds, file_state}
use Rattle.br_store.specs.Scene.{Scene}
use Rattle.br_store.specs.Moments.{AreHeld}
use Rattle.br_store.specs.Look.{together, HasFile, ShowsFiles, ShowsIn}

-- an empty file has the bytes that were written to its start
pub held_all : (file bytes : List ℕ) → (0 < length bytes → Holds file 0 bytes) → Torn 0 (length bytes) [] file → file ≡ bytes
held_all [] [] holds torn = refl
held_all (y ∷ ys) [] holds torn = absurd (omega (arith, torn.no_longer))
held_all file (x ∷ xs) holds torn =
    let held : Holds file 0 (x ∷ xs) = holds (omega arith) in
    ext_get_or 0 file (x ∷ xs) (omega (arith, torn.no_longer, held.within)) (λ i few.
    subst (λ k. slice_index file k ≡ slice_index (x ∷ xs) i) (omega arith) (held.each i (omega (arith, few, torn.no_longer))))

-- an open finds what the two files hold together
pub found_in : {D : Type 0} {g : Ghosts D} (files : Files D) (c : Held (FileStore D g)) (bytes log : List ℕ)
    → g.seen files.db ≡ bytes → g.seen files.log ≡ log → Finds files c → FindsIn (together bytes log) (file_state c)
found_in files c bytes log db left found =
    subst₂ (λ xs ys. FindsIn (together xs ys) (file_state c)) db left (record { holds = found.holds; reads = found.reads })

-- what was found in copies is what the files held at some moment
pub shown : {D E : Type 0} {g : Ghosts D} (told : Option (ℕ → Scene)) (from to : ℕ) (bytes log : List ℕ) (result : Result (Held (FileStore D g)) E)
    → AreHeld told from to bytes log → HasFile bytes log → IfOk result (λ c. ShowsIn (together bytes log) (file_state c))
    → IfOk result (λ c. ShowsFiles told from to (file_state c))
shown told from to bytes log (Err e) are present finds = tt
shown None from to bytes log (Ok c) are present finds = tt
shown (Some scenes) from to bytes log (Ok c) are present finds = λ kept.
    record { bytes = bytes; log = log; copied = are kept; present = present; shows = finds }
