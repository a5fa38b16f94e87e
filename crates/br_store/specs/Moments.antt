-- A catalogue's file and its log, as other programs change them while they are read.
use Rattle.std.specs.Prelude.{◌≡◌, ◌≤◌, ◌-◌, ℕ, false, List, ◌++◌, length, take, drop, Option, IfSome}
use Rattle.br_store.specs.declared.look_file.Copied.{Copied}
use Rattle.br_store.specs.declared.look_file.Mark.{Mark}
use Rattle.br_store.specs.declared.look_source.Source.{Source}
use Rattle.br_store.specs.declared.look_stamp.Stamp.{Stamp}
use Rattle.br_store.specs.Scene.{Scene, IsFront, bytes_of, log_front}

-- Stamps and headers show changes. If the file has the same stamp at two moments, it had the same bytes at each moment between. If the
-- log has the same whole header at two moments, it only grew between.
pub record IsKept (scenes : ℕ → Scene) : Type 0 where
  pub file : (t u v : ℕ) → t ≤ u → u ≤ v → (scenes t).stamp ≡ (scenes v).stamp → (scenes u).bytes ≡ (scenes t).bytes
  pub log : (t u v w : ℕ) → t ≤ u → u ≤ v → v ≤ w → 32 ≤ length (log_front (scenes t)) → log_front (scenes t) ≡ log_front (scenes w)
      → IsFront (scenes v).log (scenes u).log

-- files that nobody changes
abbrev pub StillIsKept : Type 0
StillIsKept = (scene : Scene) → IsKept (λ _. scene)

-- the claim holds of the scenes, if they are told and show their changes
abbrev pub WhileKept : Option (ℕ → Scene) → ((ℕ → Scene) → Type 0) → Type 0
WhileKept told claim = IfSome told (λ scenes. IsKept scenes → claim scenes)

-- ---- one of the two files

-- at each moment of a time one of the files begins with what it had at the first
abbrev pub Lasts : Source → (ℕ → Scene) → ℕ → ℕ → Type 0
Lasts source scenes from to = (u : ℕ) → from ≤ u → u ≤ to → IsFront (bytes_of source (scenes u)) (bytes_of source (scenes from))

-- the bytes are longer than they were by some that follow in the file
abbrev pub Continues : List ℕ → List ℕ → List ℕ → Type 0
Continues bytes old new = new ≡ old ++ take (length new - length old) (drop (length old) bytes)

-- the shorter one of two lists is a first part of the other
abbrev pub Agrees : List ℕ → List ℕ → Type 0
Agrees xs ys = take (length xs) ys ≡ take (length ys) xs

-- if one of the files only grew in a time, these bytes agree with what it had at the first moment
abbrev pub IsBegun : Option (ℕ → Scene) → Source → ℕ → ℕ → List ℕ → Type 0
IsBegun told source from to bytes = IfSome told (λ scenes. Lasts source scenes from to → Agrees (bytes_of source (scenes from)) bytes)

-- if one of the files only grew in a time, these are the bytes that it had at the first moment
abbrev pub IsRead : Option (ℕ → Scene) → Source → ℕ → ℕ → List ℕ → Type 0
IsRead told source from to bytes = IfSome told (λ scenes. Lasts source scenes from to → bytes ≡ bytes_of source (scenes from))

-- ---- both files

-- the first bytes of the log in a mark
abbrev pub front_of : Mark → List ℕ
front_of mark = take mark.len mark.header

-- in a time the log began like this at some moment, and the file had this stamp at the last one
pub record Marks (scenes : ℕ → Scene) (from to : ℕ) (stamp : Stamp) (front : List ℕ) : Type 0 where
  pub at : ℕ
  pub after : from ≤ at
  pub before : at ≤ to
  pub begins : log_front (scenes at) ≡ front
  pub stamped : (scenes to).stamp ≡ stamp

-- the same, if the scenes are told
abbrev pub IsMarked : Option (ℕ → Scene) → ℕ → ℕ → Stamp → List ℕ → Type 0
IsMarked told from to stamp front = IfSome told (λ scenes. Marks scenes from to stamp front)

-- the mark is that of a time
abbrev pub IsMark : Option (ℕ → Scene) → ℕ → ℕ → Mark → Type 0
IsMark told from to mark = IsMarked told from to mark.stamp (front_of mark)

-- if changes are shown, the log had these bytes at some moment of a time
abbrev pub HadLog : (ℕ → Scene) → ℕ → ℕ → List ℕ → Type 0
HadLog scenes from to log = IsKept scenes → (at : ℕ) × (from ≤ at) × (at ≤ to) × (log ≡ (scenes at).log)

-- the same, and the file had this stamp at the last moment, if the scenes are told
abbrev pub IsLogOf : Option (ℕ → Scene) → ℕ → ℕ → Stamp → List ℕ → Type 0
IsLogOf told from to stamp log = IfSome told (λ scenes. HadLog scenes from to log × ((scenes to).stamp ≡ stamp))

-- The file and its log had these bytes at one moment of a time. At a moment of it that was not later the file had the same bytes, and no
-- journal had to be rolled back.
pub record AreAtOnce (scenes : ℕ → Scene) (from to : ℕ) (bytes log : List ℕ) : Type 0 where
  pub free : ℕ
  pub at : ℕ
  pub first : from ≤ free
  pub next : free ≤ at
  pub last : at ≤ to
  pub settled : (scenes free).has_journal ≡ false
  pub stood : (scenes free).bytes ≡ bytes
  pub held : (scenes at).bytes ≡ bytes
  pub logged : (scenes at).log ≡ log

-- the same, if the scenes are told and show their changes
abbrev pub AreHeld : Option (ℕ → Scene) → ℕ → ℕ → List ℕ → List ℕ → Type 0
AreHeld told from to bytes log = WhileKept told (λ scenes. AreAtOnce scenes from to bytes log)

-- these copies are what the files had at once in a time
abbrev pub AreCopied : Option (ℕ → Scene) → ℕ → ℕ → Copied → Type 0
AreCopied told from to copied = AreHeld told from to copied.bytes.items copied.log.items
