-- What a sight tells about a catalogue's file.
use Rattle.std.specs.Prelude.{◌≡◌, ℕ, Bool, List, length, take, pos, Option, IfSome}
use Rattle.br_store.specs.declared.look_source.Source.{Source}
use Rattle.br_store.specs.declared.look_source.Source.TheVariants.{Main, Log}
use Rattle.br_store.specs.declared.look_stamp.FileTime.{FileTime}
use Rattle.br_store.specs.declared.look_stamp.Stamp.{Stamp}

-- at one moment: the stamp of the file, its bytes and those of its log, which are none if there is no log, and whether a journal
-- has to be rolled back
pub record Scene : Type 0 where
  pub stamp : Stamp
  pub bytes : List ℕ
  pub log : List ℕ
  pub has_journal : Bool

-- the bytes of one of the two files
abbrev pub bytes_of : Source → Scene → List ℕ
bytes_of Main scene = scene.bytes
bytes_of Log scene = scene.log

-- these are the first bytes of the file
abbrev pub IsFront : List ℕ → List ℕ → Type 0
IsFront bytes front = front ≡ take (length front) bytes

-- the first bytes of the log: its header, if it has that many
abbrev pub log_front : Scene → List ℕ
log_front scene = take 32 scene.log

-- the claim holds of the scene at this moment, if the scenes are told
abbrev pub At : Option (ℕ → Scene) → ℕ → (Scene → Type 0) → Type 0
At told moment claim = IfSome told (λ scenes. claim (scenes moment))

-- the time of all changes of a file in memory
abbrev beginning : FileTime
beginning = record { seconds = pos 0; nanos = pos 0 }

-- the stamp of a file in memory of this length
unfoldable pub mem_stamp : ℕ → Stamp
mem_stamp len = record { len = len; device = 0; inode = 0; written = beginning; changed = beginning }
