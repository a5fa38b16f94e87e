-- Records that a packer packs one after another.
use Rattle.std.specs.Prelude.{◌≡◌, ℕ, List, [], ◌∷◌, ◌++◌, if◌then◌else◌, Ok}
use Rattle.md5.specs.Md5.{md5}
use Rattle.br_model.specs.Attribute.{Stat, write_attributes}
use Rattle.br_model.specs.Job.{SavedFile}
use Rattle.br_model.specs.Record.{Record}
use Rattle.br_model.specs.Session.{ToSave, attributes_of_saved, checked_file, has_digest}
use Rattle.br_session.specs.declared.packing.Packer.{Packer}
use Rattle.br_session.specs.Packing.{PacksMore}

-- the packer has packed these records, too
pub record Adds (before after : Packer) (more : List Record) : Type 0 where
  pub packs : PacksMore before after more
  pub session : after.session ≡ before.session
  pub limit : after.limit ≡ before.limit

-- the packer has packed all of these records but those that are left
pub record AddsUpTo (before after : Packer) (all left : List Record) : Type 0 where
  pub more : List Record
  pub adds : Adds before after more
  pub joined : more ++ left ≡ all

-- the file with this path, type, numbers, link text and bytes
abbrev pub of_parts : List ℕ → ℕ → Stat → List ℕ → List ℕ → SavedFile
of_parts path kind stat link bytes = record { path = path; kind = kind; stat = stat; link = link; bytes = bytes }

-- the file can be saved
abbrev pub IsSaved : SavedFile → Type 0
IsSaved f = checked_file f ≡ Ok f

-- the record of a file's attributes
abbrev pub attributes_record : ℕ → ToSave → Record
attributes_record index f = record { index = index; stream = 1; bytes = write_attributes (attributes_of_saved index f.file) }

-- the record of a file's digest, if one is written
abbrev pub digest_part : ℕ → ToSave → List Record
digest_part index f = if has_digest f then record { index = index; stream = 3; bytes = md5 f.file.bytes } ∷ [] else []
