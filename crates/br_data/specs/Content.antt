-- The bytes of a file, in memory or not.
use Rattle.std.specs.Prelude.{ℕ, List}
use Rattle.br_data.specs.declared.file_bytes.Content.{Content}
use Rattle.br_data.specs.declared.file_bytes.Content.TheVariants.{Held, Left}
use Rattle.br_data.specs.BodyParts.{joined}

-- the bytes of the parts, or those that were read
abbrev pub content_bytes : Content → List ℕ
content_bytes (Held parts) = joined parts.items
content_bytes (Left read) = read.bytes
