-- The bytes of a file, part after part.
use Rattle.std.specs.Prelude.{ℕ, List, drop, replicate, flat_map}
use Rattle.std.specs.Arc.{arc_slice_items}
use Rattle.br_data.specs.declared.body_part.Part.{Part}
use Rattle.br_data.specs.declared.body_part.Part.TheVariants.{Zeros, Made, Found}

-- zeros, bytes that were made, or the bytes of a fragment without the first ones
abbrev pub part_bytes : Part → List ℕ
part_bytes (Zeros count) = replicate count 0
part_bytes (Made bytes) = arc_slice_items bytes
part_bytes (Found skip kept) = drop skip kept.bytes

-- the bytes of the parts, one after another
abbrev pub joined : List Part → List ℕ
joined parts = flat_map part_bytes parts
