-- Blocks that are dealt out to volumes, and their spans.
use Rattle.std.specs.Prelude.{◌≡◌, ℕ, ◌+◌, ◌-◌, ◌^◌, ◌||◌, nat_lt, nat_le, if◌then◌else◌, List, [], ◌∷◌, map, flat_map, min, max, nat_abs, Option, Some, None, unwrap_or, Result, Ok, Err}
use Rattle.std.specs.List.{AllByRecursion}
use Rattle.std.specs.Ordering.{nat_cmp}
use Rattle.std.specs.Global.{Vec}
use Rattle.std.specs.Cmp.Lexicographic.{slice_cmp}
use Rattle.std.specs.BTreeMap.{BTreeMap, get_by}
use Rattle.br_model.specs.Block.{Fragment, read_block}
use Rattle.br_model.specs.Job.{Span}
use Rattle.br_model.specs.Session.{Place, Visit, visit_indexes, visit_length, length_of, least_of, greatest_of}
use denote.Ref.{Bor}

-- the bytes of blocks
abbrev pub bytes_of : List (Vec ℕ) → List (List ℕ)
bytes_of blocks = map (λ (b : Vec ℕ). b.items) blocks

-- ---- the lengths of volumes

-- the length that a map has at a name; 0 if it has none
abbrev pub length_at : BTreeMap (Bor (List ℕ)) ℕ → List ℕ → ℕ
length_at lengths name = unwrap_or (get_by (λ k. slice_cmp nat_cmp name k.now) lengths) 0

-- the map has these lengths
abbrev pub AreLengths : BTreeMap (Bor (List ℕ)) ℕ → List (List ℕ × ℕ) → Type 0
AreLengths lengths list = (name : List ℕ) → length_at lengths name ≡ length_of list name

-- ---- indexes

-- the blocks can be read
abbrev pub AreReadable : List (List ℕ) → Type 0
AreReadable blocks = AllByRecursion (λ (block : List ℕ). read_block block ≡ Ok block) blocks

-- the indexes of fragments
abbrev pub indexes_of : List Fragment → List ℕ
indexes_of fragments = map (λ (f : Fragment). nat_abs f.index) fragments

-- the least and the greatest of the indexes so far, with one more
abbrev pub with_index : Option (ℕ × ℕ) → ℕ → Option (ℕ × ℕ)
with_index None n = Some (n, n)
with_index (Some range) n = Some (min range.0 n, max range.1 n)

-- ---- places

-- the number of remaining blocks that a place takes, if these places follow it
abbrev pub share : Place → List Place → ℕ → ℕ
share p [] left = left
share p (q ∷ more) left = min left p.blocks

-- the blocks of visits with their volumes
abbrev pub with_volumes : List Visit → List (List ℕ × List ℕ)
with_volumes vs = flat_map (λ (v : Visit). map (λ block. (v.volume, block)) v.blocks) vs

-- ---- spans

-- a number, if it fits 64 bits
abbrev pub within64 : ℕ → Option ℕ
within64 n = if nat_lt n (2 ^ 64) then Some n else None

-- the span of a visit to a volume of this length
abbrev pub span_at : ℕ → ℕ → Visit → Span
span_at number start v = record {
  volume = v.volume;
  first = least_of (visit_indexes v);
  last = greatest_of (visit_indexes v);
  start = start;
  end = start + visit_length v - 1;
  vol_index = number;
}

-- the span, or 42 if it ends too late or its number is too great
unfoldable pub checked_span : Span → Result Span ℕ
checked_span s = if nat_lt (2 ^ 63 - 2) s.end || nat_le (2 ^ 32) s.vol_index then Err 42 else Ok s
