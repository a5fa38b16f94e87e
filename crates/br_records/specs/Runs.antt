-- Hits in the order in which a set lists them.
use Rattle.std.specs.Prelude.{List, map}
use Rattle.std.specs.List.Sorted.{IsStrictlySortedBy}
use Rattle.std.specs.declared.cmp.Ordering.{Ordering}
use Rattle.br_model.specs.Meaning.{Hit, hit_cmp, hit_entry}
use Rattle.br_model.specs.Restored.{HitList}

-- the hits as entries of a set
abbrev pub listed : List Hit → HitList
listed hits = map hit_entry hits

-- hits are ordered by file and place
abbrev pub hit_order : Hit → Hit → Ordering
hit_order g h = hit_cmp (g.key, g.spot) (h.key, h.spot)

-- the hits ascend by file and place, so that no two are at one place of one file
abbrev pub AreListed : List Hit → Type 0
AreListed hits = IsStrictlySortedBy hit_order hits
