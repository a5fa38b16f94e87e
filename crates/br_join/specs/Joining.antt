-- A joiner: the pieces that it waits for, the names under which files were planned, the set of the
-- hits that it took, and its room for their data.
use Rattle.std.specs.Prelude.{◌≡◌, ◌==◌, is_some, ℕ, Bool, true, false, List, [], ◌∷◌, map, Option, None}
use Rattle.std.specs.List.{list_all, list_any}
use Rattle.std.specs.Ordering.{nat_cmp}
use Rattle.std.specs.FinMap.{FinMap, get, insert, entries, from_entries, empty}
use Rattle.br_model.specs.Meaning.{Piece, Hit, Hits, with_hits}
use Rattle.br_model.specs.Restored.{Names}
use Rattle.br_join.specs.Room.{data_in, filled, room_of}
use Rattle.br_join.specs.declared.room.Room.{Room}

-- pieces by number, each closed or not; the planned names, if there is a plan; the hits; the room
-- for their data
pub record Joining : Type 0 where
  pub pieces : FinMap nat_cmp Bool
  pub names : Option Names
  pub hits : Hits
  pub room : Room

-- a joiner of these pieces that took nothing yet, with room for this many bytes of data, or for all
abbrev pub begun_within : Option ℕ → List Piece → Option Names → Joining
begun_within bound pieces names = record {
  pieces = from_entries (map (λ (p : Piece). (p.number, false)) pieces);
  names = names;
  hits = empty;
  room = room_of bound;
}

-- a joiner of these pieces that took nothing yet, with room for all data
abbrev pub begun : List Piece → Option Names → Joining
begun pieces names = begun_within None pieces names

-- the joiner with more hits, and their piece closed
abbrev pub taken : Joining → ℕ → List Hit → Joining
taken j piece found = record {
  pieces = insert j.pieces piece true;
  names = j.names;
  hits = with_hits j.hits found;
  room = filled j.room (data_in found);
}

-- the joiner with more hits, its pieces as they were
abbrev pub with_batch : Joining → List Hit → Joining
with_batch j batch = record {
  pieces = j.pieces;
  names = j.names;
  hits = with_hits j.hits batch;
  room = filled j.room (data_in batch);
}

-- the joiner with this piece closed
abbrev pub with_closed : Joining → ℕ → Joining
with_closed j piece = record { pieces = insert j.pieces piece true; names = j.names; hits = j.hits; room = j.room }

-- the joiner after the pieces were closed, one after the other
abbrev pub closed_each : Joining → List Piece → Joining
closed_each j [] = j
closed_each j (p ∷ ps) = closed_each (with_closed j p.number) ps

-- whether all pieces are closed
abbrev pub is_ready : Joining → Bool
is_ready j = list_all (λ (p : ℕ × Bool). p.1) (entries j.pieces)

-- the joiner without hits, its pieces open and its room free
abbrev pub emptied : Joining → Joining
emptied j = record {
  pieces = from_entries (map (λ (p : ℕ × Bool). (p.0, false)) (entries j.pieces));
  names = j.names;
  hits = empty;
  room = room_of j.room.bound;
}

-- the joiner waits for these pieces: it knows their numbers, and no others
abbrev pub IsMadeFor : List Piece → FinMap nat_cmp Bool → Type 0
IsMadeFor pieces known = (n : ℕ) → is_some (get known n) ≡ list_any (λ (p : Piece). n == p.number) pieces
