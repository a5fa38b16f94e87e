-- Entries and their paths, as the model has them.
use Rattle.std.specs.Prelude.{ℕ, ◌-◌, ◌^◌, if◌then◌else◌, List, Option, Some, None}
use Rattle.std.specs.Borrow.{Bor}
use Rattle.std.specs.Int.{is_in_range}
use Rattle.br_model.specs.View as model
use Rattle.br_view.specs.declared.entry.Entry.{Entry}
use Rattle.br_view.specs.Newest.{Copy}

-- the entry with its path
abbrev pub entry_with : List ℕ → Entry → model.Entry
entry_with path e = record { path = path; job = e.job; session = e.session; index = e.index; size = e.size; link_index = e.link_index }

-- the entry with the path that comes with it
abbrev pub shown_pair : Bor (List ℕ) × Entry → model.Entry
shown_pair p = entry_with p.0.now p.1

-- the entry of a copy, if its index is that of a saved file
abbrev pub shown : Copy → Option model.Entry
shown c = if is_in_range 1 (2 ^ 31 - 1) c.1.index then Some (model.entry_from c.0 c.1) else None
