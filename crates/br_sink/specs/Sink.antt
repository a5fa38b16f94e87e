-- What files a sink has, if it reports them.
use Rattle.std.specs.Prelude.{◌≡◌, List, ◌++◌, Option, Some, None, ⊤}
use Rattle.br_model.specs.File.{Item}

-- A sink reports its files always or never. If it reports them, these come after those that it had.
abbrev pub HasMore : List Item → Option (List Item) → Option (List Item) → Type 0
HasMore items None None = ⊤
HasMore items (Some earlier) (Some later) = later ≡ earlier ++ items
HasMore items None (Some later) = ⊥
HasMore items (Some earlier) None = ⊥
