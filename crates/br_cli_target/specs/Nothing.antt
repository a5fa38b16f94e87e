-- Whether a bootstrap asks for anything.
use Rattle.std.specs.Prelude.{Bool, false, List, Option, Some, None}
use Rattle.std.specs.Borrow.{Bor}
use Rattle.br_model.specs.Bootstrap.{Group}
use Rattle.br_model.specs.Text.{is_empty}

-- whether there is a bootstrap, and it has no group
abbrev pub asks_nothing : Option (Bor (List Group)) → Bool
asks_nothing None = false
asks_nothing (Some bootstrap) = is_empty bootstrap.now
