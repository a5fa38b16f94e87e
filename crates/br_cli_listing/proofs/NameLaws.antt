-- What a writer of names keeps, if it tells what it holds.
use Rattle.std.proofs.Common.{ℕ, Bool, true, false, List, Option, None}
use Rattle.std.specs.Prelude.{cond}
use Rattle.std.specs.Io.KnownBytes.{Keeps}

pub keeps_if_told : (shown : Bool) (before after : Option (List ℕ)) → Keeps before after → Keeps (cond shown None before) (cond shown None after)
keeps_if_told true before after keeps = tt
keeps_if_told false before after keeps = keeps
