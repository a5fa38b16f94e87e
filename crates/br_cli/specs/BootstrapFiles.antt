-- The bootstrap in a file, with all its volumes and without those that are lost.
use Rattle.std.specs.Prelude.{◌≡◌, ℕ, Bool, false, List, length, replicate, Option, Some, None, Result, Ok, Err}
use Rattle.std.specs.Global.{Vec}
use Rattle.br_model.specs.Bootstrap.{Group}
use Rattle.br_bsr.specs.declared.fault.BsrFault.{BsrFault}
use Rattle.br_damage.specs.NarrowedBootstrap.{with_volume}
use Rattle.br_damage.specs.declared.narrowed_bootstrap.NarrowedBootstrap.{NarrowedBootstrap}
use Rattle.br_engine.specs.declared.restore_order.ReadBootstrap.{ReadBootstrap}
use Rattle.br_cli.specs.LostGroups.{LeavesBy}
use Rattle.br_cli.specs.declared.bootstrap_file.LostGroups.{LostGroups}
use Rattle.br_cli.specs.declared.bootstrap_file.BootstrapFile.{BootstrapFile}

-- the groups of a bootstrap, if its text is not refused
abbrev pub groups_read : Result ReadBootstrap BsrFault → Option (List Group)
groups_read (Ok read) = Some read.bootstrap
groups_read (Err fault) = None

-- those of the bootstrap with all its volumes
abbrev pub whole_with : Option LostGroups → Result ReadBootstrap BsrFault → Option (List Group)
whole_with None read = groups_read read
whole_with (Some lost) read = Some lost.whole

abbrev pub whole_of : BootstrapFile → Option (List Group)
whole_of file = whole_with file.lost file.read

-- what is left without one more volume, if there is a bootstrap
abbrev pub LeavesOfRead : List ℕ → Result ReadBootstrap BsrFault → Option (Vec Bool × NarrowedBootstrap) → Type 0
LeavesOfRead vol (Ok read) left = LeavesBy (with_volume vol (replicate (length read.bootstrap) false) read.bootstrap) read.bootstrap left
LeavesOfRead vol (Err fault) left = left ≡ None

abbrev pub LeavesWith : List ℕ → Option LostGroups → Result ReadBootstrap BsrFault → Option (Vec Bool × NarrowedBootstrap) → Type 0
LeavesWith vol None read left = LeavesOfRead vol read left
LeavesWith vol (Some lost) read left = LeavesBy (with_volume vol lost.flags.items lost.whole) lost.whole left

abbrev pub LeavesWithout : List ℕ → BootstrapFile → Option (Vec Bool × NarrowedBootstrap) → Type 0
LeavesWithout vol file left = LeavesWith vol file.lost file.read left
