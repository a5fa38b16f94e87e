-- What holds of the options of a command.
use Rattle.std.specs.Prelude.{ℕ, ◌≤◌, ⊤}
use Rattle.br_cli_common.specs.declared.options.Invocation.{Invocation}
use Rattle.br_cli_common.specs.declared.options.Invocation.TheVariants.{Extract, Console}

-- a number of drives that read at once, from 1 to 16
abbrev pub AreFew : ℕ → Type 0
AreFew drives = (1 ≤ drives) × (drives ≤ 16)

-- from 1 to 16 drives read at once, if the command reads volumes
abbrev pub HasDrives : Invocation → Type 0
HasDrives (Extract o) = AreFew o.drives
HasDrives (Console o) = AreFew o.drives
HasDrives _ = ⊤
