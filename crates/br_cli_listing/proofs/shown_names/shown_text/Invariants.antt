use Rattle.std.proofs.Common.{length}
use Rattle.br_cli_listing.proofs.shown_names.shown_text.Given as goal

abbrev pub decreases-loop-first : goal.decreases-loop-first
decreases-loop-first l = length l.left
