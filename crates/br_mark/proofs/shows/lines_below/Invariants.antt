use Rattle.std.proofs.Common.{◌≡◌, take, filter, flat_map}
use Rattle.br_model.specs.Text.{line, escaped}
use Rattle.br_model.specs.Console.{begins_with}
use Rattle.br_mark.proofs.shows.lines_below.Given as goal

abbrev pub invariant-loop-path : goal.invariant-loop-path
invariant-loop-path l = l.text.items ≡ flat_map (λ e. line (escaped e.0.now)) (filter (λ e. begins_with e.0.now l.directory) (take l.path-index l.entries))
