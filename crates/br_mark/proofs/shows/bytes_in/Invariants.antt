use Rattle.std.proofs.Common.{◌≡◌, ◌≤◌, ◌*◌, ◌^◌, not, take, filter, sum_by}
use Rattle.br_model.specs.Name.{is_directory}
use Rattle.br_model.specs.Console.{size_of}
use Rattle.br_mark.proofs.shows.bytes_in.Given as goal

abbrev pub invariant-loop-path : goal.invariant-loop-path
invariant-loop-path l = record {
  sum : l.total ≡ sum_by (λ e. size_of e.1.size) (filter (λ e. not (is_directory e.0.now)) (take l.path-index l.entries));
  fits : l.total ≤ 2 ^ 63 * l.path-index;
}
