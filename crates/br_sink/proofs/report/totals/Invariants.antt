use Rattle.std.proofs.Common.{◌≡◌, ◌≤◌, ◌*◌, ◌^◌, map, take, sum_by, count_by, is_ok, not}
use Rattle.br_model.specs.Manifest.{skipped_in}
use Rattle.br_model.specs.Restored.{Restored}
use Rattle.br_join.specs.Outcome.{restored}
use Rattle.br_sink.proofs.report.totals.Given as goal

abbrev pub invariant-loop-outcome : goal.invariant-loop-outcome
invariant-loop-outcome l = record {
  files : l.files ≡ count_by (λ (r : Restored). is_ok r.outcome) (map restored (take l.outcome-index l.outcomes));
  faults : l.faults ≡ count_by (λ (r : Restored). not (is_ok r.outcome)) (map restored (take l.outcome-index l.outcomes));
  skipped : l.skipped ≡ sum_by skipped_in (map restored (take l.outcome-index l.outcomes));
  few_files : l.files ≤ l.outcome-index;
  few_faults : l.faults ≤ l.outcome-index;
  few_skipped : l.skipped ≤ l.outcome-index * 2 ^ 64;
}
