use Rattle.std.proofs.Common.{ap, arith}
use Rattle.br_model.specs.Job.{JobRow}
use Rattle.br_history.proofs.saved_job.SavedJob.new.Goals as goal

pub invariant_of-result : goal.invariant_of-result
invariant_of-result c = record {
  bounds = c.requires.bounds;
  places_are = c.requires.places_are;
  some_place = c.requires.some_place;
  in_order = rw c.deref.ensures.value at c.in_ok-check_files.ensures;
  early = omega (arith, ap (λ (r : JobRow). r.start) c.row.view_is);
}
