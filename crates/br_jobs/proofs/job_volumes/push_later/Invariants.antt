use Rattle.std.proofs.Common.{◌≡◌, ◌++◌, drop}
use Rattle.br_jobs.specs.ListingLine.{later_text}
use Rattle.br_jobs.proofs.job_volumes.push_later.Given as goal

-- what is appended so far, and the names of the spans that are left
abbrev pub invariant-loop-span : goal.invariant-loop-span
invariant-loop-span l = l.text.items ++ later_text l.last (drop l.span-index l.spans) ≡ l.initial.text.items ++ later_text l.first l.spans
