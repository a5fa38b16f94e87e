-- The refused choice of the jobs to mark.
use Rattle.std.specs.Prelude.{ℕ, Option, Some, None}
use Rattle.br_choose.specs.Fault as choose
use Rattle.br_jobs.specs.declared.listing_fault.ListingFault.{ListingFault}
use Rattle.br_jobs.specs.declared.listing_fault.ListingFault.TheVariants.{Memory, BadName, Choice}

-- the number of a refusal
abbrev pub mark_number : ListingFault → ℕ
mark_number Memory = 1
mark_number BadName = 2
mark_number (Choice fault) = choose.fault_number fault

-- the refusal that the jobs decide; nothing if memory ran out
abbrev pub cause : ListingFault → Option ℕ
cause Memory = None
cause BadName = Some 2
cause (Choice fault) = choose.cause fault
