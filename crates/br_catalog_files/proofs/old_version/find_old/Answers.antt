use Rattle.std.proofs.Common.{refl}
use Rattle.br_catalog_files.proofs.StepLaws.{clean_before, kept_none}
use Rattle.br_catalog_files.proofs.old_version.find_old.Goals as goal

pub returns-in-Some-clause-old : goal.returns-in-Some-clause-old
returns-in-Some-clause-old g c = λ clean. record { listed = c.in_ok-schema.ensures.lists clean; is = c.in-Some.ensures }

pub returns-in-Some-clause-reads : goal.returns-in-Some-clause-reads
returns-in-Some-clause-reads g c = λ clean. record { same = refl; sound = c.requires clean }

pub returns-in-Some-clause-kept : goal.returns-in-Some-clause-kept
returns-in-Some-clause-kept g c = kept_none c.args.store.now

pub returns-in_err-schema-clause-kept : goal.returns-in_err-schema-clause-kept
returns-in_err-schema-clause-kept g c = kept_none c.args.store.now

pub returns-in-None-clause-other : goal.returns-in-None-clause-other
returns-in-None-clause-other g c = λ clean h. c.refusal_of_other.ensures.other clean (c.in_ok-schema.ensures.lists (clean_before c.refusal_of_other.ensures.kept clean)) h
