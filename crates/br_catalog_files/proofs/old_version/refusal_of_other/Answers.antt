use Rattle.br_catalog_files.proofs.RefusedLaws.{not_empty, not_ours, version_in}
use Rattle.br_catalog_files.proofs.old_version.refusal_of_other.Goals.{then-is_empty-via-then-is_empty, then-is_empty-via-else-is_empty+then-is_ours}
use Rattle.br_catalog_files.proofs.old_version.refusal_of_other.Goals as goal

pub returns-then-is_empty-clause-other : goal.returns-then-is_empty-clause-other
returns-then-is_empty-clause-other g c = λ clean lists h.
    let trees = (g.S.Store.view c.args.store.now).trees in
    elim c.then-is_empty.branch [
      | then-is_empty-via-then-is_empty w ↦ absurd (not_empty c.args.schema.now trees lists h (c.is_empty.ensures.empty w.if-is_empty.true))
      | then-is_empty-via-else-is_empty+then-is_ours w ↦ absurd (not_ours c.args.schema.now trees lists h (w.is_ours.ensures.ours w.if-is_ours.true))
    ]

pub returns-in-Err-clause-other : goal.returns-in-Err-clause-other
returns-in-Err-clause-other g c = λ clean lists h.
    c.in-Err.ensures.other clean h.forms.id (version_in c.args.schema.now (g.S.Store.view c.args.store.now).trees c.in-Some.tree h lists c.in-Some.ensures.found)
