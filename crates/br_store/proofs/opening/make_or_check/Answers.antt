use Rattle.std.proofs.Common.{◌≡◌, None, arith, refl, ap, sym, subst, subst₂, ◌∙◌}
use Rattle.sqlite.specs.Effect.{Database, IsDatabase}
use Rattle.sqlite.specs.Held.{state}
use Rattle.sqlite.specs.State.{HasCleanDisk}
use Rattle.br_catalog_tables.specs.Tables.{no_schema}
use Rattle.br_catalog_tables.specs.KnownSchemas.{HasVersionTable, IsStoreSchema}
use Rattle.br_catalog_rows.specs.Rows.{Rows}
use Rattle.br_store.specs.Calls.{AreRising, IsSame}
use Rattle.br_store.specs.Held.{versions_in}
use Rattle.br_store.specs.Made.{version_refusal}
use Rattle.br_store.proofs.Appends.{survives_itself}
use Rattle.br_store.proofs.Ready.{err_with}
use Rattle.br_store.proofs.Opens.{finds_made, finds_kept, has_tables, has_versions, makes_none, not_fresh}
use Rattle.br_store.proofs.opening.make_or_check.Goals as goal

pub returns-then-is_empty-clause-catalogue : goal.returns-then-is_empty-clause-catalogue
returns-then-is_empty-clause-catalogue g c = record { idle = c.create.ensures.idle; tables = λ clean up. (c.in_ok-create.ensures.made clean).0.tables }

pub returns-then-is_empty-clause-settled : goal.returns-then-is_empty-clause-settled
returns-then-is_empty-clause-settled g c clean = sym (c.in_ok-create.ensures.made clean).1

pub returns-then-is_empty-clause-finds : goal.returns-then-is_empty-clause-finds
returns-then-is_empty-clause-finds g c clean =
    let now = state g.S.Store c.args.conn.now in
    let new = state g.S.Store c.create.new.conn in
    let clean_now : HasCleanDisk now = omega (arith, clean, c.create.ensures.crash.clean) in
    let is = c.requires.opens clean_now in
    let schema : now.now.schema ≡ no_schema = sym c.schema.ensures.value ∙ c.is_empty.ensures.empty c.if-is_empty.true in
    finds_made now.committed now.now new.now (c.schema.ensures.live is.is_open).0 (ap (λ (db : Database). db.trees) is.clean) schema (c.in_ok-create.ensures.made clean).0

pub returns-then-is_empty-clause-fresh : goal.returns-then-is_empty-clause-fresh
returns-then-is_empty-clause-fresh g c clean none = (c.in_ok-create.ensures.made clean).0

pub returns-then-is_empty-clause-current : goal.returns-then-is_empty-clause-current
returns-then-is_empty-clause-current g c clean = ap (λ (r : Rows). version_refusal r.versions) (c.in_ok-create.ensures.made clean).0.rows

pub check_version-requires : goal.check_version-requires
check_version-requires g c clean =
    has_versions (state g.S.Store c.args.conn.now).now (subst HasVersionTable c.schema-2.ensures.value (c.has_version.ensures.version c.if-not-has_version.false))
    (c.schema-2.ensures.live (c.requires.opens clean).is_open).0 (c.requires.rising clean)

pub returns-clause-catalogue : goal.returns-clause-catalogue
returns-clause-catalogue g c = record {
  idle = c.check_version.ensures.idle c.requires.idle;
  tables = λ clean up.
      let new = state g.S.Store c.check_version.new.conn in
      let same = (c.in_ok-check_version.ensures.same clean).0 in
      let rising = c.requires.rising (omega (arith, clean, c.check_version.ensures.survives.clean)) in
      has_tables new.now (subst IsStoreSchema c.schema-3.ensures.value (c.is_ours.ensures.ours c.if-not-is_ours.false))
      (c.schema-3.ensures.live up).0 (subst AreRising (sym same.now_is) rising);
}

pub returns-clause-open : goal.returns-clause-open
returns-clause-open g c clean = (c.in_ok-check_version.ensures.same clean).0.is_open

pub returns-clause-settled : goal.returns-clause-settled
returns-clause-settled g c clean =
    let same = (c.in_ok-check_version.ensures.same clean).0 in
    same.now_is ∙ (c.requires.opens (omega (arith, clean, c.check_version.ensures.survives.clean))).clean ∙ sym same.committed_is

pub returns-clause-finds : goal.returns-clause-finds
returns-clause-finds g c clean =
    let same = (c.in_ok-check_version.ensures.same clean).0 in
    finds_kept (state g.S.Store c.args.conn.now).committed (state g.S.Store c.check_version.new.conn).now
    (ap (λ (db : Database). db.trees) (same.now_is ∙ (c.requires.opens (omega (arith, clean, c.check_version.ensures.survives.clean))).clean))

pub returns-clause-fresh : goal.returns-clause-fresh
returns-clause-fresh g c clean none =
    let now = state g.S.Store c.args.conn.now in
    let same = (c.in_ok-check_version.ensures.same clean).0 in
    let ours = subst IsStoreSchema c.schema-3.ensures.value (c.is_ours.ensures.ours c.if-not-is_ours.false) in
    let schema = subst (λ (db : Database). IsStoreSchema db.schema) same.now_is ours in
    let is = c.requires.opens (omega (arith, clean, c.check_version.ensures.survives.clean)) in
    let live = c.schema-2.ensures.live is.is_open in
    let trees = ap (λ (db : Database). db.trees) (sym is.clean) in
    not_fresh _ now.now live.0 schema (subst₂ (λ s t. IsDatabase (record { schema = s; trees = t })) none trees live.1)

pub returns-clause-current : goal.returns-clause-current
returns-clause-current g c clean =
    subst (λ (db : Database). version_refusal (versions_in db.trees) ≡ None) (sym (c.in_ok-check_version.ensures.same clean).0.now_is) (c.in_ok-check_version.ensures.current clean)

-- ---- refusals

pub returns-in_err-create-clause-same : goal.returns-in_err-create-clause-same
returns-in_err-create-clause-same g c clean up =
    let same : IsSame (state g.S.Store c.args.conn.now) (state g.S.Store c.create.new.conn) = c.in_err-create.ensures.refused clean up in
    err_with _ same

pub returns-then-not-has_version-clause-same : goal.returns-then-not-has_version-clause-same
returns-then-not-has_version-clause-same g c clean up = (refl, refl)

pub returns-in_err-check_version-clause-same : goal.returns-in_err-check_version-clause-same
returns-in_err-check_version-clause-same g c clean up =
    let is = c.requires.opens (omega (arith, clean, c.check_version.ensures.survives.clean)) in
    let same : IsSame (state g.S.Store c.args.conn.now) (state g.S.Store c.check_version.new.conn) = c.check_version.ensures.stays clean is.clean up in
    err_with _ same

pub returns-then-not-is_ours-clause-same : goal.returns-then-not-is_ours-clause-same
returns-then-not-is_ours-clause-same g c clean up =
    let is = c.requires.opens (omega (arith, clean, c.check_version.ensures.survives.clean)) in
    c.check_version.ensures.stays clean is.clean up

pub returns-then-not-has_version-clause-crash : goal.returns-then-not-has_version-clause-crash
returns-then-not-has_version-clause-crash g c = survives_itself (state g.S.Store c.args.conn.now) _

pub returns-in_err-check_version-clause-crash : goal.returns-in_err-check_version-clause-crash
returns-in_err-check_version-clause-crash g c = makes_none g.S.Store c.args.conn.now c.check_version.new.conn c.check_version.ensures.survives

pub returns-then-not-is_ours-clause-crash : goal.returns-then-not-is_ours-clause-crash
returns-then-not-is_ours-clause-crash g c = makes_none g.S.Store c.args.conn.now c.check_version.new.conn c.check_version.ensures.survives

pub returns-clause-crash : goal.returns-clause-crash
returns-clause-crash g c = makes_none g.S.Store c.args.conn.now c.check_version.new.conn c.check_version.ensures.survives
