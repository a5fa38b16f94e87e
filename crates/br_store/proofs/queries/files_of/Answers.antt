use Rattle.std.proofs.Common.{[], refl, rules, arith, ap, sym, subst, ◌∙◌}
use Rattle.std.specs.Option.{option_copied}
use Rattle.sqlite.specs.Given.{Advances}
use Rattle.sqlite.specs.Held.{state}
use Rattle.sqlite.specs.State.{HasCleanDisk, Survives, CommitsShowing, FailsToQuery}
use Rattle.sqlite.proofs.Callers.{unchanged_then}
use Rattle.br_store.proofs.Appends.{survives_both}
use Rattle.br_store.proofs.Selects.{unchanged_keeps}
use Rattle.br_store.proofs.SomeFiles.{HasKept, kept_begins, kept_goes_on, kept_ends, kept_stops, kept_refused, reading_commits_nothing}
use Rattle.br_store.proofs.queries.files_of.Goals as goal

pub returns-in_err-rows-clause-kept : goal.returns-in_err-rows-clause-kept
returns-in_err-rows-clause-kept g c clean =
    let old = state g.S.Store c.args.conn.now in
    let new = c.query.follows.lender-at-none in
    let held = c.query.follows.holds-at-none in
    let survives : Survives old (state g.S.Store new) (CommitsShowing c.files_text.result.now [] old) = search rules in
    let failed : FailsToQuery c.files_text.result.now [] old (state g.S.Store new) c.in_err-rows.field-0.0 = search rules in
    let kept = kept_refused g.S.Store c.args.jobs.now c.args.conn.now c.files_text.result.now new c.in_err-rows.field-0.0 c.files_text.ensures
    (c.requires (omega (arith, clean, survives.clean))) failed in
    search (rules, kept)

pub returns-in_err-rows-clause-survives : goal.returns-in_err-rows-clause-survives
returns-in_err-rows-clause-survives g c =
    let old = state g.S.Store c.args.conn.now in
    let new = state g.S.Store c.query.follows.lender-at-none in
    let held = c.query.follows.holds-at-none in
    let survives : Survives old new (CommitsShowing c.files_text.result.now [] old) = search rules in
    reading_commits_nothing g.S.Store c.args.jobs.now c.args.conn.now c.files_text.result.now new c.files_text.ensures c.requires survives

pub rows-init : goal.rows-init
rows-init g c =
    let made = c.in_ok-rows.ensures in
    let now = c.in_ok-rows.rows.conn.now in
    let begins = kept_begins g.S.Store c.args.jobs.now c.args.conn.now c.files_text.result.now now c.files_text.ensures in (
      refl,
      reading_commits_nothing g.S.Store c.args.jobs.now c.args.conn.now c.files_text.result.now (state g.S.Store now) c.files_text.ensures c.requires made.survives,
      made.mode,
      λ clean. rw c.new-kept.ensures.items (begins (c.requires (omega (arith, clean, made.survives.clean))) (made.begun clean)),
    )

pub returns-in_err-advance-clause-kept : goal.returns-in_err-advance-clause-kept
returns-in_err-advance-clause-kept g c clean =
    let now = c.advance.new.self.conn.now in
    let before = c.rows.rows.conn.now in
    let late : HasCleanDisk (state g.S.Store now) = search rules in
    let early : HasCleanDisk (state g.S.Store before) = omega (arith, late, c.advance.ensures.survives.clean) in
    let tables = c.requires (omega (arith, early, c.rows.invariant.1.clean)) in
    let kept = kept_stops g.S.Store c.args.jobs.now c.args.conn.now before now c.rows.kept.items c.in_err-advance.field-0.0 tables (c.rows.invariant.3 early) (c.in_err-advance.ensures.err late) in
    search (rules, kept)

pub returns-in_default-clause-rows : goal.returns-in_default-clause-rows
returns-in_default-clause-rows g c clean =
    let now = c.advance.new.self.conn.now in
    let before = c.rows.rows.conn.now in
    let late : HasCleanDisk (state g.S.Store now) = search rules in
    let early : HasCleanDisk (state g.S.Store before) = omega (arith, late, c.advance.ensures.survives.clean) in
    let tables = c.requires (omega (arith, early, c.rows.invariant.1.clean)) in
    let none = sym c.get.ensures ∙ ap option_copied c.in_default.is in
    let ended = subst (Advances g.S.Store before now) none (c.in_ok-advance.ensures.ok late) in
    kept_ends g.S.Store c.args.jobs.now c.args.conn.now before now c.rows.kept.items tables (c.rows.invariant.3 early) ended

pub returns-in_err-keep-clause-kept : goal.returns-in_err-keep-clause-kept
returns-in_err-keep-clause-kept g c clean =
    let old = state g.S.Store c.args.conn.now in
    let now = state g.S.Store c.advance.new.self.conn.now in
    let before = state g.S.Store c.rows.rows.conn.now in
    let late : HasCleanDisk now = search rules in
    let early : HasCleanDisk before = omega (arith, late, c.advance.ensures.survives.clean) in
    let was = c.rows.invariant.3 early in
    let kept = unchanged_keeps old now (unchanged_then old before now was.same (c.in_ok-advance.ensures.same late)) in
    search (rules, kept)

pub rows-preserved : goal.rows-preserved
rows-preserved g c =
    let moved = c.in_ok-advance.ensures in
    let now = c.advance.new.self.conn.now in
    let before = c.rows.rows.conn.now in
    let old = state g.S.Store c.args.conn.now in (
      moved.same_reference ∙ c.rows.invariant.0,
      survives_both old (state g.S.Store before) (state g.S.Store now) c.rows.invariant.1 moved.survives,
      λ idle. moved.mode (c.rows.invariant.2 idle),
      λ clean.
          let was = c.rows.invariant.3 (omega (arith, clean, moved.survives.clean)) in
          let some = sym c.get.ensures ∙ ap option_copied c.in-Some.is in
          let gone = subst (Advances g.S.Store before now) some (moved.ok clean) in
          let kept = kept_goes_on g.S.Store c.args.jobs.now c.args.conn.now before now c.rows.kept.items c.in-Some.row.now was gone (moved.same clean) in
          subst (HasKept g.S.Store c.args.jobs.now c.args.conn.now now) (sym c.in_ok-keep.ensures) kept,
    )
