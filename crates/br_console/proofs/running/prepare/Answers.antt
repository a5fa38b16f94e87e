use Rattle.std.proofs.Common.{◌∙◌, ap, refl}
use Rattle.std.proofs.lemmas.Result.{err_from_is_err_and}
use Rattle.br_model.specs.Plan.{plan_of}
use Rattle.br_console.specs.ConsoleEnding.{is_done}
use Rattle.br_console.proofs.RunLaws.{begins_broken, begins_unchosen, begins_undone, begins_unplanned, begins_planned, marked_done, marked_undone, opening_views, unplanned_has_end, was_chosen}
use Rattle.br_console.proofs.running.prepare.Goals as goal

-- the tree's entries are still those of the chosen jobs, since a dialogue changes marks alone
pub write_plan-requires : goal.write_plan-requires
write_plan-requires g c = λ jobs chosen.
    c.tree.ensures.view ∙ c.in_ok-session.ensures.view
    ∙ opening_views c.args.asked.now.history c.args.asked.now.request c.in_ok-console.console c.in_ok-console.ensures jobs chosen

pub returns-in_err-console-clause-begins : goal.returns-in_err-console-clause-begins
returns-in_err-console-clause-begins g c =
    let p = err_from_is_err_and c.from_residual.result c.from_residual.ensures.1 in
    rw (p.1, p.2)
    (begins_unchosen (g.R.Read.remaining c.args.reader.now) (g.W.Write.contents c.args.writer.now) c.args.asked.now.history c.args.asked.now.request c.in_err-console.field-0.0 c.in_err-console.ensures)

pub returns-in_err-session-clause-begins : goal.returns-in_err-session-clause-begins
returns-in_err-session-clause-begins g c =
    let p = err_from_is_err_and c.from_residual-in_err-session.result c.from_residual-in_err-session.ensures.1 in
    rw (p.1, p.2)
    (begins_broken (g.R.Read.remaining c.args.reader.now) (g.R.Read.remaining c.converse.new.reader) (g.W.Write.contents c.args.writer.now)
    (g.W.Write.contents c.converse.new.writer) c.args.asked.now.history c.args.asked.now.request c.in_ok-console.console c.in_err-session.field-0.0 c.in_ok-console.ensures
    c.in_err-session.ensures.session c.in_err-session.ensures.free)

pub returns-in-Quit-clause-begins : goal.returns-in-Quit-clause-begins
returns-in-Quit-clause-begins g c =
    let known = g.R.Read.remaining c.args.reader.now in
    let left = g.R.Read.remaining c.converse.new.reader in
    let before = g.W.Write.contents c.args.writer.now in
    let after = g.W.Write.contents c.converse.new.writer in
    let session = c.in_ok-session.session in
    begins_undone known before after c.args.asked.now.history c.args.asked.now.request c.in_ok-console.console session.lines c.in_ok-console.ensures
    (marked_undone known left before after c.in_ok-console.console c.converse.new.console session c.in_ok-session.ensures.session c.in_ok-session.ensures.leaves
    (ap is_done c.in-Quit.is))

pub returns-in_err-plan-in-Done-clause-begins : goal.returns-in_err-plan-in-Done-clause-begins
returns-in_err-plan-in-Done-clause-begins g c =
    let p = err_from_is_err_and c.from_residual-in_err-plan-in-Done.result c.from_residual-in_err-plan-in-Done.ensures.1 in
    let known = g.R.Read.remaining c.args.reader.now in
    let left = g.R.Read.remaining c.converse.new.reader in
    let before = g.W.Write.contents c.args.writer.now in
    let now = g.W.Write.contents c.converse.new.writer in
    let after = g.W.Write.contents c.write_plan.new.writer in
    let session = c.in_ok-session.session in
    let why = c.in_err-plan-in-Done.field-0.0 in
    let marks = c.tree.result.now.marked in
    rw (p.1, p.2)
    (begins_unplanned known before now after c.args.asked.now.history c.args.asked.now.request c.in_ok-console.console session.lines marks why c.in_ok-console.ensures
    (marked_done known left before now c.in_ok-console.console c.converse.new.console session marks c.in_ok-session.ensures.session c.in_ok-session.ensures.leaves
    (ap is_done c.in-Done.is) c.tree.ensures.marked)
    c.in_err-plan-in-Done.ensures.written)

pub returns-clause-begins : goal.returns-clause-begins
returns-clause-begins g c =
    let known = g.R.Read.remaining c.args.reader.now in
    let left = g.R.Read.remaining c.converse.new.reader in
    let before = g.W.Write.contents c.args.writer.now in
    let now = g.W.Write.contents c.converse.new.writer in
    let after = g.W.Write.contents c.write_plan.new.writer in
    let session = c.in_ok-session.session in
    let plan = c.in_ok-plan-in-Done.plan in
    let marks = c.tree.result.now.marked in
    begins_planned known before now after c.args.asked.now.history c.args.asked.now.request c.in_ok-console.console session.lines marks plan c.in_ok-console.ensures
    (marked_done known left before now c.in_ok-console.console c.converse.new.console session marks c.in_ok-session.ensures.session c.in_ok-session.ensures.leaves
    (ap is_done c.in-Done.is) c.tree.ensures.marked)
    c.in_ok-plan-in-Done.ensures.written

pub returns-in-Quit-clause-untouched : goal.returns-in-Quit-clause-untouched
returns-in-Quit-clause-untouched g c = λ n refused. absurd (was_chosen c.args.asked.now.history c.args.asked.now.request c.in_ok-console.console c.in_ok-console.ensures n refused)

pub returns-in_err-session-clause-untouched : goal.returns-in_err-session-clause-untouched
returns-in_err-session-clause-untouched g c = λ n refused. absurd (was_chosen c.args.asked.now.history c.args.asked.now.request c.in_ok-console.console c.in_ok-console.ensures n refused)

pub returns-in_err-plan-in-Done-clause-endless : goal.returns-in_err-plan-in-Done-clause-endless
returns-in_err-plan-in-Done-clause-endless g c =
    let p = err_from_is_err_and c.from_residual-in_err-plan-in-Done.result c.from_residual-in_err-plan-in-Done.ensures.1 in
    rw (p.1, p.2)
    (unplanned_has_end (g.W.Write.contents c.converse.new.writer) (g.W.Write.contents c.write_plan.new.writer)
    (plan_of c.args.asked.now.history c.args.asked.now.request c.tree.result.now.marked) c.in_err-plan-in-Done.field-0.0
    c.in_err-plan-in-Done.ensures.written)

pub returns-in_err-plan-in-Done-clause-untouched : goal.returns-in_err-plan-in-Done-clause-untouched
returns-in_err-plan-in-Done-clause-untouched g c = λ n refused. absurd (was_chosen c.args.asked.now.history c.args.asked.now.request c.in_ok-console.console c.in_ok-console.ensures n refused)

pub returns-clause-untouched : goal.returns-clause-untouched
returns-clause-untouched g c = λ n refused. absurd (was_chosen c.args.asked.now.history c.args.asked.now.request c.in_ok-console.console c.in_ok-console.ensures n refused)

pub returns-in_err-console-clause-untouched : goal.returns-in_err-console-clause-untouched
returns-in_err-console-clause-untouched g c = λ n refused. (refl, refl)

pub returns-in-Quit-clause-chosen : goal.returns-in-Quit-clause-chosen
returns-in-Quit-clause-chosen g c = was_chosen c.args.asked.now.history c.args.asked.now.request c.in_ok-console.console c.in_ok-console.ensures

pub returns-clause-chosen : goal.returns-clause-chosen
returns-clause-chosen g c = was_chosen c.args.asked.now.history c.args.asked.now.request c.in_ok-console.console c.in_ok-console.ensures
