use Rattle.std.proofs.Common.{◌&&◌, Bool, not, ap, sym, subst, ◌∙◌}
use Rattle.br_console.specs.Talking.{replied}
use Rattle.std.proofs.lemmas.Result.{err_from_is_err_and}
use Rattle.br_console.proofs.TalkLaws.{SoFar, broken_off, failed_write, none_left, one_ends, one_more, turn}
use Rattle.br_console.proofs.talking.converse.Goals as goal

-- ---- the session is broken off

pub returns-in_err-read_line-clause-session : goal.returns-in_err-read_line-clause-session
returns-in_err-read_line-clause-session g c =
    let p = err_from_is_err_and c.from_residual.result c.from_residual.ensures.1 in
    rw p.1
    (broken_off (g.R.Read.remaining c.args.reader.now) (g.R.Read.remaining c.loop-line.reader) (g.R.Read.remaining c.read_line.new.reader) (g.W.Write.contents c.args.writer.now)
    (g.W.Write.contents c.loop-line.writer) c.args.console.now c.loop-line.console c.loop-line.is_clean p.0 c.loop-line.invariant.0)

pub returns-in_err-reply-clause-session : goal.returns-in_err-reply-clause-session
returns-in_err-reply-clause-session g c =
    let p = err_from_is_err_and c.from_residual-in_err-reply.result c.from_residual-in_err-reply.ensures.1 in
    rw p.1
    (broken_off (g.R.Read.remaining c.args.reader.now) (g.R.Read.remaining c.loop-line.reader) (g.R.Read.remaining c.read_line.new.reader) (g.W.Write.contents c.args.writer.now)
    (g.W.Write.contents c.loop-line.writer) c.args.console.now c.loop-line.console c.loop-line.is_clean p.0 c.loop-line.invariant.0)

pub returns-in_err-into_text-clause-session : goal.returns-in_err-into_text-clause-session
returns-in_err-into_text-clause-session g c =
    let p = err_from_is_err_and c.from_residual-in_err-into_text.result c.from_residual-in_err-into_text.ensures.1 in
    rw p.1
    (broken_off (g.R.Read.remaining c.args.reader.now) (g.R.Read.remaining c.loop-line.reader) (g.R.Read.remaining c.read_line.new.reader) (g.W.Write.contents c.args.writer.now)
    (g.W.Write.contents c.loop-line.writer) c.args.console.now c.loop-line.console c.loop-line.is_clean p.0 c.loop-line.invariant.0)

pub returns-in_err-show-clause-session : goal.returns-in_err-show-clause-session
returns-in_err-show-clause-session g c =
    let p = err_from_is_err_and c.from_residual-in_err-show.result c.from_residual-in_err-show.ensures.1 in
    rw p.1
    (failed_write (g.R.Read.remaining c.args.reader.now) (g.R.Read.remaining c.read_line.new.reader) (g.W.Write.contents c.args.writer.now)
    (g.W.Write.contents c.show.new.writer) c.args.console.now p.0 _ p.2)

-- ---- it ends

pub returns-then-not-branch : goal.returns-then-not-branch
returns-then-not-branch g c =
    let both =
    none_left (g.R.Read.remaining c.args.reader.now) (g.R.Read.remaining c.loop-line.reader) (g.R.Read.remaining c.read_line.new.reader) (g.W.Write.contents c.args.writer.now) (g.W.Write.contents c.loop-line.writer)
    c.args.console.now c.loop-line.console c.session_of.result c.read_line.new.line.items c.in_ok-read_line.field-0
    (subst (λ (clean : Bool). SoFar (g.R.Read.remaining c.args.reader.now) (g.R.Read.remaining c.loop-line.reader) (g.W.Write.contents c.args.writer.now) (g.W.Write.contents c.loop-line.writer) c.args.console.now c.loop-line.console clean)
    (sym c.session_of.ensures.clean) c.loop-line.invariant.0)
    c.in_ok-read_line.ensures.line c.if-not-branch.true c.session_of.ensures.done in
    record { session = both.0; leaves = both.1; view = c.loop-line.invariant.1; flushed = c.loop-line.invariant.2; free = tt; endless = tt }

pub returns-then-ends : goal.returns-then-ends
returns-then-ends g c =
    let said =
    turn (g.R.Read.remaining c.loop-line.reader) (g.R.Read.remaining c.read_line.new.reader) (g.W.Write.contents c.loop-line.writer) (g.W.Write.contents c.show.new.writer) c.loop-line.console c.say.new.console
    (replied c.in_ok-reply.reply) c.read_line.new.line.items c.deref.result.now c.in_ok-into_text.field-0.items c.deref-in-loop-line.result.now c.in_ok-read_line.field-0
    c.in_ok-read_line.ensures.line c.if-not-branch.false c.deref.ensures.value c.in_ok-reply.ensures.reply c.in_ok-reply.ensures.state c.say.ensures.view
    c.in_ok-into_text.ensures c.deref-in-loop-line.ensures.value c.in_ok-show.ensures.written in
    let both =
    one_ends (g.R.Read.remaining c.args.reader.now) (g.R.Read.remaining c.loop-line.reader) (g.R.Read.remaining c.read_line.new.reader) (g.W.Write.contents c.args.writer.now) (g.W.Write.contents c.loop-line.writer) (g.W.Write.contents c.show.new.writer)
    c.args.console.now c.loop-line.console c.say.new.console c.loop-line.is_clean c.session_of-then-ends.result
    (replied c.in_ok-reply.reply) c.loop-line.invariant.0 said
    (sym c.ends-ends.ensures ∙ c.if-ends.true) (c.session_of-then-ends.ensures.done ∙ c.ends_done-is_done.ensures)
    (c.session_of-then-ends.ensures.clean ∙ ap (λ b. c.loop-line.is_clean && not b) c.is_refused.ensures) in
    record { session = both.0; leaves = both.1; view = c.say.ensures.view ∙ c.loop-line.invariant.1; flushed = c.in_ok-show.ensures.flushed; free = tt; endless = tt }

pub loop-line-preserved : goal.loop-line-preserved
loop-line-preserved g c =
    let said =
    turn (g.R.Read.remaining c.loop-line.reader) (g.R.Read.remaining c.read_line.new.reader) (g.W.Write.contents c.loop-line.writer) (g.W.Write.contents c.show.new.writer) c.loop-line.console c.say.new.console
    (replied c.in_ok-reply.reply) c.read_line.new.line.items c.deref.result.now c.in_ok-into_text.field-0.items c.deref-in-loop-line.result.now c.in_ok-read_line.field-0
    c.in_ok-read_line.ensures.line c.if-not-branch.false c.deref.ensures.value c.in_ok-reply.ensures.reply c.in_ok-reply.ensures.state c.say.ensures.view
    c.in_ok-into_text.ensures c.deref-in-loop-line.ensures.value c.in_ok-show.ensures.written in (
      one_more (g.R.Read.remaining c.args.reader.now) (g.R.Read.remaining c.loop-line.reader) (g.R.Read.remaining c.read_line.new.reader) (g.W.Write.contents c.args.writer.now) (g.W.Write.contents c.loop-line.writer) (g.W.Write.contents c.show.new.writer)
          c.args.console.now c.loop-line.console c.say.new.console c.loop-line.is_clean (c.loop-line.is_clean && not c.is_refused.result) (replied c.in_ok-reply.reply) c.loop-line.invariant.0 said
          (sym c.ends-ends.ensures ∙ c.if-ends.false) (ap (λ b. c.loop-line.is_clean && not b) c.is_refused.ensures),
      c.say.ensures.view ∙ c.loop-line.invariant.1,
      c.in_ok-show.ensures.flushed,
    )
