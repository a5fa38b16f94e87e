use Rattle.std.proofs.Common.{sym, ap, length, ◌∙◌, arith}
use Rattle.br_block.proofs.FragmentLaws.{none_left, first_left}
use Rattle.br_block.proofs.fragments.FragmentsIterator.next.Goals as goal

pub returns-then-rest-record_header_len-clause-steps : goal.returns-then-rest-record_header_len-clause-steps
returns-then-rest-record_header_len-clause-steps c =
    let none = sym c.self.view_is ∙ none_left c.self.inside.session c.self.inside.rest.now (omega (arith, c.if-rest-record_header_len.true, c.record_header_len.ensures)) in (none, none)

pub returns-clause-steps : goal.returns-clause-steps
returns-clause-steps c =
    let first = sym c.self.view_is ∙ first_left c.self.inside.session c.self.inside.rest.now (omega (arith, c.if-rest-record_header_len.false, c.record_header_len.ensures)) in
    rw (c.first_of-fragment.ensures.first, c.first_of-fragment.ensures.rest) first

pub returns-clause-goes : goal.returns-clause-goes
returns-clause-goes c =
    let first = sym c.self.view_is ∙ first_left c.self.inside.session c.self.inside.rest.now (omega (arith, c.if-rest-record_header_len.false, c.record_header_len.ensures)) in
    let fewer = ap length first in
    rw c.first_of-fragment.ensures.rest (record { on = λ _. (tt, tt, omega (arith, fewer)); keeps = tt; rests = λ _. tt })
