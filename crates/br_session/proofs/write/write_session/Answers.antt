use Rattle.std.proofs.Common.{arith}
use Rattle.std.proofs.lemmas.Result.{err_from_is_err_and}
use Rattle.br_model.proofs.WrittenBlockLaws.{IsKey}
use Rattle.br_session.proofs.PackedLaws.{packed_are_readable}
use Rattle.br_session.proofs.OutcomeLaws.{order_refused, spans_refused, session_holds}
use Rattle.br_session.proofs.write.write_session.Goals as goal

pub returns-in_err-check_order-clause-outcome : goal.returns-in_err-check_order-clause-outcome
returns-in_err-check_order-clause-outcome c =
    let p = err_from_is_err_and c.from_residual.result c.from_residual.ensures.1 in
    rw (p.1, p.2) (order_refused _ _ _ _ _ _ c.in_err-check_order.ensures.same)

pub spans_of-requires : goal.spans_of-requires
spans_of-requires c =
    let key : IsKey c.args.session = record { id_to = omega arith; time_to = omega arith } in
    rw c.deref.ensures.value (packed_are_readable _ _ _ _ key c.requires.bounds.1 c.in_ok-blocks.ensures.packed)

pub returns-in_err-spans-clause-outcome : goal.returns-in_err-spans-clause-outcome
returns-in_err-spans-clause-outcome c =
    let p = err_from_is_err_and c.from_residual-in_err-spans.result c.from_residual-in_err-spans.ensures.1 in
    rw (p.1, p.2) (spans_refused _ _ _ _ _ _ _ c.in_ok-check_order.ensures.same c.in_ok-blocks.ensures.packed (rw c.deref.ensures.value at c.in_err-spans.ensures))

pub returns-clause-holds : goal.returns-clause-holds
returns-clause-holds c =
    let key : IsKey c.args.session = record { id_to = omega arith; time_to = omega arith } in
    session_holds _ _ c.args.limit _ _ _ c.written_sessions_hold.ensures c.in_ok-blocks.ensures.valid c.in_ok-check_order.ensures.same c.requires.some_place key c.requires.bounds.1
    (record { blocks = _; packed = c.in_ok-blocks.ensures.packed; placed = c.in_ok-blocks-2.ensures; spans_are = rw c.deref.ensures.value at c.in_ok-spans.ensures })
