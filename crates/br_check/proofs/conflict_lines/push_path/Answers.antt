use Rattle.std.proofs.Common.{refl}
use Rattle.std.proofs.lemmas.Result.{on_ok_weaker}
use Rattle.br_types.specs.Newest.{Copy}
use Rattle.br_check.proofs.ConflictLaws.{told_free, told_left}
use Rattle.br_check.proofs.conflict_lines.push_path.Goals as goal

pub returns-then-free : goal.returns-then-free
returns-then-free c =
    let copy : Copy = record { key = c.args.key; path = c.args.path.now } in
    told_free c.args.ways.now c.is_next.new.ways c.args.text.now.items c.args.text.now.items copy c.in_ok-free.free c.in_ok-free.ensures.way
    c.in_ok-free.ensures.noted c.if-free.true refl

pub returns : goal.returns
returns c =
    let copy : Copy = record { key = c.args.key; path = c.args.path.now } in
    on_ok_weaker c.push_named.result
    (told_left c.args.ways.now c.is_next.new.ways c.args.text.now.items c.push_named.new.text.items copy c.in_ok-free.free c.in_ok-free.ensures.way
    (c.in_ok-free.ensures.same c.if-free.false) c.if-free.false)
    c.push_named.ensures
