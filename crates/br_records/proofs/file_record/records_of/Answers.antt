use Rattle.std.proofs.Common.{◌≡◌, ◌+◌, ◌++◌, ◌∷◌, [], refl, List, None, Ok, Err, sym, ap, ◌∙◌, arith}
use Rattle.std.proofs.lemmas.Result.{err_from_is_err_and}
use Rattle.br_model.specs.Answer.{refused_as}
use Rattle.br_model.specs.File.{fault}
use Rattle.br_model.specs.Record.{Record}
use Rattle.br_records.specs.Opening.{bytes_between, joined_from}
use Rattle.br_records.proofs.JoinLaws.{joins_begin, joins_refused, joins_open, joins_whole, joins_done, joins_torn}
use Rattle.br_records.proofs.file_record.records_of.Goals as goal
use Rattle.br_records.proofs.file_record.records_of.Goals.{then-next-gt0, else-next-gt0+in_ok-map_err}

pub loop-i-init : goal.loop-i-init
loop-i-init c = record {
  within = omega arith;
  none = omega arith;
  joins = joins_begin c.args.hits.now c.args.index c.new-records.result.items c.new-records.ensures.items;
}

pub returns-in_err-next : goal.returns-in_err-next
returns-in_err-next c =
    let key = c.requires c.loop-i.i c.index-hits-i.result c.loop-i-test.true in
    let refused = joins_refused c.args.hits.now c.args.index c.loop-i.records.items c.loop-i.opened c.loop-i.first c.loop-i.i c.index-hits-i.result c.loop-i-test.true c.index-hits-i.is c.loop-i.invariant.within c.loop-i.invariant.none (rw c.index-hits-i.is key) _ c.in_err-next.ensures in
    let p = err_from_is_err_and c.from_residual.result c.from_residual.ensures.1 in
    rw (p.1, p.2) (ap (refused_as fault) c.loop-i.invariant.joins ∙ refused)

pub loop-i-preserved : goal.loop-i-preserved
loop-i-preserved c =
    let x = c.index-hits-i.result in
    let key : x.key.index ≡ c.args.index = rw c.index-hits-i.is (c.requires c.loop-i.i x c.loop-i-test.true) in
    let before = c.loop-i.invariant in
    elim c.if-next-gt0.branch [
      | then-next-gt0 w ↦
          let more = joins_open c.args.hits.now c.args.index c.loop-i.records.items c.loop-i.opened c.loop-i.first c.loop-i.i x c.loop-i-test.true c.index-hits-i.is before.within before.none key c.in_ok-next.next c.in_ok-next.ensures w.if-next-gt0.true in
          rw (w.records-is, w.opened-is, w.first-is) (record { within = omega (arith, before.within); none = tt; joins = before.joins ∙ more })
      | else-next-gt0+in_ok-map_err w ↦
          let whole : c.in_ok-next.next.left ≡ 0 = omega (arith, w.if-next-gt0.false) in
          let made : Record = record { index = c.args.index; stream = c.in_ok-next.next.stream; bytes = bytes_between c.loop-i.first (c.loop-i.i + 1) c.args.hits.now } in
          let more = joins_whole c.args.hits.now c.args.index c.loop-i.records.items c.loop-i.opened c.loop-i.first c.loop-i.i x c.loop-i-test.true c.index-hits-i.is before.within before.none key c.in_ok-next.next c.in_ok-next.ensures whole in
          let pushed : w.push.new.self.items ≡ c.loop-i.records.items ++ made ∷ [] = rw (← w.in_ok-map_err.ensures.variant) at w.push.ensures.items in
          rw (w.records-is, w.opened-is, w.first-is) (record { within = omega arith; none = refl; joins = before.joins ∙ more ∙ ap (λ (rs : List Record). joined_from c.args.hits.now c.args.index rs None (c.loop-i.i + 1) (c.loop-i.i + 1)) (sym pushed) })
    ]

pub returns-in-None : goal.returns-in-None
returns-in-None c =
    let before = c.loop-i.invariant in
    let joined : joined_from c.args.hits.now c.args.index c.loop-i.records.items c.loop-i.opened c.loop-i.first c.loop-i.i ≡ Ok c.loop-i.records.items = rw c.in-None.is (joins_done c.args.hits.now c.args.index c.loop-i.records.items c.loop-i.first c.loop-i.i c.loop-i-test.false) in
    ap (refused_as fault) (before.joins ∙ joined)

pub returns : goal.returns
returns c =
    let before = c.loop-i.invariant in
    let joined : refused_as fault (joined_from c.args.hits.now c.args.index c.loop-i.records.items c.loop-i.opened c.loop-i.first c.loop-i.i) ≡ Err (fault 61) = rw c.in-Some.is (joins_torn c.args.hits.now c.args.index c.loop-i.records.items c.loop-i.first c.loop-i.i c.loop-i-test.false c.in-Some.field-0) in
    ap (refused_as fault) before.joins ∙ joined
