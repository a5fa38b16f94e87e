use Rattle.std.proofs.Common.{List, ◌+◌, ◌++◌, length, sym, ap, ◌∙◌, append-nil, arith}
use Rattle.std.proofs.lemmas.List.{take_all}
use Rattle.br_model.specs.Meaning.{Hit}
use Rattle.br_records.specs.Records.{fragments}
use Rattle.br_join.specs.Plain.{plain_bytes}
use Rattle.br_join.proofs.FrontLaws.{count_next, plain_next}
use Rattle.br_join.proofs.front.push_each.Goals as goal

pub loop-hit-init : goal.loop-hit-init
loop-hit-init c = (sym (append-nil c.args.front.now.read), omega arith)

pub loop-hit-preserved : goal.loop-hit-preserved
loop-hit-preserved c =
    let hits = c.args.hits.now in
    let i = c.loop-hit.hit-index in
    let front = c.args.front.now in (
      plain_next front.read c.loop-hit.front.read c.push.new.self.read hits i c.hit-item.result c.loop-hit-test.true c.hit-item.is c.loop-hit.invariant.0 (c.push.ensures.read c.if-not-push.false),
      count_next front.count c.loop-hit.front.count c.push.new.self.count hits i c.hit-item.result c.loop-hit-test.true c.hit-item.is c.loop-hit.invariant.1 (c.push.ensures.count c.if-not-push.false),
    )

pub returns-clause-read : goal.returns-clause-read
returns-clause-read c = λ _.
    c.loop-hit.invariant.0 ∙ ap (λ (hs : List Hit). c.args.front.now.read ++ plain_bytes (fragments hs)) (take_all c.loop-hit.hit-index c.args.hits.now c.loop-hit-test.false)

pub returns-clause-count : goal.returns-clause-count
returns-clause-count c = λ _.
    c.loop-hit.invariant.1 ∙ ap (λ (hs : List Hit). c.args.front.now.count + length hs) (take_all c.loop-hit.hit-index c.args.hits.now c.loop-hit-test.false)
