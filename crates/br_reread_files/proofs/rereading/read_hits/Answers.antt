use Rattle.std.proofs.Common.{◌≡◌, [], ◌∷◌, ◌++◌, take, sym, ap, subst, ◌∙◌}
use Rattle.std.specs.List.{AllByRecursion}
use Rattle.std.proofs.lemmas.List.{take_all, take_more}
use Rattle.std.proofs.lemmas.Result.{err_from_is_err_and}
use Rattle.br_model.specs.Meaning.{Hit}
use Rattle.br_model.proofs.ListLaws.{all_append}
use Rattle.br_data.proofs.GoOnLaws.{given_on, go_itself, go_more}
use Rattle.br_reread_parts.specs.Given.{GivesHit}
use Rattle.br_reread_parts.proofs.GivenLaws.{all_from, one_of}
use Rattle.br_reread_files.proofs.GivenLaws.{fault_again}
use Rattle.br_reread_files.proofs.rereading.read_hits.Goals as goal

pub loop-hit-init : goal.loop-hit-init
loop-hit-init g c = record {
  on = go_itself c.args.many.now;
  keys = subst (AllByRecursion (λ (h : Hit). h.key ≡ c.args.key)) (sym c.in_ok-read.ensures.items) tt;
  same = λ given. c.in_ok-read.ensures.items;
}

pub returns-in_err-one-clause-on : goal.returns-in_err-one-clause-on
returns-in_err-one-clause-on g c = go_more _ _ _ c.loop-hit.invariant.on c.read_hit.ensures.on

pub returns-in_err-one-clause-changed : goal.returns-in_err-one-clause-changed
returns-in_err-one-clause-changed g c =
    let i = c.loop-hit.hit-index in
    let x = c.hit-item.result in
    let p = err_from_is_err_and c.from_residual-in_err-one.result c.from_residual-in_err-one.ensures.1 in
    rw (p.1, p.2)
    (λ is given.
    c.in_err-one.ensures.changed (fault_again _ _ is)
    (given_on c.standing_stays.ensures _ _ _ _ c.loop-hit.invariant.on (one_of (GivesHit c.args.many.now) c.args.hits.now i x c.loop-hit-test.true c.hit-item.is given)))

pub loop-hit-preserved : goal.loop-hit-preserved
loop-hit-preserved g c =
    let hits = c.args.hits.now in
    let i = c.loop-hit.hit-index in
    let x = c.hit-item.result in
    let within = c.loop-hit-test.true in
    let is = c.hit-item.is in
    let before = c.loop-hit.invariant in
    let pushed = c.in_ok-push_hit.ensures in
    let key : x.key ≡ c.args.key = one_of (λ (h : Hit). h.key ≡ c.args.key) hits i x within is c.requires in record {
      on = go_more _ _ _ before.on c.read_hit.ensures.on;
      keys =
          subst (AllByRecursion (λ (h : Hit). h.key ≡ c.args.key)) (sym pushed)
          (all_append (λ (h : Hit). h.key ≡ c.args.key) _ _ before.keys (c.in_ok-one.ensures.key ∙ key, tt));
      same = λ given.
          let one = c.in_ok-one.ensures.same (given_on c.standing_stays.ensures _ _ _ _ before.on (one_of (GivesHit c.args.many.now) hits i x within is given)) in
          pushed ∙ (λ k. before.same given k ++ one k ∷ []) ∙ ap (λ (h : Hit). take i hits ++ h ∷ []) is ∙ sym (take_more hits i x within);
    }

pub returns-clause-keys : goal.returns-clause-keys
returns-clause-keys g c = all_from _ _ c.loop-hit.invariant.keys

pub returns-clause-same : goal.returns-clause-same
returns-clause-same g c = λ given.
    c.loop-hit.invariant.same given ∙ take_all c.loop-hit.hit-index c.args.hits.now c.loop-hit-test.false
