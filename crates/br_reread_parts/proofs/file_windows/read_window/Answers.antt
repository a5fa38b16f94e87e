use Rattle.std.proofs.Common.{ℕ, List, ◌∷◌, ◌++◌, take, sym, ap, ◌∙◌}
use Rattle.std.specs.Prelude.{nat_abs, []}
use Rattle.std.proofs.lemmas.List.{take_all, take_more}
use Rattle.std.proofs.lemmas.Result.{err_from_is_err_and}
use Rattle.br_model.specs.Meaning.{Hit}
use Rattle.br_join.specs.Plain.{plain_bytes, plain_of}
use Rattle.br_records.specs.Records.{fragments}
use Rattle.br_data.proofs.GoOnLaws.{given_on, go_itself, go_more}
use Rattle.br_reread_parts.specs.Given.{GivesHit}
use Rattle.br_reread_parts.specs.Windows.{data_bytes}
use Rattle.br_reread_parts.proofs.GivenLaws.{one_of}
use Rattle.br_reread_parts.proofs.PlainLaws.{plain_one_more}
use Rattle.br_reread_parts.proofs.PutLaws.{err_again}
use Rattle.br_reread_parts.proofs.file_windows.read_window.Goals as goal

pub loop-hit-init : goal.loop-hit-init
loop-hit-init g c = record {
  on = go_itself c.args.many.now;
  same = λ given. ap data_bytes c.in_ok-window.ensures.items;
}

pub returns-in_err-push_part-clause-on : goal.returns-in_err-push_part-clause-on
returns-in_err-push_part-clause-on g c = go_more _ _ _ c.loop-hit.invariant.on c.push_part.ensures.on

pub returns-in_err-push_part-clause-changed : goal.returns-in_err-push_part-clause-changed
returns-in_err-push_part-clause-changed g c =
    let i = c.loop-hit.hit-index in
    let x = c.hit-item.result in
    let p = err_from_is_err_and c.from_residual-in_err-push_part.result c.from_residual-in_err-push_part.ensures.1 in
    rw (p.1, p.2)
    (λ is given.
    c.in_err-push_part.ensures.changed (err_again _ _ is)
    (given_on c.standing_stays.ensures _ _ _ _ c.loop-hit.invariant.on (one_of (GivesHit c.args.many.now) c.args.hits.now i x c.loop-hit-test.true c.hit-item.is given)))

pub loop-hit-preserved : goal.loop-hit-preserved
loop-hit-preserved g c =
    let hits = c.args.hits.now in
    let i = c.loop-hit.hit-index in
    let x = c.hit-item.result in
    let within = c.loop-hit-test.true in
    let is = c.hit-item.is in
    let before = c.loop-hit.invariant in
    record {
      on = go_more _ _ _ before.on c.push_part.ensures.on;
      same = λ given.
          c.in_ok-push_part.ensures.same (given_on c.standing_stays.ensures _ _ _ _ before.on (one_of (GivesHit c.args.many.now) hits i x within is given))
          ∙ ap (λ (bytes : List ℕ). bytes ++ plain_of (nat_abs x.fragment.stream) x.fragment.bytes) (before.same given)
          ∙ sym (plain_one_more (take i hits) x)
          ∙ ap (λ (hs : List Hit). plain_bytes (fragments hs)) (ap (λ (h : Hit). take i hits ++ h ∷ []) is ∙ sym (take_more hits i x within));
    }

pub returns-clause-same : goal.returns-clause-same
returns-clause-same g c = λ given.
    c.loop-hit.invariant.same given
    ∙ ap (λ (hs : List Hit). plain_bytes (fragments hs)) (take_all c.loop-hit.hit-index c.args.hits.now c.loop-hit-test.false)
