use Rattle.std.proofs.Common.{◌≡◌, ℕ, ◌+◌, List, [], ◌∷◌, ◌++◌, take, sym, ap, ◌∙◌}
use Rattle.std.specs.Prelude.{nat_abs}
use Rattle.std.proofs.lemmas.List.{take_all, take_more}
use Rattle.std.proofs.lemmas.Result.{err_from_is_err_and}
use Rattle.br_model.specs.Meaning.{Hit}
use Rattle.br_join.specs.Plain.{plain_bytes, plain_of}
use Rattle.br_records.specs.Records.{fragments}
use Rattle.br_data.proofs.GoOnLaws.{given_on, go_itself, go_more}
use Rattle.br_reread_files.specs.Digesting.{keys_of}
use Rattle.br_reread_parts.specs.Given.{GivesHit}
use Rattle.br_reread_parts.specs.Windows.{data_bytes}
use Rattle.br_reread_files.proofs.DigestingLaws.{keys_after, keys_before}
use Rattle.br_reread_parts.proofs.GivenLaws.{one_of}
use Rattle.br_reread_parts.proofs.PlainLaws.{plain_one_more}
use Rattle.br_reread_files.proofs.GivenLaws.{fault_again}
use Rattle.br_reread_files.proofs.digesting.read_ahead.Goals as goal

pub loop-hit-init : goal.loop-hit-init
loop-hit-init g c = record {
  on = go_itself c.args.many.now;
  keys = ap keys_of c.in_ok-read.ensures.items;
  window = ap data_bytes c.in_ok-window.ensures.items ∙ ap (λ (hs : List Hit). plain_bytes (fragments hs)) (sym c.in_ok-read.ensures.items);
  same = λ given. c.in_ok-read.ensures.items;
}

pub returns-in_err-one-clause-on : goal.returns-in_err-one-clause-on
returns-in_err-one-clause-on g c = go_more _ _ _ c.loop-hit.invariant.on c.read_next.ensures.on

pub returns-in_err-one-clause-changed : goal.returns-in_err-one-clause-changed
returns-in_err-one-clause-changed g c =
    let i = c.loop-hit.hit-index in
    let x = c.hit-item.result in
    let p = err_from_is_err_and c.from_residual-in_err-one.result c.from_residual-in_err-one.ensures.1 in
    rw (p.1, p.2)
    (λ is given.
    c.in_err-one.ensures.changed (fault_again _ _ is)
    (given_on c.standing_stays.ensures _ _ _ _ c.loop-hit.invariant.on (one_of (GivesHit c.args.many.now) c.args.hits.now i x c.loop-hit-test.true c.hit-item.is given)))

pub loop-hit-preserved : goal.loop-hit-preserved
loop-hit-preserved g c =
    let hits = c.args.hits.now in
    let i = c.loop-hit.hit-index in
    let x = c.hit-item.result in
    let one = c.in_ok-one.one in
    let had = c.loop-hit.read.items in
    let within = c.loop-hit-test.true in
    let is = c.hit-item.is in
    let before = c.loop-hit.invariant in
    let pushed = c.in_ok-push_hit.ensures in
    let next : take i hits ++ x ∷ [] ≡ take (i + 1) hits = ap (λ (h : Hit). take i hits ++ h ∷ []) is ∙ sym (take_more hits i x within) in
    record {
      on = go_more _ _ _ before.on c.read_next.ensures.on;
      keys =
          ap keys_of pushed ∙ keys_before had (take i hits) (one ∷ []) before.keys
          ∙ keys_after (take i hits) (one ∷ []) (x ∷ []) (λ k. c.in_ok-one.ensures.key k ∷ [])
          ∙ ap keys_of next;
      window =
          c.in_ok-one.ensures.kept ∙ ap (λ (bytes : List ℕ). bytes ++ plain_of (nat_abs one.fragment.stream) one.fragment.bytes) before.window
          ∙ sym (ap (λ (hs : List Hit). plain_bytes (fragments hs)) pushed ∙ plain_one_more had one);
      same = λ given.
          let same = c.in_ok-one.ensures.same (given_on c.standing_stays.ensures _ _ _ _ before.on (one_of (GivesHit c.args.many.now) hits i x within is given)) in
          pushed ∙ (λ k. before.same given k ++ same k ∷ []) ∙ next;
    }

pub returns-clause-read : goal.returns-clause-read
returns-clause-read g c =
    let all = take_all c.loop-hit.hit-index c.args.hits.now c.loop-hit-test.false in record {
      keys = c.loop-hit.invariant.keys ∙ ap keys_of all;
      same = λ given. c.loop-hit.invariant.same given ∙ all;
      window = c.loop-hit.invariant.window;
    }
