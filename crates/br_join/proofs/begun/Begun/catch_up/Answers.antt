use Rattle.std.proofs.Common.{List, Some, ◌+◌, ◌++◌, length, refl, sym, ap, ◌∙◌}
use Rattle.br_model.specs.Meaning.{Hit}
use Rattle.br_records.specs.Records.{fragments}
use Rattle.br_join.specs.Plain.{plain_bytes}
use Rattle.br_join.specs.declared.waiting.Waiting.{Waiting}
use Rattle.br_join.proofs.FrontLaws.{catches_up}
use Rattle.br_join.proofs.begun.Begun.catch_up.Goals as goal

pub returns-then-not-has_due : goal.returns-then-not-has_due
returns-then-not-has_due c = λ _ held key begun. begun

pub returns : goal.returns
returns c = λ done held key begun.
    let b = c.args.self.now in
    catches_up held key b _ c.in-Some.waiting begun (record {
      waiting = sym c.in-Some.ensures.value;
      read = c.push_all.ensures.read done ∙ ap (λ (hs : List Hit). b.front.read ++ plain_bytes (fragments hs)) c.deref.ensures.value
          ∙ ap (λ (w : Waiting). b.front.read ++ plain_bytes (fragments w.hits.items)) c.into_inner-waiting.ensures;
      count = c.push_all.ensures.count done ∙ ap (λ (hs : List Hit). b.front.count + length hs) c.deref.ensures.value
          ∙ ap (λ (w : Waiting). b.front.count + length w.hits.items) c.into_inner-waiting.ensures;
      last = ap (λ (w : Waiting). Some w.end) c.into_inner-waiting.ensures;
      first_open = refl;
      none = c.take.ensures.after;
    })
