use Rattle.std.proofs.Common.{List, Option, take, ap, sym, subst, ◌∙◌}
use Rattle.std.specs.Prelude.{IfSome}
use Rattle.std.specs.Option.{option_copied}
use Rattle.std.proofs.lemmas.Result.{IfOk-weaker}
use Rattle.br_model.specs.Meaning.{Hit}
use Rattle.br_join.specs.Front.{IsFrontOf}
use Rattle.br_join.specs.Plain.{plain_bytes}
use Rattle.br_records.specs.Records.{fragments}
use Rattle.br_join.specs.declared.front.Front.{Front}
use Rattle.br_reread_files.specs.FileHits.{count_of, digested}
use Rattle.br_reread_files.proofs.FileHitsLaws.{take_none}
use Rattle.br_reread_files.proofs.file_hits.FileHits.begin.Goals as goal

pub begun_with-requires : goal.begun_with-requires
begun_with-requires c = subst (λ (o : Option Front). IfSome o (λ front. IsFrontOf front c.self.inside.hits.now)) (ap option_copied c.in-Some.is) c.self.invariant

pub returns-in-Some-clause-hits : goal.returns-in-Some-clause-hits
returns-in-Some-clause-hits c =
    IfOk-weaker c.begun_with.result _ _
    (λ begun same. same ∙ ap (λ (o : Option Front). take (count_of o) c.self.inside.hits.now) (sym (ap option_copied c.in-Some.is)) ∙ ap digested c.self.view_is)
    c.begun_with.ensures.hits

pub returns-in-None-clause-hits : goal.returns-in-None-clause-hits
returns-in-None-clause-hits c =
    c.begun_without.ensures.hits ∙ take_none c.self.inside.hits.now
    ∙ ap (λ (o : Option Front). take (count_of o) c.self.inside.hits.now) (sym (ap option_copied c.in-None.is)) ∙ ap digested c.self.view_is

pub returns-in-None-clause-digested : goal.returns-in-None-clause-digested
returns-in-None-clause-digested c = c.begun_without.ensures.digested ∙ ap (λ (hs : List Hit). plain_bytes (fragments hs)) (sym c.begun_without.ensures.hits)
