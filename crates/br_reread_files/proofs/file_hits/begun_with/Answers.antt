use Rattle.std.proofs.Common.{List, ap, sym, ◌∙◌}
use Rattle.br_model.specs.Meaning.{Hit}
use Rattle.br_join.specs.Plain.{plain_bytes}
use Rattle.br_records.specs.Records.{fragments}
use Rattle.br_reread_files.proofs.file_hits.begun_with.Goals as goal

pub returns-clause-hits : goal.returns-clause-hits
returns-clause-hits c = c.in_ok-first.ensures ∙ c.first_of.ensures

pub returns-clause-digested : goal.returns-clause-digested
returns-clause-digested c =
    c.in_ok-reading.ensures ∙ c.requires.1 ∙ ap (λ (hs : List Hit). plain_bytes (fragments hs)) (sym (c.in_ok-first.ensures ∙ c.first_of.ensures))
