use Rattle.std.proofs.Common.{List, ◌++◌, sym, ap, ◌∙◌}
use Rattle.br_model.specs.Meaning.{Hit}
use Rattle.br_join.specs.Plain.{plain_bytes}
use Rattle.br_records.specs.Records.{fragments}
use Rattle.br_reread_parts.proofs.WindowLaws.{plain_both}
use Rattle.br_reread_files.proofs.digesting.take_ahead.Goals as goal

pub returns-clause-read : goal.returns-clause-read
returns-clause-read c =
    let had = c.args.begun.now.hits.items in
    let hits = c.args.ahead.hits.items in
    (λ i. c.requires.digested i ++ c.requires.window i)
    ∙ sym (plain_both had hits)
    ∙ ap (λ (hs : List Hit). plain_bytes (fragments hs)) (sym c.in_ok-append.ensures.items)
