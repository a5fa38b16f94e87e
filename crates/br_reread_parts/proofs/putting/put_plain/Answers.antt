use Rattle.std.proofs.Common.{List, sym, subst, ◌∙◌}
use Rattle.br_model.specs.Meaning.{Hit}
use Rattle.br_data.specs.ManyDrives.{RereadingMany}
use Rattle.br_reread_parts.specs.FileParts.{GivesFile}
use Rattle.br_reread_parts.proofs.PutLaws.{err_again}
use Rattle.br_reread_parts.proofs.putting.put_plain.Goals as goal

pub returns-in-Ok-clause-put : goal.returns-in-Ok-clause-put
returns-in-Ok-clause-put g c =
    let item = c.args.item.now in
    record {
      bytes = c.in-Ok._bytes;
      alike = c.in-Ok.ensures.alike;
      same = λ given.
          c.in-Ok.ensures.same
          (subst (λ (m : RereadingMany). GivesFile m c.new-parts.result.hits.now item) (sym (c.new-parts.ensures.many ∙ c.take.ensures.taken))
          (subst (λ (hits : List Hit). GivesFile c.args.many.now hits item) (sym c.new-parts.ensures.hits) given));
      more = c.in-Ok.ensures.put;
    }

pub returns-in-Err-clause-changed : goal.returns-in-Err-clause-changed
returns-in-Err-clause-changed g c = λ is given.
    let item = c.args.item.now in
    c.in-Err.ensures.changed (err_again _ _ is)
    (subst (λ (m : RereadingMany). GivesFile m c.new-parts.result.hits.now item) (sym (c.new-parts.ensures.many ∙ c.take.ensures.taken))
    (subst (λ (hits : List Hit). GivesFile c.args.many.now hits item) (sym c.new-parts.ensures.hits) given))
