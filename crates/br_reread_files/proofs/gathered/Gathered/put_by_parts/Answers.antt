use Rattle.std.proofs.Common.{◌≡◌, List, ap, subst, sym, ◌∙◌}
use Rattle.br_model.specs.Meaning.{Hit}
use Rattle.br_reread_parts.proofs.PutLaws.{ok_weaker, puts_if}
use Rattle.br_reread_files.specs.FileParts.{GivesItem}
use Rattle.br_reread_files.specs.Gathered.{Gathered}
use Rattle.br_reread_files.proofs.gathered.Gathered.put_by_parts.Goals as goal

pub returns-clause-put : goal.returns-clause-put
returns-clause-put g c =
    let many = c.args.many.now in
    let hits = c.args.self.now.hits in
    let key = c.args.key in
    let item = c.args.item.now in
    let had = g.S.Sink.has c.args.sink.now in
    let has = g.S.Sink.has c.put_plain.new.sink in
    let all : c.deref.result.now ≡ hits = c.deref.ensures.value ∙ ap (λ (s : Gathered). s.hits) c.self.view_is in
    ok_weaker c.put_plain.result
    (puts_if (GivesItem many hits key item) _ item had has
    (λ given. c.in-Some.ensures many (subst (λ (hs : List Hit). GivesItem many hs key item) (sym all) given)))
    c.put_plain.ensures.put

pub returns-clause-changed : goal.returns-clause-changed
returns-clause-changed g c = λ is given.
    let many = c.args.many.now in
    let all : c.deref.result.now ≡ c.args.self.now.hits = c.deref.ensures.value ∙ ap (λ (s : Gathered). s.hits) c.self.view_is in
    c.put_plain.ensures.changed is (c.in-Some.ensures many (subst (λ (hs : List Hit). GivesItem many hs c.args.key c.args.item.now) (sym all) given))
