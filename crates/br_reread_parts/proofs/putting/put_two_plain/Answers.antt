use Rattle.std.proofs.Common.{List, sym, subst, ◌∙◌}
use Rattle.br_model.specs.Meaning.{Hit}
use Rattle.br_data.specs.ManyDrives.{RereadingMany}
use Rattle.br_reread_parts.specs.TwoParts.{GivesTwo}
use Rattle.br_reread_parts.proofs.putting.put_two_plain.Goals as goal

pub returns-clause-changed : goal.returns-clause-changed
returns-clause-changed g c =
    let one = c.args.one.now.item.now in
    let other = c.args.other.now.item.now in
    let parts = c.new-parts.result in
    λ given.
    c.put_two-put.ensures.changed
    (subst (λ (m : RereadingMany). GivesTwo m parts.one.now parts.other.now one other) (sym (c.new-parts.ensures.many ∙ c.take.ensures.taken))
    (subst (λ (hits : List Hit). GivesTwo c.args.many.now hits parts.other.now one other) (sym c.new-parts.ensures.one)
    (subst (λ (hits : List Hit). GivesTwo c.args.many.now c.args.one.now.hits.now hits one other) (sym c.new-parts.ensures.other) given)))

pub returns-clause-same : goal.returns-clause-same
returns-clause-same g c =
    let one = c.args.one.now.item.now in
    let other = c.args.other.now.item.now in
    let parts = c.new-parts.result in
    λ given.
    c.put_two-put.ensures.same
    (subst (λ (m : RereadingMany). GivesTwo m parts.one.now parts.other.now one other) (sym (c.new-parts.ensures.many ∙ c.take.ensures.taken))
    (subst (λ (hits : List Hit). GivesTwo c.args.many.now hits parts.other.now one other) (sym c.new-parts.ensures.one)
    (subst (λ (hits : List Hit). GivesTwo c.args.many.now c.args.one.now.hits.now hits one other) (sym c.new-parts.ensures.other) given)))
