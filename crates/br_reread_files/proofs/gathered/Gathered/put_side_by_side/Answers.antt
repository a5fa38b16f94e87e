use Rattle.std.proofs.Common.{◌≡◌, ap, ◌∙◌}
use Rattle.br_reread_files.specs.Gathered.{Gathered}
use Rattle.br_reread_files.proofs.TwoLaws.{both_give, puts_any_if}
use Rattle.br_reread_files.proofs.gathered.Gathered.put_side_by_side.Goals as goal

pub returns-clause-put : goal.returns-clause-put
returns-clause-put g c =
    let many = c.args.many.now in
    let hits = c.args.self.now.hits in
    let of_one : c.deref.result.now ≡ hits = c.deref.ensures.value ∙ ap (λ (s : Gathered). s.hits) c.self.view_is in
    let of_other : c.deref-2.result.now ≡ hits = c.deref-2.ensures.value ∙ ap (λ (s : Gathered). s.hits) c.self.view_is in
    puts_any_if _ _ c.put_two.result _ _ _ _
    (both_give _ _ many hits _ _ _ _ _ _ of_one of_other (c.in-Some.ensures many) (c.in-Some-plain_run.ensures many))
    c.put_two.ensures.put

pub returns-clause-changed : goal.returns-clause-changed
returns-clause-changed g c = λ is given.
    let many = c.args.many.now in
    let hits = c.args.self.now.hits in
    let of_one : c.deref.result.now ≡ hits = c.deref.ensures.value ∙ ap (λ (s : Gathered). s.hits) c.self.view_is in
    let of_other : c.deref-2.result.now ≡ hits = c.deref-2.ensures.value ∙ ap (λ (s : Gathered). s.hits) c.self.view_is in
    c.put_two.ensures.changed is (both_give _ _ many hits _ _ _ _ _ _ of_one of_other (c.in-Some.ensures many) (c.in-Some-plain_run.ensures many) given)
