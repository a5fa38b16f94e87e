use Rattle.std.proofs.Common.{◌≡◌, ℕ, map, ◌++◌, ◌∷◌, [], List, Option, ap, sym, ◌∙◌, append_assoc, length-append, arith}
use Rattle.std.proofs.lemmas.List.{append-nil}
use Rattle.br_model.specs.Block.{Fragment}
use Rattle.br_model.specs.Meaning.{Hit}
use Rattle.br_match.specs.Groups.{first_for, hits_of_fragments}
use Rattle.br_match.proofs.GroupLaws.{listed, pushed_more}
use Rattle.br_match.proofs.block_hits.push_hits_of.Goals as goal
use Rattle.br_match.proofs.block_hits.push_hits_of.Goals.{in-Some-2+in_ok-push, in_default}

pub loop-fragment-preserved : goal.loop-fragment-preserved
loop-fragment-preserved c =
    let l = c.loop-fragment in
    let f = c.in-Some.fragment in
    let i = l.invariant in
    let found = l.hits.items in
    let first : Fragment → Option ℕ = first_for c.args.session.now (map (λ m. m.now) c.args.near.now) in
    let pushed : c.match-branch-2.hits.items ≡ found ++ listed c.in_ok-hit.field-0 =
    elim c.match-branch-2.branch [
      | in-Some-2+in_ok-push w ↦ ap (λ v. v.items) w.hits-is ∙ w.in_ok-push.ensures.items ∙ ap (λ (o : Option Hit). found ++ listed o) (sym w.in-Some-2.is)
      | in_default w ↦ ap (λ v. v.items) w.hits-is ∙ sym (append-nil found) ∙ ap (λ (o : Option Hit). found ++ listed o) (sym w.in_default.is)
    ] in (
      pushed_more first c.args.addr l.ordinal l.yielded f c.in_ok-hit.field-0 c.args.hits.now.items found c.match-branch-2.hits.items c.in_ok-hit.ensures i.1 i.0 pushed,
      omega (arith, i.1, length-append l.yielded (f ∷ [])),
      append_assoc l.yielded (f ∷ []) c.next.new.self ∙ ap (λ (fs : List Fragment). l.yielded ++ fs) (sym c.in-Some.ensures.steps) ∙ i.2,
    )

pub returns : goal.returns
returns c =
    let l = c.loop-fragment in
    let i = l.invariant in
    let all : l.yielded ≡ c.args.fragments =
    sym (append-nil l.yielded) ∙ ap (λ (fs : List Fragment). l.yielded ++ fs) (sym c.in-None.ensures.steps.0) ∙ i.2 in
    i.0 ∙ ap (λ (fs : List Fragment). c.args.hits.now.items ++ hits_of_fragments (first_for c.args.session.now (map (λ m. m.now) c.args.near.now)) c.args.addr 0 fs) all
