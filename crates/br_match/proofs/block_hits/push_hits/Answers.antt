use Rattle.std.proofs.Common.{◌≡◌, ◌++◌, ℕ, List, Option, filter, map, ap, sym, subst, ◌∙◌}
use Rattle.std.specs.Prelude.{OnOk}
use Rattle.std.specs.List.{AllByRecursion}
use Rattle.br_model.specs.Name.{SessionKey}
use Rattle.br_model.specs.Block.{Fragment, Header, MayHold}
use Rattle.br_model.specs.Bootstrap.{Group}
use Rattle.br_model.specs.Meaning.{Hit}
use Rattle.br_match.specs.Groups.{admits_block}
use Rattle.br_match.proofs.GroupLaws.{hits_near, may_stand}
use Rattle.br_match.proofs.block_hits.push_hits.Goals as goal

pub returns : goal.returns
returns c =
    let ms = c.args.matchers.now in
    let own : Option SessionKey = c.head.inside.session in
    let near : List (ℕ × Group) = map (λ m. m.now) c.deref.result.now in
    let session : own ≡ c.head-head.result.session = ap (λ (h : Header). h.session) c.head.view_is in
    let near_is : near ≡ filter (λ (m : ℕ × Group). admits_block m.1 c.args.addr own) ms =
    ap (map (λ m. m.now)) c.deref.ensures.value ∙ c.in_ok-near.ensures in
    let may = may_stand c.args.block.now c.head-head.result c.fragments.result c.head-head.ensures.header c.fragments.ensures.exact.each in
    let own_may = subst (λ (s : Option SessionKey). AllByRecursion (λ (f : Fragment). MayHold s f.session) c.fragments.result) (sym session) may in
    subst (λ (hs : List Hit). OnOk c.push_hits_of.result (c.push_hits_of.new.hits.items ≡ c.args.hits.now.items ++ hs))
    (hits_near ms near c.args.addr own c.args.block.now c.fragments.result c.fragments.ensures.read near_is own_may) c.push_hits_of.ensures
