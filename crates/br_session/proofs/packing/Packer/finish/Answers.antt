use Rattle.std.proofs.Common.{◌≡◌, ℕ, List, [], ◌∷◌, ◌++◌, map, refl, sym, ap, subst, ◌∙◌, arith, Vec, Global}
use Rattle.std.proofs.lemmas.List.{map-append}
use Rattle.std.specs.List.{AllByRecursion, enumerate_from}
use Rattle.br_model.specs.Block.{Fragment}
use Rattle.br_model.specs.Record.{IsCut}
use Rattle.br_model.specs.Session.{block_size, written_block}
use Rattle.br_session.specs.Packing.{all_of, with_last}
use Rattle.br_session.proofs.PackingLaws.{with_some, all_of-with, blocks_with}
use Rattle.br_session.proofs.packing.Packer.finish.Goals as goal

pub returns : goal.returns
returns c =
    let p = c.args.self in
    let last = p.current.fragments in
    let some : last ≡ [] → ⊥ = λ e. omega (arith, ap block_size e, p.same_limit) in
    λ records packs.
    let put = packs.has_put in
    let i = put.are_in in
    let with = with_some put.closed last some in
    let was : c.close.result.items ≡ written_block p.session (p.number, last) = c.close.ensures.block ∙ rw (p.same_session, i.current_is) refl in
    let blocks = map {A = Vec ℕ Global} {B = List ℕ} (λ b. b.items) p.blocks.items in
    let joined : map {A = Vec ℕ Global} {B = List ℕ} (λ b. b.items) c.push.new.self.items ≡ blocks ++ written_block p.session (p.number, last) ∷ [] =
    ap (map {A = Vec ℕ Global} {B = List ℕ} (λ b. b.items)) c.in_ok-push.ensures.items ∙ map-append {A = Vec ℕ Global} {B = List ℕ} (λ b. b.items) p.blocks.items (c.close.result ∷ [])
    ∙ ap (λ (x : List ℕ). blocks ++ x ∷ []) was in
    let all : packs.fragments ≡ all_of (with_last put.closed last) = i.fragments_are ∙ sym (all_of-with put.closed last) ∙ ap all_of (sym with) in
    record {
      parts = with_last put.closed last;
      of_session = subst (λ (x : List Fragment). AllByRecursion (λ (f : Fragment). f.session ≡ p.session) x) all i.of_session;
      cut = subst (λ (x : List Fragment). IsCut records x) all packs.cut;
      closed = put.are_closed;
      bytes_are = joined ∙ blocks_with p.session p.number put.closed last blocks i.blocks_are i.number_is ∙ ap (λ (x : List (List Fragment)). map (written_block p.session) (enumerate_from 0 x)) (sym with);
    }
