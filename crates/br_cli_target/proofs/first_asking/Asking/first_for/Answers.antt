use Rattle.std.proofs.Common.{◌≡◌, ◌<◌, ◌^◌, ℕ, List, map, drop, sym, ap, subst, ◌∙◌, arith}
use Rattle.std.specs.Borrow.{Bor}
use Rattle.br_model.specs.Bootstrap.{Range, Group}
use Rattle.br_model.specs.Name.{SessionKey, FileKey}
use Rattle.br_cli_target.specs.FirstAsking.{asked_of, first_asked, shown}
use Rattle.br_cli_target.proofs.AskingLaws.{asks_first_lem}
use Rattle.br_cli_target.proofs.first_asking.Asking.first_for.Goals as goal

pub returns : goal.returns
returns c =
    let key = c.args.key in
    let groups = c.args.self.now.groups.now in
    let n = c.from-index.result in
    let i = c.ended.result in
    let got : c.get.result ≡ key.index = c.get.ensures.same ∙ ap (λ (k : FileKey). k.index) c.key.view_is in
    let is : n ≡ key.index = c.from-index.ensures ∙ got in
    let lt : key.index < 2 ^ 64 = subst (λ (m : ℕ). m < 2 ^ 64) got (omega (arith, c.get.type_inv)) in
    c.first_in.ensures
    ∙ ap (λ (xs : List (Range × Bor Group)). first_asked n (map shown xs)) c.split_at.ensures.back
    ∙ ap (λ (xs : List (Range × Bor Group)). first_asked n (map shown (drop i xs))) (c.deref.ensures.value ∙ sym c.deref-3.ensures.value)
    ∙ sym c.ended.ensures.before
    ∙ ap (λ (xs : List (Range × Bor Group)). first_asked n (map shown xs)) c.deref-3.ensures.value
    ∙ ap (first_asked n) c.args.self.now.known
    ∙ ap (λ (m : ℕ). first_asked m (asked_of c.args.self.now.session groups)) is
    ∙ ap (λ (s : SessionKey). first_asked key.index (asked_of s groups)) (sym c.requires)
    ∙ asks_first_lem groups key lt
