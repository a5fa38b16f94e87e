use Rattle.std.proofs.Common.{◌≡◌, ℕ, Bool, false, List, map, rules, sym, ap, ◌∙◌}
use Rattle.std.proofs.lemmas.Map.Made.{map_same_pairs}
use Rattle.std.specs.FinMap as finite
use Rattle.br_join.proofs.PieceLaws.{number_entries}
use Rattle.br_join.proofs.joiner.open_again.Goals as goal

pub returns : goal.returns
returns c =
    let opened : c.retain.new.self.entries ≡ map (λ (p : ℕ × Bool). (p.0, false)) c.args.pieces.now.entries =
    map_same_pairs _ (λ (b : Bool). false) _ (λ k v b w f' t. search rules) c.args.pieces.now.entries c.retain.new.self.entries c.retain.ensures.filtered in
    ap finite.from_entries opened
    ∙ ap (λ (es : List (ℕ × Bool)). finite.from_entries (map (λ (p : ℕ × Bool). (p.0, false)) es)) (sym (number_entries c.args.pieces.now c.retain.ensures.was_ordered))
