-- The file at which a delivery stops.
use Rattle.std.proofs.Common.{◌≡◌, ℕ, zero, suc, ◌+◌, ◌≤◌, Some, List, [], ◌∷◌, ◌++◌, length, take, drop, option_map, slice_get, ap, sym, ◌∙◌, arith, length-append, append_assoc}
use Rattle.std.proofs.lemmas.List.{length-take, length-take-le, take-append-drop}
use Rattle.br_model.specs.File.{Item}
use Rattle.br_model.specs.Name.{FileKey}
use Rattle.br_join.specs.declared.item.Outcome.{Outcome}
use Rattle.br_sink.specs.Delivery.{items_in}
use Rattle.br_sink.specs.KeepGoing.{IsFileAt}
use Rattle.br_sink.proofs.DeliveryLaws.{items_of_both}

item_after : (before more : List Item) (item : Item) (n : ℕ) → n ≡ length before → slice_get (before ++ item ∷ more) n ≡ Some item
item_after [] more item n is = ap (slice_get (item ∷ more)) is
item_after (x ∷ before) more item zero is = absurd (omega (arith, is))
item_after (x ∷ before) more item (suc n) is = item_after before more item n (omega (arith, is))

item_there : (items more : List Item) (item : Item) (count : ℕ) → items ≡ take count items ++ item ∷ more → slice_get items count ≡ Some item
item_there items more item count is =
    let all : length items ≡ length (take count items) + length (item ∷ more) = ap length is ∙ length-append (take count items) (item ∷ more) in
    let cut = length-take count items in
    let low : count ≤ length items = omega (arith, all, cut) in
    ap (λ (l : List Item). slice_get l count) is ∙ item_after (take count items) more item count (sym (length-take-le count items low))

pub path_at_file : (outcomes : List (FileKey × Outcome)) (count place : ℕ) (item : Item) (path : List ℕ) → IsFileAt outcomes count place item
    → path ≡ item.path → option_map (λ (i : Item). i.path) (slice_get (items_in outcomes) count) ≡ Some path
path_at_file outcomes count place item path found is =
    let more : List Item = items_in (drop (place + 1) outcomes) in
    let all : items_in outcomes ≡ take count (items_in outcomes) ++ item ∷ more =
    ap items_in (sym (take-append-drop (place + 1) outcomes)) ∙ items_of_both (take (place + 1) outcomes) (drop (place + 1) outcomes)
    ∙ ap (λ (l : List Item). l ++ more) found.at_it ∙ append_assoc (take count (items_in outcomes)) (item ∷ []) more in
    ap (option_map (λ (i : Item). i.path)) (item_there (items_in outcomes) more item count all) ∙ ap (λ (p : List ℕ). Some p) (sym is)
