use Rattle.std.proofs.Common.{rules, ◌≡◌, ◌++◌, ◌∷◌, [], List, ℕ, ap, ◌∙◌, OnOk, length, map, decimal, subst}
use Rattle.std.specs.List.{join_with_byte}
use Rattle.md5.specs.Md5.{md5}
use Rattle.br_model.specs.Attribute.{stat_numbers}
use Rattle.br_model.specs.File.{Item}
use Rattle.br_model.specs.Manifest.{item_fields}
use Rattle.br_model.specs.Text.{escaped, hexadecimal, signed_decimal}
use Rattle.br_sink.proofs.LineLaws.{item_chain}
use Rattle.br_sink.proofs.manifest_line.push_item.Goals as goal

pub returns : goal.returns
returns c =
    let inside = c.item.inside in
    let item : Item = record { path = inside.path; kind = inside.kind; stat = inside.stat; link = inside.link.items; bytes = inside.bytes; skipped = inside.skipped } in
    let text : List ℕ = c.args.text.now.items in
    let numbers : List ℕ = join_with_byte 44 (map signed_decimal (stat_numbers item.stat)) in
    let kind : c.push_field.new.text.items ≡ text ++ 32 ∷ decimal item.kind = search rules in
    let path : c.push_path.new.text.items ≡ c.push_field.new.text.items ++ 32 ∷ escaped item.path = search rules in
    let space : c.push.new.self.items ≡ c.push_path.new.text.items ++ 32 ∷ [] = c.in_ok-push.ensures.items in
    let stat : c.push_stat.new.text.items ≡ c.push.new.self.items ++ numbers = c.in_ok-push_stat.ensures in
    let link : c.push_link.new.text.items ≡ c.push_stat.new.text.items ++ 32 ∷ 61 ∷ escaped item.link = search rules in
    let bytes : List ℕ = 32 ∷ decimal (length item.bytes) ++ 32 ∷ hexadecimal (md5 item.bytes) in
    let fields = item_chain text (decimal item.kind) (escaped item.path) numbers (escaped item.link) (decimal (length item.bytes)) (hexadecimal (md5 item.bytes)) in
    let so_far : c.push_link.new.text.items ≡ ((((text ++ 32 ∷ decimal item.kind) ++ 32 ∷ escaped item.path) ++ 32 ∷ []) ++ numbers) ++ 32 ∷ 61 ∷ escaped item.link =
    link ∙ ap (λ t. t ++ 32 ∷ 61 ∷ escaped item.link) (stat ∙ ap (λ t. t ++ numbers) (space ∙ ap (λ t. t ++ 32 ∷ []) (path ∙ ap (λ t. t ++ 32 ∷ escaped item.path) kind))) in
    let shown = subst (λ t. OnOk c.push_bytes.result (c.push_bytes.new.text.items ≡ t)) (ap (λ t. t ++ bytes) so_far ∙ fields) c.push_bytes.ensures in
    subst (λ (i : Item). OnOk c.push_bytes.result (c.push_bytes.new.text.items ≡ text ++ 32 ∷ join_with_byte 32 (item_fields i))) c.item.view_is shown
