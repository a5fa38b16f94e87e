use Rattle.std.proofs.Common.{◌≡◌, ◌++◌, ◌∷◌, [], List, ℕ}
use Rattle.std.specs.List.{join_with_byte}
use Rattle.br_model.specs.Manifest.{item_fields, key_fields}
use Rattle.br_sink.proofs.LineLaws.{file_chain}
use Rattle.br_sink.proofs.manifest_line.push_file.Goals as goal

pub returns : goal.returns
returns c =
    let text : List ℕ = c.args.text.now.items in
    let mark : c.push.new.self.items ≡ text ++ 70 ∷ [] = c.in_ok-push.ensures.items in
    let key : c.push_key.new.text.items ≡ c.push.new.self.items ++ 32 ∷ join_with_byte 32 (key_fields c.args.key) = c.in_ok-push_key.ensures in
    let item : c.push_item.new.text.items ≡ c.push_key.new.text.items ++ 32 ∷ join_with_byte 32 (item_fields c.args.item.now) = c.in_ok-push_item.ensures in
    let end : c.push-2.new.self.items ≡ c.push_item.new.text.items ++ 10 ∷ [] = c.in_ok-push-2.ensures.items in
    file_chain c.args.key c.args.item.now text c.push.new.self.items c.push_key.new.text.items c.push_item.new.text.items c.push-2.new.self.items mark key item end
