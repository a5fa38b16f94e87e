use Rattle.std.proofs.Common.{◌&&◌, ◌∙◌, ap, sym, drop, length}
use Rattle.br_model.specs.Console.{begins_with}
use Rattle.br_tree.proofs.AroundLaws.{begins_in_parts}
use Rattle.br_tree.proofs.cut.begins_in.Goals as goal

pub returns-then-starts_with : goal.returns-then-starts_with
returns-then-starts_with c =
    let p = c.args.path.now in
    let d = c.args.directory.now in
    let t = c.args.text.now in
    let rest = begins_with (drop (length d) p) t in
    c.starts_with-then-starts_with.ensures.value ∙ ap (λ r. begins_with r t) c.rest_of.ensures
    ∙ sym (ap (λ b. b && rest) (sym c.starts_with.ensures.value ∙ c.if-starts_with.true)) ∙ begins_in_parts p d t

pub returns-else-starts_with : goal.returns-else-starts_with
returns-else-starts_with c =
    let p = c.args.path.now in
    let d = c.args.directory.now in
    let t = c.args.text.now in
    let rest = begins_with (drop (length d) p) t in
    c.if-starts_with.false ∙ sym (ap (λ b. b && rest) (sym c.starts_with.ensures.value ∙ c.if-starts_with.false)) ∙ begins_in_parts p d t
