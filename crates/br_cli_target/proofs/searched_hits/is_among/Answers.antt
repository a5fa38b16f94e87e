use Rattle.std.proofs.Common.{sym, ap, ◌∙◌, get_or}
use Rattle.std.proofs.lemmas.List.Folds.{list_any_at}
use Rattle.std.proofs.lemmas.List.Sorted.{searchable_from_sorted}
use Rattle.std.specs.Ordering.{is_eq}
use Rattle.br_model.specs.Name.{same_key}
use Rattle.br_types.proofs.KeyLaws.{key_total}
use Rattle.br_records.proofs.SortLaws.{same_key_is_tie}
use Rattle.br_cli_target.proofs.OwnLaws.{not_among}
use Rattle.br_cli_target.proofs.searched_hits.is_among.Goals as goal

pub returns-in-Ok : goal.returns-in-Ok
returns-in-Ok c =
    let key = c.args.key in
    let keys = c.args.keys.now in
    let i = c.in-Ok.field-0 in
    sym (list_any_at (λ k. same_key k key) keys i key c.in-Ok.ensures.bound (same_key_is_tie (get_or keys i key) key ∙ ap is_eq (c.in-Ok.ensures.ok key)))

pub returns-in-Err : goal.returns-in-Err
returns-in-Err c =
    let key = c.args.key in
    let keys = c.args.keys.now in
    not_among keys key c.in-Err.field-0 (c.in-Err.ensures.position (searchable_from_sorted key_total (λ k. k) keys key c.requires))
