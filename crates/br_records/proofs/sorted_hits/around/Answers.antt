use Rattle.std.proofs.Common.{◌≡◌, rules, sym, ap, subst, ◌∙◌, take, drop, true, List}
use Rattle.std.specs.List.{AllByRecursion, AllWithin}
use Rattle.std.specs.declared.cmp.Ordering.TheVariants.{Less}
use Rattle.std.proofs.lemmas.List.Sorted.{IsPartitionPoint-from_clause}
use Rattle.br_model.specs.Name.{key_cmp}
use Rattle.br_model.specs.Meaning.{Hit}
use Rattle.br_records.proofs.RunLaws.{before_parts, up_to_parts, is_before_file, is_up_to_file, before_run, run_of_key, behind_run, listed_drop}
use Rattle.br_records.specs.Runs.{AreListed}
use Rattle.br_records.proofs.sorted_hits.around.Goals as goal

pub returns-clause-before : goal.returns-clause-before
returns-clause-before c =
    let key = c.args.key in
    let part = IsPartitionPoint-from_clause (is_before_file key) c.args.hits.now c.partition_point.result c.partition_point.ensures.partitioned (before_parts key c.args.hits.now c.requires) (λ a r f' k. search rules) in
    subst (AllByRecursion (λ (h : Hit). key_cmp h.key key ≡ Less)) (sym c.split_at.ensures.front) (before_run key c.args.hits.now c.partition_point.result part.0)

pub returns-clause-of_key : goal.returns-clause-of_key
returns-clause-of_key c =
    let key = c.args.key in
    let hits = c.args.hits.now in
    let rest = c.split_at.result.1.now in
    let i = c.partition_point.result in
    let j = c.partition_point-2.result in
    let part = IsPartitionPoint-from_clause (is_before_file key) hits i c.partition_point.ensures.partitioned (before_parts key hits c.requires) (λ a r f' k. search rules) in
    let behind : rest ≡ drop i hits = c.split_at.ensures.back in
    let sorted : AreListed rest = subst AreListed (sym behind) (listed_drop hits i c.requires) in
    let part_2 = IsPartitionPoint-from_clause (is_up_to_file key) rest j c.partition_point-2.ensures.partitioned (up_to_parts key rest sorted) (λ a r f' k. search rules) in
    subst (AllByRecursion (λ (h : Hit). h.key ≡ key)) (sym (c.split_at-2.ensures.front ∙ ap (take j) behind))
    (run_of_key key hits i j part.1 (subst (λ (xs : List Hit). AllWithin (λ (h : Hit). is_up_to_file key h ≡ true) xs 0 j) behind part_2.0))

pub returns-clause-after : goal.returns-clause-after
returns-clause-after c =
    let key = c.args.key in
    let hits = c.args.hits.now in
    let rest = c.split_at.result.1.now in
    let i = c.partition_point.result in
    let j = c.partition_point-2.result in
    let sorted : AreListed rest = subst AreListed (sym c.split_at.ensures.back) (listed_drop hits i c.requires) in
    let part_2 = IsPartitionPoint-from_clause (is_up_to_file key) rest j c.partition_point-2.ensures.partitioned (up_to_parts key rest sorted) (λ a r f' k. search rules) in
    subst (AllByRecursion (λ (h : Hit). key_cmp key h.key ≡ Less)) (sym c.split_at-2.ensures.back) (behind_run key rest j part_2.1)
