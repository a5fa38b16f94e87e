use Rattle.std.proofs.Common.{rules, ◌≡◌, ◌<◌, ◌+◌, ◌-◌, ◌++◌, length, take, drop, get_or, sym, ap, subst, ◌∙◌, length-drop, arith}
use Rattle.std.proofs.lemmas.List.{length-take-le, nil_from_length}
use Rattle.br_tree.specs.Sums.{set_in, middle, cut, AreSums, painted, repainted, moved}
use Rattle.br_tree.proofs.PaintLaws.{painted_none, painted_past, repainted_none, repainted_past, repainted-le, painted-length, painted_parts, repainted_parts, painted_sets, set_in-le}
use Rattle.br_tree.proofs.SumLaws.{cut_fits, front_sums, sums_of_any, old_sum, rest_flags, rest_sums, rest_are, new_flags, step_sums}
use Rattle.br_tree.proofs.sums.+set_between.Goals as goal
use Rattle.br_tree.proofs.sums.+set_between.Goals.{then-to-from-via-then-to-from, then-to-from-via-else-to-from+then-flags-from}

pub returns-then-to-from-clause-flags : goal.returns-then-to-from-clause-flags
returns-then-to-from-clause-flags t c =
    elim c.then-to-from.branch [
      | then-to-from-via-then-to-from w ↦ sym (painted_none c.args.from c.args.to c.args.value c.args.flags.now w.if-to-from.true)
      | then-to-from-via-else-to-from+then-flags-from w ↦ sym (painted_past c.args.from c.args.to c.args.value c.args.flags.now w.if-flags-from.true)
    ]

pub returns-then-to-from-clause-count : goal.returns-then-to-from-clause-count
returns-then-to-from-clause-count t c =
    elim c.then-to-from.branch [
      | then-to-from-via-then-to-from w ↦ sym (repainted_none c.args.from c.args.to c.args.value c.args.flags.now w.if-to-from.true)
      | then-to-from-via-else-to-from+then-flags-from w ↦ sym (repainted_past c.args.from c.args.to c.args.value c.args.flags.now w.if-flags-from.true)
    ]

pub returns-then-is_empty-clause-sums : goal.returns-then-is_empty-clause-sums
returns-then-is_empty-clause-sums t c =
    let none : length c.args.sums.now ≡ 0 = search rules in
    subst (λ ss. AreSums ss c.set_each.new.flags) (sym (nil_from_length c.args.sums.now none)) (sums_of_any c.set_each.new.flags)

pub set_between-near-requires : goal.set_between-near-requires
set_between-near-requires t c =
    let ss = c.args.sums.now in
    let some : 0 < length ss = search rules in
    (omega (arith, c.decreases, length-take-le (middle ss) ss (omega (arith, some)), some), front_sums ss c.args.flags.now c.requires some)

pub recount-requires : goal.recount-requires
recount-requires t c =
    let ss = c.args.sums.now in
    let fs = c.args.flags.now in
    let some : 0 < length ss = search rules in
    let fits : length fs < 18446744073709551616 = search rules in
    let near = c.set_between-near in
    let front_len : length near.new.sums ≡ middle ss = near.auto.sums ∙ length-take-le (middle ss) ss (omega (arith, some)) in
    let first_len : length near.new.flags ≡ cut ss = near.auto.flags ∙ length-take-le (cut ss) fs (cut_fits ss fs c.requires some) in
    let counts : moved c.args.value (get_or (near.new.sums ++ drop (middle ss) ss) (middle ss) 0) near.result ≡ set_in (painted c.args.from c.args.to c.args.value (take (cut ss) fs)) =
    ap (λ n. moved c.args.value n near.result) (old_sum ss fs c.requires some near.new.sums front_len near.new.flags first_len)
    ∙ ap (moved c.args.value (set_in (take (cut ss) fs))) near.ensures.count
    ∙ painted_sets c.args.from c.args.to c.args.value (take (cut ss) fs) in
    omega (arith, counts, set_in-le (painted c.args.from c.args.to c.args.value (take (cut ss) fs)), painted-length c.args.from c.args.to c.args.value (take (cut ss) fs), length-take-le (cut ss) fs (cut_fits ss fs c.requires some), cut_fits ss fs c.requires some, fits)

pub set_between-far-requires : goal.set_between-far-requires
set_between-far-requires t c =
    let ss = c.args.sums.now in
    let fs = c.args.flags.now in
    let some : 0 < length ss = search rules in
    let near = c.set_between-near in
    let front_len : length near.new.sums ≡ middle ss = near.auto.sums ∙ length-take-le (middle ss) ss (omega (arith, some)) in
    let first_len : length near.new.flags ≡ cut ss = near.auto.flags ∙ length-take-le (cut ss) fs (cut_fits ss fs c.requires some) in
    let of_sums = rest_sums ss fs c.requires some near.new.sums front_len near.new.flags first_len c.recount.result in (
      omega (arith, c.decreases, ap length of_sums, length-drop (middle ss + 1) ss, some),
      rest_are ss fs c.requires some near.new.sums front_len near.new.flags first_len c.recount.result,
    )

pub overflow_add-result : goal.overflow_add-result
overflow_add-result t c =
    let ss = c.args.sums.now in
    let fs = c.args.flags.now in
    let some : 0 < length ss = search rules in
    let fits : length fs < 18446744073709551616 = search rules in
    let near = c.set_between-near in
    let far = c.set_between-far in
    let a = c.args.from in
    let b = c.args.to in
    let v = c.args.value in
    let front_len : length near.new.sums ≡ middle ss = near.auto.sums ∙ length-take-le (middle ss) ss (omega (arith, some)) in
    let first_len : length near.new.flags ≡ cut ss = near.auto.flags ∙ length-take-le (cut ss) fs (cut_fits ss fs c.requires some) in
    let of_flags = rest_flags ss fs c.requires some near.new.sums front_len near.new.flags first_len in
    let later : far.result ≡ repainted (a - cut ss) (b - cut ss) v (drop (cut ss) fs) =
    far.ensures.count ∙ ap (repainted c.saturating_sub.result c.saturating_sub-2.result v) of_flags
    ∙ ap (λ n. repainted n c.saturating_sub-2.result v (drop (cut ss) fs)) c.saturating_sub.ensures ∙ ap (λ n. repainted (a - cut ss) n v (drop (cut ss) fs)) c.saturating_sub-2.ensures in
    omega (arith, near.ensures.count, later, repainted_parts (cut ss) a b v fs, repainted-le a b v fs, fits)

pub returns-clause-flags : goal.returns-clause-flags
returns-clause-flags t c =
    let ss = c.args.sums.now in
    let fs = c.args.flags.now in
    let some : 0 < length ss = search rules in
    let near = c.set_between-near in
    let far = c.set_between-far in
    let a = c.args.from in
    let b = c.args.to in
    let v = c.args.value in
    let front_len : length near.new.sums ≡ middle ss = near.auto.sums ∙ length-take-le (middle ss) ss (omega (arith, some)) in
    let first_len : length near.new.flags ≡ cut ss = near.auto.flags ∙ length-take-le (cut ss) fs (cut_fits ss fs c.requires some) in
    let of_flags = rest_flags ss fs c.requires some near.new.sums front_len near.new.flags first_len in
    let later : far.new.flags ≡ painted (a - cut ss) (b - cut ss) v (drop (cut ss) fs) =
    far.ensures.flags ∙ ap (painted c.saturating_sub.result c.saturating_sub-2.result v) of_flags
    ∙ ap (λ n. painted n c.saturating_sub-2.result v (drop (cut ss) fs)) c.saturating_sub.ensures ∙ ap (λ n. painted (a - cut ss) n v (drop (cut ss) fs)) c.saturating_sub-2.ensures in
    new_flags ss fs c.requires some near.new.sums front_len near.new.flags first_len far.new.flags
    ∙ ap (λ gs. gs ++ far.new.flags) near.ensures.flags ∙ ap (λ gs. painted a b v (take (cut ss) fs) ++ gs) later
    ∙ painted_parts (cut ss) a b v fs

pub returns-clause-count : goal.returns-clause-count
returns-clause-count t c =
    let ss = c.args.sums.now in
    let fs = c.args.flags.now in
    let some : 0 < length ss = search rules in
    let near = c.set_between-near in
    let far = c.set_between-far in
    let a = c.args.from in
    let b = c.args.to in
    let v = c.args.value in
    let front_len : length near.new.sums ≡ middle ss = near.auto.sums ∙ length-take-le (middle ss) ss (omega (arith, some)) in
    let first_len : length near.new.flags ≡ cut ss = near.auto.flags ∙ length-take-le (cut ss) fs (cut_fits ss fs c.requires some) in
    let of_flags = rest_flags ss fs c.requires some near.new.sums front_len near.new.flags first_len in
    let later : far.result ≡ repainted (a - cut ss) (b - cut ss) v (drop (cut ss) fs) =
    far.ensures.count ∙ ap (repainted c.saturating_sub.result c.saturating_sub-2.result v) of_flags
    ∙ ap (λ n. repainted n c.saturating_sub-2.result v (drop (cut ss) fs)) c.saturating_sub.ensures ∙ ap (λ n. repainted (a - cut ss) n v (drop (cut ss) fs)) c.saturating_sub-2.ensures in
    omega (arith, near.ensures.count, later, repainted_parts (cut ss) a b v fs)

pub returns-clause-sums : goal.returns-clause-sums
returns-clause-sums t c =
    let ss = c.args.sums.now in
    let fs = c.args.flags.now in
    let some : 0 < length ss = search rules in
    let near = c.set_between-near in
    let far = c.set_between-far in
    let a = c.args.from in
    let b = c.args.to in
    let v = c.args.value in
    let front_len : length near.new.sums ≡ middle ss = near.auto.sums ∙ length-take-le (middle ss) ss (omega (arith, some)) in
    let first_len : length near.new.flags ≡ cut ss = near.auto.flags ∙ length-take-le (cut ss) fs (cut_fits ss fs c.requires some) in
    let of_sums = rest_sums ss fs c.requires some near.new.sums front_len near.new.flags first_len c.recount.result in
    let back_len : length far.new.sums ≡ length ss - (middle ss + 1) = far.auto.sums ∙ ap length of_sums ∙ length-drop (middle ss + 1) ss in
    let counts : c.recount.result ≡ set_in near.new.flags =
    c.recount.ensures
    ∙ ap (λ n. moved v n near.result) (old_sum ss fs c.requires some near.new.sums front_len near.new.flags first_len)
    ∙ ap (moved v (set_in (take (cut ss) fs))) near.ensures.count
    ∙ painted_sets a b v (take (cut ss) fs) ∙ ap set_in (sym near.ensures.flags) in
    step_sums ss fs c.requires some near.new.sums front_len near.new.flags first_len c.recount.result far.new.sums far.new.flags back_len counts near.ensures.sums far.ensures.sums
