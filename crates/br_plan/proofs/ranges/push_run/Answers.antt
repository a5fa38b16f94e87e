use Rattle.std.proofs.Common.{◌≡◌, ◌+◌, ◌-◌, ◌<◌, List, [], ◌∷◌, ◌++◌, length, vec_len, sym, ap, ◌∙◌, arith}
use Rattle.std.proofs.Math.ListN.{set}
use Rattle.br_model.specs.Bootstrap.{Range}
use Rattle.br_plan.specs.Parts.{with_run}
use Rattle.br_plan.proofs.RangeLaws.{next_to_last, apart_from_last, behind_none}
use Rattle.br_plan.proofs.ranges.push_run.Goals as goal
use Rattle.br_plan.proofs.ranges.push_run.Goals.{in-Some+else-low-gt0, else-low-gt0-via-then-low-gt0+else-last-low, else-low-gt0-via-else-low-gt0, in_default}

pub returns-then-last-low : goal.returns-then-last-low
returns-then-last-low c =
    let whole : vec_len c.args.ranges.now ≡ length c.args.ranges.now.items = c.args.ranges.now.ok.0 in
    let some : 0 < length c.args.ranges.now.items = c.in-Some.ensures.item.3.0 in
    ap (λ l. set c.args.ranges.now.items (vec_len c.args.ranges.now - 1) (record { low = l; high = c.args.high })) (ap (λ (r : Range). r.low) c.last.view_is)
    ∙ next_to_last c.args.ranges.now.items c.in-Some.last.now (vec_len c.args.ranges.now) c.args.low c.args.high (sym whole) (omega (arith, some, whole)) c.in-Some.ensures.value c.if-low-gt0.true
    (sym (ap (λ (r : Range). r.high) c.last.view_is) ∙ c.if-last-low.true)

pub returns : goal.returns
returns c =
    let whole : vec_len c.args.ranges.now ≡ length c.args.ranges.now.items = c.args.ranges.now.ok.0 in
    let i = c.args.low in
    let h = c.args.high in
    elim c.match-last_mut.branch [
      | in-Some+else-low-gt0 w ↦
          let some : 0 < length c.args.ranges.now.items = w.in-Some.ensures.item.3.0 in
          let grown : List Range → List Range = λ rs. rs ++ record { low = i; high = h } ∷ [] in
          let apart : (w.in-Some.last.now.high + 1 ≡ i → ⊥) → grown (set c.args.ranges.now.items (vec_len c.args.ranges.now - 1) w.in-Some.last.now) ≡ with_run c.args.ranges.now.items i h = λ far.
          apart_from_last c.args.ranges.now.items w.in-Some.last.now (vec_len c.args.ranges.now) i h (sym whole) (omega (arith, some, whole)) w.in-Some.ensures.value far in
          let high = ap (λ (r : Range). r.high) w.last.view_is in
          elim w.else-low-gt0.branch [
            | else-low-gt0-via-then-low-gt0+else-last-low u ↦
                c.in_ok-push.ensures.items ∙ ap (λ v. grown v.items) (w.ranges-is ∙ u.ranges-is) ∙ apart (λ e. u.if-last-low.false (omega (arith, e, high)))
            | else-low-gt0-via-else-low-gt0 u ↦
                c.in_ok-push.ensures.items ∙ ap (λ v. grown v.items) (w.ranges-is ∙ u.ranges-is) ∙ apart (λ e. omega (arith, e, u.if-low-gt0.false))
          ]
      | in_default w ↦
          c.in_ok-push.ensures.items ∙ ap (λ (rs : List Range). rs ++ record { low = i; high = h } ∷ []) (ap (λ v. v.items) w.ranges-is)
          ∙ behind_none c.args.ranges.now.items i h w.in_default.ensures.item.3
    ]
