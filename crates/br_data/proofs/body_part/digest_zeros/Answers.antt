use Rattle.std.proofs.Common.{List, ℕ, ◌++◌, sym, ap, subst, ◌∙◌, arith, append-nil}
use Rattle.md5.specs.Md5.{Holds}
use Rattle.br_data.proofs.BodyPartLaws.{message_more, none_left, none_done}
use Rattle.br_data.proofs.body_part.digest_zeros.Goals as goal

pub loop-left-init : goal.loop-left-init
loop-left-init c = (
  omega arith,
  λ m h. subst (Holds c.args.hasher.now) (sym (ap (λ (xs : List ℕ). m ++ xs) (none_done c.args.count) ∙ append-nil m)) h,
)

pub loop-left-preserved : goal.loop-left-preserved
loop-left-preserved c =
    let before = c.loop-left.invariant in (
      omega (arith, before.0),
      λ m h. subst (Holds c.update.new.self) (message_more m _ c.args.count c.loop-left.left c.min-next.result before.0 c.min-next.ensures c.split_at.ensures.front) (c.update.ensures _ (before.1 m h)),
    )

pub returns : goal.returns
returns c = λ m h.
    subst (λ (xs : List ℕ). Holds c.loop-left.hasher (m ++ xs)) (none_left c.args.count c.loop-left.left c.loop-left-test.false) (c.loop-left.invariant.1 m h)
