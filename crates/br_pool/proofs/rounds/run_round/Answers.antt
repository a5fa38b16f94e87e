use Rattle.std.proofs.Common.{◌≡◌, ℕ, ◌<◌, ◌⊎◌, inl, inr, false, List, length, map, Vec, ap, sym, subst, ◌∙◌, arith}
use Rattle.std.specs.Global.{Global}
use Rattle.std.specs.List.{AllByRecursion, list_any}
use Rattle.atomic_table.specs.Seated.{TableId}
use Rattle.br_model.specs.Volume.{Volume}
use Rattle.br_claim.specs.Claims.{Claimed}
use Rattle.br_pool.specs.Rounds.{OverAll}
use Rattle.br_pool.specs.Slots.{AllBelow, empties, is_empty}
use Rattle.br_pool.specs.Workers.{AreAllAnswered, IsAnswer, IsReady, outs}
use Rattle.br_pool.specs.declared.workers.WorkerShare.{WorkerShare}
use Rattle.br_pool.specs.declared.worker.Reader.{Reader}
use Rattle.br_pool.proofs.AnswerLaws.{each_below}
use Rattle.br_pool.proofs.EmptyLaws.{all_filled, empties_low, rounds_fall}
use Rattle.br_pool.proofs.ReaderLaws.{all_served}
use Rattle.br_pool.proofs.SlotLaws.{length_with_each}
use Rattle.br_pool.proofs.rounds.run_round.Goals as goal

ready_at : (a b : TableId) (m n : ℕ) (shares : List WorkerShare) → b ≡ a → n ≡ m → AllByRecursion (λ (d : WorkerShare). IsReady a m d.seat d.answers) shares
    → AllByRecursion (λ (d : WorkerShare). IsReady b n d.seat d.answers) shares
ready_at a b m n shares p q h = rw (p, q) h

-- before the drives are asked they are as they were
pub returns-in_err-left-clause-served : goal.returns-in_err-left-clause-served
returns-in_err-left-clause-served g c = all_served (λ (r : Reader g.row.D.Denot). g.D.Drive.shows r.drive) (λ (r : Reader g.row.D.Denot). g.D.Drive.failures r.drive) (λ (r : Reader g.row.D.Denot). r.out) c.args.readers.now.items

pub returns-in_default-clause-served : goal.returns-in_default-clause-served
returns-in_default-clause-served g c = all_served (λ (r : Reader g.row.D.Denot). g.D.Drive.shows r.drive) (λ (r : Reader g.row.D.Denot). g.D.Drive.failures r.drive) (λ (r : Reader g.row.D.Denot). r.out) c.args.readers.now.items

pub returns-in_err-claims-clause-served : goal.returns-in_err-claims-clause-served
returns-in_err-claims-clause-served g c = all_served (λ (r : Reader g.row.D.Denot). g.D.Drive.shows r.drive) (λ (r : Reader g.row.D.Denot). g.D.Drive.failures r.drive) (λ (r : Reader g.row.D.Denot). r.out) c.args.readers.now.items

pub returns-in_err-shares-clause-served : goal.returns-in_err-shares-clause-served
returns-in_err-shares-clause-served g c = all_served (λ (r : Reader g.row.D.Denot). g.D.Drive.shows r.drive) (λ (r : Reader g.row.D.Denot). g.D.Drive.failures r.drive) (λ (r : Reader g.row.D.Denot). r.out) c.args.readers.now.items

pub read_all-requires-clause-ready : goal.read_all-requires-clause-ready
read_all-requires-clause-ready g c κs within = let made = c.in_ok-shares.ensures.claims in
    ready_at c.in_ok-claims.claims.claims c.shares_for.new.claims.claims c.len-room.result c.shares_for.new.claims.limit c.in_ok-shares.shares.items (ap (λ (k : Claimed). k.claims) made)
    (ap (λ (k : Claimed). k.limit) made ∙ c.in_ok-claims.ensures.0 ∙ c.in-Ok.ensures.1) c.in_ok-shares.ensures.ready

-- the numbers left are those of pieces
pub read_all-requires-clause-below : goal.read_all-requires-clause-below
read_all-requires-clause-below g c κs within =
    let many = c.requires.many in
    subst (λ (l : List ℕ). AllByRecursion (λ (x : ℕ). x < length c.args.task.now.pieces.now) l) (sym (c.deref.ensures.value ∙ c.in_ok-left.ensures))
    (empties_low 0 (length c.args.task.now.pieces.now) c.args.slots.now (omega (arith, many)))

pub returns : goal.returns
returns g c =
    let r = c.in_ok-seats.ensures.read in
    let worked = r.2 in
    let pieces = c.args.task.now.pieces.now in
    let many = c.requires.many in
    let limit : c.shares_for.new.claims.limit ≡ c.in_ok-left.left.len = ap (λ (k : Claimed). k.limit) c.in_ok-shares.ensures.claims ∙ c.in_ok-claims.ensures.0 ∙ c.in-Ok.ensures.1 ∙ c.len-room.ensures in
    let left : c.deref.result.now ≡ empties 0 c.args.slots.now = c.deref.ensures.value ∙ c.in_ok-left.ensures in
    let over : List Volume → Type 0 = OverAll g.D.Drive.shows pieces c.args.readers.now.items c.read_all.new.readers.items in
    let below : AllBelow (length c.args.slots.now) r.0 = subst (λ n. AllBelow n r.0) (sym many) (each_below (IsAnswer over) pieces r.0 worked.each) in
    let finished : AreAllAnswered c.deref.result.now c.in_ok-seats.seats.items r.0 → list_any is_empty c.read_all.new.into ≡ false =
    λ done. ap (list_any is_empty) r.1
    ∙ all_filled c.args.slots.now r.0 c.shares_for.new.claims.limit c.in_ok-seats.seats.items (map (λ (v : Vec ℕ Global). v.items) c.in-Ok-gather._lists.items) below
    (limit ∙ c.in_ok-left.left.ok.0 ∙ ap length c.in_ok-left.ensures) c.in-Ok-gather.ensures.dealt c.in-Ok-gather.ensures.lists
    (subst (λ (l : List ℕ). AreAllAnswered l c.in_ok-seats.seats.items r.0) left done) in
    record {
      many = ap length r.1 ∙ length_with_each c.args.slots.now r.0;
      served = c.in_ok-seats.ensures.served;
      added = (r.0, r.1, worked.each);
      fewer = rounds_fall (outs c.args.readers.now.items) (outs c.read_all.new.readers.items) c.args.slots.now c.read_all.new.into c.requires.left (either finished (worked.progress c.requires.ready));
    }
  where
    either : {A B C : Type 0} → (B → C) → A ⊎ B → A ⊎ C
    either f (inl a) = inl a
    either f (inr b) = inr (f b)
