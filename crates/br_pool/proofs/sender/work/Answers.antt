use Rattle.std.proofs.Common.{◌≡◌, ℕ, Bool, true, false, List, [], map, ap, sym, subst, ◌∙◌}
use Rattle.br_match.specs.Come.{AllComeTo}
use Rattle.br_pool.specs.Gathering.{hits_of_batches}
use Rattle.br_pool.specs.Outlets.{outlet_view}
use Rattle.br_pool.specs.Pool.{StandsTold}
use Rattle.br_pool.specs.Sending.{IsSent}
use Rattle.br_pool.specs.Workers.{Answer, EachHolds, number_at, numbers_of}
use Rattle.br_pool.specs.declared.batch_queue.Crew.{Crew}
use Rattle.br_pool.proofs.ReaderLaws.{served_itself}
use Rattle.br_pool.proofs.sender.work.Goals as goal

clash : (b : Bool) → b ≡ true → b ≡ false → ⊥
clash true p q = absurd cc
clash false p q = absurd cc

-- a drive that is out sends nothing
pub returns-then-reader : goal.returns-then-reader
returns-then-reader g c = let r = c.requires.ready.0 in
    let reader = c.args.sender.now.worker.reader in
    let shows = g.D.Drive.shows reader.drive in
    let pieces = c.args.sending.now.round.now.pieces.now in
    let none : (outlet_view c.args.sender.now.outlet).pushed ≡ [] = ap (λ (v : Crew). v.pushed) c.requires.ready.2 in (
      c.requires.ready.1,
      record {
        parts = ap (λ (v : Crew). v.parts) c.requires.ready.2;
        come = λ volumes told. subst (λ l. AllComeTo volumes pieces (hits_of_batches l)) (sym none) tt;
        worked = record {
          claims_are = r.claims_are;
          served = served_itself shows (g.D.Drive.failures reader.drive) reader.out;
          each = subst (λ (l : List (ℕ × Answer)). EachHolds (IsSent (λ volumes. StandsTold pieces volumes shows shows) (hits_of_batches (outlet_view c.args.sender.now.outlet).pushed)) pieces l) (sym r.answered_none) tt;
          answered = λ p. ap numbers_of r.answered_none ∙ sym (ap (map (number_at c.args.sending.now.round.now.left.now)) r.drawn_none);
          ended = λ p. absurd (clash reader.out c.if-reader.true p);
        };
      },
    )
