use Rattle.std.proofs.Common.{◌≡◌, ℕ, Bool, true, false, List, map, ap, sym, subst, ◌∙◌}
use Rattle.br_pool.specs.Pool.{StandsTold}
use Rattle.br_pool.specs.Workers.{Answer, AllAnswer, number_at, numbers_of}
use Rattle.br_pool.proofs.ReaderLaws.{served_itself}
use Rattle.br_pool.proofs.worker.work.Goals as goal

clash : (b : Bool) → b ≡ true → b ≡ false → ⊥
clash true p q = absurd cc
clash false p q = absurd cc

pub returns-then-reader : goal.returns-then-reader
returns-then-reader g c = let r = c.requires.ready in
    let reader = c.args.worker.now.reader in
    let shows = g.D.Drive.shows reader.drive in
    let pieces = c.args.round.now.pieces.now in record {
      claims_are = r.claims_are;
      served = served_itself shows (g.D.Drive.failures reader.drive) reader.out;
      each = subst (λ (l : List (ℕ × Answer)). AllAnswer (λ volumes. StandsTold pieces volumes shows shows) pieces l) (sym r.answered_none) tt;
      answered = λ p. ap numbers_of r.answered_none ∙ sym (ap (map (number_at c.args.round.now.left.now)) r.drawn_none);
      ended = λ p. absurd (clash reader.out c.if-reader.true p);
    }
