use Rattle.std.proofs.Common.{◌≡◌, ℕ, true, false, List, [], ◌∷◌, map, length, length-append, refl, ap, sym, subst, ◌∙◌, arith}
use Rattle.std.specs.Prelude.{IfOk}
use Rattle.br_claim.specs.Claims.{Seated}
use Rattle.br_model.specs.Meaning.{Piece}
use Rattle.br_match.specs.Matching.{FoundOver}
use Rattle.br_volume.proofs.ExtendLaws.{grows_itself, grows_more}
use Rattle.br_pool.specs.Pool.{StandsTold}
use Rattle.br_pool.specs.Workers.{Answer, AllAnswer, number_at, numbers_of}
use Rattle.br_pool.proofs.AnswerLaws.{answered_longer, answered_more}
use Rattle.br_pool.proofs.DrawnLaws.{below_at, one_more}
use Rattle.br_pool.proofs.worker.read_drawn.Goals as goal

differ : true ≡ false → ⊥
differ e = absurd cc

differ_too : false ≡ true → ⊥
differ_too e = absurd cc

pub loop-place-init : goal.loop-place-init
loop-place-init g c = let r = c.requires.ready in
    let shows = g.D.Drive.shows c.args.reader.now.drive in record {
      inside = c.requires.able;
      claims_are = r.claims_are;
      limit_is = r.limit_is;
      grows = grows_itself shows;
      counted = omega arith;
      drawn = ap numbers_of r.answered_none ∙ sym (ap (map (number_at c.args.round.now.left.now)) r.drawn_none);
      each = subst (λ (l : List (ℕ × Answer)). AllAnswer (λ volumes. StandsTold c.args.round.now.pieces.now volumes shows shows) c.args.round.now.pieces.now l) (sym r.answered_none) tt;
      many = c.args.answers.now.ok.0 ∙ ap length r.answered_none ∙ sym (ap length r.drawn_none);
      room = r.room;
    }

pub number_at-number-requires : goal.number_at-number-requires
number_at-number-requires g c = let a = c.in-Some.ensures.below in let b = c.loop-place.invariant.limit_is in let d = c.requires.few in omega (arith, a, b, d)

pub bounds-round-number : goal.bounds-round-number
bounds-round-number g c =
    let a = c.in-Some.ensures.below in
    let b = c.loop-place.invariant.limit_is in
    let d = c.requires.few in
    below_at (length c.args.round.now.pieces.now) c.args.round.now.left.now c.in-Some.place c.number_at-number.result c.requires.below (omega (arith, a, b, d)) c.number_at-number.ensures

pub loop-place-preserved : goal.loop-place-preserved
loop-place-preserved g c = let i = c.loop-place.invariant in
    let pieces = c.args.round.now.pieces.now in
    let left = c.args.round.now.left.now in
    let number = c.number_at-number.result in
    let first = g.D.Drive.shows c.args.reader.now.drive in
    let second = g.D.Drive.shows c.loop-place.reader.drive in
    let third = g.D.Drive.shows c.read_one-answer.new.reader.drive in
    let e = c.read_one-answer.ensures in
    let step = c.in-Some.ensures.step.1 in
    let low = c.in-Some.ensures.below in
    let pushed = c.push_reserved.ensures in record {
      inside = c.if-reader.false;
      claims_are = ap (λ (s : Seated). s.claims) step ∙ i.claims_are;
      limit_is = ap (λ (s : Seated). s.limit) step ∙ i.limit_is;
      grows = grows_more first second third i.grows e.grows;
      counted = let a = i.counted in let b = e.counted in omega (arith, a, b);
      drawn = one_more left c.in-Some.place number c.read_one-answer.result c.loop-place.seat.drawn c.loop-place.answers.items c.push_reserved.new.self.items pushed.items c.number_at-number.ensures i.drawn
          ∙ sym (ap (λ (s : Seated). map (number_at left) s.drawn) step);
      each =
          rw pushed.items
          (answered_more pieces number c.index-round-number.result c.read_one-answer.result first second third c.loop-place.answers.items i.grows e.grows
          (below_at (length pieces) left c.in-Some.place number c.requires.below (let a = i.limit_is in let b = c.requires.few in omega (arith, a, b, low)) c.number_at-number.ensures)
          c.index-round-number.is (subst (λ (p : Piece). IfOk c.read_one-answer.result (λ f. f.piece ≡ p.number)) (sym c.index-round-number.is) e.number)
          (subst (λ (p : Piece). FoundOver second third p c.read_one-answer.result) (sym c.index-round-number.is) e.hits) (sym e.out ∙ c.if-reader.false) i.each);
      many = let a = i.many in let b = pushed.len in let d = ap (λ (s : Seated). length s.drawn) step in let l = length-append c.loop-place.seat.drawn (c.in-Some.place ∷ []) in omega (arith, a, b, d, l);
      room = let a = pushed.capacity in let b = i.room in omega (arith, a, b);
    }

pub returns-then-reader : goal.returns-then-reader
returns-then-reader g c = let i = c.loop-place.invariant in
    let pieces = c.args.round.now.pieces.now in
    let first = g.D.Drive.shows c.args.reader.now.drive in
    let second = g.D.Drive.shows c.loop-place.reader.drive in
    let third = g.D.Drive.shows c.read_one-answer.new.reader.drive in
    let e = c.read_one-answer.ensures in
    let step = c.in-Some.ensures.step.1 in
    let less = e.failed (sym e.out ∙ c.if-reader.true) in
    rw (c.requires.able, c.if-reader.true) (record {
      claims_are = ap (λ (s : Seated). s.claims) step ∙ i.claims_are;
      served = record {
        grows = grows_more first second third i.grows e.grows;
        counted = let a = i.counted in let b = e.counted in omega (arith, a, b);
        stays = λ p. refl;
        risen = λ p q. let a = i.counted in omega (arith, a, less);
      };
      each = answered_longer pieces first second third c.loop-place.answers.items i.grows e.grows i.each;
      answered = λ p. absurd (differ p);
      ended = λ p. absurd (differ p);
    })

pub returns : goal.returns
returns g c = let i = c.loop-place.invariant in
    let left = c.args.round.now.left.now in
    let step = c.in_default.ensures.step in
    rw (c.requires.able, i.inside) (record {
      claims_are = ap (λ (s : Seated). s.claims) step ∙ i.claims_are;
      served = record {
        grows = i.grows;
        counted = i.counted;
        stays = λ p. p;
        risen = λ p q. absurd (differ_too q);
      };
      each = i.each;
      answered = λ p. i.drawn ∙ sym (ap (λ (s : Seated). map (number_at left) s.drawn) step);
      ended = λ p. ap (λ (s : Seated). s.ended) step;
    })
