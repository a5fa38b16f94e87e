use Rattle.std.proofs.Common.{◌≡◌, ℕ, List, [], ◌∷◌, map, length, length-append, ap, sym, subst, ◌∙◌, arith}
use Rattle.br_claim.specs.Claims.{Seated}
use Rattle.br_model.specs.Meaning.{Piece}
use Rattle.br_volume.proofs.ExtendLaws.{grows_itself, grows_more}
use Rattle.br_match.specs.Come.{AllComeTo}
use Rattle.br_pool.specs.Gathering.{hits_of_batches}
use Rattle.br_pool.specs.Outlets.{outlet_view}
use Rattle.br_pool.specs.Pool.{StandsTold}
use Rattle.br_pool.specs.Sending.{IsSent, SendsOver}
use Rattle.br_pool.specs.Workers.{Answer, EachHolds, number_at, numbers_of}
use Rattle.br_pool.specs.declared.batch_queue.Crew.{Crew}
use Rattle.br_pool.proofs.DrawnLaws.{below_at, one_more}
use Rattle.br_pool.proofs.SendingLaws.{come_after, each_one_more, sent_ends, sent_stops}
use Rattle.br_pool.proofs.sender.send_drawn.Goals as goal

pub loop-place-init : goal.loop-place-init
loop-place-init g c = let r = c.requires.ready in
    let shows = g.D.Drive.shows c.args.reader.now.drive in
    let pieces = c.args.sending.now.round.now.pieces.now in
    let none : (outlet_view c.args.outlet.now).pushed ≡ [] = ap (λ (v : Crew). v.pushed) c.requires.hired in record {
      inside = c.requires.able;
      claims_are = r.claims_are;
      limit_is = r.limit_is;
      grows = grows_itself shows;
      counted = omega arith;
      drawn = ap numbers_of r.answered_none ∙ sym (ap (map (number_at c.args.sending.now.round.now.left.now)) r.drawn_none);
      pass = c.requires.pass;
      parts = ap (λ (v : Crew). v.parts) c.requires.hired;
      come = λ volumes told. subst (λ l. AllComeTo volumes pieces (hits_of_batches l)) (sym none) tt;
      each = subst (λ (l : List (ℕ × Answer)). EachHolds (IsSent (λ volumes. StandsTold pieces volumes shows shows) (hits_of_batches (outlet_view c.args.outlet.now).pushed)) pieces l) (sym r.answered_none) tt;
      many = c.args.answers.now.ok.0 ∙ ap length r.answered_none ∙ sym (ap length r.drawn_none);
      room = r.room;
    }

pub number_at-number-requires : goal.number_at-number-requires
number_at-number-requires g c = let a = c.in-Some.ensures.below in let b = c.loop-place.invariant.limit_is in let d = c.requires.few in omega (arith, a, b, d)

pub bounds-round-number : goal.bounds-round-number
bounds-round-number g c =
    let a = c.in-Some.ensures.below in
    let b = c.loop-place.invariant.limit_is in
    let d = c.requires.few in
    below_at (length c.args.sending.now.round.now.pieces.now) c.args.sending.now.round.now.left.now c.in-Some.place c.number_at-number.result c.requires.below (omega (arith, a, b, d)) c.number_at-number.ensures

pub loop-place-preserved : goal.loop-place-preserved
loop-place-preserved g c = let i = c.loop-place.invariant in
    let left = c.args.sending.now.round.now.left.now in
    let e = c.send_one-answer.ensures in
    let step = c.in-Some.ensures.step.1 in
    let low = c.in-Some.ensures.below in
    let pushed = c.push_reserved.ensures in record {
      inside = c.if-reader.false;
      claims_are = ap (λ (s : Seated). s.claims) step ∙ i.claims_are;
      limit_is = ap (λ (s : Seated). s.limit) step ∙ i.limit_is;
      grows = grows_more (g.D.Drive.shows c.args.reader.now.drive) (g.D.Drive.shows c.loop-place.reader.drive) (g.D.Drive.shows c.send_one-answer.new.reader.drive) i.grows e.grows;
      counted = let a = i.counted in let b = e.counted in omega (arith, a, b);
      drawn = one_more left c.in-Some.place c.number_at-number.result c.send_one-answer.result c.loop-place.seat.drawn c.loop-place.answers.items c.push_reserved.new.self.items pushed.items c.number_at-number.ensures
          i.drawn ∙ sym (ap (λ (s : Seated). map (number_at left) s.drawn) step);
      pass = e.pass;
      parts = ap (λ (v : Crew). v.parts) e.sent.1.1 ∙ i.parts;
      come =
          come_after c.args.sending.now.round.now.pieces.now c.number_at-number.result c.index-round-number.result c.send_one-answer.result (g.D.Drive.shows c.args.reader.now.drive)
          (g.D.Drive.shows c.loop-place.reader.drive) (g.D.Drive.shows c.send_one-answer.new.reader.drive) i.grows e.grows
          (below_at (length c.args.sending.now.round.now.pieces.now) left c.in-Some.place c.number_at-number.result c.requires.below (let a = i.limit_is in let b = c.requires.few in omega (arith, a, b, low))
          c.number_at-number.ensures)
          c.index-round-number.is (outlet_view c.loop-place.outlet) (outlet_view c.send_one-answer.new.outlet)
          (subst (λ (p : Piece). SendsOver (g.D.Drive.shows c.loop-place.reader.drive) (g.D.Drive.shows c.send_one-answer.new.reader.drive) p (outlet_view c.loop-place.outlet) (outlet_view c.send_one-answer.new.outlet) c.send_one-answer.result)
          (sym c.index-round-number.is) e.sent) i.come;
      each =
          each_one_more c.args.sending.now.round.now.pieces.now c.number_at-number.result c.index-round-number.result c.send_one-answer.result (g.D.Drive.shows c.args.reader.now.drive)
          (g.D.Drive.shows c.loop-place.reader.drive) (g.D.Drive.shows c.send_one-answer.new.reader.drive) i.grows e.grows
          (below_at (length c.args.sending.now.round.now.pieces.now) left c.in-Some.place c.number_at-number.result c.requires.below (let a = i.limit_is in let b = c.requires.few in omega (arith, a, b, low))
          c.number_at-number.ensures)
          c.index-round-number.is (outlet_view c.loop-place.outlet) (outlet_view c.send_one-answer.new.outlet)
          (subst (λ (p : Piece). SendsOver (g.D.Drive.shows c.loop-place.reader.drive) (g.D.Drive.shows c.send_one-answer.new.reader.drive) p (outlet_view c.loop-place.outlet) (outlet_view c.send_one-answer.new.outlet) c.send_one-answer.result)
          (sym c.index-round-number.is) e.sent) c.loop-place.answers.items c.push_reserved.new.self.items pushed.items (sym e.out ∙ c.if-reader.false) i.each;
      many = let a = i.many in let b = pushed.len in let d = ap (λ (s : Seated). length s.drawn) step in let l = length-append c.loop-place.seat.drawn (c.in-Some.place ∷ []) in omega (arith, a, b, d, l);
      room = let a = pushed.capacity in let b = i.room in omega (arith, a, b);
    }

-- the drive failed
pub returns-then-reader-clause-sent : goal.returns-then-reader-clause-sent
returns-then-reader-clause-sent g c = let i = c.loop-place.invariant in
    let left = c.args.sending.now.round.now.left.now in
    let e = c.send_one-answer.ensures in
    let step = c.in-Some.ensures.step.1 in
    let low = c.in-Some.ensures.below in
    sent_stops c.args.sending.now.round.now.pieces.now c.number_at-number.result c.index-round-number.result c.send_one-answer.result (g.D.Drive.shows c.args.reader.now.drive)
    (g.D.Drive.shows c.loop-place.reader.drive) (g.D.Drive.shows c.send_one-answer.new.reader.drive) i.grows e.grows
    (below_at (length c.args.sending.now.round.now.pieces.now) left c.in-Some.place c.number_at-number.result c.requires.below (let a = i.limit_is in let b = c.requires.few in omega (arith, a, b, low))
    c.number_at-number.ensures)
    c.index-round-number.is (outlet_view c.loop-place.outlet) (outlet_view c.send_one-answer.new.outlet)
    (subst (λ (p : Piece). SendsOver (g.D.Drive.shows c.loop-place.reader.drive) (g.D.Drive.shows c.send_one-answer.new.reader.drive) p (outlet_view c.loop-place.outlet) (outlet_view c.send_one-answer.new.outlet) c.send_one-answer.result)
    (sym c.index-round-number.is) e.sent) c.args.sending.now.round.now.claims.now.claims left (g.D.Drive.failures c.args.reader.now.drive)
    (g.D.Drive.failures c.loop-place.reader.drive) (g.D.Drive.failures c.send_one-answer.new.reader.drive) c.args.reader.now.out c.send_one-answer.new.reader.out _ c.loop-place.answers.items c.requires.able
    c.if-reader.true (ap (λ (s : Seated). s.claims) step ∙ i.claims_are) i.counted (e.failed (sym e.out ∙ c.if-reader.true)) i.parts i.come i.each

-- no piece is left
pub returns-clause-sent : goal.returns-clause-sent
returns-clause-sent g c = let i = c.loop-place.invariant in
    let left = c.args.sending.now.round.now.left.now in
    let step = c.in_default.ensures.step in
    sent_ends c.args.sending.now.round.now.claims.now.claims c.args.sending.now.round.now.pieces.now left (g.D.Drive.shows c.args.reader.now.drive) (g.D.Drive.shows c.loop-place.reader.drive)
    (g.D.Drive.failures c.args.reader.now.drive) (g.D.Drive.failures c.loop-place.reader.drive) c.args.reader.now.out c.loop-place.reader.out _ c.loop-place.answers.items (outlet_view c.loop-place.outlet) i.inside
    (ap (λ (s : Seated). s.claims) step ∙ i.claims_are) i.grows i.counted c.requires.able (i.drawn ∙ sym (ap (λ (s : Seated). map (number_at left) s.drawn) step)) (ap (λ (s : Seated). s.ended) step) i.parts i.come i.each
