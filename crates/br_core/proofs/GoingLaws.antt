-- What holds of a restore that is under way, and stays at each of its moves.
use Rattle.std.proofs.Common.{◌≡◌, ℕ, ◌<◌, ◌≤◌, arith, length, List, [], ◌∷◌, ◌++◌, Some, None, Ok, refl, sym, ap, subst, ◌∙◌, inl, inr}
use Rattle.std.proofs.lemmas.List.Elements.{Contains-append_left, Contains-append_right, Contains-append_cases}
use Rattle.std.proofs.lemmas.Option.{same_Some, slice_get-map}
use Rattle.std.specs.Prelude.{Contains, option_map, slice_get}
use Rattle.std.specs.FinMap.{get-empty}
use Rattle.br_model.specs.Volume.{Volume, Extends}
use Rattle.br_model.specs.Meaning.{Piece, Hit, Hits, HasHit, AreAmong, hit_cmp, pieces_of, hits_on, with_hits}
use Rattle.br_model.specs.Plan as model
use Rattle.br_model.specs.Choice.{Request}
use Rattle.br_model.proofs.AnswerLaws.{bind_ok, ok_is}
use Rattle.br_model.proofs.ListLaws.{all_at, first_or_later, has_at, none_in}
use Rattle.br_match.specs.Walk.{step_on, rest_on, IsWalked}
use Rattle.br_match.proofs.FoundLaws.{walk_begins, walk_ends, walk_follows, walk_goes_on}
use Rattle.br_core.specs.Machine.{World, Restore, Status, Event, AreAfter, stages_of, IsRead, IsAtEnd, IsTaken, IsWhole, Moves, goes, planned}
use Rattle.br_core.specs.Machine.Status.{Waiting, Claimed, Finished}
use Rattle.br_core.specs.Machine.Event.{Commit, Plan, Claim, Read, Fail, Finish, Take, Deliver, CommitFinds, ReadFinds, FinishFinds}
use Rattle.br_volume.proofs.ExtendLaws.{extends_itself}
use Rattle.br_core.proofs.AlikeLaws.{step_alike}
use Rattle.br_core.proofs.PlanPieceLaws.{IsPieceOf, IsReadable}
use Rattle.br_core.proofs.PlaceLaws.{was_there, without}
use Rattle.br_join.proofs.TakingLaws.{one_set, was_taken}
use Rattle.br_core.proofs.HeldLaws.{IsHeld, batch_is_held, held_where_taken, held_with_batch}
use Rattle.br_core.proofs.StatusLaws.{IsAt, AreAt, at_weaker, are_at_new, claimed_at}

-- The restore is one of the plan over the volumes after a number of commits, what is on its way and
-- what was taken are hits of the set, and each piece has a status.
pub record IsGoing (volumes : List Volume) (commits : ℕ) (plan : model.Plan) (set : Hits) (r : Restore) : Type 0 where
  pub volumes_are : r.volumes ≡ volumes
  pub commits_are : r.commits ≡ commits
  pub plan_is : r.plan ≡ plan
  pub on_their_way : (batch : List Hit) (h : Hit) → Contains r.transit batch → Contains batch h → HasHit set h
  pub taken_are : AreAmong r.taken set
  pub pieces : AreAt volumes (pieces_of plan.groups) (IsHeld r.transit r.taken) r.statuses

-- ---- moves

-- a claim, a failure: the piece gets a status without conditions, or its walk begins
going_to : (volumes : List Volume) (commits : ℕ) (plan : model.Plan) (set : Hits) (r : Restore) (n : ℕ) (status : Status) → IsGoing volumes commits plan set r
    → ((piece : Piece) → slice_get (pieces_of plan.groups) n ≡ Some piece → IsAt volumes (IsHeld r.transit r.taken) piece status)
    → IsGoing volumes commits plan set (goes r n status)
going_to volumes commits plan set r n status is here = record {
  volumes_are = is.volumes_are;
  commits_are = is.commits_are;
  plan_is = is.plan_is;
  on_their_way = is.on_their_way;
  taken_are = is.taken_are;
  pieces = are_at_new volumes (pieces_of plan.groups) (IsHeld r.transit r.taken) (IsHeld r.transit r.taken) r.statuses n status (λ h held. held) is.pieces here;
}

-- the hits of a walk are hits of its piece
walked_are_hits : (volumes : List Volume) (piece : Piece) (a : ℕ) (found hits : List Hit) (h : Hit) → IsWalked volumes piece a found → hits_on volumes piece ≡ Ok hits → Contains found h → Contains hits h
walked_are_hits volumes piece a found hits h walked defined inside =
    let p = bind_ok (rest_on volumes piece a) (λ more. Ok (found ++ more)) hits (sym walked.all ∙ defined) in
    subst (λ (hs : List Hit). Contains hs h) (ok_is (found ++ p.0) hits p.2) (Contains-append_left found p.0 h inside)

-- a read
going_read : (volumes : List Volume) (commits : ℕ) (plan : model.Plan) (set : Hits) (r after : Restore) (n : ℕ) (seen : List Volume) → IsReadable volumes plan.groups set → IsGoing volumes commits plan set r
    → Extends seen r.volumes → IsRead r n seen after → IsGoing volumes commits plan set after
going_read volumes commits plan set r after n seen readable is extend read = subst (IsGoing volumes commits plan set) (sym read.after_is) going
  where
    the_piece : Piece
    the_piece = read.the_piece

    at_n : slice_get (pieces_of plan.groups) n ≡ Some the_piece
    at_n = ap (λ (p : model.Plan). slice_get (pieces_of p.groups) n) (sym is.plan_is) ∙ read.piece_is

    own : IsPieceOf volumes set the_piece
    own = readable.each n the_piece at_n

    was : IsAt volumes (IsHeld r.transit r.taken) the_piece (Claimed read.address)
    was = claimed_at volumes (pieces_of plan.groups) (IsHeld r.transit r.taken) r.statuses n read.address the_piece is.pieces at_n read.claimed

    extends : Extends seen volumes
    extends = subst (Extends seen) is.volumes_are extend

    step : step_on volumes the_piece read.address ≡ Ok (Some (read.batch, read.next))
    step = sym (step_alike volumes seen the_piece read.address own.bounded (walk_follows volumes the_piece read.address was.0 was.1) extends) ∙ read.step

    walked : IsWalked volumes the_piece read.next (was.0 ++ read.batch)
    walked = walk_goes_on volumes the_piece read.address read.next was.0 (was.0 ++ read.batch) was.1 (record { batch = read.batch; step = step; pushed = refl })

    new : (h : Hit) → Contains read.batch h → HasHit set h
    new h inside =
        own.among h (walked_are_hits volumes the_piece read.next (was.0 ++ read.batch) own.bounded.hits h walked own.bounded.defined (Contains-append_right was.0 read.batch h inside))

    Held : Hit → Type 0
    Held = IsHeld (r.transit ++ read.batch ∷ []) r.taken

    held : (h : Hit) → Contains (was.0 ++ read.batch) h → Held h
    held h inside =
        elim (Contains-append_cases was.0 read.batch h inside) [
          | inl earlier ↦ held_with_batch r.transit r.taken read.batch h (was.2 h earlier)
          | inr later ↦ batch_is_held r.transit r.taken read.batch h later
        ]

    on_their_way : (batch : List Hit) (h : Hit) → Contains (r.transit ++ read.batch ∷ []) batch → Contains batch h → HasHit set h
    on_their_way batch h among inside =
        elim (Contains-append_cases r.transit (read.batch ∷ []) batch among) [
          | inl earlier ↦ is.on_their_way batch h earlier inside
          | inr later ↦
              elim (first_or_later read.batch [] batch later) [
                | inl same ↦ new h (subst (λ (b : List Hit). Contains b h) (sym same) inside)
                | inr none ↦ absurd (none_in batch none)
              ]
        ]

    going : IsGoing volumes commits plan set (record (goes r n (Claimed read.next)) { transit = r.transit ++ read.batch ∷ [] })
    going = record {
      volumes_are = is.volumes_are;
      commits_are = is.commits_are;
      plan_is = is.plan_is;
      on_their_way = on_their_way;
      taken_are = is.taken_are;
      pieces = are_at_new volumes (pieces_of plan.groups) (IsHeld r.transit r.taken) Held r.statuses n (Claimed read.next) (λ h was_held. held_with_batch r.transit r.taken read.batch h was_held) is.pieces
          (λ piece e. (was.0 ++ read.batch, subst (λ (p : Piece). IsWalked volumes p read.next (was.0 ++ read.batch)) (same_Some the_piece piece (sym at_n ∙ e)) walked, held));
    }

-- the end of a walk
going_ended : (volumes : List Volume) (commits : ℕ) (plan : model.Plan) (set : Hits) (r : Restore) (n : ℕ) (seen : List Volume) → IsReadable volumes plan.groups set → IsGoing volumes commits plan set r
    → Extends seen r.volumes → IsAtEnd r n seen → IsGoing volumes commits plan set (goes r n Finished)
going_ended volumes commits plan set r n seen readable is extend end = going_to volumes commits plan set r n Finished is here
  where
    at_n : slice_get (pieces_of plan.groups) n ≡ Some end.the_piece
    at_n = ap (λ (p : model.Plan). slice_get (pieces_of p.groups) n) (sym is.plan_is) ∙ end.piece_is

    was : IsAt volumes (IsHeld r.transit r.taken) end.the_piece (Claimed end.address)
    was = claimed_at volumes (pieces_of plan.groups) (IsHeld r.transit r.taken) r.statuses n end.address end.the_piece is.pieces at_n end.claimed

    step : step_on volumes end.the_piece end.address ≡ Ok None
    step =
        sym (step_alike volumes seen end.the_piece end.address (readable.each n end.the_piece at_n).bounded (walk_follows volumes end.the_piece end.address was.0 was.1)
        (subst (Extends seen) is.volumes_are extend)) ∙ end.ends

    here : (piece : Piece) → slice_get (pieces_of plan.groups) n ≡ Some piece → IsAt volumes (IsHeld r.transit r.taken) piece Finished
    here piece e =
        subst (λ (p : Piece). IsAt volumes (IsHeld r.transit r.taken) p Finished) (same_Some end.the_piece piece (sym at_n ∙ e))
        (was.0, walk_ends volumes end.the_piece end.address was.0 was.0 was.1 step refl, was.2)

-- a taking
going_taken : (volumes : List Volume) (commits : ℕ) (plan : model.Plan) (set : Hits) (r after : Restore) (place : ℕ) → IsGoing volumes commits plan set r → IsTaken r place after → IsGoing volumes commits plan set after
going_taken volumes commits plan set r after place is take = subst (IsGoing volumes commits plan set) (sym take.after_is) going
  where
    each : (h : Hit) → Contains take.batch h → HasHit set h
    each h inside = is.on_their_way take.batch h (has_at r.transit place take.batch take.under_way) inside

    taken : (h : Hit) → HasHit (with_hits r.taken take.batch) h → HasHit set h
    taken h has =
        elim (was_taken r.taken take.batch h has) [
          | inl earlier ↦ is.taken_are h earlier
          | inr new ↦ each h new
        ]

    going : IsGoing volumes commits plan set (record r { transit = without place r.transit; taken = with_hits r.taken take.batch })
    going = record {
      volumes_are = is.volumes_are;
      commits_are = is.commits_are;
      plan_is = is.plan_is;
      on_their_way = λ batch h among inside. is.on_their_way batch h (was_there r.transit place batch among) inside;
      taken_are = taken;
      pieces = λ n piece e.
          let was = is.pieces n piece e in (
            was.0,
            was.1,
            at_weaker volumes (IsHeld r.transit r.taken) (IsHeld (without place r.transit) (with_hits r.taken take.batch)) piece was.0
                (λ h held. held_where_taken set r.taken r.transit place take.batch h is.taken_are each take.under_way held) was.2,
          );
    }

-- The volumes after that many commits, and those after each greater number of them, extend these.
pub record AreGrown (volumes : List Volume) (commits : ℕ) (stages : List (List Volume)) : Type 0 where
  pub since : commits < length stages
  pub extend : (n : ℕ) (later : List Volume) → commits ≤ n → slice_get stages n ≡ Some later → Extends later volumes

-- the volumes that a read goes over extend those of the plan
pub seen_extend : (volumes : List Volume) (commits n : ℕ) (plan : model.Plan) (set : Hits) (w : World) (r : Restore) (seen : List Volume) → AreGrown volumes commits (stages_of w)
    → IsGoing volumes commits plan set r → AreAfter w r n seen → Extends seen r.volumes
seen_extend volumes commits n plan set w r seen grown is after =
    subst (Extends seen) (sym is.volumes_are) (grown.extend n seen (omega (arith, is.commits_are, after.since)) after.are)

-- each move of a restore that is under way
pub going_moves : (volumes : List Volume) (commits : ℕ) (plan : model.Plan) (set : Hits) (w : World) (event : Event) (r after : Restore) → IsReadable volumes plan.groups set
    → AreGrown volumes commits (stages_of w) → IsGoing volumes commits plan set r → Moves w event r after → IsGoing volumes commits plan set after
going_moves volumes commits plan set w (Claim number n) r after readable grown is move =
    subst (IsGoing volumes commits plan set) (sym move.1)
    (going_to volumes commits plan set r n (Claimed 0) is (λ piece e. ([], walk_begins volumes piece 0 [] refl refl, λ h inside. absurd (none_in h inside))))
going_moves volumes commits plan set w (Read number n c) r after readable grown is move =
    going_read volumes commits plan set r after n move.0 readable is (seen_extend volumes commits c plan set w r move.0 grown is move.1) move.2
going_moves volumes commits plan set w (ReadFinds number n found) r after readable grown is move = going_read volumes commits plan set r after n found readable is move.0 move.1
going_moves volumes commits plan set w (Fail number n) r after readable grown is move =
    subst (IsGoing volumes commits plan set) (sym move.1) (going_to volumes commits plan set r n Waiting is (λ piece e. tt))
going_moves volumes commits plan set w (Finish number n) r after readable grown is move =
    subst (IsGoing volumes commits plan set) (sym move.1) (going_ended volumes commits plan set r n r.volumes readable is (extends_itself r.volumes) move.0)
going_moves volumes commits plan set w (FinishFinds number n found) r after readable grown is move =
    subst (IsGoing volumes commits plan set) (sym move.2) (going_ended volumes commits plan set r n found readable is move.0 move.1)
going_moves volumes commits plan set w (Take number place) r after readable grown is move = going_taken volumes commits plan set r after place is move
going_moves volumes commits plan set w (Commit c) r after readable grown is move = absurd move
going_moves volumes commits plan set w (CommitFinds c found) r after readable grown is move = absurd move
going_moves volumes commits plan set w (Plan q script) r after readable grown is move = absurd move
going_moves volumes commits plan set w (Deliver number) r after readable grown is move = absurd move

-- ---- a restore at its beginning, and one that is whole

-- a restore that was planned just now is under way
pub going_begins : (w : World) (q : Request) (marks : List (List ℕ)) (plan : model.Plan) (set : Hits) → IsGoing w.volumes (length w.earlier) plan set (planned w q marks plan)
going_begins w q marks plan set = record {
  volumes_are = refl;
  commits_are = refl;
  plan_is = refl;
  on_their_way = λ batch h among inside. absurd (none_in batch among);
  taken_are = λ h has. absurd (nothing h has);
  pieces = λ n piece e. (Waiting, slice_get-map (λ (p : Piece). Waiting) (pieces_of plan.groups) n ∙ ap (option_map (λ (p : Piece). Waiting)) e, tt);
}
  where
    nothing : (h : Hit) → HasHit (planned w q marks plan).taken h → ⊥
    nothing h has = let none = sym (get-empty hit_cmp (h.key, h.spot)) ∙ has in absurd cc

-- if all pieces are finished and nothing is on its way, the taken hits are the set
pub whole_is_set : (volumes : List Volume) (commits : ℕ) (plan : model.Plan) (set : Hits) (r : Restore) → IsReadable volumes plan.groups set → IsGoing volumes commits plan set r → IsWhole r → r.taken ≡ set
whole_is_set volumes commits plan set r readable is whole = one_set r.taken set is.taken_are back
  where
    back : (h : Hit) → HasHit set h → HasHit r.taken h
    back h has =
        let p = readable.all h has in
        let at = is.pieces p.0 p.1 p.2 in
        let finished : at.0 ≡ Finished = all_at (λ (s : Status). s ≡ Finished) r.statuses p.0 at.0 whole.finished at.1 in
        let done : IsAt volumes (IsHeld r.transit r.taken) p.1 Finished = subst (λ (s : Status). IsAt volumes (IsHeld r.transit r.taken) p.1 s) finished at.2 in
        elim (done.2 h (p.3 done.0 done.1)) [
          | inl taken ↦ taken
          | inr way ↦ absurd (none_in way.0 (subst (λ (bs : List (List Hit)). Contains bs way.0) whole.none way.1))
        ]
