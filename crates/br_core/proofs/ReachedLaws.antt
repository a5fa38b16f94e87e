-- What holds of a state to which a run from nothing leads.
use Rattle.std.proofs.Common.{◌≡◌, ℕ, ◌<◌, max, Bool, true, false, cond, List, [], ◌∷◌, ◌++◌, length, fold, Some, None, refl, sym, ap, subst, ◌∙◌, arith}
use Rattle.std.proofs.lemmas.Option.{same_Some}
use Rattle.std.specs.Prelude.{slice_get}
use Rattle.std.specs.List.{AllByRecursion, list_any}
use Rattle.br_model.specs.Text.{is_empty}
use Rattle.br_model.specs.Volume.{Volume, Extends}
use Rattle.br_model.specs.Bootstrap.{Group}
use Rattle.br_model.specs.Meaning.{Piece, Hits, IsPiece, bound_of, hits_of, just_groups, last_address, pieces_of}
use Rattle.br_model.specs.Job.{no_pair}
use Rattle.br_model.specs.Plan as model
use Rattle.br_model.proofs.ListLaws.{all_at, at_least, none_in, none_pass}
use Rattle.br_model.proofs.PieceLaws.{pieces_are_whole_lem}
use Rattle.br_match.specs.Matching.{IsEnclosed}
use Rattle.br_match.specs.Walk.{Follows, step_on}
use Rattle.br_match.proofs.FoundLaws.{walk_follows}
use Rattle.br_core.specs.Machine.{World, Restore, Event, Reply, AreAfter, IsRun, IsStart, IsStep, restore_at, stages_of, stands}
use Rattle.br_core.specs.Machine.Status.{Claimed}
use Rattle.br_core.specs.Laws.{selected_by}
use Rattle.br_core.specs.Reached.{IsReached, nothing, AreWhole}
use Rattle.br_core.specs.Reading.{CanBeRead}
use Rattle.br_core.proofs.AlikeLaws.{IsBounded, step_alike}
use Rattle.br_core.proofs.GoingLaws.{AreGrown, IsGoing, seen_extend}
use Rattle.br_core.proofs.HeldLaws.{IsHeld}
use Rattle.br_core.proofs.PlanPieceLaws.{IsPieceOf, IsReadable, plan_hits}
use Rattle.br_core.proofs.PlannedLaws.{was_planned}
use Rattle.br_core.proofs.RunLaws.{followed}
use Rattle.br_core.proofs.StatusLaws.{claimed_at}

-- ---- one step more

-- a run, and one step after it
pub run_more : (first w after : World) (events : List Event) (replies : List Reply) (event : Event) (reply : Reply) → IsRun first events replies w → IsStep w event reply after
    → IsRun first (events ++ event ∷ []) (replies ++ reply ∷ []) after
run_more first w after [] [] event reply run step = (after, subst (λ (s : World). IsStep s event reply after) run step, refl)
run_more first w after [] (r ∷ rs) event reply run step = absurd run
run_more first w after (e ∷ es) [] event reply run step = absurd run
run_more first w after (e ∷ es) (r ∷ rs) event reply run step = (run.0, run.1, run_more run.0 w after es rs event reply run.2 step)

-- a step leads from a state that is reached to one that is, if its volumes consist of whole blocks
pub reached_more : (w after : World) (event : Event) (reply : Reply) → IsReached w → IsStep w event reply after → AreWhole after.volumes → IsReached after
reached_more w after event reply reached step whole = record {
  events = reached.events ++ event ∷ [];
  replies = reached.replies ++ reply ∷ [];
  run = run_more nothing w after reached.events reached.replies event reply reached.run step;
  whole = whole;
}

-- ---- its jobs and restores

pub nothing_is_start : IsStart nothing
unfolding no_pair
nothing_is_start = record { history = refl; are_jobs = tt; none = refl }

-- a restore that is not over is under way, and its pieces can be read
pub record IsUnderWay (w : World) (r : Restore) : Type 0 where
  pub volumes : List Volume
  pub commits : ℕ
  pub plan : model.Plan
  pub set : Hits
  pub readable : IsReadable volumes plan.groups set
  pub going : IsGoing volumes commits plan set r
  pub grown : AreGrown volumes commits (stages_of w)

pub reached_restore : (w : World) (number : ℕ) (r : Restore) → IsReached w → restore_at w number ≡ Some r → IsUnderWay w r
reached_restore w number r reached at =
    let p = was_planned nothing w reached.events reached.replies number r nothing_is_start reached.run at in
    let f = followed nothing w reached.events reached.replies number p (λ j among chosen. absurd (none_in j among)) in
    record {
      volumes = p.moment.volumes;
      commits = length p.moment.earlier;
      plan = p.plan;
      set = hits_of (plan_hits p.moment.volumes (selected_by p.chosen p.script) p.chosen);
      readable = f.readable;
      going = f.kept.going r at;
      grown = f.kept.grown;
    }

-- ---- reads

-- if the greatest is below a number, each is
each_below : (groups : List (ℕ × Group)) (n size : ℕ) → fold (λ (m : ℕ) (g : Group). max m (last_address g)) n (just_groups groups) < size
    → AllByRecursion (λ (g : Group). is_empty g.addresses ≡ false) (just_groups groups)
    → AllByRecursion (λ (g : ℕ × Group). (is_empty g.1.addresses ≡ false) × (last_address g.1 < size)) groups
each_below [] n size low some = tt
each_below (g ∷ gs) n size low some =
    let h = at_least last_address (max n (last_address g.1)) (just_groups gs) in
    ((some.0, omega (arith, h, low)), each_below gs (max n (last_address g.1)) size low some.1)

-- a piece with groups that is bounded is enclosed
enclosed : (volumes : List Volume) (piece : Piece) → 0 < length piece.groups → IsBounded volumes piece → IsEnclosed volumes piece
unfolding bound_of
enclosed volumes piece some is = record { some = some; hits = is.hits; defined = is.defined; bytes = is.bytes; found = is.found; ended = go (list_any (λ (g : Group). is_empty g.addresses) (just_groups piece.groups)) refl is.bound_is }
  where
    greatest_end : ℕ
    greatest_end = fold (λ (m : ℕ) (g : Group). max m (last_address g)) 0 (just_groups piece.groups)

    go : (b : Bool) → list_any (λ (g : Group). is_empty g.addresses) (just_groups piece.groups) ≡ b → cond b None (Some greatest_end) ≡ Some is.end
        → AllByRecursion (λ (g : ℕ × Group). (is_empty g.1.addresses ≡ false) × (last_address g.1 < length is.bytes)) piece.groups
    go true none e = absurd cc
    go false none e =
        each_below piece.groups 0 (length is.bytes) (subst (λ (n : ℕ). n < length is.bytes) (sym (same_Some greatest_end is.end e)) is.within)
        (none_pass (λ (g : Group). is_empty g.addresses) (just_groups piece.groups) none)

-- a claimed piece can be read over the volumes of each later number of commits
pub can_be_read : (w : World) (r : Restore) (number commits : ℕ) (shown : List Volume) → IsUnderWay w r → AreAfter w r commits shown → CanBeRead r number shown
can_be_read w r number commits shown is after = record { extend = extend; enclosed = each; follows = follows }
  where
    extend : Extends shown r.volumes
    extend = seen_extend is.volumes is.commits commits is.plan is.set w r shown is.grown is.going after

    at : (piece : Piece) → slice_get (pieces_of r.plan.groups) number ≡ Some piece → IsPieceOf is.volumes is.set piece
    at piece e = is.readable.each number piece (ap (λ (it : model.Plan). slice_get (pieces_of it.groups) number) (sym is.going.plan_is) ∙ e)

    each : (piece : Piece) → slice_get (pieces_of r.plan.groups) number ≡ Some piece → IsEnclosed r.volumes piece
    each piece e =
        subst (λ (vs : List Volume). IsEnclosed vs piece) (sym is.going.volumes_are)
        (enclosed is.volumes piece (all_at IsPiece (pieces_of r.plan.groups) number piece (pieces_are_whole_lem r.plan.groups) e).some (at piece e).bounded)

    follows : (piece : Piece) (address : ℕ) → slice_get (pieces_of r.plan.groups) number ≡ Some piece → stands r number (Claimed address)
        → Follows r.volumes piece address × (step_on shown piece address ≡ step_on r.volumes piece address)
    follows piece address e claimed =
        let here = ap (λ (it : model.Plan). slice_get (pieces_of it.groups) number) (sym is.going.plan_is) ∙ e in
        let stood = claimed_at is.volumes (pieces_of is.plan.groups) (IsHeld r.transit r.taken) r.statuses number address piece is.going.pieces here claimed in
        let walked = walk_follows is.volumes piece address stood.0 stood.1 in
        let grown = subst (Extends shown) is.going.volumes_are extend in
        let alike = step_alike is.volumes shown piece address (at piece e).bounded walked grown in
        subst (λ (vs : List Volume). Follows vs piece address × (step_on shown piece address ≡ step_on vs piece address)) (sym is.going.volumes_are) (walked, alike)
