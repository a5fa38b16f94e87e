-- The events of one restore, as moves of it.
use Rattle.std.proofs.Common.{◌≡◌, ℕ, ◌≤◌, List, [], Option, Some, sym, ap, subst, ◌∙◌, arith}
use Rattle.std.proofs.lemmas.Option.{same_Some}
use Rattle.std.specs.Prelude.{slice_get, unwrap_or, ⊤}
use Rattle.br_model.specs.Volume.{Volume}
use Rattle.br_core.specs.Machine as machine
use Rattle.br_core.specs.Machine.{World, AreAfter, IsRead, IsTaken, restore_at, stages_of}
use Rattle.br_core.specs.Moving.{commits_at}
use Rattle.br_core.specs.Stepping.{IsEventOf, world_with}
use Rattle.br_core.specs.declared.open_restore.OpenRestore.{OpenRestore}
use Rattle.br_core.specs.Machine.Event.{Claim, Fail, Finish, Read, Take}
use Rattle.br_core.specs.Reached.{IsReached}
use Rattle.br_core.specs.Reading.{CanBeRead}
use Rattle.br_core.specs.View.{Claims, Fails, Finishes}
use Rattle.br_core.proofs.MovingLaws.{kept_at}
use Rattle.br_core.proofs.ReachedLaws.{can_be_read, reached_restore}

pub claim_is : (w : World) (n piece : ℕ) → IsEventOf w n (Claim n piece) (λ _. ⊤) (Claims piece)
claim_is w n piece = record { steps = λ reply after s. s; can = λ c. c; is_move = λ r after at m. m; moves = λ r after at m. m; asked = λ r at. tt }

pub fail_is : (w : World) (n piece : ℕ) → IsEventOf w n (Fail n piece) (λ _. ⊤) (Fails piece)
fail_is w n piece = record { steps = λ reply after s. s; can = λ c. c; is_move = λ r after at m. m; moves = λ r after at m. m; asked = λ r at. tt }

pub take_is : (w : World) (n place : ℕ) → IsEventOf w n (Take n place) (λ _. ⊤) (λ r after. IsTaken r place after)
take_is w n place = record { steps = λ reply after s. s; can = λ c. c; is_move = λ r after at m. m; moves = λ r after at m. m; asked = λ r at. tt }

-- a read over the volumes of a number of commits, at least as many as at the plan
pub read_is : (w : World) (n piece commits : ℕ) (shown : List Volume) → IsReached w → slice_get (stages_of w) commits ≡ Some shown
    → ((r : machine.Restore) → restore_at w n ≡ Some r → r.commits ≤ commits)
    → IsEventOf w n (Read n piece commits) (λ r. CanBeRead r piece shown) (λ r after. IsRead r piece shown after)
read_is w n piece commits shown reached are since = record {
  steps = λ reply after s. s;
  can = λ c. c;
  is_move = λ r after at m. subst (λ (vs : List Volume). IsRead r piece vs after) (same_Some m.0 shown (sym m.1.are ∙ are)) m.2;
  moves = λ r after at m. (shown, record { since = since r at; are = are }, m);
  asked = λ r at. can_be_read w r piece commits shown (reached_restore w n r reached at) (record { since = since r at; are = are });
}

-- the end of a walk, over the volumes of the plan
pub finish_is : (w : World) (n piece commits : ℕ) (shown : List Volume) → IsReached w → slice_get (stages_of w) commits ≡ Some shown
    → ((r : machine.Restore) → restore_at w n ≡ Some r → (r.commits ≡ commits) × (r.volumes ≡ shown))
    → IsEventOf w n (Finish n piece) (λ r. CanBeRead r piece shown) (Finishes piece shown)
finish_is w n piece commits shown reached are of = record {
  steps = λ reply after s. s;
  can = λ c. c;
  is_move = λ r after at m. subst (λ (vs : List Volume). Finishes piece vs r after) (of r at).1 m;
  moves = λ r after at m. subst (λ (vs : List Volume). Finishes piece vs r after) (sym (of r at).1) m;
  asked = λ r at. can_be_read w r piece commits shown (reached_restore w n r reached at) (record { since = omega (arith, (of r at).0); are = are });
}

-- ---- when a restore was planned

-- the number of commits before the plan of a restore of the state, which may be given separately
pub planned_since : (backups : World) (restores : List (Option OpenRestore)) (n since : ℕ) → commits_at (slice_get restores n) ≡ Some since
    → (r : machine.Restore) → restore_at (world_with backups restores) n ≡ Some r → r.commits ≡ since
planned_since backups restores n since told r at =
    let k = kept_at backups restores n r at in
    sym (ap (λ (m : machine.Restore). m.commits) k.seen) ∙ same_Some k.kept.commits since (sym (ap commits_at k.at) ∙ told)

-- its volumes are those after that number
pub planned_over : (backups : World) (restores : List (Option OpenRestore)) (n since : ℕ) (shown : List Volume) → commits_at (slice_get restores n) ≡ Some since
    → slice_get (stages_of backups) since ≡ Some shown → (r : machine.Restore) → restore_at (world_with backups restores) n ≡ Some r → r.volumes ≡ shown
planned_over backups restores n since shown told there r at =
    let k = kept_at backups restores n r at in
    let when = same_Some k.kept.commits since (sym (ap commits_at k.at) ∙ told) in
    sym (ap (λ (m : machine.Restore). m.volumes) k.seen) ∙ ap (λ (o : Option (List Volume)). unwrap_or o []) (ap (slice_get (stages_of backups)) when ∙ there)
