-- A restore that was planned just now.
use Rattle.std.proofs.Common.{◌≡◌, ℕ, zero, suc, ◌+◌, ◌≤◌, Bool, false, cond, List, [], ◌∷◌, length, map, take, option_map, Option, Some, refl, sym, ap, ◌∙◌, arith}
use Rattle.std.proofs.lemmas.Bool.{ne_eqb}
use Rattle.std.proofs.lemmas.List.{length-map, take_all}
use Rattle.std.specs.Prelude.{slice_get, unwrap_or}
use Rattle.std.specs.List.{enumerate_from}
use Rattle.std.specs.Ordering.{nat_cmp, eq_by_cmp, is_eq}
use Rattle.std.specs.Cmp.{nat_cmp_total, tied_itself, unsigned_tied}
use Rattle.std.specs.FinMap.{empty, find, get, from_entries, get-from_entries}
use Rattle.br_model.specs.Bootstrap.{Group}
use Rattle.br_model.specs.Volume.{Volume}
use Rattle.br_model.specs.Meaning.{Piece, Hit, Hits, groups_on, pieces_of, volumes_of}
use Rattle.br_model.specs.Job.{Job}
use Rattle.br_model.specs.Choice.{Request}
use Rattle.br_model.specs.Restored.{Names, planned_in}
use Rattle.br_model.specs.Plan as model
use Rattle.br_model.proofs.ListLaws.{none_in}
use Rattle.br_match.specs.declared.hit.Batch.{Batch}
use Rattle.br_join.specs.Joining.{Joining, begun}
use Rattle.br_core.specs.Machine as machine
use Rattle.br_core.specs.Machine.{World, planned, stages_of}
use Rattle.br_core.specs.Machine.Status.{Waiting}
use Rattle.br_core.specs.Parts.{AreFirst}
use Rattle.br_core.specs.Statuses.{is_finished, status_of}
use Rattle.br_core.specs.View.{hits_of_batches}
use Rattle.br_core.specs.declared.piece_status.Status as code
use Rattle.br_core.specs.declared.piece_status.Status.TheVariants as at
use Rattle.br_core.proofs.PlaceLaws.{get_last}

-- ---- the joiner

-- pieces by number, each open
abbrev opened : List Piece → List (ℕ × Bool)
opened ps = map (λ (p : Piece). (p.number, false)) ps

-- the pieces of volumes, numbered from here on
abbrev numbered : List Group → ℕ → List (List ℕ) → List Piece
numbered groups n names = map (λ (v : ℕ × List ℕ). record { number = v.0; volume = v.1; groups = groups_on groups v.1 }) (enumerate_from n names)

-- the number of a piece is its place
open_from : (groups : List Group) (n : ℕ) (names : List (List ℕ)) (k : ℕ)
    → find nat_cmp (n + k) (opened (numbered groups n names)) ≡ option_map is_finished (slice_get (map (λ (p : Piece). at.Waiting) (numbered groups n names)) k)
open_from groups n [] k = refl
open_from groups n (x ∷ xs) zero =
    let here : n + 0 ≡ n = omega arith in
    ap (λ (b : Bool). cond b (Some false) (find nat_cmp (n + 0) (opened (numbered groups (n + 1) xs))))
    (ap (λ (m : ℕ). eq_by_cmp nat_cmp m n) here ∙ ap is_eq (tied_itself nat_cmp_total n))
open_from groups n (x ∷ xs) (suc k) =
    let later : n + suc k ≡ (n + 1) + k = omega arith in
    ap (λ (b : Bool). cond b (Some false) (find nat_cmp (n + suc k) (opened (numbered groups (n + 1) xs)))) (unsigned_tied (n + suc k) n ∙ ne_eqb (n + suc k) n (λ e. omega (arith, e)))
    ∙ ap (λ (m : ℕ). find nat_cmp m (opened (numbered groups (n + 1) xs))) later
    ∙ open_from groups (n + 1) xs k

-- no piece is closed at the start
open_first : (groups : List Group) (k : ℕ)
    → get (from_entries {R = nat_cmp} (opened (pieces_of groups))) k ≡ option_map is_finished (slice_get (map (λ (p : Piece). at.Waiting) (pieces_of groups)) k)
unfolding pieces_of
open_first groups k =
    let start : k ≡ 0 + k = omega arith in
    get-from_entries nat_cmp_total (opened (numbered groups 0 (volumes_of groups))) k
    ∙ ap (λ (m : ℕ). find nat_cmp m (opened (numbered groups 0 (volumes_of groups)))) start
    ∙ open_from groups 0 (volumes_of groups) k

-- the parts of a restore that was planned just now
pub parts_first : (plan : model.Plan) (groups : List Group) (pieces waiting joined : List Piece) (statuses : List code.Status) (joiner : Joining) (names : Names) → groups ≡ plan.groups
    → pieces ≡ pieces_of groups → waiting ≡ pieces → joined ≡ pieces → statuses ≡ map (λ (p : Piece). at.Waiting) waiting → joiner ≡ begun joined (Some names)
    → planned_in names ≡ plan.names → AreFirst plan pieces statuses joiner
parts_first plan groups pieces waiting joined statuses joiner names of split all some waits begins same = (
  record {
    pieces_are = are;
    each = ap length stand ∙ length-map (pieces_of plan.groups) (λ (p : Piece). at.Waiting) ∙ ap length (sym are);
    names_are = ap (λ (j : Joining). option_map planned_in j.names) begins ∙ ap Some same;
    room_is = ap (λ (j : Joining). j.room) begins;
    closed = closed;
    known = λ b among. absurd (none_in b among);
  },
  stand,
  ap (λ (j : Joining). j.hits) begins,
)
  where
    are : pieces ≡ pieces_of plan.groups
    are = split ∙ ap pieces_of of

    stand : statuses ≡ map (λ (p : Piece). at.Waiting) (pieces_of plan.groups)
    stand = waits ∙ ap (map (λ (p : Piece). at.Waiting)) (all ∙ are)

    closed : (k : ℕ) → get joiner.pieces k ≡ option_map is_finished (slice_get statuses k)
    closed k =
        ap (λ (j : Joining). get j.pieces k) begins
        ∙ ap (λ (ps : List Piece). get (from_entries {R = nat_cmp} (opened ps)) k) (some ∙ are)
        ∙ open_first plan.groups k
        ∙ ap (λ (ss : List code.Status). option_map is_finished (slice_get ss k)) (sym stand)

-- ---- how it is seen

seen_waiting : (ps : List Piece) → map status_of (map (λ (p : Piece). at.Waiting) ps) ≡ map (λ (p : Piece). Waiting) ps
seen_waiting [] = refl
seen_waiting (p ∷ ps) = ap (λ (ss : List machine.Status). Waiting ∷ ss) (seen_waiting ps)

-- it is the restore that is planned
pub planned_now : (w : World) (commits : ℕ) (request : Request) (marks : List (List ℕ)) (plan : model.Plan) (statuses : List code.Status) (transit : List (ℕ × Batch)) (taken : Hits)
    → length w.earlier ≡ commits → length w.jobs ≡ commits → statuses ≡ map (λ (p : Piece). at.Waiting) (pieces_of plan.groups) → transit ≡ [] → taken ≡ empty
    → ◌≡◌ {A = machine.Restore} (record {
      jobs = take commits w.jobs;
      volumes = unwrap_or (slice_get (stages_of w) commits) [];
      commits = commits;
      request = request;
      marks = marks;
      plan = plan;
      statuses = map status_of statuses;
      transit = hits_of_batches transit;
      taken = taken;
    }) (planned w request marks plan)
planned_now w commits request marks plan statuses transit taken stages jobs waits none empty_yet =
    ap (λ (js : List Job). made js (unwrap_or (slice_get (stages_of w) commits) []) commits (map status_of statuses) (hits_of_batches transit) taken) (take_all commits w.jobs few)
    ∙ ap (λ (o : Option (List Volume)). made w.jobs (unwrap_or o []) commits (map status_of statuses) (hits_of_batches transit) taken) last
    ∙ ap (λ (n : ℕ). made w.jobs w.volumes n (map status_of statuses) (hits_of_batches transit) taken) (sym stages)
    ∙ ap (λ (ss : List machine.Status). made w.jobs w.volumes (length w.earlier) ss (hits_of_batches transit) taken) (ap (map status_of) waits ∙ seen_waiting (pieces_of plan.groups))
    ∙ ap (λ (t : List (ℕ × Batch)). made w.jobs w.volumes (length w.earlier) (map (λ (p : Piece). Waiting) (pieces_of plan.groups)) (hits_of_batches t) taken) none
    ∙ ap (made w.jobs w.volumes (length w.earlier) (map (λ (p : Piece). Waiting) (pieces_of plan.groups)) []) empty_yet
  where
    made : List Job → List Volume → ℕ → List machine.Status → List (List Hit) → Hits → machine.Restore
    made js vs n ss t h = record { jobs = js; volumes = vs; commits = n; request = request; marks = marks; plan = plan; statuses = ss; transit = t; taken = h }

    few : length w.jobs ≤ commits
    few = omega (arith, jobs)

    last : slice_get (stages_of w) commits ≡ Some w.volumes
    last = ap (slice_get (stages_of w)) (sym stages) ∙ get_last w.earlier w.volumes
