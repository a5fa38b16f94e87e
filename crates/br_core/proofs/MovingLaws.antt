-- One of the restores moves.
use Rattle.std.proofs.Common.{◌≡◌, ◌⊎◌, ℕ, List, map, set, option_map, false, Option, Some, None, Result, Ok, Err, refl, sym, ap, subst, ◌∙◌, inl, inr}
use Rattle.std.proofs.Math.Seq.{map-set_same}
use Rattle.std.proofs.lemmas.List.{map-set}
use Rattle.std.proofs.lemmas.Option.{get_or_from_slice_get, same_Some, slice_get-map}
use Rattle.std.specs.Global.{Vec}
use Rattle.std.specs.Prelude.{IfSome, slice_get}
use Rattle.br_model.specs.Volume.{Volume}
use Rattle.br_model.specs.Job.{Job}
use Rattle.br_model.specs.Name.{FileKey}
use Rattle.br_join.specs.Outcome.{restored}
use Rattle.br_join.specs.declared.item.Outcome.{Outcome}
use Rattle.br_core.specs.Machine as machine
use Rattle.br_core.specs.Fault.{cause}
use Rattle.br_core.specs.Machine.{World, Event, IsStep, IsWhole, becomes, restore_at, stages_of}
use Rattle.br_core.specs.Machine.Event.{Deliver}
use Rattle.br_core.specs.Machine.Reply.{Done, Refused}
use Rattle.br_core.specs.Moving.{AreSeenAs, NoneDelivers, OneDelivers, OneMoves, seen_all}
use Rattle.br_core.specs.Stepping.{IsEventOf, TakesStep, world_with}
use Rattle.br_core.specs.View.{CannotMove, IsSeenAs, MovesIf, TellsWhole, restore_of}
use Rattle.br_core.specs.declared.event.Reply.TheVariants as given
use Rattle.br_core.specs.declared.fault.StepFault.{StepFault}
use Rattle.br_core.specs.declared.fault.StepFault.TheVariants.{Memory, NotEnabled}
use Rattle.br_core.specs.declared.open_restore.OpenRestore.{OpenRestore}

same_restore : (r s : OpenRestore) → ◌≡◌ {A = Option (Option OpenRestore)} (Some (Some r)) (Some (Some s)) → r ≡ s
same_restore r s e = same_Some r s (same_Some (Some r) (Some s) e)

-- a place whose restore is seen as before
put_again : (before : List (Option OpenRestore)) (n : ℕ) (was now : Option OpenRestore) → slice_get before n ≡ Some was
    → ((jobs : List Job) (stages : List (List Volume)) → option_map (restore_of jobs stages) now ≡ option_map (restore_of jobs stages) was) → AreSeenAs before (set before n now)
put_again before n was now at same jobs stages =
    map-set_same (option_map (restore_of jobs stages)) before n now was
    (same jobs stages ∙ ap (option_map (restore_of jobs stages)) (sym (get_or_from_slice_get before n was was at)))

-- a restore is moved in its place
pub one_moves : (Premise : machine.Restore → Type 0) (Move : machine.Restore → machine.Restore → Type 0) (n : ℕ) (before after : List (Option OpenRestore)) (r r' : OpenRestore)
    (result : Result (Unit {0}) StepFault) → slice_get before n ≡ Some (Some r) → after ≡ set before n (Some r') → MovesIf Premise Move r r' result → OneMoves Premise Move n before after result
one_moves Premise Move n before after r r' (Ok tt) at put moves = (r, r', at, put, moves)
one_moves Premise Move n before after r r' (Err fault) at put moves = (
  λ jobs stages. ap (seen_all jobs stages) put ∙ put_again before n (Some r) (Some r') at (λ js ss. ap Some (moves.0 js ss)) jobs stages,
  elim moves.1 [
    | inl memory ↦ inl memory
    | inr cannot ↦ inr (cannot.0, λ s there. rw (same_restore s r (sym there ∙ at)) cannot.1)
  ],
)

-- there is no restore of this number
pub none_moves : (Premise : machine.Restore → Type 0) (Move : machine.Restore → machine.Restore → Type 0) (n : ℕ) (before after : List (Option OpenRestore)) → AreSeenAs before after
    → ((r : OpenRestore) → slice_get before n ≡ Some (Some r) → ⊥) → OneMoves Premise Move n before after (Err NotEnabled)
none_moves Premise Move n before after same apart = (same, inr (refl, λ r there jobs stages next asked moves. apart r there))

-- the restore of this number is over, and stays so
pub over_already : (before : List (Option OpenRestore)) (n : ℕ) (was now : Option OpenRestore) → slice_get before n ≡ Some was → was ≡ None → now ≡ None
    → AreSeenAs before (set before n now) × ((r : OpenRestore) → slice_get before n ≡ Some (Some r) → ⊥)
over_already before n was now at none over = (
  put_again before n was now at (λ jobs stages. ap (option_map (restore_of jobs stages)) (over ∙ sym none)),
  λ r there.
      let is_none : ◌≡◌ {A = Option OpenRestore} None (Some r) = same_Some None (Some r) (sym (at ∙ ap Some none) ∙ there) in
      absurd cc,
)

-- there is no restore of this number to deliver
pub none_delivers : (n : ℕ) (before after : List (Option OpenRestore)) → AreSeenAs before after → ((r : OpenRestore) → slice_get before n ≡ Some (Some r) → ⊥) → NoneDelivers n before after NotEnabled
none_delivers n before after same apart = (same, inr (refl, λ r there. absurd (apart r there)))

-- it is not whole, and is put back
pub not_whole : (n : ℕ) (before : List (Option OpenRestore)) (r : OpenRestore) → slice_get before n ≡ Some (Some r) → TellsWhole r false → NoneDelivers n before (set before n (Some r)) NotEnabled
not_whole n before r at part = (put_again before n (Some r) (Some r) at (λ jobs stages. refl), inr (refl, λ s there. rw (same_restore s r (sym there ∙ at)) part))

-- memory runs out, and it is put back as it was
pub kept_whole : (n : ℕ) (before : List (Option OpenRestore)) (r back : OpenRestore) → slice_get before n ≡ Some (Some r) → IsSeenAs r back → NoneDelivers n before (set before n (Some back)) Memory
kept_whole n before r back at same = (put_again before n (Some r) (Some back) at (λ jobs stages. ap Some (same jobs stages)), inl refl)

-- ---- in a state

-- the restore of a number, as the state has it
pub found_at : (backups : World) (restores : List (Option OpenRestore)) (n : ℕ) (r : OpenRestore) → slice_get restores n ≡ Some (Some r)
    → restore_at (world_with backups restores) n ≡ Some (restore_of backups.jobs (stages_of backups) r)
found_at backups restores n r at =
    let see = restore_of backups.jobs (stages_of backups) in
    let there = slice_get-map (option_map see) restores n ∙ ap (option_map (option_map see)) at in
    rw there refl

-- the restore of a number of a state is one of the list
pub record IsKeptAt (backups : World) (restores : List (Option OpenRestore)) (n : ℕ) (m : machine.Restore) : Type 0 where
  pub kept : OpenRestore
  pub at : slice_get restores n ≡ Some (Some kept)
  pub seen : restore_of backups.jobs (stages_of backups) kept ≡ m

pub kept_at : (backups : World) (restores : List (Option OpenRestore)) (n : ℕ) (m : machine.Restore) → restore_at (world_with backups restores) n ≡ Some m → IsKeptAt backups restores n m
kept_at backups restores n m is = go (slice_get restores n) refl
  where
    go : (o : Option (Option OpenRestore)) → slice_get restores n ≡ o → IsKeptAt backups restores n m
    go None e =
        let there = slice_get-map (option_map (restore_of backups.jobs (stages_of backups))) restores n ∙ ap (option_map (option_map (restore_of backups.jobs (stages_of backups)))) e in
        let is_none : ◌≡◌ {A = Option machine.Restore} None (Some m) = rw there at is in
        absurd cc
    go (Some None) e =
        let there = slice_get-map (option_map (restore_of backups.jobs (stages_of backups))) restores n ∙ ap (option_map (option_map (restore_of backups.jobs (stages_of backups)))) e in
        let is_none : ◌≡◌ {A = Option machine.Restore} None (Some m) = rw there at is in
        absurd cc
    go (Some (Some r)) e = record { kept = r; at = e; seen = same_Some (restore_of backups.jobs (stages_of backups) r) m (sym (found_at backups restores n r e) ∙ is) }

-- what a move of one restore is in the state
pub record IsMoveIn (backups : World) (before after : List (Option OpenRestore)) (n : ℕ) (Move : machine.Restore → machine.Restore → Type 0) : Type 0 where
  pub was : machine.Restore
  pub now : machine.Restore
  pub there : restore_at (world_with backups before) n ≡ Some was
  pub moves : Move was now
  pub after_is : world_with backups after ≡ becomes (world_with backups before) n (Some now)

pub moves_in : (backups : World) (before after : List (Option OpenRestore)) (n : ℕ) (Premise : machine.Restore → Type 0) (Move : machine.Restore → machine.Restore → Type 0)
    → OneMoves Premise Move n before after (Ok tt)
    → ((r : OpenRestore) → slice_get before n ≡ Some (Some r) → Premise (restore_of backups.jobs (stages_of backups) r))
    → IsMoveIn backups before after n Move
moves_in backups before after n Premise Move it asked = record {
  was = restore_of backups.jobs (stages_of backups) it.0;
  now = restore_of backups.jobs (stages_of backups) it.1;
  there = found_at backups before n it.0 it.2;
  moves = it.4 backups.jobs (stages_of backups) (asked it.0 it.2);
  after_is =
      ap (world_with backups) it.3
      ∙ ap (λ (rs : List (Option machine.Restore)). record backups { restores = rs }) (map-set (option_map (restore_of backups.jobs (stages_of backups))) before n (Some it.1));
}

-- if no restore can make the move, none of the state can
pub cannot_in : (backups : World) (before : List (Option OpenRestore)) (n : ℕ) (Premise : machine.Restore → Type 0) (Move : machine.Restore → machine.Restore → Type 0)
    → ((r : OpenRestore) → slice_get before n ≡ Some (Some r) → CannotMove Premise Move r)
    → ((r : OpenRestore) → slice_get before n ≡ Some (Some r) → Premise (restore_of backups.jobs (stages_of backups) r))
    → (m m' : machine.Restore) → restore_at (world_with backups before) n ≡ Some m → Move m m' → ⊥
cannot_in backups before n Premise Move cannot asked m m' is moves =
    let k = kept_at backups before n m is in
    cannot k.kept k.at backups.jobs (stages_of backups) m' (asked k.kept k.at) (subst (λ (r : machine.Restore). Move r m') (sym k.seen) moves)

-- a list that is seen as another gives the same state
pub same_state : (backups : World) (before after : List (Option OpenRestore)) → AreSeenAs before after → world_with backups after ≡ world_with backups before
same_state backups before after same = ap (λ (rs : List (Option machine.Restore)). record backups { restores = rs }) (same backups.jobs (stages_of backups))

-- ---- a step of the state

-- one of the restores has moved
pub moved_in : (backups : World) (before after : List (Option OpenRestore)) (n : ℕ) (event : Event) (Premise : machine.Restore → Type 0) (Move : machine.Restore → machine.Restore → Type 0)
    → OneMoves Premise Move n before after (Ok tt) → IsEventOf (world_with backups before) n event Premise Move
    → TakesStep (world_with backups before) event (world_with backups after) (Ok given.Done)
moved_in backups before after n event Premise Move one is =
    let it = moves_in backups before after n Premise Move one (λ r at. is.asked (restore_of backups.jobs (stages_of backups) r) (found_at backups before n r at)) in
    is.steps Done (world_with backups after) (it.was, it.now, it.there, is.moves it.was it.now it.there it.moves, it.after_is)

-- none of the restores has moved
pub refused_in : (backups : World) (before after : List (Option OpenRestore)) (n : ℕ) (event : Event) (Premise : machine.Restore → Type 0) (Move : machine.Restore → machine.Restore → Type 0)
    (fault : StepFault) → OneMoves Premise Move n before after (Err fault) → IsEventOf (world_with backups before) n event Premise Move
    → TakesStep (world_with backups before) event (world_with backups after) (Err fault)
refused_in backups before after n event Premise Move fault one is = (same_state backups before after one.0, go fault one.1)
  where
    go : (f : StepFault) → (f ≡ Memory) ⊎ ((f ≡ NotEnabled) × ((r : OpenRestore) → slice_get before n ≡ Some (Some r) → CannotMove Premise Move r))
        → IfSome (cause f) (λ number. IsStep (world_with backups before) event (Refused number) (world_with backups before))
    go f (inl memory) = subst (λ (g : StepFault). IfSome (cause g) (λ number. IsStep (world_with backups before) event (Refused number) (world_with backups before))) (sym memory) tt
    go f (inr none) =
        subst (λ (g : StepFault). IfSome (cause g) (λ number. IsStep (world_with backups before) event (Refused number) (world_with backups before))) (sym none.0)
        (is.steps (Refused 59) (world_with backups before) (
          refl,
          refl,
          λ enabled.
              let can = is.can enabled in
              cannot_in backups before n Premise Move none.1 (λ r at. is.asked (restore_of backups.jobs (stages_of backups) r) (found_at backups before n r at)) can.0 can.1 can.2
              (is.is_move can.0 can.1 can.2 can.3),
        ))

-- ---- deliveries

-- a restore was delivered
pub delivered_in : (backups : World) (before after : List (Option OpenRestore)) (n : ℕ) (files : Vec (FileKey × Outcome)) → OneDelivers (λ fs. map restored fs.items) n before after (Ok files)
    → TakesStep (world_with backups before) (Deliver n) (world_with backups after) (Ok (given.Delivered files))
delivered_in backups before after n files one = (
  restore_of backups.jobs (stages_of backups) one.0,
  found_at backups before n one.0 one.1,
  one.2 backups.jobs (stages_of backups),
  one.3,
  ap (world_with backups) one.4
      ∙ ap (λ (rs : List (Option machine.Restore)). record backups { restores = rs }) (map-set (option_map (restore_of backups.jobs (stages_of backups))) before n None),
)

-- none was
pub undelivered_in : (backups : World) (before after : List (Option OpenRestore)) (n : ℕ) (fault : StepFault) → NoneDelivers n before after fault
    → TakesStep (world_with backups before) (Deliver n) (world_with backups after) (Err fault)
undelivered_in backups before after n fault one = (same_state backups before after one.0, go fault one.1)
  where
    go : (f : StepFault) → (f ≡ Memory) ⊎ ((f ≡ NotEnabled) × ((r : OpenRestore) → slice_get before n ≡ Some (Some r) → TellsWhole r false))
        → IfSome (cause f) (λ number. IsStep (world_with backups before) (Deliver n) (Refused number) (world_with backups before))
    go f (inl memory) = subst (λ (g : StepFault). IfSome (cause g) (λ number. IsStep (world_with backups before) (Deliver n) (Refused number) (world_with backups before))) (sym memory) tt
    go f (inr none) =
        subst (λ (g : StepFault). IfSome (cause g) (λ number. IsStep (world_with backups before) (Deliver n) (Refused number) (world_with backups before))) (sym none.0) (
          refl,
          refl,
          λ enabled.
              let k = kept_at backups before n enabled.0 enabled.1 in
              none.1 k.kept k.at backups.jobs (stages_of backups) (subst IsWhole (sym k.seen) enabled.2),
        )
