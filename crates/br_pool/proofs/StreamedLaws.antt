-- What the joiner has after a round, over what the readers showed meanwhile.
use Rattle.std.proofs.Common.{◌≡◌, ℕ, Bool, true, List, ◌++◌, map, reverse, flat_map, Option, sym, subst}
use Rattle.std.proofs.lemmas.List.Elements.{Contains-append_left, Contains-append_right}
use Rattle.std.specs.Prelude.{Vec}
use Rattle.std.specs.Global.{Global}
use Rattle.std.specs.List.{AllZip}
use Rattle.atomic_table.specs.Seated.{TableId}
use Rattle.br_claim.specs.Claims.{Seated}
use Rattle.br_model.specs.Volume.{Volume}
use Rattle.br_model.specs.Meaning.{Piece, Hit}
use Rattle.br_join.specs.Joining.{Joining}
use Rattle.br_pool.specs.Gathers.{Gathers, HasRunFor, HaveSent, by_sending, shown_to}
use Rattle.br_pool.specs.Pool.{StandsTold}
use Rattle.br_pool.specs.Rounds.{OverAll}
use Rattle.br_pool.specs.Sending.{AreIn, IsSent}
use Rattle.br_pool.specs.Slots.{AddsBy, FillsBy, with_each}
use Rattle.br_pool.specs.Workers.{Answer, HaveWorkedBy, outs}
use Rattle.br_pool.specs.declared.worker.Reader.{Reader}
use Rattle.br_pool.specs.declared.worker.Worker.{Worker}
use Rattle.br_pool.proofs.AnswerLaws.{each_so}
use Rattle.br_pool.proofs.FilledLaws.{each_fills, fills_so}
use Rattle.br_pool.proofs.GathersLaws.{gathers_on}
use Rattle.br_pool.proofs.ListLaws.{zip_so}
use Rattle.br_pool.proofs.ReaderLaws.{zip_there}
use Rattle.br_pool.proofs.SendingLaws.{sent_weaker}
use Rattle.br_pool.proofs.WorkedLaws.{have_served, told_of}

module _ {D : Type 0} (shows : D → Option (List Volume)) (failures : D → ℕ) (pieces : List Piece) where
  -- what all readers may be taken to show, the workers may
  workers_over : (ws vs : List (Worker D)) (before after : List (Reader D)) → reverse (map (λ (w : Worker D). w.reader) ws) ≡ before → after ≡ reverse (map (λ (w : Worker D). w.reader) vs)
      → (volumes : List Volume) → OverAll shows pieces before after volumes → AllZip (StandsTold pieces volumes) (shown_to shows ws) (shown_to shows vs)
  workers_over ws vs before after p q volumes told =
      zip_there (λ (w : Worker D). w.reader) (StandsTold pieces volumes) (λ (r : Reader D). shows r.drive) ws vs before after p q told

  -- the workers were made of the readers that were before, and became those that are after
  module _ (claims : TableId) (left : List ℕ) (ws vs : List (Worker D)) (before after : List (Reader D)) (p : reverse (map (λ (w : Worker D). w.reader) ws) ≡ before) (q : after ≡ reverse (map (λ (w : Worker D). w.reader) vs)) where
    -- the answers, over what the readers showed, of pieces whose hits were taken
    answered_for : (sent taken : List Hit) → AllZip (HasRunFor shows failures claims pieces left sent) ws vs → AreIn sent taken → (seats : List Seated) → seats ≡ reverse (map (λ (w : Worker D). w.seat) vs)
        → HaveWorkedBy (IsSent (OverAll shows pieces before after) taken) claims pieces left (outs before) (outs after) seats (flat_map (λ (w : Worker D). w.answers.items) (reverse vs))
    answered_for sent taken z inside seats r =
        have_served claims pieces left (by_sending pieces shows sent) (λ (r : Reader D). shows r.drive) (λ (r : Reader D). failures r.drive) (λ (r : Reader D). r.out)
        (λ (w : Worker D). w.reader) (λ (w : Worker D). w.seat) (λ (w : Worker D). w.answers.items) (IsSent (OverAll shows pieces before after) taken) ws vs before after seats z p q r
        (zip_so _ (λ (w v : Worker D). (p : Piece) (a : Answer) → by_sending pieces shows sent w v p a → IsSent (OverAll shows pieces before after) taken p a)
        (λ w v told p a h. sent_weaker (λ volumes. StandsTold pieces volumes (shows w.reader.drive) (shows v.reader.drive)) (OverAll shows pieces before after) sent taken told inside p a h) (reverse ws) (reverse vs)
        (told_of claims pieces left (by_sending pieces shows sent) (λ (r : Reader D). shows r.drive) (λ (r : Reader D). failures r.drive) (λ (r : Reader D). r.out)
        (λ (w : Worker D). w.reader) (λ (w : Worker D). w.seat) (λ (w : Worker D). w.answers.items) ws vs before after z p q))

    -- what was taken, if something was lost
    pub lost_some : (old new : Joining) (fine : Bool) (more : List Hit → Type 0) → ((taken : List Hit) → more taken) → HaveSent shows failures claims pieces left ws vs old new fine
        → Gathers (OverAll shows pieces before after) pieces old new more
    lost_some old new fine more so sent = record {
      taken = sent.2.taken;
      took = sent.2.took;
      come = λ volumes told. sent.2.come volumes (workers_over ws vs before after p q volumes told);
      more = so sent.2.taken;
    }

    -- and if nothing was
    pub took_all : (old new : Joining) (fine : Bool) (slots filled : List (Option Answer)) (seats : Vec Seated Global) → fine ≡ true → HaveSent shows failures claims pieces left ws vs old new fine
        → seats.items ≡ reverse (map (λ (w : Worker D). w.seat) vs) → filled ≡ with_each slots (flat_map (λ (w : Worker D). w.answers.items) (reverse vs))
        → Gathers (OverAll shows pieces before after) pieces old new (λ taken. (answers : List (ℕ × Answer)) × (filled ≡ with_each slots answers)
        × HaveWorkedBy (IsSent (OverAll shows pieces before after) taken) claims pieces left (outs before) (outs after) seats.items answers)
    took_all old new fine slots filled seats is sent r e = record {
      taken = sent.2.taken;
      took = sent.2.took;
      come = λ volumes told. sent.2.come volumes (workers_over ws vs before after p q volumes told);
      more = (flat_map (λ (w : Worker D). w.answers.items) (reverse vs), e, answered_for sent.0 sent.2.taken sent.1 (sent.2.more is) seats.items r);
    }

-- one more round: its answers were put into the slots
pub round_added : (so_far round whole : List Volume → Type 0) (pieces : List Piece) (a b d : Joining) (slots filled : List (Option Answer))
    → ((volumes : List Volume) → whole volumes → so_far volumes) → ((volumes : List Volume) → whole volumes → round volumes)
    → Gathers so_far pieces a b (λ taken. AllZip (FillsBy (IsSent so_far taken)) pieces slots)
    → Gathers round pieces b d (λ taken. AddsBy (IsSent round taken) pieces slots filled)
    → Gathers whole pieces a d (λ taken. AllZip (FillsBy (IsSent whole taken)) pieces filled)
round_added so_far round whole pieces a b d slots filled p q g h =
    gathers_on so_far round whole pieces a b d (λ taken. AllZip (FillsBy (IsSent so_far taken)) pieces slots) (λ taken. AddsBy (IsSent round taken) pieces slots filled)
    (λ taken. AllZip (FillsBy (IsSent whole taken)) pieces filled) p q join g h
  where
    join : (xs ys : List Hit) → AllZip (FillsBy (IsSent so_far xs)) pieces slots → AddsBy (IsSent round ys) pieces slots filled → AllZip (FillsBy (IsSent whole (xs ++ ys))) pieces filled
    join xs ys fills added =
        subst (AllZip (FillsBy (IsSent whole (xs ++ ys))) pieces) (sym added.1)
        (each_fills (IsSent whole (xs ++ ys)) pieces slots added.0
        (fills_so (IsSent so_far xs) (IsSent whole (xs ++ ys)) (sent_weaker so_far whole xs (xs ++ ys) p (λ h inside. Contains-append_left xs ys h inside)) pieces slots fills)
        (each_so (IsSent round ys) (IsSent whole (xs ++ ys)) (sent_weaker round whole ys (xs ++ ys) q (λ h inside. Contains-append_right xs ys h inside)) pieces added.0 added.2))
