-- The hits that were found so far, as the walk goes on.
use Rattle.std.proofs.Common.{◌≡◌, ℕ, suc, ◌+◌, true, false, List, [], ◌++◌, Option, Some, None, Result, Ok, Err, refl, ap, sym, ◌∙◌, append_assoc}
use Rattle.std.proofs.lemmas.List.{append-nil}
use Rattle.br_model.specs.Answer.{◌>>=◌, IsRefusal}
use Rattle.br_model.specs.Block.{Header}
use Rattle.br_model.specs.Volume.{Volume, is_above}
use Rattle.br_model.specs.Meaning.{Piece, PieceFault, Hit, bound_of, is_covered, just_groups, hits_on}
use Rattle.br_model.proofs.AnswerLaws.{bind_ok}
use Rattle.br_match.specs.declared.fault.PieceFault as code
use Rattle.br_match.specs.declared.hit.Batch.{Batch}
use Rattle.br_match.specs.declared.hit.Found.{Found}
use Rattle.br_match.specs.Matching.{AnswersPiece, FoundOver}
use Rattle.br_match.specs.declared.walk.Step.TheVariants.{End}
use Rattle.br_match.specs.Walk.{step_on, rest_on, in_front, and_rest, Over, Follows, HasHead, StepAnswers, ComesTo, IsStep, IsWalked}
use Rattle.br_match.proofs.StepLaws.{rest_is_step_on, rest_from_0}
use Rattle.br_match.proofs.SeenLaws.{step_above, step_uncovered, step_of_unknown}
use Rattle.br_match.proofs.OverLaws.{refusal_is}

-- ---- the parts of a step

-- a block that is not covered
pub uncovered_step : (volumes : List Volume) (piece : Piece) (a : ℕ) (h : Header) (hits : List Hit) → is_above (bound_of (just_groups piece.groups)) a ≡ false
    → is_covered (just_groups piece.groups) a ≡ false → HasHead volumes piece a h → IsStep volumes piece a (a + h.size) hits hits
uncovered_step volumes piece a h hits near uncovered has =
    record { batch = []; step = step_uncovered volumes piece a h near uncovered has; pushed = sym (append-nil hits) }

-- above the bound
pub ends_above : (volumes : List Volume) (piece : Piece) (a : ℕ) (hits : List Hit) → is_above (bound_of (just_groups piece.groups)) a ≡ true
    → Follows volumes piece a → StepAnswers piece a a hits hits (Ok End) volumes
ends_above volumes piece a hits above follows = (step_above volumes piece a follows above, refl)

-- ---- one block

-- a step that began with no hits gives those of its block
pub block_given : (volumes : List Volume) (piece : Piece) (a next : ℕ) (before : List Hit) (batch : Batch) → before ≡ [] → IsStep volumes piece a next before batch.hits.items
    → step_on volumes piece a ≡ Ok (Some (batch.hits.items, next))
block_given volumes piece a next before batch none step =
    step.step ∙ ap (λ (hs : List Hit). Ok (Some (hs, next))) (sym (step.pushed ∙ ap (λ (hs : List Hit). hs ++ step.batch) none))

-- ---- the walk

pub walk_begins : (volumes : List Volume) (piece : Piece) (a : ℕ) (hits : List Hit) → a ≡ 0 → hits ≡ [] → IsWalked volumes piece a hits
walk_begins volumes piece a hits start none = record { all = same; there = λ _. start }
  where
    alone : (r : Result (List Hit) PieceFault) → r ≡ in_front [] r
    alone (Ok hs) = refl
    alone (Err e) = refl

    same : hits_on volumes piece ≡ in_front hits (rest_on volumes piece a)
    same = rw (start, none) (sym (rest_from_0 volumes piece) ∙ alone (rest_on volumes piece 0))

pub walk_follows : (volumes : List Volume) (piece : Piece) (a : ℕ) (found : List Hit) → IsWalked volumes piece a found → Follows volumes piece a
walk_follows volumes piece a found walked = record { rest = rest; there = walked.there }
  where
    rest : (hits : List Hit) → hits_on volumes piece ≡ Ok hits → (more : List Hit) × (rest_on volumes piece a ≡ Ok more)
    rest hits e =
        let p = bind_ok (rest_on volumes piece a) (λ more. Ok (found ++ more)) hits (sym walked.all ∙ e) in
        (p.0, p.1)

joined : (xs ys : List Hit) (r : Result (List Hit) PieceFault) → in_front xs (in_front ys r) ≡ in_front (xs ++ ys) r
joined xs ys (Ok zs) = ap (λ (hs : List Hit). Ok hs) (sym (append_assoc xs ys zs))
joined xs ys (Err e) = refl

-- a step further
pub walk_goes_on : (volumes : List Volume) (piece : Piece) (a next : ℕ) (before after : List Hit) → IsWalked volumes piece a before → IsStep volumes piece a next before after
    → IsWalked volumes piece next after
walk_goes_on volumes piece a next before after walked step = record {
  all =
      walked.all ∙ ap (in_front before) (rest_is_step_on volumes piece a ∙ ap (λ r. r >>= and_rest (rest_on volumes piece)) step.step)
      ∙ joined before step.batch (rest_on volumes piece next) ∙ ap (λ (hs : List Hit). in_front hs (rest_on volumes piece next)) (sym step.pushed);
  there = λ none. let e = sym (step_of_unknown volumes piece a none) ∙ step.step in absurd cc;
}

-- a walk comes to its start
pub comes_at_first : (volumes : List Volume) (piece : Piece) (a : ℕ) → a ≡ 0 → ComesTo volumes piece a
comes_at_first volumes piece a start = (0, start)

-- and by a step more to the next address
pub comes_further : (volumes : List Volume) (piece : Piece) (a next : ℕ) (hits : List Hit) → ComesTo volumes piece a
    → step_on volumes piece a ≡ Ok (Some (hits, next)) → ComesTo volumes piece next
comes_further volumes piece a next hits come step = (suc come.0, (a, hits, come.1, step))

-- the walk is over
pub walk_ends : (volumes : List Volume) (piece : Piece) (a : ℕ) (before after : List Hit) → IsWalked volumes piece a before → step_on volumes piece a ≡ Ok None → after ≡ before
    → hits_on volumes piece ≡ Ok after
walk_ends volumes piece a before after walked ends same =
    walked.all ∙ ap (in_front before) (rest_is_step_on volumes piece a ∙ ap (λ r. r >>= and_rest (rest_on volumes piece)) ends)
    ∙ ap (λ (hs : List Hit). Ok hs) (append-nil before ∙ sym same)

-- the walk is refused
pub walk_refused : (volumes : List Volume) (piece : Piece) (a : ℕ) (found : List Hit) (o : Option PieceFault) → IsWalked volumes piece a found → IsRefusal o (step_on volumes piece a)
    → IsRefusal o (hits_on volumes piece)
walk_refused volumes piece a found o walked is =
    refusal_is o (step_on volumes piece a) (hits_on volumes piece)
    (λ r e. walked.all ∙ ap (in_front found) (rest_is_step_on volumes piece a ∙ ap (λ r. r >>= and_rest (rest_on volumes piece)) e)) is

-- ---- the answer

-- what was found over all such volumes
pub found_over : (earlier later : Option (List Volume)) (piece : Piece) (result : Result Found code.PieceFault)
    → Over earlier later piece (λ volumes. AnswersPiece volumes piece result) → FoundOver earlier later piece result
found_over None later piece result over = tt
found_over (Some earlier) None piece result over = tt
found_over (Some earlier) (Some later) piece result over = over
