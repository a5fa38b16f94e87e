-- The slots at the end, as the result of the call.
use Rattle.std.proofs.Common.{◌≡◌, zero, suc, List, [], ◌∷◌, ◌++◌, Vec, Option, Some, None, Result, Ok, Err, refl, ap, sym, subst, ◌∙◌, arith}
use Rattle.std.specs.Prelude.{Contains}
use Rattle.std.specs.Global.{Global}
use Rattle.std.specs.List.{AllZip}
use Rattle.br_model.specs.Answer.{IsRefusal}
use Rattle.br_model.specs.Volume.{Volume}
use Rattle.br_model.specs.Meaning as model
use Rattle.br_model.specs.Meaning.{Piece, Hit, Hits, hits_on, hits_on_each, with_hits}
use Rattle.br_model.proofs.AnswerLaws.{ok_is}
use Rattle.br_match.specs.Come.{AllComeTo, AreOfBootstrap}
use Rattle.br_match.specs.Fault as piece
use Rattle.br_match.specs.declared.hit.Found.{Found}
use Rattle.br_match.specs.declared.fault.PieceFault.{PieceFault}
use Rattle.br_join.proofs.StreamedLaws.{all_taken}
use Rattle.br_pool.specs.Sending.{AreIn, IsSent}
use Rattle.br_pool.specs.Slots.{FillsBy, IsListed, full_of}
use Rattle.br_pool.specs.Streaming.{Streams}
use Rattle.br_pool.specs.Workers.{Answer}
use Rattle.br_pool.specs.declared.fault.PoolFault.{PoolFault}
use Rattle.br_pool.specs.declared.fault.PoolFault.TheVariants as fault

module _ (over : List Volume → Type 0) (volumes : List Volume) (given : over volumes) (taken : List Hit) where
  -- the hits of all pieces
  each_found : (pieces : List Piece) (founds : List Found) → AllZip (FillsBy (IsSent over taken)) pieces (full_of founds) → (hits : List Hit) × (hits_on_each volumes pieces ≡ Ok hits)
  unfolding hits_on_each
  each_found [] [] fills = ([], refl)
  each_found [] (f ∷ founds) fills = absurd fills
  each_found (p ∷ pieces) [] fills = absurd fills
  each_found (p ∷ pieces) (f ∷ founds) fills =
      let here = fills.0.hits volumes given in
      let later = each_found pieces founds fills.1 in
      (here.0 ++ later.0, rw (here.1, later.1) refl)

  same_hits : (xs ys : List Hit) → ◌≡◌ {A = Result (List Hit) model.PieceFault} (Ok xs) (Ok ys) → xs ≡ ys
  same_hits xs ys e = ok_is xs ys e

  -- those of each piece were taken
  all_inside : (pieces : List Piece) (founds : List Found) → AllZip (FillsBy (IsSent over taken)) pieces (full_of founds)
      → (p : Piece) (hits : List Hit) → Contains pieces p → hits_on volumes p ≡ Ok hits → AreIn hits taken
  all_inside [] founds fills p hits (k, low, e) found = absurd (omega (arith, low))
  all_inside (q ∷ pieces) [] fills p hits inside found = absurd fills
  all_inside (q ∷ pieces) (f ∷ founds) fills p hits (zero, low, e) found =
      let here = fills.0.hits volumes given in
      subst (λ (l : List Hit). AreIn l taken) (same_hits here.0 hits (sym here.1 ∙ ap (hits_on volumes) e ∙ found)) here.2
  all_inside (q ∷ pieces) (f ∷ founds) fills p hits (suc k, low, e) found = all_inside pieces founds fills.1 p hits (k, omega (arith, low), e) found

  -- the first fault is that of all pieces
  fault_of_all : (pieces : List Piece) (front : List Found) (why : PieceFault) (rest : List (Option Answer)) → AllZip (FillsBy (IsSent over taken)) pieces (full_of front ++ Some (Err why) ∷ rest)
      → IsRefusal (piece.cause why) (hits_on_each volumes pieces)
  unfolding hits_on_each
  fault_of_all [] [] why rest fills = absurd fills
  fault_of_all [] (f ∷ front) why rest fills = absurd fills
  fault_of_all (p ∷ pieces) [] why rest fills = first (piece.cause why) (fills.0.hits volumes given)
    where
      first : (o : Option model.PieceFault) → IsRefusal o (hits_on volumes p) → IsRefusal o (hits_on_each volumes (p ∷ pieces))
      first None h = tt
      first (Some r) h = rw h refl
  fault_of_all (p ∷ pieces) (f ∷ front) why rest fills =
      later (piece.cause why) (fills.0.hits volumes given).0 (fills.0.hits volumes given).1 (fault_of_all pieces front why rest fills.1)
    where
      later : (o : Option model.PieceFault) (hits : List Hit) → hits_on volumes p ≡ Ok hits → IsRefusal o (hits_on_each volumes pieces) → IsRefusal o (hits_on_each volumes (p ∷ pieces))
      later None hits e h = tt
      later (Some r) hits e h = rw (e, h) refl

  -- the result of the call, once the slots are listed
  module _ (pieces : List Piece) (slots : List (Option Answer)) (fills : AllZip (FillsBy (IsSent over taken)) pieces slots) (held new : Hits) (took : new ≡ with_hits held taken) (come : AllComeTo volumes pieces taken) where
    pub streams_ok : AreOfBootstrap pieces → (founds : Vec Found Global) → IsListed slots (Ok founds) → Streams volumes pieces held new (Ok tt)
    streams_ok split founds listed =
        let full = subst (AllZip (FillsBy (IsSent over taken)) pieces) listed fills in
        let found = each_found pieces founds.items full in
        (found.0, found.1, took ∙ all_taken volumes pieces held found.0 taken split found.1 come (all_inside pieces founds.items full))

    pub streams_err : (why : PoolFault) → IsListed slots (Err why) → Streams volumes pieces held new (Err why)
    streams_err fault.Memory listed = (tt, taken, took, come)
    streams_err fault.NoDriveLeft listed = (tt, taken, took, come)
    streams_err (fault.Piece w) listed =
        (fault_of_all pieces listed.1.front w listed.1.rest (subst (AllZip (FillsBy (IsSent over taken)) pieces) listed.1.parted fills), taken, took, come)

-- what the joiner took, if memory ran out
pub streams_none : (volumes : List Volume) (pieces : List Piece) (held new : Hits) (taken : List Hit) → new ≡ with_hits held taken → AllComeTo volumes pieces taken → Streams volumes pieces held new (Err fault.Memory)
streams_none volumes pieces held new taken took come = (tt, taken, took, come)
