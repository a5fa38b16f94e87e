-- Hits that were taken block by block, as walks came to them, are the hits of the pieces.
use Rattle.std.proofs.Common.{◌≡◌, List, Ok, subst}
use Rattle.std.specs.Prelude.{Contains}
use Rattle.br_model.specs.Volume.{Volume}
use Rattle.br_model.specs.Meaning.{Piece, Hit, Hits, HasHit, hits_of, with_hits, hits_on, hits_on_each}
use Rattle.br_model.proofs.ListLaws.{of_each}
use Rattle.br_match.specs.Come.{AllComeTo, AreOfBootstrap, IsCome}
use Rattle.br_match.proofs.ComeLaws.{come_is_found, found_are_held, found_is_of}
use Rattle.br_join.proofs.TakingLaws.{same_taken}

-- Hits to which walks came, and among which are all of each piece, make the set of the pieces' hits.
pub all_taken : (volumes : List Volume) (pieces : List Piece) (held : Hits) (found taken : List Hit) → AreOfBootstrap pieces → hits_on_each volumes pieces ≡ Ok found
    → AllComeTo volumes pieces taken
    → ((p : Piece) (hits : List Hit) → Contains pieces p → hits_on volumes p ≡ Ok hits → (h : Hit) → Contains hits h → Contains taken h)
    → with_hits held taken ≡ with_hits held found
all_taken volumes pieces held found taken of e come all = same_taken held taken found each to back
  where
    each : (h : Hit) → Contains found h → HasHit (hits_of found) h
    each h inside = found_are_held of.0 volumes found h (subst (λ (ps : List Piece). hits_on_each volumes ps ≡ Ok found) of.1 e) inside

    to : (h : Hit) → Contains taken h → Contains found h
    to h inside = come_is_found volumes pieces found h e (of_each (IsCome volumes pieces) taken h come inside)

    back : (h : Hit) → Contains found h → Contains taken h
    back h inside = let f = found_is_of volumes pieces found h e inside in all f.0 f.2 f.1 f.3 h f.4
