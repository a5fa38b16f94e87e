-- What holds of the pieces of a restore by their status.
use Rattle.std.proofs.Common.{◌≡◌, ◌⊎◌, ℕ, ◌<◌, List, length, set, Some, Ok, sym, ap, subst, ◌∙◌, inl, inr}
use Rattle.std.proofs.lemmas.Option.{same_Some, slice_get_within}
use Rattle.std.specs.Prelude.{Contains, slice_get, ⊤}
use Rattle.br_model.specs.Volume.{Volume}
use Rattle.br_model.specs.Meaning.{Piece, Hit, hits_on}
use Rattle.br_match.specs.Walk.{IsWalked}
use Rattle.br_core.specs.Machine.{Status}
use Rattle.br_core.specs.Machine.Status.{Waiting, Claimed, Finished}
use Rattle.br_core.proofs.PlaceLaws.{same_or_not, set_other, set_same}

-- What holds of a piece by its status: of a claimed one the hits that its walk found are held, of a
-- finished one all of its hits.
abbrev pub IsAt : List Volume → (Hit → Type 0) → Piece → Status → Type 0
IsAt volumes P piece Waiting = ⊤
IsAt volumes P piece (Claimed a) = (found : List Hit) × IsWalked volumes piece a found × ((h : Hit) → Contains found h → P h)
IsAt volumes P piece Finished = (hits : List Hit) × (hits_on volumes piece ≡ Ok hits) × ((h : Hit) → Contains hits h → P h)

-- if more hits are held, the same holds
pub at_weaker : (volumes : List Volume) (P Q : Hit → Type 0) (piece : Piece) (status : Status) → ((h : Hit) → P h → Q h) → IsAt volumes P piece status → IsAt volumes Q piece status
at_weaker volumes P Q piece Waiting f at = tt
at_weaker volumes P Q piece (Claimed a) f at = (at.0, at.1, λ h inside. f h (at.2 h inside))
at_weaker volumes P Q piece Finished f at = (at.0, at.1, λ h inside. f h (at.2 h inside))

-- each piece has a status, and what the status says holds of it
abbrev pub AreAt : List Volume → List Piece → (Hit → Type 0) → List Status → Type 0
AreAt volumes pieces P statuses =
    (n : ℕ) (piece : Piece) → slice_get pieces n ≡ Some piece → (status : Status) × (slice_get statuses n ≡ Some status) × IsAt volumes P piece status

-- where one piece goes to a place, and what holds there holds of it, it holds of all
pub are_at_new : (volumes : List Volume) (pieces : List Piece) (P Q : Hit → Type 0) (statuses : List Status) (n : ℕ) (status : Status) → ((h : Hit) → P h → Q h)
    → AreAt volumes pieces P statuses → ((piece : Piece) → slice_get pieces n ≡ Some piece → IsAt volumes Q piece status)
    → AreAt volumes pieces Q (set statuses n status)
are_at_new volumes pieces P Q statuses n status f are here m piece e = go (same_or_not m n)
  where
    go : (m ≡ n) ⊎ (m ≡ n → ⊥) → (s : Status) × (slice_get (set statuses n status) m ≡ Some s) × IsAt volumes Q piece s
    go (inl same) =
        let was = are m piece e in
        let within : n < length statuses = subst (λ (k : ℕ). k < length statuses) same (slice_get_within statuses m was.0 was.1) in
        (status, ap (slice_get (set statuses n status)) same ∙ set_same statuses n status within, here piece (ap (slice_get pieces) (sym same) ∙ e))
    go (inr apart) = let was = are m piece e in (was.0, set_other statuses n m status apart ∙ was.1, at_weaker volumes P Q piece was.0 f was.2)

-- the address of a claimed piece
pub claimed_at : (volumes : List Volume) (pieces : List Piece) (P : Hit → Type 0) (statuses : List Status) (n a : ℕ) (piece : Piece) → AreAt volumes pieces P statuses
    → slice_get pieces n ≡ Some piece → slice_get statuses n ≡ Some (Claimed a) → IsAt volumes P piece (Claimed a)
claimed_at volumes pieces P statuses n a piece are e claimed =
    let was = are n piece e in
    subst (λ (s : Status). IsAt volumes P piece s) (same_Some was.0 (Claimed a) (sym was.1 ∙ claimed)) was.2
