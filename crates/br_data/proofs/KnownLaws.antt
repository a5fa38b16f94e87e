-- What the block that was read last says of the fragments at their places.
use Rattle.std.proofs.Common.{◌≡◌, ℕ, Bool, true, false, cond, eqb, List, length, Option, Some, None, Result, Ok, Err, refl, ap, subst, ◌∙◌}
use Rattle.std.proofs.lemmas.Bool.{and_parts, eqb-true, eq-eqb}
use Rattle.std.proofs.lemmas.Slice.Eq.{bytes_eq-Decides}
use Rattle.std.specs.Prelude.{bytes_eq, slice_get}
use Rattle.br_model.specs.Answer.{◌>>=◌, some_or}
use Rattle.br_model.specs.Block.{Fragment, fragments_of}
use Rattle.br_model.specs.Volume.{Volume}
use Rattle.br_volume.specs.Drive.{OnlyGrows}
use Rattle.br_data.specs.KeptData.{Kept}
use Rattle.br_data.specs.StandingHits.{FragmentPlace, ShowsBlock}
use Rattle.br_data.specs.Rereading.{IsGone}
use Rattle.br_data.specs.KnownBlocks.{KnownBlock, IsKnown, GivesBytes, OfFragment, bytes_of, fragment_of, knows}
use Rattle.br_data.specs.declared.reread_fault.AgainFault.{AgainFault}
use Rattle.br_data.specs.declared.reread_fault.AgainFault.TheVariants.{Changed}
use Rattle.br_data.proofs.ReadLaws.{shown_is_block}

-- a fragment at a place of the block that was read last is the one of this block
stands_known : (earlier later : Option (List Volume)) (place : FragmentPlace) (known : Option KnownBlock) → OnlyGrows earlier later → IsKnown later known → knows place known ≡ true
    → OfFragment earlier place (λ fragment. fragment_of known place.ordinal ≡ Ok fragment)
stands_known earlier later place None grown is knows volumes fragment shows stands = absurd cc
stands_known earlier later place (Some known) grown is knows volumes fragment shows stands =
    let p = and_parts (bytes_eq known.volume place.volume) (eqb known.address place.address) knows in
    let named : known.volume ≡ place.volume = (bytes_eq-Decides known.volume place.volume).0 p.0 in
    let at : known.address ≡ place.address = eqb-true known.address place.address p.1 in
    let there : ShowsBlock later place.volume place.address known.bytes =
    subst (λ (a : ℕ). ShowsBlock later place.volume a known.bytes) at (subst (λ (name : List ℕ). ShowsBlock later name known.address known.bytes) named is) in
    let same : known.bytes ≡ stands.block = shown_is_block earlier later place.volume place.address known.bytes grown there volumes stands.block shows stands.there in
    ap (λ (o : Option Fragment). some_or o Changed) (ap (λ (block : List ℕ). slice_get (fragments_of block) place.ordinal) same ∙ stands.at)

-- the bytes of a fragment that has the bytes that were found
given : (known : Option KnownBlock) (n : ℕ) (kept : Kept) (fragment : Fragment) → fragment_of known n ≡ Ok fragment → fragment.bytes ≡ kept.bytes
    → bytes_of known n kept ≡ Ok kept.bytes
given known n kept fragment is same = go kept.held
  where
    go : (b : Bool) → cond b (Ok kept.bytes) (fragment_of known n >>= λ f. cond (eqb (length f.bytes) (length kept.bytes)) (Ok f.bytes) (Err Changed)) ≡ Ok kept.bytes
    go true = refl
    go false = rw (is, same, eq-eqb (length kept.bytes) (length kept.bytes) refl) refl

-- after a block was read, and none are held
pub ready_if_known : (earlier later : Option (List Volume)) (place : FragmentPlace) (kept : Kept) (known : Option KnownBlock) → OnlyGrows earlier later → IsKnown later known
    → knows place known ≡ true → GivesBytes earlier place kept known
ready_if_known earlier later place kept known grown is knows volumes fragment shows stands same =
    given known place.ordinal kept fragment (stands_known earlier later place known grown is knows volumes fragment shows stands) same

-- if there is no block, there is no fragment
pub gone_if_none : {A : Type 0} (shown : Option (List Volume)) (place : FragmentPlace) (result : Result A AgainFault) → IsGone shown place.volume place.address result
    → result ≡ Err Changed → OfFragment shown place (λ _. ⊥)
gone_if_none shown place result gone is volumes fragment shows stands = gone is volumes stands.block shows stands.there
