-- What was read of a volume.
use Rattle.std.proofs.Common.{◌≡◌, inl, inr, ℕ, ◌<◌, ◌≤◌, length, List, [], ◌∷◌, Bool, ◌||◌, Option, Some, None, Ok, Err, refl, sym, ap, subst, arith}
use Rattle.std.specs.List.{list_any}
use Rattle.br_model.specs.Bootstrap.{Group}
use Rattle.br_model.specs.Meaning.{covers, is_covered, just_groups}
use Rattle.br_model.specs.Volume.{Volume, volume_bytes}
use Rattle.br_volume.specs.Drive.{AnswersOver, IsSized}
use Rattle.br_volume.specs.declared.drive.Got.{Got}
use Rattle.br_volume.specs.declared.drive.Got.TheVariants.{Block, End}
use Rattle.br_volume.specs.declared.fault.DriveFault.{DriveFault}
use Rattle.br_volume.specs.declared.fault.DriveFault.TheVariants.{Fault, UnknownVolume}
use Rattle.br_volume.proofs.DriveLaws.{not_shown, shown_block, shown_end}
use Rattle.br_check.specs.ChecksumBlocks.{bytes_in, or_none}
use Rattle.br_check.specs.ChecksumWalk.{AreAt, InShown, IsSeen, IsUnseen, seen_of}
use Rattle.br_check.specs.declared.checksum_walk.AtAddress.{AtAddress}

-- the test of groups with their numbers is that of the groups
pub covered_is : (gs : List (ℕ × Group)) (a : ℕ) → list_any (λ (g : ℕ × Group). covers g.1 a) gs ≡ is_covered (just_groups gs) a
covered_is [] a = refl
covered_is (g ∷ gs) a = ap (λ (b : Bool). covers g.1 a || b) (covered_is gs a)

-- a volume that is there, and one that is not
there : (volumes : List Volume) (volume bytes : List ℕ) (P : List ℕ → Type 0) → volume_bytes volumes volume ≡ Some bytes → P bytes → P (bytes_in volumes volume)
there volumes volume bytes P is holds = subst P (sym (ap or_none is)) holds

pub read_seen : (shown : Option (List Volume)) (failures failed : ℕ) (volume : List ℕ) (a size : ℕ) (buffer : List ℕ) (got : Got) → AnswersOver shown volume (a, size) buffer (Ok got)
    → IsSized a size buffer got → IsSeen shown failures failed volume a size buffer (seen_of got)
read_seen None failures failed volume a size buffer (Block n) answers sized = (tt, omega (arith, sized.2))
read_seen None failures failed volume a size buffer End answers sized = tt
read_seen (Some volumes) failures failed volume a size buffer (Block n) answers sized =
    let p = shown_block volumes volume a size buffer answers in
    (there volumes volume p.0 (λ bytes. AreAt bytes a size buffer) p.1 (record { within = p.2; taken = p.3 }), omega (arith, sized.2))
read_seen (Some volumes) failures failed volume a size buffer End answers sized =
    let p = shown_end volumes volume a size answers in
    there volumes volume p.0 (λ bytes. length bytes ≤ a) p.1 p.2

nothing_seen : (shown : Option (List Volume)) (volume : List ℕ) (a size : ℕ) (buffer : List ℕ) → AnswersOver shown volume (a, size) buffer (Err UnknownVolume)
    → InShown shown volume (λ bytes. length bytes ≤ a)
nothing_seen None volume a size buffer answers = tt
nothing_seen (Some volumes) volume a size buffer answers =
    let none : bytes_in volumes volume ≡ [] = ap or_none (not_shown volumes volume a size 14 answers) in
    omega (arith, ap length none)

pub unread_seen : (shown : Option (List Volume)) (failures failed : ℕ) (volume : List ℕ) (a size : ℕ) (buffer : List ℕ) (why : DriveFault) (s : AtAddress)
    → AnswersOver shown volume (a, size) buffer (Err why) → (why ≡ Fault → failures < failed) → IsUnseen why s → IsSeen shown failures failed volume a size buffer s
unread_seen shown failures failed volume a size buffer why s answers more (inl p) =
    subst (λ (t : AtAddress). IsSeen shown failures failed volume a size buffer t) (sym p.0) (more p.1)
unread_seen shown failures failed volume a size buffer why s answers more (inr p) =
    subst (λ (t : AtAddress). IsSeen shown failures failed volume a size buffer t) (sym p.0)
    (nothing_seen shown volume a size buffer (subst (λ (f : DriveFault). AnswersOver shown volume (a, size) buffer (Err f)) p.1 answers))
