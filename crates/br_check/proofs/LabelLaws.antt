-- What is said of the label of a volume.
use Rattle.std.proofs.Common.{◌≡◌, ◌⊎◌, inl, inr, ℕ, zero, suc, ◌<◌, length, take, if◌then◌else◌, List, [], ◌∷◌, ◌++◌, Option, Some, None, Bool, Result, Ok, Err, arith, ap, refl, sym, subst, ◌∙◌, append-nil}
use Rattle.std.proofs.lemmas.Option.{same_Some}
use Rattle.std.proofs.lemmas.Bool.{lt-ltb}
use Rattle.br_model.proofs.AnswerLaws.{ok_is}
use Rattle.br_model.specs.Answer.{◌>>=◌, some_or}
use Rattle.br_model.specs.Volume.{Volume, volume_bytes}
use Rattle.br_volume.specs.Drive.{AnswersOver, IsSized, bytes_from, bytes_got, bytes_shown}
use Rattle.br_volume.specs.declared.drive.Got.{Got}
use Rattle.br_volume.specs.declared.drive.Got.TheVariants.{Block, End}
use Rattle.br_volume.specs.declared.fault.DriveFault.{DriveFault}
use Rattle.br_volume.specs.declared.fault.DriveFault.TheVariants.{Fault, UnknownVolume}
use Rattle.br_check.specs.Label.{AppendsLabel, label_line, line_by, name_at}

take_none : (n : ℕ) → take {A = ℕ} n [] ≡ []
take_none zero = refl
take_none (suc n) = refl

-- the front of bytes of which there is one
front_of : (size b : ℕ) (bs : List ℕ) → bytes_from (b ∷ bs) 0 size ≡ Some (take size (b ∷ bs))
front_of size b bs = ap (λ (c : Bool). if c then Some (take size (b ∷ bs)) else None) (lt-ltb 0 (length (b ∷ bs)) (omega arith))

-- what a drive read of a volume's front is that front
front_is : (size : ℕ) (bytes buffer : List ℕ) (got : Got) → bytes_from bytes 0 size ≡ bytes_got buffer got → IsSized 0 size buffer got → buffer ≡ take size bytes
front_is size [] buffer (Block n) is sized = absurd cc
front_is size [] buffer End is sized = sized ∙ sym (take_none size)
front_is size (b ∷ bs) buffer (Block n) is sized = sym (same_Some (take size (b ∷ bs)) buffer (sym (front_of size b bs) ∙ is))
front_is size (b ∷ bs) buffer End is sized =
    let never : ◌≡◌ {A = Option (List ℕ)} (Some (take size (b ∷ bs))) None = sym (front_of size b bs) ∙ is in
    absurd cc

-- what a drive shows of the front of a volume
abbrev front_shown : Option (List ℕ) → Result (Option (List ℕ)) ℕ
front_shown o = some_or o 14 >>= λ bytes. Ok (bytes_from bytes 0 65536)

-- the line of a volume that was read
pub label_read : (shown : Option (List Volume)) (failures failed : ℕ) (volume buffer before after : List ℕ) (got : Got) → AnswersOver shown volume (0, 65536) buffer (Ok got)
    → IsSized 0 65536 buffer got → after ≡ before ++ line_by volume (name_at buffer) → AppendsLabel shown failures failed volume before after
unfolding bytes_shown
label_read None failures failed volume buffer before after got answers sized pushed = (line_by volume (name_at buffer), tt, pushed)
label_read (Some volumes) failures failed volume buffer before after got answers sized pushed =
    (line_by volume (name_at buffer), inl (go (volume_bytes volumes volume) answers), pushed)
  where
    go : (o : Option (List ℕ)) → front_shown o ≡ Ok (bytes_got buffer got)
        → line_by volume (name_at buffer) ≡ label_line volume o
    go None e = absurd cc
    go (Some bytes) e = ap (λ (front : List ℕ). line_by volume (name_at front)) (front_is 65536 bytes buffer got (ok_is (bytes_from bytes 0 65536) (bytes_got buffer got) e) sized)

-- nothing is said of a volume that is not there
pub label_unknown : (shown : Option (List Volume)) (failures failed : ℕ) (volume buffer before : List ℕ) → AnswersOver shown volume (0, 65536) buffer (Err UnknownVolume)
    → AppendsLabel shown failures failed volume before before
unfolding bytes_shown
label_unknown None failures failed volume buffer before answers = ([], tt, sym (append-nil before))
label_unknown (Some volumes) failures failed volume buffer before answers = ([], inl (go (volume_bytes volumes volume) answers), sym (append-nil before))
  where
    go : (o : Option (List ℕ)) → front_shown o ≡ Err 14 → [] ≡ label_line volume o
    go None e = refl
    go (Some bytes) e = absurd cc

-- and of one that could not be read
pub label_failed : (shown : Option (List Volume)) (failures failed : ℕ) (volume before : List ℕ) → failures < failed → AppendsLabel shown failures failed volume before before
label_failed None failures failed volume before more = ([], tt, sym (append-nil before))
label_failed (Some volumes) failures failed volume before more = ([], inr (refl, more), sym (append-nil before))

-- nor of one for another fault of the drive
pub label_passed : (shown : Option (List Volume)) (failures failed : ℕ) (volume buffer before : List ℕ) (why : DriveFault) → (why ≡ Fault) ⊎ (why ≡ UnknownVolume)
    → AnswersOver shown volume (0, 65536) buffer (Err why) → (why ≡ Fault → failures < failed) → AppendsLabel shown failures failed volume before before
label_passed shown failures failed volume buffer before why (inl is) answers more = label_failed shown failures failed volume before (more is)
label_passed shown failures failed volume buffer before why (inr is) answers more =
    label_unknown shown failures failed volume buffer before (subst (λ (f : DriveFault). AnswersOver shown volume (0, 65536) buffer (Err f)) is answers)
