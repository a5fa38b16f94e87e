-- What is said of the checksums of a piece.
use Rattle.std.proofs.Common.{◌≡◌, ◌∙◌, inl, inr, ℕ, ◌<◌, List, [], ◌∷◌, ◌++◌, Option, Some, None, refl, sym, ap, subst, append_assoc, append-nil}
use Rattle.br_model.specs.Bootstrap.{Group}
use Rattle.br_model.specs.Meaning.{Piece}
use Rattle.br_model.specs.Volume.{LaidBlock, Volume}
use Rattle.br_volume.specs.Drive.{OnlyGrows}
use Rattle.br_check.specs.ChecksumBlocks.{Leads, PassesTo, block_at, block_line, block_lines, bytes_in, lines_from}
use Rattle.br_check.specs.ChecksumPieces.{AppendsSums, TellsSums, failed_line}
use Rattle.br_check.specs.ChecksumWalk.{ArePassed, InLater, InShown}
use Rattle.br_check.proofs.BlockLaws.{leads_further, lines_led, lines_of_more}
use Rattle.br_check.proofs.LaterLaws.{later_any, later_so, still}

-- these are the lines of the blocks that a walk passes before an address
abbrev pub Leading : List ℕ → List (ℕ × Group) → ℕ → List ℕ → List ℕ → Type 0
Leading volume gs address told bytes = (blocks : List LaidBlock) × Leads gs bytes 0 blocks address × (told ≡ block_lines volume gs blocks)

-- the lines of the blocks before an address were appended
abbrev pub Walked : Option (List Volume) → List ℕ → List (ℕ × Group) → ℕ → List ℕ → List ℕ → Type 0
Walked shown volume gs address before after = (told : List ℕ) × (after ≡ before ++ told) × InLater shown volume (Leading volume gs address told)

pub walk_starts : (shown : Option (List Volume)) (volume : List ℕ) (gs : List (ℕ × Group)) (before : List ℕ) → Walked shown volume gs 0 before before
walk_starts shown volume gs before = ([], sym (append-nil before), later_any shown volume (Leading volume gs 0 []) (λ bytes. ([], refl, refl)))

-- one block more
further : (volume : List ℕ) (gs : List (ℕ × Group)) (a next : ℕ) (first told bytes : List ℕ) → Leading volume gs a first bytes
    → PassesTo (block_line volume gs) (block_at gs bytes a) next told → Leading volume gs next (first ++ told) bytes
further volume gs a next first told bytes so_far passed = (
  so_far.0 ++ passed.0 ∷ [],
  leads_further gs bytes 0 so_far.0 a next passed.0 so_far.1 passed.1,
  ap (λ (xs : List ℕ). xs ++ told) so_far.2 ∙ ap (λ (xs : List ℕ). block_lines volume gs so_far.0 ++ xs) passed.2 ∙ sym (lines_of_more volume gs so_far.0 passed.0),
)

pub walk_goes_on : (s t : Option (List Volume)) (volume : List ℕ) (gs : List (ℕ × Group)) (a next : ℕ) (before text after told : List ℕ) → OnlyGrows s t
    → Walked s volume gs a before text → after ≡ text ++ told → ArePassed t volume gs a next told → Walked t volume gs next before after
walk_goes_on s t volume gs a next before text after told grew walked pushed passed =
    let first = walked.0 in (
      first ++ told,
      pushed ∙ ap (λ (xs : List ℕ). xs ++ told) walked.1 ∙ append_assoc before first told,
      later_so t volume (Leading volume gs a first) (λ bytes. PassesTo (block_line volume gs) (block_at gs bytes a) next told) (Leading volume gs next (first ++ told))
          (still s t volume (Leading volume gs a first) grew walked.2) passed (λ bytes p q. further volume gs a next first told bytes p q),
    )

-- the lines so far, and those of the blocks from the address on
all_lines : (volume : List ℕ) (gs : List (ℕ × Group)) (a : ℕ) (told bytes : List ℕ) → Leading volume gs a told bytes → lines_from volume gs bytes 0 ≡ told ++ lines_from volume gs bytes a
all_lines volume gs a told bytes so_far = lines_led volume gs bytes 0 so_far.0 a so_far.1 ∙ ap (λ (xs : List ℕ). xs ++ lines_from volume gs bytes a) (sym so_far.2)

-- the end
walk_ends : (s t : Option (List Volume)) (failures failed : ℕ) (piece : Piece) (a : ℕ) (before text after : List ℕ) → OnlyGrows s t
    → Walked s piece.volume piece.groups a before text → after ≡ text → InShown t piece.volume (λ bytes. lines_from piece.volume piece.groups bytes a ≡ [])
    → AppendsSums t failures failed piece before after
walk_ends None None failures failed piece a before text after grew walked same ends = (walked.0, tt, same ∙ walked.1)
walk_ends None (Some l) failures failed piece a before text after grew walked same ends = absurd grew
walk_ends (Some e) None failures failed piece a before text after grew walked same ends = absurd grew
walk_ends (Some e) (Some l) failures failed piece a before text after grew walked same ends =
    let first = walked.0 in
    let all = all_lines piece.volume piece.groups a first (bytes_in l piece.volume) (walked.2 l grew) in
    (first, inl (sym (all ∙ ap (λ (xs : List ℕ). first ++ xs) ends ∙ append-nil first)), same ∙ walked.1)

-- the drive failed
walk_fails : (s t : Option (List Volume)) (failures failed : ℕ) (piece : Piece) (a : ℕ) (before text after : List ℕ) → OnlyGrows s t
    → Walked s piece.volume piece.groups a before text → failures < failed → after ≡ text ++ failed_line piece.volume a → AppendsSums t failures failed piece before after
walk_fails s t failures failed piece a before text after grew walked more pushed =
    let first = walked.0 in
    let line = failed_line piece.volume a in
    (first ++ line, tells s t grew walked, pushed ∙ ap (λ (xs : List ℕ). xs ++ line) walked.1 ∙ append_assoc before first line)
  where
    tells : (s t : Option (List Volume)) → OnlyGrows s t → (w : Walked s piece.volume piece.groups a before text) → TellsSums t failures failed piece (w.0 ++ failed_line piece.volume a)
    tells None None grew w = tt
    tells None (Some l) grew w = absurd grew
    tells (Some e) None grew w = absurd grew
    tells (Some e) (Some l) grew w =
        let so_far = w.2 l grew in
        inr (
          record {
            passed = so_far.0;
            address = a;
            reached = so_far.1;
            whole = lines_led piece.volume piece.groups (bytes_in l piece.volume) 0 so_far.0 a so_far.1;
            said = ap (λ (xs : List ℕ). xs ++ failed_line piece.volume a) so_far.2;
          },
          more,
        )

-- the same by names of the volume and the groups
pub walk_ends_of : (s t : Option (List Volume)) (failures failed : ℕ) (piece : Piece) (volume : List ℕ) (gs : List (ℕ × Group)) (a : ℕ) (before text after : List ℕ) → volume ≡ piece.volume
    → gs ≡ piece.groups → OnlyGrows s t → Walked s volume gs a before text → after ≡ text → InShown t volume (λ bytes. lines_from volume gs bytes a ≡ [])
    → AppendsSums t failures failed piece before after
walk_ends_of s t failures failed piece volume gs a before text after volume_is groups_are grew walked same ends =
    walk_ends s t failures failed piece a before text after grew
    (subst (λ (v : List ℕ). Walked s v piece.groups a before text) volume_is (subst (λ (hs : List (ℕ × Group)). Walked s volume hs a before text) groups_are walked)) same
    (subst (λ (v : List ℕ). InShown t v (λ bytes. lines_from v piece.groups bytes a ≡ [])) volume_is
    (subst (λ (hs : List (ℕ × Group)). InShown t volume (λ bytes. lines_from volume hs bytes a ≡ [])) groups_are ends))

pub walk_fails_of : (s t : Option (List Volume)) (failures failed : ℕ) (piece : Piece) (volume : List ℕ) (gs : List (ℕ × Group)) (a : ℕ) (before text after : List ℕ) → volume ≡ piece.volume
    → gs ≡ piece.groups → OnlyGrows s t → Walked s volume gs a before text → failures < failed → after ≡ text ++ failed_line piece.volume a
    → AppendsSums t failures failed piece before after
walk_fails_of s t failures failed piece volume gs a before text after volume_is groups_are grew walked more pushed =
    walk_fails s t failures failed piece a before text after grew
    (subst (λ (v : List ℕ). Walked s v piece.groups a before text) volume_is (subst (λ (hs : List (ℕ × Group)). Walked s volume hs a before text) groups_are walked)) more pushed
