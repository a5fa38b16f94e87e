-- Drives over volumes that do not change: what they show stays, and what is found over it is found
-- over the volumes.
use Rattle.std.proofs.Common.{◌≡◌, ◌&&◌, ℕ, zero, suc, ◌+◌, ◌<◌, Bool, true, false, List, [], ◌∷◌, ◌++◌, length, map, replicate, Option, Some, Result, refl, sym, ap, ap₂, subst, ◌∙◌, ◌⊎◌, inl, inr, append_assoc, append-nil, true≢false, arith}
use Rattle.std.proofs.lemmas.Bool.{and_parts}
use Rattle.std.proofs.lemmas.Option.{same_Some}
use Rattle.std.specs.List.{AllByRecursion, enumerate_from, list_all}
use Rattle.br_model.specs.Answer.{Answers, refused_as}
use Rattle.br_model.specs.Name.{is_name, is_volume_name}
use Rattle.br_model.specs.Volume.{Volume, Extends, volume_bytes}
use Rattle.br_model.specs.Bootstrap.{Group, SessionId, SessionTime, VolFile, VolBlock, VolAddr, FileIndex, Stream}
use Rattle.br_model.specs.BootstrapText.{is_group, is_range}
use Rattle.br_model.specs.Meaning as model
use Rattle.br_model.specs.Meaning.{Piece, hits_on, hits_on_each, meaning, pieces_of, volumes_of}
use Rattle.br_model.specs.Restored.{Planned, Restored}
use Rattle.br_model.proofs.PieceLaws.{once, piece_of}
use Rattle.br_volume.specs.Drive.{AnswersOver, OnlyGrows, bytes_got, bytes_shown}
use Rattle.br_volume.specs.Fault.{cause}
use Rattle.br_volume.specs.declared.drive.Got.{Got}
use Rattle.br_volume.specs.declared.fault.DriveFault.{DriveFault}
use Rattle.br_volume.proofs.ExtendLaws.{extends_itself}
use Rattle.br_match.specs.Matching.{IsEnclosed}
use Rattle.br_pool.specs.Pool.{StayInPlace}
use Rattle.br_engine.specs.Extracting.{OverVolumes, Said}
use Rattle.br_engine.specs.Fault.{OfPiece}
use Rattle.br_engine.specs.Restoring.{AllStand, Told, restored_files}
use Rattle.br_cli_serve.specs.DriveCount.{EachShows}
use Rattle.br_cli_serve.specs.FixedDrive.{beside_unnamed, counted, inventory, with_inventory}
use Rattle.br_cli_serve.specs.declared.fixed_drive.FixedDrive.{FixedDrive}

-- ---- an inventory

heads : (x y : ℕ) (xs ys : List ℕ) → x ∷ xs ≡ y ∷ ys → x ≡ y
heads x y xs ys e = cc

tails : (x y : ℕ) (xs ys : List ℕ) → x ∷ xs ≡ y ∷ ys → xs ≡ ys
tails x y xs ys e = cc

-- two counted lists that begin one text are equal, and so is what follows them
same_counted : (xs ys more rest : List ℕ) → counted xs more ≡ counted ys rest → (xs ≡ ys) × (more ≡ rest)
same_counted [] [] more rest e = (refl, tails 0 0 more rest e)
same_counted [] (y ∷ ys) more rest e = let h : 0 ≡ suc (length ys) = heads 0 (suc (length ys)) more (y ∷ ys ++ rest) e in absurd (omega arith)
same_counted (x ∷ xs) [] more rest e = let h : suc (length xs) ≡ 0 = heads (suc (length xs)) 0 (x ∷ xs ++ more) rest e in absurd (omega arith)
same_counted (x ∷ xs) (y ∷ ys) more rest e =
    let h : suc (length xs) ≡ suc (length ys) = heads (suc (length xs)) (suc (length ys)) (x ∷ xs ++ more) (y ∷ ys ++ rest) e in
    let t : x ∷ (xs ++ more) ≡ y ∷ (ys ++ rest) = tails (suc (length xs)) (suc (length ys)) (x ∷ xs ++ more) (y ∷ ys ++ rest) e in
    let n : length xs ≡ length ys = omega arith in
    let both =
    same_counted xs ys more rest (ap (λ (k : ℕ). k ∷ (xs ++ more)) n ∙ ap (λ (l : List ℕ). length ys ∷ l) (tails x y (xs ++ more) (ys ++ rest) t)) in
    (ap₂ (λ (a : ℕ) (l : List ℕ). a ∷ l) (heads x y (xs ++ more) (ys ++ rest) t) both.0, both.1)

counted_more : (xs left more : List ℕ) → counted xs left ++ more ≡ counted xs (left ++ more)
counted_more xs left more = ap (λ (l : List ℕ). length xs ∷ l) (append_assoc xs left more)

two_counted : (xs ys left more : List ℕ) → counted xs (counted ys left) ++ more ≡ counted xs (counted ys (left ++ more))
two_counted xs ys left more = counted_more xs (counted ys left) more ∙ ap (λ (l : List ℕ). counted xs l) (counted_more ys left more)

abbrev volume_of : List ℕ → List ℕ → Volume
volume_of name bytes = record { name = name; bytes = bytes }

-- of two inventories that begin one text, both are of the same volumes
same_inventory : (vs ws : List Volume) (more rest : List ℕ) → inventory vs ++ more ≡ inventory ws ++ rest → vs ≡ ws
unfolding inventory
same_inventory [] [] more rest e = refl
same_inventory [] (w ∷ ws) more rest e = let h = heads 0 1 more (counted w.name (counted w.bytes (inventory ws)) ++ rest) e in absurd (omega arith)
same_inventory (v ∷ vs) [] more rest e = let h = heads 1 0 (counted v.name (counted v.bytes (inventory vs)) ++ more) rest e in absurd (omega arith)
same_inventory (v ∷ vs) (w ∷ ws) more rest e =
    let t : counted v.name (counted v.bytes (inventory vs)) ++ more ≡ counted w.name (counted w.bytes (inventory ws)) ++ rest =
    tails 1 1 (counted v.name (counted v.bytes (inventory vs)) ++ more) (counted w.name (counted w.bytes (inventory ws)) ++ rest) e in
    let names =
    same_counted v.name w.name (counted v.bytes (inventory vs ++ more)) (counted w.bytes (inventory ws ++ rest))
    (sym (two_counted v.name v.bytes (inventory vs) more) ∙ t ∙ two_counted w.name w.bytes (inventory ws) rest) in
    let texts = same_counted v.bytes w.bytes (inventory vs ++ more) (inventory ws ++ rest) names.1 in
    ap₂ (λ (x : Volume) (xs : List Volume). x ∷ xs) (ap₂ volume_of names.0 texts.0) (same_inventory vs ws more rest texts.1)

-- ---- volumes beside one without a name

bytes_of_unnamed : (text : List ℕ) (volumes : List Volume) → volume_bytes (beside_unnamed text volumes) [] ≡ Some text
unfolding volume_bytes
bytes_of_unnamed text volumes = refl

-- whatever has a name is found as before
found_beside : (text : List ℕ) (volumes : List Volume) (name : List ℕ) → 0 < length name → volume_bytes (beside_unnamed text volumes) name ≡ volume_bytes volumes name
unfolding volume_bytes
found_beside text volumes [] named = absurd (omega arith)
found_beside text volumes (x ∷ xs) named = refl

extends_beside : (text : List ℕ) (later earlier : List Volume) → Extends later earlier → Extends (beside_unnamed text later) (beside_unnamed text earlier)
unfolding volume_bytes
extends_beside text later earlier more [] bytes found = ([], found ∙ ap Some (sym (append-nil bytes)))
extends_beside text later earlier more (x ∷ xs) bytes found = more (x ∷ xs) bytes found

-- volumes with their inventory that extend others with theirs are these
same_volumes : (volumes later : List Volume) → Extends (with_inventory later) (with_inventory volumes) → later ≡ volumes
same_volumes volumes later extends =
    let found = extends [] (inventory volumes) (bytes_of_unnamed (inventory volumes) volumes) in
    let e : inventory later ≡ inventory volumes ++ found.0 =
    same_Some (inventory later) (inventory volumes ++ found.0) (sym (bytes_of_unnamed (inventory later) later) ∙ found.1) in
    same_inventory later volumes [] found.0 (append-nil (inventory later) ∙ e)

-- ---- names

named_of : (name : List ℕ) → is_volume_name name ≡ true → 0 < length name
unfolding is_volume_name is_name
named_of [] valid = absurd (true≢false (sym valid))
named_of (x ∷ xs) valid = omega arith

-- a name has a byte
abbrev IsNamed : List ℕ → Type 0
IsNamed name = 0 < length name

-- a piece is on a volume with a name
abbrev IsOnNamed : Piece → Type 0
IsOnNamed piece = IsNamed piece.volume

first_of_eight : (a b c d e f g h : Bool) → (a && b && c && d && e && f && g && h) ≡ true → a ≡ true
first_of_eight true b c d e f g h valid = refl
first_of_eight false b c d e f g h valid = absurd (true≢false (sym valid))

group_is_named : (g : Group) → is_group g ≡ true → IsNamed g.volume
unfolding is_group
group_is_named g valid =
    named_of g.volume
    (first_of_eight (is_volume_name g.volume) (list_all (is_range SessionId) g.session_ids) (list_all (is_range SessionTime) g.session_times)
    (list_all (is_range VolFile) g.files) (list_all (is_range VolBlock) g.blocks) (list_all (is_range VolAddr) g.addresses)
    (list_all (is_range FileIndex) g.indexes) (list_all (is_range Stream) g.streams) valid)

groups_are_named : (groups : List Group) → list_all is_group groups ≡ true → AllByRecursion IsNamed (map (λ (g : Group). g.volume) groups)
groups_are_named [] valid = tt
groups_are_named (g ∷ gs) valid =
    let both = and_parts (is_group g) (list_all is_group gs) valid in
    (group_is_named g both.0, groups_are_named gs both.1)

are_on_named : (n : ℕ) (groups : List Group) (names : List (List ℕ)) → AllByRecursion IsNamed names
    → AllByRecursion IsOnNamed (map (piece_of groups) (enumerate_from n names))
are_on_named n groups [] named = tt
are_on_named n groups (v ∷ vs) named = (named.0, are_on_named (n + 1) groups vs named.1)

-- the pieces of a bootstrap are on volumes with names
pieces_are_named : (groups : List Group) → list_all is_group groups ≡ true → AllByRecursion IsOnNamed (pieces_of groups)
unfolding pieces_of
pieces_are_named groups valid =
    are_on_named 0 groups (volumes_of groups) (once IsNamed (map (λ (g : Group). g.volume) groups) (groups_are_named groups valid))

-- ---- what is found of pieces

hits_beside : (text : List ℕ) (volumes : List Volume) (piece : Piece) → IsOnNamed piece → hits_on (beside_unnamed text volumes) piece ≡ hits_on volumes piece
unfolding hits_on
hits_beside text volumes piece named = rw (found_beside text volumes piece.volume named) refl

each_beside : (text : List ℕ) (volumes : List Volume) (pieces : List Piece) → AllByRecursion IsOnNamed pieces
    → hits_on_each (beside_unnamed text volumes) pieces ≡ hits_on_each volumes pieces
unfolding hits_on_each
each_beside text volumes [] named = refl
each_beside text volumes (p ∷ ps) named = rw (hits_beside text volumes p named.0, each_beside text volumes ps named.1) refl

meaning_beside : (text : List ℕ) (volumes : List Volume) (groups : List Group) → AllByRecursion IsOnNamed (pieces_of groups)
    → meaning groups (beside_unnamed text volumes) ≡ meaning groups volumes
unfolding meaning
meaning_beside text volumes groups named = rw (each_beside text volumes (pieces_of groups) named) refl

files_beside : (text : List ℕ) (volumes : List Volume) (groups : List Group) (names : Option (List Planned)) → AllByRecursion IsOnNamed (pieces_of groups)
    → restored_files groups names (beside_unnamed text volumes) ≡ restored_files groups names volumes
unfolding restored_files
files_beside text volumes groups names named = rw (meaning_beside text volumes groups named) refl

enclosed_beside : (text : List ℕ) (volumes : List Volume) (pieces : List Piece) → AllByRecursion IsOnNamed pieces → AllByRecursion (IsEnclosed volumes) pieces
    → AllByRecursion (IsEnclosed (beside_unnamed text volumes)) pieces
enclosed_beside text volumes [] named enclosed = tt
enclosed_beside text volumes (p ∷ ps) named enclosed =
    let e = enclosed.0 in (
      record {
        some = e.some;
        hits = e.hits;
        defined = hits_beside text volumes p named.0 ∙ e.defined;
        bytes = e.bytes;
        found = found_beside text volumes p.volume named.0 ∙ e.found;
        ended = e.ended;
      },
      enclosed_beside text volumes ps named.1 enclosed.1,
    )

stands_beside : (text : List ℕ) (shown volumes : List Volume) (pieces : List Piece) → AllByRecursion IsOnNamed pieces
    → (Extends volumes shown ⊎ AllByRecursion (IsEnclosed volumes) pieces)
    → Extends (beside_unnamed text volumes) (beside_unnamed text shown) ⊎ AllByRecursion (IsEnclosed (beside_unnamed text volumes)) pieces
stands_beside text shown volumes pieces named (inl back) = inl (extends_beside text volumes shown back)
stands_beside text shown volumes pieces named (inr enclosed) = inr (enclosed_beside text volumes pieces named enclosed)

-- ---- what a drive returns and shows

shown_beside : (text : List ℕ) (volumes : List Volume) (name : List ℕ) (address size : ℕ) → IsNamed name
    → bytes_shown (beside_unnamed text volumes) name address size ≡ bytes_shown volumes name address size
unfolding bytes_shown
shown_beside text volumes name address size named = rw (found_beside text volumes name named) refl

-- a call returns what the volumes show, whatever is beside them
pub answers_beside : (volumes : List Volume) (name : List ℕ) (block : ℕ × ℕ) (buffer : List ℕ) (result : Result Got DriveFault) → is_volume_name name ≡ true
    → AnswersOver (Some volumes) name block buffer result → AnswersOver (Some (with_inventory volumes)) name block buffer result
answers_beside volumes name block buffer result valid answers =
    subst (λ (shown : Result (Option (List ℕ)) ℕ). Answers (bytes_got buffer) cause result shown)
    (sym (shown_beside (inventory volumes) volumes name block.0 block.1 (named_of name valid))) answers

pub grows_fixed : (volumes later : List Volume) → later ≡ volumes → OnlyGrows (Some (with_inventory volumes)) (Some (with_inventory later))
grows_fixed volumes later same = rw same (extends_itself (with_inventory volumes))

-- ---- drives over volumes that do not change

abbrev pub shown_fixed : FixedDrive → Option (List Volume)
shown_fixed drive = Some (with_inventory drive.inner)

abbrev pub never_fails : FixedDrive → ℕ
never_fails drive = 0

-- they show the same after a restore
pub show_same : (old new : List FixedDrive) → StayInPlace shown_fixed never_fails old new → map shown_fixed new ≡ map shown_fixed old
show_same [] [] stay = refl
show_same [] (d ∷ ds) stay = absurd stay
show_same (d ∷ ds) [] stay = absurd stay
show_same (d ∷ ds) (e ∷ es) stay =
    ap₂ (λ (s : Option (List Volume)) (ss : Told). s ∷ ss) (ap (λ (vs : List Volume). Some (with_inventory vs)) (same_volumes d.inner e.inner stay.0.0))
    (show_same ds es stay.1)

-- each of them shows the volumes with their inventory
pub show_alike : (volumes : List Volume) (drives : List FixedDrive) → EachShows volumes drives
    → map shown_fixed drives ≡ replicate (length drives) (Some (with_inventory volumes))
show_alike volumes [] each = refl
show_alike volumes (d ∷ ds) each =
    ap₂ (λ (s : Option (List Volume)) (ss : Told). s ∷ ss) (ap (λ (vs : List Volume). Some (with_inventory vs)) each.0) (show_alike volumes ds each.1)

all_stand_beside : (n : ℕ) (shown volumes : List Volume) (pieces : List Piece) → AllByRecursion IsOnNamed pieces
    → AllStand (replicate n (Some shown)) (replicate n (Some shown)) pieces volumes
    → AllStand (replicate n (Some (with_inventory shown))) (replicate n (Some (with_inventory shown))) pieces (beside_unnamed (inventory shown) volumes)
all_stand_beside zero shown volumes pieces named stand = tt
all_stand_beside (suc n) shown volumes pieces named stand = (
  (extends_beside (inventory shown) shown volumes stand.0.0, stands_beside (inventory shown) shown volumes pieces named stand.0.1),
  all_stand_beside n shown volumes pieces named stand.1,
)

-- what holds over all volumes that such drives may be taken to show, holds over those of drives that
-- show the volumes alone
pub over_fixed : (n : ℕ) (shown : List Volume) (groups : List Group) (names : Option (List Planned)) → list_all is_group groups ≡ true → (holds : Said)
    → OverVolumes (replicate n (Some (with_inventory shown))) (replicate n (Some (with_inventory shown))) groups names holds
    → OverVolumes (replicate n (Some shown)) (replicate n (Some shown)) groups names holds
over_fixed n shown groups names valid holds over = λ volumes stand.
    let named = pieces_are_named groups valid in
    subst (λ (given : Result (List Restored) model.PieceFault). holds (refused_as OfPiece given)) (files_beside (inventory shown) volumes groups names named)
    (over (beside_unnamed (inventory shown) volumes) (all_stand_beside n shown volumes (pieces_of groups) named stand))
