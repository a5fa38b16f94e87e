-- The volumes of a folder.
use Rattle.std.proofs.Common.{◌≡◌, ℕ, ◌+◌, true, false, cond, Option, Some, None, List, [], ◌∷◌, ◌++◌, length, take, drop, refl, ap, sym, ◌∙◌, arith, append_assoc, append-nil, length-append, length-drop, ◌-◌, ◌<◌, ◌≤◌, ◌^◌, min, inl, inr, Result, Ok, Err, IfOk, IfErr}
use Rattle.std.specs.Prelude.{bytes_eq}
use Rattle.std.proofs.lemmas.List.{take_at, drop_at, take-append-drop, length-take, take-take, take_all}
use Rattle.std.proofs.lemmas.Slice.Eq.{bytes_eq-Decides}
use Rattle.std.proofs.lemmas.Bool.Decides.{same_from_decides}
use Rattle.br_model.specs.Volume.{Volume, volume_bytes, Extends}
use Rattle.std.proofs.lemmas.Bool.{le-ltb, lt-ltb, cases_lt}
use Rattle.br_fs.specs.Tree.{Tree}
use Rattle.br_fs.specs.Calls.{IsFile, IsNoFile, IsFound}
use Rattle.br_fs.specs.Read.{IsWhole}
use Rattle.br_fs.specs.declared.kind.Kind.{Kind}
use Rattle.br_fs.specs.declared.kind.Kind.TheVariants.{File}
use Rattle.br_volume.specs.Drive.{AnswersOver, OnlyGrows, IsSized, bytes_from, bytes_shown}
use Rattle.br_volume.specs.declared.drive.Got.{Got}
use Rattle.br_volume.specs.declared.drive.Got.TheVariants.{Block, End}
use Rattle.br_volume.specs.declared.fault.DriveFault.{DriveFault}
use Rattle.br_volume.specs.declared.fault.DriveFault.TheVariants.{Memory, Fault, UnknownVolume}
use Rattle.br_volume.specs.Folder.{HasBlock, IsCut, file_path, volumes_in, volumes_told}
use Rattle.br_fs.proofs.AppendLaws.{shown_cons, shown_nil}

module _ (folder : List ℕ) where
  abbrev k : ℕ
  k = length folder + 1

  abbrev front : List ℕ
  front = folder ++ 47 ∷ []

  long : length front ≡ k
  long = length-append folder (47 ∷ [])

  joined : (name : List ℕ) → front ++ name ≡ file_path folder name
  joined name = append_assoc folder (47 ∷ []) name

  front_of : (name : List ℕ) → take k (file_path folder name) ≡ front
  front_of name = ap (take k) (sym (joined name)) ∙ take_at front name k long

  pub name_of : (name : List ℕ) → drop k (file_path folder name) ≡ name
  name_of name = ap (drop k) (sym (joined name)) ∙ drop_at front name k long

  -- a path in the folder has the name that is looked for, or has not
  same_test : (path name : List ℕ) → bytes_eq (take k path) front ≡ true → bytes_eq (drop k path) name ≡ bytes_eq path (file_path folder name)
  same_test path name within =
      let d = bytes_eq-Decides path (file_path folder name) in
      let is = (bytes_eq-Decides (take k path) front).0 within in
      same_from_decides (bytes_eq (drop k path) name) (bytes_eq path (file_path folder name)) (bytes_eq-Decides (drop k path) name) (
        (λ h. ap (drop k) (d.0 h) ∙ name_of name),
        (λ h. d.1 (sym (take-append-drop k path) ∙ ap (λ (l : List ℕ). l ++ drop k path) is ∙ ap (λ (l : List ℕ). front ++ l) h ∙ joined name)),
      )

  apart : (path name : List ℕ) → bytes_eq (take k path) front ≡ false → bytes_eq path (file_path folder name) ≡ false
  apart path name beside =
      elim (bytes_eq path (file_path folder name)) as (λ b. bytes_eq path (file_path folder name) ≡ b → b ≡ false) [
        | true ↦ λ is. let within = (bytes_eq-Decides (take k path) front).1 (ap (take k) ((bytes_eq-Decides path (file_path folder name)).0 is) ∙ front_of name) in absurd cc
        | false ↦ λ is. refl
      ] refl

  -- a look-up among the volumes is one among the files
  pub volume_below : (name : List ℕ) (files : List Volume) → volume_bytes (volumes_in folder files) name ≡ volume_bytes files (file_path folder name)
  volume_below name [] = shown_nil name ∙ sym (shown_nil (file_path folder name))
  volume_below name (f ∷ fs) =
      elim (bytes_eq (take k f.name) front) as (λ b. bytes_eq (take k f.name) front ≡ b
      → volume_bytes (cond b (record { name = drop k f.name; bytes = f.bytes } ∷ []) [] ++ volumes_in folder fs) name ≡ volume_bytes (f ∷ fs) (file_path folder name)) [
        | true ↦ λ is. shown_cons (record { name = drop k f.name; bytes = f.bytes }) (volumes_in folder fs) name
            ∙ rw (same_test f.name name is, volume_below name fs) refl
            ∙ sym (shown_cons f fs (file_path folder name))
        | false ↦ λ is. volume_below name fs
            ∙ rw (apart f.name name is) refl
            ∙ sym (shown_cons f fs (file_path folder name))
      ] refl

end_at : (bytes : List ℕ) (a size : ℕ) → length bytes ≤ a → bytes_from bytes a size ≡ None
end_at bytes a size past = rw (le-ltb a (length bytes) past) refl

some_at : (bytes : List ℕ) (a size : ℕ) → a < length bytes → bytes_from bytes a size ≡ Some (take size (drop a bytes))
some_at bytes a size before = rw (lt-ltb a (length bytes) before) refl

-- bytes that are cut, if enough were read
cut_at : (bytes : List ℕ) (a wanted size : ℕ) → min size (2 ^ 63 - 1 - a) ≤ wanted → length bytes < 2 ^ 63
    → take size (take wanted (drop a bytes)) ≡ take size (drop a bytes)
cut_at bytes a wanted size enough short =
    let dropped = length-drop a bytes in
    elim (cases_lt wanted size) [
      | inl below ↦ ap (take size) (take_all wanted (drop a bytes) (omega arith))
      | inr above ↦ take-take size wanted (drop a bytes) above
    ]

-- if a file was read, the volume shows its bytes
pub shown_of : (folder name : List ℕ) (told : Option Tree) (address size : ℕ) (buffer : List ℕ) (got : Got)
    → HasBlock told (file_path folder name) address size buffer got
    → AnswersOver (volumes_told folder told) name (address, size) buffer (Ok got)
unfolding bytes_shown
shown_of folder name None address size buffer got has = tt
shown_of folder name (Some tree) address size buffer got has =
    rw (volume_below folder name tree.files, has.1, has.2) refl

-- if there is no file, there is no volume
pub unknown_of : (folder name : List ℕ) (told : Option Tree) (address size : ℕ) (buffer : List ℕ)
    → IsNoFile told (file_path folder name) → AnswersOver (volumes_told folder told) name (address, size) buffer (Err UnknownVolume)
unfolding bytes_shown
unknown_of folder name None address size buffer none = tt
unknown_of folder name (Some tree) address size buffer none = rw (volume_below folder name tree.files, none) refl

-- any other refusal may come at any time
pub refused_of : (folder name : List ℕ) (told : Option Tree) (address size : ℕ) (buffer : List ℕ) (fault : DriveFault)
    → (fault ≡ UnknownVolume → IsNoFile told (file_path folder name)) → AnswersOver (volumes_told folder told) name (address, size) buffer (Err fault)
refused_of folder name told address size buffer UnknownVolume none = unknown_of folder name told address size buffer (none refl)
refused_of folder name None address size buffer Memory none = tt
refused_of folder name (Some tree) address size buffer Memory none = tt
refused_of folder name None address size buffer Fault none = tt
refused_of folder name (Some tree) address size buffer Fault none = tt

pub answer_of : (folder name : List ℕ) (told : Option Tree) (address size : ℕ) (buffer : List ℕ) (answer : Result Got DriveFault)
    → IfOk answer (λ got. HasBlock told (file_path folder name) address size buffer got)
    → (answer ≡ Err UnknownVolume → IsNoFile told (file_path folder name)) → AnswersOver (volumes_told folder told) name (address, size) buffer answer
answer_of folder name told address size buffer (Ok got) has none = shown_of folder name told address size buffer got has
answer_of folder name told address size buffer (Err fault) has none =
    refused_of folder name told address size buffer fault (λ e. none (ap Err e))

extends_itself : (vs : List Volume) → Extends vs vs
extends_itself vs name own e = ([], e ∙ ap (λ (bs : List ℕ). Some bs) (sym (append-nil own)))

-- a tree that stays the same
pub same_grows : (folder : List ℕ) (first second : Option Tree) → second ≡ first → OnlyGrows (volumes_told folder first) (volumes_told folder second)
same_grows folder None second same = rw same tt
same_grows folder (Some tree) second same = rw same (extends_itself (volumes_in folder tree.files))

-- what is found to be a file is one of this length
pub len_is : (result : Result ℕ DriveFault) (told : Option Tree) (path : List ℕ) (kind : Kind) (len : ℕ)
    → IfOk result (λ n. (kind ≡ File) × (n ≡ len)) → IsFound told path kind len → IfOk result (λ n. IsFound told path File n)
len_is (Ok n) told path kind len is found = rw is.1 (rw is.0 at found)
len_is (Err fault) told path kind len is found = tt

-- what is found and is no file is not missing
pub never_unknown : (result : Result ℕ DriveFault) (told : Option Tree) (path : List ℕ) → IfErr result (λ fault. fault ≡ Fault)
    → result ≡ Err UnknownVolume → IsNoFile told path
never_unknown (Ok n) told path other is = absurd cc
never_unknown (Err fault) told path other is =
    let same : fault ≡ UnknownVolume = cc in let never : Fault ≡ UnknownVolume = sym other ∙ same in absurd cc

pub file_of : (told : Option Tree) (path : List ℕ) (n : ℕ) → IsFound told path File n → IsFile told path
file_of None path n found = tt
file_of (Some tree) path n found = (found.0, found.1, tt)

-- an address at a file's end or past it
pub past_of : (told : Option Tree) (path : List ℕ) (n address size : ℕ) (buffer : List ℕ) → n ≤ address
    → IsFound told path File n → HasBlock told path address size buffer End
past_of None path n address size buffer past found = tt
past_of (Some tree) path n address size buffer past found =
    (found.0, found.1, sym (end_at found.0 address size (omega (arith, found.2))))

-- what was read is a block, or the end
pub block_end : (told : Option Tree) (path : List ℕ) (a wanted size : ℕ) (buffer : List ℕ) → 0 < wanted → length buffer ≡ 0
    → IsWhole told path a wanted buffer → HasBlock told path a size buffer End
block_end None path a wanted size buffer some none whole = tt
block_end (Some tree) path a wanted size buffer some none whole =
    let long = ap (λ (l : List ℕ). length l) whole.2.0 ∙ length-take wanted (drop a whole.0) in
    let dropped = length-drop a whole.0 in
    let past : length whole.0 ≤ a = omega arith in
    (whole.0, whole.1, sym (end_at whole.0 a size past))

pub block_got : (told : Option Tree) (path : List ℕ) (a wanted size n : ℕ) (buffer : List ℕ)
    → min size (2 ^ 63 - 1 - a) ≤ wanted → 0 < length buffer
    → IsWhole told path a wanted buffer → HasBlock told path a size (take size buffer) (Block n)
block_got None path a wanted size n buffer enough some whole = tt
block_got (Some tree) path a wanted size n buffer enough some whole =
    let long = ap (λ (l : List ℕ). length l) whole.2.0 ∙ length-take wanted (drop a whole.0) in
    let dropped = length-drop a whole.0 in
    let before : a < length whole.0 = omega arith in
    (whole.0, whole.1, ap (λ (l : List ℕ). Some (take size l)) whole.2.0 ∙ ap (λ (l : List ℕ). Some l) (cut_at whole.0 a wanted size enough whole.2.1) ∙ sym (some_at whole.0 a size before))

-- what was read and cut is the block
pub cut_block : (told : Option Tree) (path : List ℕ) (a wanted size : ℕ) (was now : List ℕ) (got : Got) → 0 < wanted
    → min size (2 ^ 63 - 1 - a) ≤ wanted → IsWhole told path a wanted was → IsCut size was now got → HasBlock told path a size now got
cut_block told path a wanted size was now End some enough whole is =
    block_end told path a wanted size was some (ap (λ (l : List ℕ). length l) is.0) whole
cut_block told path a wanted size was now (Block n) some enough whole is =
    rw is.1 (block_got told path a wanted size n was enough is.0 whole)

pub cut_sized : (a wanted size : ℕ) (was now : List ℕ) (got : Got) → a + wanted < 2 ^ 63 → length was ≤ wanted → IsCut size was now got
    → IsSized a size now got
cut_sized a wanted size was now End room fits is = is.1
cut_sized a wanted size was now (Block n) room fits is =
    let long : length now ≡ min size (length was) = ap (λ (l : List ℕ). length l) is.1 ∙ length-take size was in
    let same : n ≡ length now = is.2 in
    (same, omega arith, omega arith)

-- the same of a path that is the volume's
pub answer_at : (folder name path : List ℕ) (told : Option Tree) (block : ℕ × ℕ) (buffer : List ℕ) (answer : Result Got DriveFault)
    → path ≡ file_path folder name → IfOk answer (λ got. HasBlock told path block.0 block.1 buffer got)
    → (answer ≡ Err UnknownVolume → IsNoFile told path) → AnswersOver (volumes_told folder told) name block buffer answer
answer_at folder name path told block buffer answer is has none =
    answer_of folder name told block.0 block.1 buffer answer (rw is at has) (rw is at none)

-- a fault that says nothing of the volume
pub refused_at : (folder name : List ℕ) (told : Option Tree) (block : ℕ × ℕ) (buffer : List ℕ) (fault : DriveFault)
    → (fault ≡ UnknownVolume → ⊥) → AnswersOver (volumes_told folder told) name block buffer (Err fault)
refused_at folder name told block buffer fault other =
    refused_of folder name told block.0 block.1 buffer fault (λ e. absurd (other e))
