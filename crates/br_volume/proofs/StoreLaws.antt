-- What appending to files makes of the volumes of a folder.
use Rattle.std.proofs.Common.{◌≡◌, ℕ, ◌+◌, Bool, cond, Option, Some, None, Result, Ok, Err, OnOk, OnErr, List, [], ◌++◌, length, drop, refl, ap, sym, ◌∙◌, inl, inr}
use Rattle.std.specs.Prelude.{bytes_eq, unwrap_or}
use Rattle.std.proofs.lemmas.Slice.Eq.{bytes_eq-Decides}
use Rattle.std.proofs.lemmas.Bool.Decides.{same_from_decides}
use Rattle.br_model.specs.Volume.{volume_bytes}
use Rattle.br_model.specs.SessionHolds.{bytes_of_volume}
use Rattle.br_fs.specs.Tree.{Tree, IsLonger}
use Rattle.br_fs.specs.Calls.{Appends, IsFound, IsNoFile}
use Rattle.br_fs.specs.Append.{AppendsInPart}
use Rattle.br_fs.specs.declared.kind.Kind.TheVariants.{File}
use Rattle.br_fs.proofs.AppendLaws.{appends_both}
use Rattle.br_volume.specs.Store.{AppendsTo, AppendsInPartTo, IsAppended, IsLengthIn}
use Rattle.br_volume.specs.Folder.{CanAppend, file_path, volumes_in, volumes_told}
use Rattle.br_volume.proofs.FolderLaws.{name_of, volume_below}

module _ (folder : List ℕ) where
  -- two names are the same if their paths are
  same_names : (one two : List ℕ) → bytes_eq (file_path folder one) (file_path folder two) ≡ bytes_eq one two
  same_names one two =
      let paths = bytes_eq-Decides (file_path folder one) (file_path folder two) in
      let names = bytes_eq-Decides one two in
      same_from_decides (bytes_eq (file_path folder one) (file_path folder two)) (bytes_eq one two) paths (
        (λ h. ap (file_path folder) (names.0 h)),
        (λ h. names.1 (sym (name_of folder one) ∙ ap (drop (length folder + 1)) h ∙ name_of folder two)),
      )

  -- bytes that are appended to a volume's file are appended to the volume
  appended_below : (volume bytes : List ℕ) (earlier later : Tree) → IsLonger (file_path folder volume) bytes earlier later
      → IsAppended volume bytes (volumes_in folder earlier.files) (volumes_in folder later.files)
  appended_below volume bytes earlier later long name =
      volume_below folder name later.files
      ∙ long.files (file_path folder name)
      ∙ ap (λ (b : Bool). cond b (Some (bytes_of_volume earlier.files (file_path folder volume) ++ bytes))
      (volume_bytes earlier.files (file_path folder name))) (same_names name volume)
      ∙ ap (λ (o : Option (List ℕ)). cond (bytes_eq name volume) (Some (unwrap_or o [] ++ bytes))
      (volume_bytes earlier.files (file_path folder name))) (sym (volume_below folder volume earlier.files))
      ∙ ap (λ (o : Option (List ℕ)). cond (bytes_eq name volume)
      (Some (bytes_of_volume (volumes_in folder earlier.files) volume ++ bytes)) o) (sym (volume_below folder name earlier.files))

  pub appends_below : (volume bytes : List ℕ) (earlier later : Option Tree) → Appends (file_path folder volume) bytes earlier later
      → AppendsTo volume bytes (volumes_told folder earlier) (volumes_told folder later)
  appends_below volume bytes None None a = tt
  appends_below volume bytes None (Some l) a = absurd a
  appends_below volume bytes (Some e) None a = absurd a
  appends_below volume bytes (Some e) (Some l) a = appended_below volume bytes e l a

  -- a disk that stays the same
  pub none_below : (volume bytes : List ℕ) (earlier later : Option Tree) → later ≡ earlier
      → AppendsInPartTo volume bytes (volumes_told folder earlier) (volumes_told folder later)
  none_below volume bytes None later same = rw same tt
  none_below volume bytes (Some e) later same = rw same (inl refl)

  pub part_below : (volume bytes : List ℕ) (earlier later : Option Tree) → AppendsInPart (file_path folder volume) bytes earlier later
      → AppendsInPartTo volume bytes (volumes_told folder earlier) (volumes_told folder later)
  part_below volume bytes earlier later (inl same) = none_below volume bytes earlier later same
  part_below volume bytes None None (inr a) = tt
  part_below volume bytes None (Some l) (inr a) = absurd a.3
  part_below volume bytes (Some e) None (inr a) = absurd a.3
  part_below volume bytes (Some e) (Some l) (inr a) = inr (a.0, a.1, a.2, appended_below volume a.0 e l a.3)

  -- the length of a volume is that of its file, and 0 if there is no file
  pub length_below : (volume : List ℕ) (earlier later : Option Tree) (n : ℕ) → later ≡ earlier → IsFound later (file_path folder volume) File n
      → IsLengthIn (volumes_told folder earlier) volume n
  length_below volume None later n same found = tt
  length_below volume (Some e) later n same found =
      let f : IsFound (Some e) (file_path folder volume) File n = rw same at found in
      f.2 ∙ ap (λ (o : Option (List ℕ)). length (unwrap_or o [])) (sym (volume_below folder volume e.files ∙ f.1))

  pub no_length_below : (volume : List ℕ) (earlier later : Option Tree) → later ≡ earlier → IsNoFile later (file_path folder volume)
      → IsLengthIn (volumes_told folder earlier) volume 0
  no_length_below volume None later same none = tt
  no_length_below volume (Some e) later same none =
      let f : IsNoFile (Some e) (file_path folder volume) = rw same at none in
      ap (λ (o : Option (List ℕ)). length (unwrap_or o [])) (sym (volume_below folder volume e.files ∙ f))

-- after a file is ready, bytes are appended to it
pub after_ready : (path bytes : List ℕ) (first second third : Option Tree) → CanAppend path first second → Appends path bytes second third
    → Appends path bytes first third
after_ready path bytes first second third (inl same) a = rw same at a
after_ready path bytes first second third (inr made) a = appends_both path [] bytes first second third made a

pub part_after_ready : (path bytes : List ℕ) (first second third : Option Tree) → CanAppend path first second
    → AppendsInPart path bytes second third → AppendsInPart path bytes first third
part_after_ready path bytes first second third ready (inr a) = inr (a.0, a.1, a.2, after_ready path a.0 first second third ready a.3)
part_after_ready path bytes first second third (inl same) (inl kept) = inl (kept ∙ same)
part_after_ready path bytes first second third (inr made) (inl kept) = inr ([], bytes, refl, rw (sym kept) at made)

pub ready_held : (path : List ℕ) (told : Option Tree) → CanAppend path told told
ready_held path told = inl refl

pub ready_same : {A E : Type 0} (result : Result A E) (path : List ℕ) (first second third : Option Tree) → second ≡ first → third ≡ second
    → OnOk result (CanAppend path first third)
ready_same (Ok x) path first second third one two = inl (two ∙ one)
ready_same (Err e) path first second third one two = tt

pub ready_made : {A E : Type 0} (result : Result A E) (path : List ℕ) (first second third : Option Tree) → second ≡ first
    → OnOk result (Appends path [] second third) → OnOk result (CanAppend path first third)
ready_made (Ok x) path first second third same made = inr (rw same at made)
ready_made (Err e) path first second third same made = tt

-- what a call gave of a file is what the folder gives of a volume
pub appends_at : {A E : Type 0} (result : Result A E) (folder volume path bytes : List ℕ) (earlier later : Option Tree)
    → path ≡ file_path folder volume → OnOk result (Appends path bytes earlier later)
    → OnOk result (AppendsTo volume bytes (volumes_told folder earlier) (volumes_told folder later))
appends_at (Ok x) folder volume path bytes earlier later is all = appends_below folder volume bytes earlier later (rw is at all)
appends_at (Err e) folder volume path bytes earlier later is all = tt

pub part_at : {A E : Type 0} (result : Result A E) (folder volume path bytes : List ℕ) (earlier later : Option Tree)
    → path ≡ file_path folder volume → OnErr result (AppendsInPart path bytes earlier later)
    → OnErr result (AppendsInPartTo volume bytes (volumes_told folder earlier) (volumes_told folder later))
part_at (Ok x) folder volume path bytes earlier later is part = tt
part_at (Err e) folder volume path bytes earlier later is part = part_below folder volume bytes earlier later (rw is at part)

pub length_at : (folder volume path : List ℕ) (earlier later : Option Tree) (n : ℕ) → path ≡ file_path folder volume → later ≡ earlier
    → IsFound later path File n → IsLengthIn (volumes_told folder earlier) volume n
length_at folder volume path earlier later n is same found = length_below folder volume earlier later n same (rw is at found)

pub no_length_at : (folder volume path : List ℕ) (earlier later : Option Tree) → path ≡ file_path folder volume → later ≡ earlier
    → IsNoFile later path → IsLengthIn (volumes_told folder earlier) volume 0
no_length_at folder volume path earlier later is same none = no_length_below folder volume earlier later same (rw is at none)
