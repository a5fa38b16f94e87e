-- What stays durable, and what a sync makes durable, on a disk over memory.
use Rattle.std.proofs.Common.{arith, ◌≡◌, ℕ, zero, suc, Bool, true, false, not, ◌||◌, cond, Option, Some, None, ◌+◌, List, [], ◌∷◌, ◌++◌, length, take, drop, refl, ap, sym, subst, ◌∙◌, append_assoc, length-append}
use Rattle.std.specs.Prelude.{bytes_eq, unwrap_or, ◌==◌}
use Rattle.std.specs.List.{list_any}
use Rattle.std.proofs.lemmas.Bool.{and_from}
use Rattle.std.proofs.lemmas.List.{append-nil, drop_at, take_all, take-append-drop}
use Rattle.std.proofs.lemmas.Option.{same_Some}
use Rattle.std.proofs.lemmas.Slice.Eq.{bytes_eq-Decides}
use Rattle.br_model.specs.Volume.{Volume, volume_bytes, Extends}
use Rattle.br_model.specs.SessionHolds.{bytes_of_volume}
use Rattle.br_fs.specs.Tree.{AreLonger, Tree}
use Rattle.br_fs.specs.Durable.{CrashesLeaveFronts, IsNamed, Lasts, NamesFiles, SyncsFile}
use Rattle.br_fs.specs.Memory.{durable_of, entries_in, is_in_folder, is_named, with_appended, with_synced}
use Rattle.br_fs.proofs.AppendLaws.{appended_is, shown_at, shown_cons, shown_nil}
use Rattle.br_fs.proofs.EmptyLaws.{below_true}

-- ---- what lasts

pub extends_itself : (volumes : List Volume) → Extends volumes volumes
extends_itself volumes name bytes found = ([], found ∙ ap Some (sym (append-nil bytes)))

pub lasts_itself : (durable : Option (List Volume)) → Lasts durable durable
lasts_itself None = tt
lasts_itself (Some volumes) = extends_itself volumes

pub lasts_same : (before after : Option (List Volume)) → after ≡ before → Lasts before after
lasts_same before after same = subst (λ (o : Option (List Volume)). Lasts before o) (sym same) (lasts_itself before)

pub extends_more : (earlier later last : List Volume) → Extends last later → Extends later earlier → Extends last earlier
extends_more earlier later last more some name bytes found =
    let p = some name bytes found in
    let q = more name (bytes ++ p.0) p.1 in
    (p.0 ++ q.0, q.1 ∙ ap Some (append_assoc bytes p.0 q.0))

pub lasts_more : (first second third : Option (List Volume)) → Lasts first second → Lasts second third → Lasts first third
lasts_more None None None one two = tt
lasts_more None None (Some c) one two = two
lasts_more None (Some b) third one two = absurd one
lasts_more (Some a) None third one two = absurd one
lasts_more (Some a) (Some b) None one two = two
lasts_more (Some a) (Some b) (Some c) one two = extends_more a b c two one

-- ---- what a crash leaves

pub crashes_leave_fronts_lem : CrashesLeaveFronts
crashes_leave_fronts_lem files durable more =
    (record { kept = more; fronts = extends_itself files }, record { kept = extends_itself durable; fronts = more })

-- ---- one file

no_bytes : (o : Option (List ℕ)) (own : List ℕ) → o ≡ None → o ≡ Some own → (P : Type 0) → P
no_bytes o own none some P = absurd cc

-- what is durable of a file is a front of it
pub front_of : (files : List Volume) (synced : List (List ℕ × ℕ)) (name own : List ℕ) → volume_bytes (durable_of files synced) name ≡ Some own
    → (rest : List ℕ) × (bytes_of_volume files name ≡ own ++ rest)
front_of files [] name own found = no_bytes (volume_bytes [] name) own (shown_nil name) found _
front_of files (s ∷ ss) name own found =
    let front = take s.1 (bytes_of_volume files s.0) in
    let shown = sym (shown_cons (record { name = s.0; bytes = front }) (durable_of files ss) name) ∙ found in
    elim (bytes_eq s.0 name) as (λ b. bytes_eq s.0 name ≡ b → shown_at b front (volume_bytes (durable_of files ss) name) ≡ Some own
    → (rest : List ℕ) × (bytes_of_volume files name ≡ own ++ rest)) [
      | true ↦ λ is some. (
        drop s.1 (bytes_of_volume files s.0),
        ap (bytes_of_volume files) (sym ((bytes_eq-Decides s.0 name).0 is)) ∙ sym (take-append-drop s.1 (bytes_of_volume files s.0))
            ∙ ap (λ (l : List ℕ). l ++ drop s.1 (bytes_of_volume files s.0)) (same_Some _ _ some),
      )
      | false ↦ λ is some. front_of files ss name own some
    ] refl shown

-- ---- files that grow

longer_take : (n : ℕ) (bytes more : List ℕ) → (rest : List ℕ) × (take n (bytes ++ more) ≡ take n bytes ++ rest)
longer_take zero bytes more = ([], refl)
longer_take (suc n) [] more = (take (suc n) more, refl)
longer_take (suc n) (b ∷ bs) more = let r = longer_take n bs more in (r.0, ap (λ (l : List ℕ). b ∷ l) r.1)

bytes_longer : (earlier later : List Volume) (name : List ℕ) → Extends later earlier → (more : List ℕ) × (bytes_of_volume later name ≡ bytes_of_volume earlier name ++ more)
bytes_longer earlier later name extends = go (volume_bytes earlier name) refl
  where
    go : (o : Option (List ℕ)) → volume_bytes earlier name ≡ o → (more : List ℕ) × (bytes_of_volume later name ≡ unwrap_or o [] ++ more)
    go None e = (bytes_of_volume later name, refl)
    go (Some bytes) e = let m = extends name bytes e in (m.0, ap (λ (o : Option (List ℕ)). unwrap_or o []) m.1)

pub files_last : (earlier later : List Volume) (synced : List (List ℕ × ℕ)) → Extends later earlier → Extends (durable_of later synced) (durable_of earlier synced)
files_last earlier later [] extends name own found = no_bytes (volume_bytes [] name) own (shown_nil name) found _
files_last earlier later (s ∷ ss) extends name own found =
    let was = take s.1 (bytes_of_volume earlier s.0) in
    let is = take s.1 (bytes_of_volume later s.0) in
    let m = bytes_longer earlier later s.0 extends in
    let r = longer_take s.1 (bytes_of_volume earlier s.0) m.0 in
    elim (bytes_eq s.0 name) as (λ b. shown_at b was (volume_bytes (durable_of earlier ss) name) ≡ Some own
    → volume_bytes (durable_of later (s ∷ ss)) name ≡ shown_at b is (volume_bytes (durable_of later ss) name)
    → (more : List ℕ) × (volume_bytes (durable_of later (s ∷ ss)) name ≡ Some (own ++ more))) [
      | true ↦ λ some now. (
        r.0,
        now ∙ ap (λ (l : List ℕ). Some (take s.1 l)) m.1 ∙ ap (λ (l : List ℕ). Some l) r.1 ∙ ap (λ (l : List ℕ). Some (l ++ r.0)) (same_Some _ _ some),
      )
      | false ↦ λ some now. let f = files_last earlier later ss extends name own some in (f.0, now ∙ f.1)
    ] (sym (shown_cons (record { name = s.0; bytes = was }) (durable_of earlier ss) name) ∙ found) (shown_cons (record { name = s.0; bytes = is }) (durable_of later ss) name)

-- bytes that are appended
pub longer_extends : (path bytes : List ℕ) (earlier later : List Volume) → AreLonger path bytes earlier later → Extends later earlier
longer_extends path bytes earlier later is name own e =
    elim (bytes_eq name path) as (λ b. bytes_eq name path ≡ b → volume_bytes later name ≡ cond b (Some (bytes_of_volume earlier path ++ bytes)) (volume_bytes earlier name)
    → (more : List ℕ) × (volume_bytes later name ≡ Some (own ++ more))) [
      | true ↦ λ same now. (bytes, now ∙ ap (λ (o : Option (List ℕ)). Some (unwrap_or o [] ++ bytes)) (ap (volume_bytes earlier) (sym ((bytes_eq-Decides name path).0 same)) ∙ e))
      | false ↦ λ other now. ([], now ∙ e ∙ ap (λ (bs : List ℕ). Some bs) (sym (append-nil own)))
    ] refl (is name)

pub appended_lasts : (path bytes : List ℕ) (earlier later : List Volume) (synced now : List (List ℕ × ℕ)) → later ≡ with_appended path bytes earlier → now ≡ synced
    → Lasts (Some (durable_of earlier synced)) (Some (durable_of later now))
appended_lasts path bytes earlier later synced now is same =
    subst (λ (ss : List (List ℕ × ℕ)). Extends (durable_of later ss) (durable_of earlier synced)) (sym same)
    (files_last earlier later synced (longer_extends path bytes earlier later (appended_is path bytes earlier later is)))

-- ---- a file that is synced

module _ (files : List Volume) (path : List ℕ) where
  abbrev all : List ℕ
  all = bytes_of_volume files path

  abbrev entry : List ℕ × ℕ
  entry = (path, length all)

  entry_shown : (synced : List (List ℕ × ℕ)) (name : List ℕ) → volume_bytes (durable_of files (entry ∷ synced)) name
      ≡ shown_at (bytes_eq path name) all (volume_bytes (durable_of files synced) name)
  entry_shown synced name =
      shown_cons (record { name = path; bytes = take (length all) all }) (durable_of files synced) name
      ∙ ap (λ (l : List ℕ). shown_at (bytes_eq path name) l (volume_bytes (durable_of files synced) name)) (take_all (length all) all (omega arith))

  entry_last : (synced : List (List ℕ × ℕ)) → Extends (durable_of files (entry ∷ synced)) (durable_of files synced)
  entry_last synced name own found =
      elim (bytes_eq path name) as (λ b. bytes_eq path name ≡ b → volume_bytes (durable_of files (entry ∷ synced)) name ≡ shown_at b all (volume_bytes (durable_of files synced) name)
      → (more : List ℕ) × (volume_bytes (durable_of files (entry ∷ synced)) name ≡ Some (own ++ more))) [
        | true ↦ λ is now.
            let front = front_of files synced name own found in
            (front.0, now ∙ ap (λ (n : List ℕ). Some (bytes_of_volume files n)) ((bytes_eq-Decides path name).0 is) ∙ ap (λ (l : List ℕ). Some l) front.1)
        | false ↦ λ is now. ([], now ∙ found ∙ ap (λ (l : List ℕ). Some l) (sym (append-nil own)))
      ] refl (entry_shown synced name)

  pub synced_last : (was : List Volume) (synced now : List (List ℕ × ℕ)) → was ≡ files → now ≡ with_synced path (length all) synced
      → Lasts (Some (durable_of was synced)) (Some (durable_of files now))
  synced_last was synced now same is =
      subst (λ (vs : List Volume). Extends (durable_of files now) (durable_of vs synced)) (sym same)
      (subst (λ (ss : List (List ℕ × ℕ)). Extends (durable_of files ss) (durable_of files synced)) (sym is) (go (is_named synced path)))
    where
      go : (b : Bool) → Extends (durable_of files (cond b (entry ∷ synced) synced)) (durable_of files synced)
      go true = entry_last synced
      go false = extends_itself (durable_of files synced)

  none_shown : (b c : Bool) (bytes : List ℕ) (found : Option (List ℕ)) → (b || c) ≡ false → (c ≡ false → found ≡ None) → shown_at b bytes found ≡ None
  none_shown true c bytes found none rest = absurd cc
  none_shown false c bytes found none rest = rest none

  not_named : (synced : List (List ℕ × ℕ)) → is_named synced path ≡ false → volume_bytes (durable_of files synced) path ≡ None
  not_named [] none = shown_nil path
  not_named (s ∷ ss) none =
      shown_cons (record { name = s.0; bytes = take s.1 (bytes_of_volume files s.0) }) (durable_of files ss) path
      ∙ none_shown (bytes_eq s.0 path) (is_named ss path) (take s.1 (bytes_of_volume files s.0)) (volume_bytes (durable_of files ss) path) none (not_named ss)

  named_durable : (synced : List (List ℕ × ℕ)) (bytes : List ℕ) (b : Bool) → IsNamed (durable_of files synced) path → volume_bytes files path ≡ Some bytes
      → (b ≡ false → volume_bytes (durable_of files synced) path ≡ None)
      → (more : List ℕ) × (volume_bytes (durable_of files (cond b (entry ∷ synced) synced)) path ≡ Some (bytes ++ more))
  named_durable synced bytes true named own none = (
    [],
    entry_shown synced path
        ∙ ap (λ (b : Bool). shown_at b all (volume_bytes (durable_of files synced) path)) ((bytes_eq-Decides path path).1 refl)
        ∙ ap (λ (o : Option (List ℕ)). Some (unwrap_or o [])) own ∙ ap (λ (l : List ℕ). Some l) (sym (append-nil bytes)),
  )
  named_durable synced bytes false named own none = no_bytes (volume_bytes (durable_of files synced) path) named.0 (none refl) named.1 _

  pub synced_durable : (tree : Tree) (synced now : List (List ℕ × ℕ)) → tree.files ≡ files → now ≡ with_synced path (length all) synced
      → SyncsFile path (Some tree) (Some (durable_of tree.files synced)) (Some (durable_of files now))
  synced_durable tree synced now tree_is is named bytes found =
      subst (λ (ss : List (List ℕ × ℕ)). (more : List ℕ) × (volume_bytes (durable_of files ss) path ≡ Some (bytes ++ more))) (sym is)
      (named_durable synced bytes (is_named synced path)
      (subst (λ (vs : List Volume). IsNamed (durable_of vs synced) path) tree_is named)
      (ap (λ (fs : List Volume). volume_bytes fs path) (sym tree_is) ∙ found) (not_named synced))

-- ---- a folder that is synced

module _ (all : List Volume) where
  ended_last : (synced entries : List (List ℕ × ℕ)) → Extends (durable_of all (synced ++ entries)) (durable_of all synced)
  ended_last [] entries name own found = no_bytes (volume_bytes [] name) own (shown_nil name) found _
  ended_last (s ∷ ss) entries name own found =
      let front = take s.1 (bytes_of_volume all s.0) in
      elim (bytes_eq s.0 name) as (λ b. shown_at b front (volume_bytes (durable_of all ss) name) ≡ Some own
      → volume_bytes (durable_of all (s ∷ ss ++ entries)) name ≡ shown_at b front (volume_bytes (durable_of all (ss ++ entries)) name)
      → (more : List ℕ) × (volume_bytes (durable_of all (s ∷ ss ++ entries)) name ≡ Some (own ++ more))) [
        | true ↦ λ some now. ([], now ∙ some ∙ ap (λ (l : List ℕ). Some l) (sym (append-nil own)))
        | false ↦ λ some now. let e = ended_last ss entries name own some in (e.0, now ∙ e.1)
      ] (sym (shown_cons (record { name = s.0; bytes = front }) (durable_of all ss) name) ∙ found) (shown_cons (record { name = s.0; bytes = front }) (durable_of all (ss ++ entries)) name)

  pub entries_last : (was : List Volume) (synced entries now : List (List ℕ × ℕ)) → was ≡ all → now ≡ synced ++ entries
      → Lasts (Some (durable_of was synced)) (Some (durable_of all now))
  entries_last was synced entries now same is =
      subst (λ (vs : List Volume). Extends (durable_of all now) (durable_of vs synced)) (sym same)
      (subst (λ (ss : List (List ℕ × ℕ)). Extends (durable_of all ss) (durable_of all synced)) (sym is) (ended_last synced entries))

  -- names at the end of others
  ended_named : (synced entries : List (List ℕ × ℕ)) (path : List ℕ) → IsNamed (durable_of all entries) path → IsNamed (durable_of all (synced ++ entries)) path
  ended_named [] entries path is = is
  ended_named (s ∷ ss) entries path is =
      let front = take s.1 (bytes_of_volume all s.0) in
      elim (bytes_eq s.0 path) as (λ b. volume_bytes (durable_of all (s ∷ ss ++ entries)) path ≡ shown_at b front (volume_bytes (durable_of all (ss ++ entries)) path)
      → IsNamed (durable_of all (s ∷ ss ++ entries)) path) [
        | true ↦ λ now. (front, now)
        | false ↦ λ now. let n = ended_named ss entries path is in (n.0, now ∙ n.1)
      ] (shown_cons (record { name = s.0; bytes = front }) (durable_of all (ss ++ entries)) path)

  module _ (folder : List ℕ) where
    entry_named : (files : List Volume) (path bytes : List ℕ) → is_in_folder folder path ≡ true → volume_bytes files path ≡ Some bytes
        → IsNamed (durable_of all (entries_in folder files)) path
    entry_named [] path bytes within found = no_bytes (volume_bytes [] path) bytes (shown_nil path) found _
    entry_named (f ∷ fs) path bytes within found =
        elim (bytes_eq f.name path) as (λ b. bytes_eq f.name path ≡ b → shown_at b f.bytes (volume_bytes fs path) ≡ Some bytes → IsNamed (durable_of all (entries_in folder (f ∷ fs))) path) [
          | true ↦ λ is some. first is (is_in_folder folder f.name) (ap (is_in_folder folder) ((bytes_eq-Decides f.name path).0 is) ∙ within)
          | false ↦ λ is some. ended_named (cond (is_in_folder folder f.name) ((f.name, 0) ∷ []) []) (entries_in folder fs) path (entry_named fs path bytes within some)
        ] refl (sym (shown_cons f fs path) ∙ found)
      where
        first : bytes_eq f.name path ≡ true → (b : Bool) → b ≡ true → IsNamed (durable_of all (cond b ((f.name, 0) ∷ []) [] ++ entries_in folder fs)) path
        first is true e =
            let front = take 0 (bytes_of_volume all f.name) in (
              front,
              shown_cons (record { name = f.name; bytes = front }) (durable_of all (entries_in folder fs)) path
                  ∙ ap (λ (b : Bool). shown_at b front (volume_bytes (durable_of all (entries_in folder fs)) path)) is,
            )
        first is false e = absurd cc

    in_folder : (name : List ℕ) → list_any (λ b. b == 47) name ≡ false → is_in_folder folder (folder ++ 47 ∷ name) ≡ true
    in_folder name plain =
        and_from _ _ (below_true folder (folder ++ 47 ∷ name) (name, refl))
        (ap (λ (l : List ℕ). not (list_any (λ b. b == 47) l)) (after_slash name) ∙ ap not plain)
      where
        after_slash : (name : List ℕ) → drop (length folder + 1) (folder ++ 47 ∷ name) ≡ name
        after_slash name =
            ap (drop (length folder + 1)) (sym (append_assoc folder (47 ∷ []) name)) ∙ drop_at (folder ++ 47 ∷ []) name (length folder + 1) (length-append folder (47 ∷ []))

    pub entries_named : (tree : Tree) (synced entries now : List (List ℕ × ℕ)) → tree.files ≡ all → entries ≡ entries_in folder all → now ≡ synced ++ entries
        → NamesFiles folder (Some tree) (Some (durable_of all now))
    entries_named tree synced entries now tree_is are is name bytes plain found =
        subst (λ (ss : List (List ℕ × ℕ)). IsNamed (durable_of all ss) (folder ++ 47 ∷ name)) (sym (is ∙ ap (λ (es : List (List ℕ × ℕ)). synced ++ es) are))
        (ended_named synced (entries_in folder all) (folder ++ 47 ∷ name)
        (entry_named all (folder ++ 47 ∷ name) bytes (in_folder name plain) (ap (λ (fs : List Volume). volume_bytes fs (folder ++ 47 ∷ name)) (sym tree_is) ∙ found)))
