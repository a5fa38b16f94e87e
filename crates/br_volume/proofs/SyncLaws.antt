-- What stays durable of volumes, and what a sync makes durable.
use Rattle.std.proofs.Common.{◌≡◌, ℕ, Bool, true, false, ◌||◌, Option, Some, None, Result, Ok, Err, OnOk, List, [], ◌∷◌, ◌++◌, refl, ap, sym, subst, ◌∙◌}
use Rattle.std.specs.Prelude.{◌==◌}
use Rattle.std.specs.List.{list_all, list_any}
use Rattle.std.proofs.lemmas.Bool.{and_parts, both_ways, eqb-true}
use Rattle.std.proofs.lemmas.List.{append-nil}
use Rattle.br_model.specs.Name.{is_name, is_name_byte, is_volume_name}
use Rattle.br_model.specs.Volume.{Volume, volume_bytes, Extends}
use Rattle.br_fs.specs.Tree.{Tree}
use Rattle.br_fs.specs.Calls.{IsNoFile}
use Rattle.br_fs.specs.Durable.{IsNamed, Lasts, NamesFiles, SyncsFile}
use Rattle.br_fs.proofs.AppendLaws.{appended_is}
-- of two calls one after the other
pub use Rattle.br_fs.proofs.DurableLaws.{lasts_itself, lasts_more, lasts_same}
use Rattle.br_volume.specs.Folder.{AreNamedIf, IsNamedAt, IsPlain, IsSyncedAt, IsSyncedBelow, durable_told, file_path}
use Rattle.br_volume.specs.MemStore.{with_appended}
use Rattle.br_volume.specs.Store.{IsAppendedInPart, IsDurableIn}
use Rattle.br_volume.proofs.AppendLaws.{appended_extends, part_extends}
use Rattle.br_volume.proofs.ExtendLaws.{extends_itself}
use Rattle.br_volume.proofs.FolderLaws.{volume_below}

-- ---- a store over memory

pub durable_itself : (volumes : List Volume) (volume : List ℕ) → IsDurableIn (Some volumes) (Some volumes) volume
durable_itself volumes volume bytes found = ([], found ∙ ap (λ (l : List ℕ). Some l) (sym (append-nil bytes)))

pub store_lasts : (earlier later : List Volume) → later ≡ earlier → Lasts (Some earlier) (Some later)
store_lasts earlier later same = subst (λ (vs : List Volume). Extends vs earlier) (sym same) (extends_itself earlier)

pub part_lasts : (volume bytes : List ℕ) (earlier later : List Volume) → IsAppendedInPart volume bytes earlier later → Lasts (Some earlier) (Some later)
part_lasts volume bytes earlier later is = part_extends volume bytes earlier later is

pub appended_lasts : (volume bytes : List ℕ) (earlier later : List Volume) → later ≡ with_appended volume bytes earlier → Lasts (Some earlier) (Some later)
appended_lasts volume bytes earlier later is = appended_extends volume bytes earlier later (appended_is volume bytes earlier later is)

-- ---- the name of a volume has no slash

no_slash : (b : ℕ) (bytes : List ℕ) → is_name_byte b ≡ true → (list_all is_name_byte bytes ≡ true → IsPlain bytes) → list_all is_name_byte bytes ≡ true → IsPlain (b ∷ bytes)
no_slash b bytes is rest all = ap (λ (t : Bool). t || list_any (λ b. b == 47) bytes) (other (b == 47) refl) ∙ rest all
  where
    other : (t : Bool) → (b == 47) ≡ t → t ≡ false
    other true e = absurd (both_ways (is_name_byte b) (ap is_name_byte (eqb-true b 47 e)) is)
    other false e = refl

all_plain : (bytes : List ℕ) → list_all is_name_byte bytes ≡ true → IsPlain bytes
all_plain [] all = refl
all_plain (b ∷ bytes) all = let parts = and_parts _ _ all in no_slash b bytes parts.0 (all_plain bytes) parts.1

pub volume_is_plain : (name : List ℕ) → is_volume_name name ≡ true → IsPlain name
unfolding is_volume_name is_name
volume_is_plain name is = all_plain name (and_parts _ _ (and_parts _ _ (and_parts _ _ is).0).0).1

-- ---- a folder and a file that are synced

pub lasts_settled : (first second third : Option (List Volume)) → second ≡ first → Lasts second third → Lasts first third
lasts_settled first second third same is = subst (λ (o : Option (List Volume)). Lasts o third) same is

-- the names of a folder that stays as it is
pub names_same : (folder : List ℕ) (first second : Option Tree) (durable : Option (List Volume)) → second ≡ first → NamesFiles folder first durable
    → NamesFiles folder second durable
names_same folder first second durable same names = subst (λ (o : Option Tree). NamesFiles folder o durable) (sym same) names

pub names_if_same : (has_names : Bool) (folder : List ℕ) (first second : Option Tree) (was is : Option (List Volume)) → second ≡ first → is ≡ was
    → AreNamedIf has_names folder first was → AreNamedIf has_names folder second is
names_if_same has_names folder first second was is same settled names e =
    subst (λ (o : Option (List Volume)). NamesFiles folder second o) (sym settled) (names_same folder first second was same (names e))

-- they stay durable
named_on : (durable later : List Volume) (path : List ℕ) → Extends later durable → IsNamed durable path → IsNamed later path
named_on durable later path extends named = let more = extends path named.0 named.1 in (named.0 ++ more.0, more.1)

names_on : (folder : List ℕ) (told : Option Tree) (was is : Option (List Volume)) → Lasts was is → NamesFiles folder told was → NamesFiles folder told is
names_on folder None was is lasts names = tt
names_on folder (Some tree) was None lasts names = tt
names_on folder (Some tree) None (Some d) lasts names = absurd lasts
names_on folder (Some tree) (Some a) (Some d) lasts names = λ name bytes plain found. named_on a d (folder ++ 47 ∷ name) lasts (names name bytes plain found)

pub names_last : {A E : Type 0} (result : Result A E) (folder : List ℕ) (first second : Option Tree) (was is : Option (List Volume)) → second ≡ first
    → Lasts was is → NamesFiles folder first was → OnOk result (NamesFiles folder second is)
names_last (Ok x) folder first second was is same lasts names = names_same folder first second is same (names_on folder first was is lasts names)
names_last (Err e) folder first second was is same lasts names = tt

-- the file of a volume has a name that is durable
pub volume_named : (folder volume path : List ℕ) (told : Option Tree) (durable : Option (List Volume)) → IsPlain volume → path ≡ file_path folder volume
    → NamesFiles folder told durable → IsNamedAt path told durable
volume_named folder volume path told durable plain is names =
    subst (λ (p : List ℕ). IsNamedAt p told durable) (sym is) (go told durable names)
  where
    go : (told : Option Tree) (durable : Option (List Volume)) → NamesFiles folder told durable → IsNamedAt (file_path folder volume) told durable
    go None durable names = tt
    go (Some tree) None names = tt
    go (Some tree) (Some d) names = λ bytes found. names volume bytes plain found

-- a file whose name is durable
pub file_synced : (path own : List ℕ) (first second third : Option Tree) (was named synced : Option (List Volume)) → IsNamedAt path first was → second ≡ first
    → named ≡ was → own ≡ path → third ≡ second → SyncsFile own second named synced → Lasts named synced → IsSyncedAt path third synced
file_synced path own first second third was named synced is same settled own_is again syncs lasts =
    subst (λ (o : Option Tree). IsSyncedAt path o synced) (sym (again ∙ same))
    (go first was synced is
    (subst (λ (p : List ℕ). SyncsFile p first was synced) own_is
    (subst (λ (o : Option Tree). SyncsFile own o was synced) same (subst (λ (o : Option (List Volume)). SyncsFile own second o synced) settled syncs)))
    (subst (λ (o : Option (List Volume)). Lasts o synced) settled lasts))
  where
    go : (told : Option Tree) (was synced : Option (List Volume)) → IsNamedAt path told was → SyncsFile path told was synced → Lasts was synced
        → IsSyncedAt path told synced
    go None was synced is syncs lasts = tt
    go (Some tree) was None is syncs lasts = tt
    go (Some tree) None (Some b) is syncs lasts = absurd lasts
    go (Some tree) (Some a) (Some b) is syncs lasts = λ bytes found. syncs (is bytes found) bytes found

not_found : (o : Option (List ℕ)) (bytes : List ℕ) (P : Type 0) → o ≡ None → o ≡ Some bytes → P
not_found o bytes P none some = absurd cc

-- a file that is not there
pub none_synced : (path : List ℕ) (told : Option Tree) (durable : Option (List Volume)) → IsNoFile told path → IsSyncedAt path told durable
none_synced path None durable none = tt
none_synced path (Some tree) None none = tt
none_synced path (Some tree) (Some d) none = λ bytes found. not_found (volume_bytes tree.files path) bytes _ none found

-- a number that two calls leave
pub clean_on : {A E : Type 0} (result : Result A E) (first second third : ℕ) → second ≡ first → OnOk result (third ≡ second) → OnOk result (third ≡ first)
clean_on (Ok x) first second third one two = two ∙ one
clean_on (Err e) first second third one two = tt

-- ---- what is durable of a folder is durable of its volumes

pub lasts_below : (folder : List ℕ) (earlier later : Option (List Volume)) → Lasts earlier later → Lasts (durable_told folder earlier) (durable_told folder later)
lasts_below folder None None is = tt
lasts_below folder None (Some b) is = absurd is
lasts_below folder (Some a) None is = absurd is
lasts_below folder (Some a) (Some b) is = λ name bytes found.
    let f = is (file_path folder name) bytes (sym (volume_below folder name a) ∙ found) in
    (f.0, volume_below folder name b ∙ f.1)

synced_one : (folder volume : List ℕ) (told : Option Tree) (durable : Option (List Volume)) → IsSyncedAt (file_path folder volume) told durable
    → IsSyncedBelow folder volume told durable
synced_one folder volume None durable is = tt
synced_one folder volume (Some tree) None is = tt
synced_one folder volume (Some tree) (Some d) is = λ bytes found.
    let f = is bytes (sym (volume_below folder volume tree.files) ∙ found) in
    (f.0, volume_below folder volume d ∙ f.1)

pub synced_below : {A E : Type 0} (result : Result A E) (folder volume path : List ℕ) (told : Option Tree) (durable : Option (List Volume))
    → path ≡ file_path folder volume → OnOk result (IsSyncedAt path told durable) → OnOk result (IsSyncedBelow folder volume told durable)
synced_below (Ok x) folder volume path told durable is synced =
    synced_one folder volume told durable (subst (λ (p : List ℕ). IsSyncedAt p told durable) is synced)
synced_below (Err e) folder volume path told durable is synced = tt
