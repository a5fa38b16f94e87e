-- Records that a packer takes one after another.
use Rattle.std.proofs.Common.{◌≡◌, ℕ, zero, suc, ◌+◌, ◌*◌, ◌/◌, ◌<◌, ◌≤◌, ◌^◌, List, [], ◌∷◌, ◌++◌, length, take, drop, get_or, false, min, Result, Ok, Err, OnOk, refl, sym, ap, subst, ◌∙◌, append_assoc, add-one, drop-cons, arith}
use Rattle.std.proofs.lemmas.List.{append-nil, length-drop, drop_all, take_more}
use Rattle.std.proofs.lemmas.Bool.{ne_eqb}
use Rattle.std.specs.Prelude.{flat_map}
use Rattle.std.specs.List.{AllByRecursion, enumerate_from}
use Rattle.br_model.specs.Text.{is_empty}
use Rattle.br_model.specs.Record.{Record}
use Rattle.br_model.specs.Attribute.{Stat, write_attributes}
use Rattle.br_model.specs.Session.{ToSave, attributes_of_saved, data_records, file_records}
use Rattle.br_model.specs.SessionHolds.{IsToSave}
use Rattle.br_model.proofs.WrittenFileLaws.{attributes_are_short}
use Rattle.br_model.proofs.ListLaws.{all_append}
use Rattle.br_session.specs.declared.packing.Packer.{Packer}
use Rattle.br_session.specs.Packing.{Packs}
use Rattle.br_session.specs.Records.{Adds, AddsUpTo, digest_part}

-- ---- one after another

pub adds_both : (before mid after : Packer) (xs ys : List Record) → Adds before mid xs → Adds mid after ys → Adds before after (xs ++ ys)
adds_both before mid after xs ys a b = record {
  packs = λ records has. subst (Packs after) (append_assoc records xs ys) (b.packs (records ++ xs) (a.packs records has));
  session = b.session ∙ a.session;
  limit = b.limit ∙ a.limit;
}

pub adds_step : (before mid after : Packer) (all xs left behind : List Record) → AddsUpTo before mid all left → left ≡ xs ++ behind → Adds mid after xs → AddsUpTo before after all behind
adds_step before mid after all xs left behind so_far next a = record {
  more = so_far.more ++ xs;
  adds = adds_both before mid after so_far.more xs so_far.adds a;
  joined = append_assoc so_far.more xs behind ∙ ap (λ rs. so_far.more ++ rs) (sym next) ∙ so_far.joined;
}

pub adds_all : (before after : Packer) (all left : List Record) → AddsUpTo before after all left → left ≡ [] → Adds before after all
adds_all before after all left so_far none =
    subst (Adds before after) (sym (append-nil so_far.more) ∙ ap (λ rs. so_far.more ++ rs) (sym none) ∙ so_far.joined) so_far.adds

-- ---- attributes

-- the text of a file's attributes, by its parts
pub text_is_short : (index kind : ℕ) (path link text : List ℕ) (stat : Stat) (f : ToSave) → index < 2 ^ 31 → IsToSave f → kind ≡ f.file.kind → path ≡ f.file.path → stat ≡ f.file.stat → link ≡ f.file.link
    → text ≡ write_attributes (record { index = index; kind = kind; path = path; stat = stat; link = link }) → length text < 2 ^ 32
text_is_short index kind path link text stat f to can kind_is path_is stat_is link_is is =
    let same : text ≡ write_attributes (attributes_of_saved index f.file) = is ∙ rw (kind_is, path_is, stat_is, link_is) refl in
    rw same (attributes_are_short index f to can)

-- ---- data records

-- the records of all bytes
abbrev pub data_of : ℕ → List ℕ → List Record
data_of index bytes = data_records index (length bytes / 65536 + 1) bytes

no_data : (index n : ℕ) (bytes : List ℕ) → length bytes ≡ 0 → data_records index n bytes ≡ []
unfolding data_records
no_data index zero bytes none = refl
no_data index (suc n) bytes none = rw none refl

-- a record of data first
some_data : (index n : ℕ) (bytes : List ℕ) → 0 < length bytes
    → data_records index (suc n) bytes ≡ record { index = index; stream = 2; bytes = take 65536 bytes } ∷ data_records index n (drop 65536 bytes)
unfolding data_records
some_data index n bytes some = let test : is_empty bytes ≡ false = ne_eqb (length bytes) 0 (λ e. omega (arith, e, some)) in rw test refl

-- a number of records that is large enough gives them all
enough : (index n m : ℕ) (bytes : List ℕ) → length bytes ≤ 65536 * n → length bytes ≤ 65536 * m → data_records index n bytes ≡ data_records index m bytes
enough index n m [] fits fits_too = no_data index n [] refl ∙ sym (no_data index m [] refl)
enough index zero m (b ∷ bytes) fits fits_too = absurd (omega arith)
enough index (suc n) zero (b ∷ bytes) fits fits_too = absurd (omega arith)
enough index (suc n) (suc m) (b ∷ bytes) fits fits_too =
    let some : 0 < length (b ∷ bytes) = omega arith in
    let behind = length-drop 65536 (b ∷ bytes) in
    let more = enough index n m (drop 65536 (b ∷ bytes)) (omega (arith, behind, fits)) (omega (arith, behind, fits_too)) in
    some_data index n (b ∷ bytes) some ∙ ap (λ (rs : List Record). record { index = index; stream = 2; bytes = take 65536 (b ∷ bytes) } ∷ rs) more
    ∙ sym (some_data index m (b ∷ bytes) some)

take_front : {X : Type 0} (n : ℕ) (xs ys : List X) → length xs ≡ min n (length (xs ++ ys)) → (take n (xs ++ ys) ≡ xs) × (drop n (xs ++ ys) ≡ ys)
take_front zero [] ys long = (refl, refl)
take_front (suc n) [] [] long = (refl, refl)
take_front (suc n) [] (y ∷ ys) long = absurd (omega (arith, long))
take_front zero (x ∷ xs) ys long = absurd (omega (arith, long))
take_front (suc n) (x ∷ xs) ys long =
    let more = take_front n xs ys (omega (arith, long)) in (ap (λ (zs : List _). x ∷ zs) more.0, more.1)

pub data_more : (index : ℕ) (bytes part behind : List ℕ) → bytes ≡ part ++ behind → length part ≡ min 65536 (length bytes) → 0 < length bytes
    → data_of index bytes ≡ record { index = index; stream = 2; bytes = part } ∷ data_of index behind
data_more index bytes part behind joined long some =
    let cut = take_front 65536 part behind (long ∙ ap (λ (xs : List ℕ). min 65536 (length xs)) joined) in
    let front : take 65536 bytes ≡ part = ap (take 65536) joined ∙ cut.0 in
    let back : drop 65536 bytes ≡ behind = ap (drop 65536) joined ∙ cut.1 in
    let more : length bytes / 65536 + 1 ≡ suc (length bytes / 65536) = omega arith in
    let fewer = length-drop 65536 bytes in
    let others : data_records index (length bytes / 65536) (drop 65536 bytes) ≡ data_of index behind =
    enough index (length bytes / 65536) (length (drop 65536 bytes) / 65536 + 1) (drop 65536 bytes) (omega (arith, fewer)) (omega arith) ∙ ap (data_of index) back in
    ap (λ n. data_records index n bytes) more ∙ some_data index (length bytes / 65536) bytes some
    ∙ ap (λ (xs : List ℕ). record { index = index; stream = 2; bytes = xs } ∷ data_records index (length bytes / 65536) (drop 65536 bytes)) front
    ∙ ap (λ (rs : List Record). record { index = index; stream = 2; bytes = part } ∷ rs) others

pub data_end : (index : ℕ) (bytes : List ℕ) → length bytes ≡ 0 → data_of index bytes ≡ []
data_end index bytes none = no_data index (length bytes / 65536 + 1) bytes none

-- ---- files

-- the records of the files from a place on
abbrev pub records_at : ℕ → List ToSave → List Record
records_at i files = flat_map file_records (enumerate_from (i + 1) (drop i files))

pub records_more : (files : List ToSave) (i : ℕ) (d : ToSave) → i < length files → records_at i files ≡ file_records (i + 1, get_or files i d) ++ records_at (i + 1) files
records_more files i d lt =
    let next : drop i files ≡ get_or files i d ∷ drop (i + 1) files = rw add-one (drop-cons files i d lt) in
    ap (λ (fs : List ToSave). flat_map file_records (enumerate_from (i + 1) fs)) next

pub records_end : (files : List ToSave) (i : ℕ) → length files ≤ i → records_at i files ≡ []
records_end files i le = ap (λ (fs : List ToSave). flat_map file_records (enumerate_from (i + 1) fs)) (drop_all i files le)

pub all_more : {X : Type 0} (P : X → Type 0) (xs : List X) (i : ℕ) (d : X) → i < length xs → AllByRecursion P (take i xs) → P (get_or xs i d) → AllByRecursion P (take (i + 1) xs)
all_more P xs i d lt front here = rw (take_more xs i d lt) (all_append P (take i xs) (get_or xs i d ∷ []) front (here, tt))

-- one file more
pub files_step : (before mid after : Packer) (all : List Record) (files : List ToSave) (i index : ℕ) (f : ToSave) → i < length files → index ≡ i + 1 → f ≡ get_or files i f
    → AddsUpTo before mid all (records_at i files) → Adds mid after (file_records (index, f)) → AddsUpTo before after all (records_at (i + 1) files)
files_step before mid after all files i index f lt index_is f_is so_far more =
    let same : ◌≡◌ {A = ℕ × ToSave} (i + 1, get_or files i f) (index, f) = ap (λ (g : ToSave). (i + 1, g)) (sym f_is) ∙ ap (λ (n : ℕ). (n, f)) (sym index_is) in
    let next = records_more files i f lt ∙ ap (λ (g : ℕ × ToSave). file_records g ++ records_at (i + 1) files) same in
    adds_step before mid after all (file_records (index, f)) (records_at i files) (records_at (i + 1) files) so_far next more

-- the parts of a file make the file
pub file_is_added : (p q r s : Packer) (index : ℕ) (f : ToSave) → Adds p q (record { index = index; stream = 1; bytes = write_attributes (attributes_of_saved index f.file) } ∷ [])
    → Adds q r (data_of index f.file.bytes) → Adds r s (digest_part index f) → Adds p s (file_records (index, f))
unfolding file_records
file_is_added p q r s index f a b c =
    let first : Record = record { index = index; stream = 1; bytes = write_attributes (attributes_of_saved index f.file) } in
    adds_both p r s (first ∷ data_of index f.file.bytes) (digest_part index f) (adds_both p q r (first ∷ []) (data_of index f.file.bytes) a b) c

pub on_ok_more : {A E : Type 0} (r : Result A E) (P Q : Type 0) → (P → Q) → OnOk r P → OnOk r Q
on_ok_more (Ok x) P Q f h = f h
on_ok_more (Err e) P Q f h = h
