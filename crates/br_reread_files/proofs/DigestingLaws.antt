-- Files that are read and digested one window after another.
use Rattle.std.proofs.Common.{◌≡◌, List, [], ◌∷◌, ◌++◌, refl, ap, sym, ◌∙◌, append_assoc}
use Rattle.std.specs.List.{All, AllByRecursion}
use Rattle.std.proofs.lemmas.List.{append-nil}
use Rattle.br_model.specs.Meaning.{Hit}
use Rattle.br_model.specs.Name.{FileKey}
use Rattle.br_data.specs.StandingHits.{StandingStays}
use Rattle.br_join.specs.Plain.{plain_bytes}
use Rattle.br_records.specs.Records.{fragments}
use Rattle.br_data.specs.ManyDrives.{GoOn, RereadingMany}
use Rattle.br_reread_files.specs.Digesting.{AreRead, IsDigested, IsRead, ReadsOn, keys_of}
use Rattle.br_reread_parts.specs.Windows.{data_bytes}
use Rattle.br_reread_files.specs.declared.digesting.Ahead.{Ahead}
use Rattle.br_reread_files.specs.declared.digesting.Digesting.{Digesting}
use Rattle.br_reread_parts.proofs.GivenLaws.{all_from, hits_kept}
use Rattle.br_reread_parts.proofs.WindowLaws.{given_both}

-- the keys of some hits and of those after them
pub keys_both : (xs ys : List Hit) → keys_of (xs ++ ys) ≡ keys_of xs ++ keys_of ys
keys_both [] ys = refl
keys_both (x ∷ xs) ys = ap (λ (ks : List FileKey). x.key ∷ ks) (keys_both xs ys)

-- the same keys after others
pub keys_after : (had xs ys : List Hit) → keys_of xs ≡ keys_of ys → keys_of (had ++ xs) ≡ keys_of (had ++ ys)
keys_after had xs ys same = keys_both had xs ∙ ap (λ (ks : List FileKey). keys_of had ++ ks) same ∙ sym (keys_both had ys)

-- and before others
pub keys_before : (xs ys more : List Hit) → keys_of xs ≡ keys_of ys → keys_of (xs ++ more) ≡ keys_of (ys ++ more)
keys_before xs ys more same = keys_both xs more ∙ ap (λ (ks : List FileKey). ks ++ keys_of more) same ∙ sym (keys_both ys more)

-- hits with the keys of others are of the file of these
pub of_file : (key : FileKey) (xs ys : List Hit) → keys_of xs ≡ keys_of ys → AllByRecursion (λ (h : Hit). h.key ≡ key) ys → AllByRecursion (λ (h : Hit). h.key ≡ key) xs
of_file key [] ys same all = tt
of_file key (x ∷ xs) [] same all = absurd cc
of_file key (x ∷ xs) (y ∷ ys) same all =
    let one : x.key ≡ y.key = cc in
    let rest : keys_of xs ≡ keys_of ys = cc in
    (one ∙ all.0, of_file key xs ys rest all.1)

-- the next window was read
pub window_read : (m : RereadingMany) (had rest window left : List Hit) (ahead : Ahead) (now : Digesting) → window ++ left ≡ rest → AreRead m window ahead → IsRead now
    → now.hits.items ≡ had ++ ahead.hits.items → ReadsOn m had rest now left
window_read m had rest window left ahead now joined were read more =
    let ends : had ++ (window ++ left) ≡ had ++ rest = ap (λ (hs : List Hit). had ++ hs) joined in
    let begins : now.hits.items ++ left ≡ had ++ (ahead.hits.items ++ left) = ap (λ (hs : List Hit). hs ++ left) more ∙ append_assoc had ahead.hits.items left in
    record {
      read = read;
      keys =
          ap keys_of begins
          ∙ keys_after had (ahead.hits.items ++ left) (window ++ left) (keys_before ahead.hits.items window left were.keys)
          ∙ ap keys_of ends;
      given = λ later given. (given_both later rest window left joined given).1;
      same = λ given.
          begins ∙ ap (λ (hs : List Hit). had ++ (hs ++ left)) (were.same (given_both m rest window left joined given).0) ∙ ends;
    }

-- nothing more was read
pub none_read : (m : RereadingMany) (rest : List Hit) (now : Digesting) → IsRead now → ReadsOn m now.hits.items rest now rest
none_read m rest now read = record { read = read; keys = refl; given = λ later given. given; same = λ given. refl }

-- a file was read on twice
pub more_read : StandingStays → (a b : RereadingMany) (had rest : List Hit) (then : Digesting) (left : List Hit) (now : Digesting) (last : List Hit) → GoOn a b
    → ReadsOn a had rest then left → ReadsOn b then.hits.items left now last → ReadsOn a had rest now last
more_read stays a b had rest then left now last on first second = record {
  read = second.read;
  keys = second.keys ∙ first.keys;
  given = λ later given. second.given later (first.given later given);
  same = λ given. second.same (hits_kept stays a b left on (first.given a given)) ∙ first.same given;
}

-- a file without hits left is digested with the last window
pub ends_read : (m : RereadingMany) (had rest : List Hit) (then : Digesting) (left : List Hit) (now : Digesting) → left ≡ [] → now.hits.items ≡ then.hits.items
    → now.reading ≡ then.reading ++ data_bytes then.window.items → ReadsOn m had rest then left → IsDigested m had rest now
ends_read m had rest then left now none hits digested read =
    let all : now.hits.items ≡ then.hits.items ++ left = hits ∙ sym (append-nil then.hits.items) ∙ ap (λ (hs : List Hit). then.hits.items ++ hs) (sym none) in record {
      digested = digested ∙ read.read ∙ ap (λ (hs : List Hit). plain_bytes (fragments hs)) (sym hits);
      keys = ap keys_of all ∙ read.keys;
      same = λ given. all ∙ read.same given;
    }

-- a file was read on, and then to its end
pub whole_read : StandingStays → (a b : RereadingMany) (had rest : List Hit) (then : Digesting) (left : List Hit) (now : Digesting) → GoOn a b
    → ReadsOn a had rest then left → IsDigested b then.hits.items left now → IsDigested a had rest now
whole_read stays a b had rest then left now on first second = record {
  digested = second.digested;
  keys = second.keys ∙ first.keys;
  same = λ given. second.same (hits_kept stays a b left on (first.given a given)) ∙ first.same given;
}

-- all hits of a file that was read to its end are of that file
pub all_of_file : (m : RereadingMany) (key : FileKey) (had rest hits : List Hit) (now : Digesting) → had ++ rest ≡ hits → AllByRecursion (λ (h : Hit). h.key ≡ key) hits → IsDigested m had rest now
    → All (λ (h : Hit). h.key ≡ key) now.hits.items
all_of_file m key had rest hits now joined all read =
    all_from (λ (h : Hit). h.key ≡ key) now.hits.items (of_file key now.hits.items hits (read.keys ∙ ap keys_of joined) all)

-- hits that were read later are as they were found, if they are given before
pub read_later : StandingStays → (a b : RereadingMany) (hits : List Hit) (ahead : Ahead) → GoOn a b → AreRead b hits ahead → AreRead a hits ahead
read_later stays a b hits ahead on read = record { keys = read.keys; same = λ given. read.same (hits_kept stays a b hits on given); window = read.window }

-- a file that is digested later, and that is given before
pub whole_later : StandingStays → (a b : RereadingMany) (had rest : List Hit) (now : Digesting) → GoOn a b → IsDigested b had rest now → IsDigested a had rest now
whole_later stays a b had rest now on whole = record {
  digested = whole.digested;
  keys = whole.keys;
  same = λ given. whole.same (hits_kept stays a b rest on given);
}
