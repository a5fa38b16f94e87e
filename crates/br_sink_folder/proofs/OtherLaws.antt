-- A set of paths and of the folders on their way, path by path.
use Rattle.std.proofs.Common.{◌≡◌, ℕ, ◌+◌, ◌<◌, Bool, true, false, ◌||◌, List, [], ◌∷◌, ◌++◌, length, take, map, get_or, Result, Ok, Err, OnOk, refl, ap, sym, subst, ◌∙◌, append-nil}
use Rattle.std.specs.Prelude.{bytes_eq}
use Rattle.std.specs.List.{list_any}
use Rattle.std.proofs.lemmas.List.{map-append}
use Rattle.std.proofs.lemmas.List.Folds.{list_any-append}
use Rattle.br_model.specs.File.{Item}
use Rattle.br_model.specs.Name.{FileKey}
use Rattle.br_join.specs.declared.item.Outcome.{Outcome}
use Rattle.br_join.specs.declared.item.Outcome.TheVariants.{File, Fault}
use Rattle.br_sink.specs.Delivery.{items_in}
use Rattle.br_sink.proofs.DeliveryLaws.{items_fault, items_file, items_one_more}
use Rattle.br_types.specs.Conflicts.{AddsPaths, goes_on_behind}
use Rattle.br_sink_folder.specs.OtherPaths.{is_on_way, paths_in}

or_three : (a b c : Bool) → (a || (b || c)) ≡ ((a || b) || c)
or_three true b c = refl
or_three false b c = refl

or_end : (a b : Bool) → (a || b) ≡ (b || (a || false))
or_end true true = refl
or_end true false = refl
or_end false true = refl
or_end false false = refl

both_added : (path : List ℕ) (a b c : List ℕ → Bool) → AddsPaths (λ q. goes_on_behind q path) a b → AddsPaths (bytes_eq path) b c
    → AddsPaths (λ q. is_on_way q path) a c
both_added path a b c folders file = λ q.
    file q ∙ ap (λ (t : Bool). bytes_eq path q || t) (folders q) ∙ or_three (bytes_eq path q) (goes_on_behind q path) (a q)

pub file_added : {A E : Type 0} (result : Result A E) (path : List ℕ) (a b c : List ℕ → Bool) → AddsPaths (λ q. goes_on_behind q path) a b
    → OnOk result (AddsPaths (bytes_eq path) b c) → OnOk result (AddsPaths (λ q. is_on_way q path) a c)
file_added (Ok x) path a b c folders file = both_added path a b c folders file
file_added (Err e) path a b c folders file = tt

-- the set has just these paths and those of the folders on their way
abbrev HasPaths : (List ℕ → Bool) → List (List ℕ) → Type 0
HasPaths set paths = (q : List ℕ) → set q ≡ list_any (is_on_way q) paths

one_more : (path : List ℕ) (a b : List ℕ → Bool) (paths : List (List ℕ)) → AddsPaths (λ q. is_on_way q path) a b → HasPaths a paths
    → HasPaths b (paths ++ path ∷ [])
one_more path a b paths added has = λ q.
    added q ∙ ap (λ (t : Bool). is_on_way q path || t) (has q) ∙ or_end (is_on_way q path) (list_any (is_on_way q) paths)
    ∙ sym (list_any-append (is_on_way q) paths (path ∷ []))

abbrev path_of : Item → List ℕ
path_of item = item.path

file_path : (o : FileKey × Outcome) (item : Item) → o.1 ≡ File item → paths_in (o ∷ []) ≡ item.path ∷ []
file_path o item is = ap (map path_of) (items_file o item is)

fault_path : (o : FileKey × Outcome) (number stream : ℕ) → o.1 ≡ Fault number stream → paths_in (o ∷ []) ≡ []
fault_path o number stream is = ap (map path_of) (items_fault o number stream is)

pub noted_file : {A E : Type 0} (result : Result A E) (o : FileKey × Outcome) (item : Item) (a b : List ℕ → Bool) → o.1 ≡ File item
    → OnOk result (AddsPaths (λ q. is_on_way q item.path) a b)
    → OnOk result ((paths : List (List ℕ)) → HasPaths a paths → HasPaths b (paths ++ paths_in (o ∷ [])))
noted_file (Ok x) o item a b is added = λ paths has.
    subst (λ (ps : List (List ℕ)). HasPaths b (paths ++ ps)) (sym (file_path o item is)) (one_more item.path a b paths added has)
noted_file (Err e) o item a b is added = tt

pub noted_fault : (o : FileKey × Outcome) (number stream : ℕ) (a : List ℕ → Bool) → o.1 ≡ Fault number stream
    → (paths : List (List ℕ)) → HasPaths a paths → HasPaths a (paths ++ paths_in (o ∷ []))
noted_fault o number stream a is paths has =
    subst (HasPaths a) (sym (ap (λ (ps : List (List ℕ)). paths ++ ps) (fault_path o number stream is) ∙ append-nil paths)) has

-- the paths of one more outcome
pub paths_more : (os : List (FileKey × Outcome)) (i : ℕ) (o : FileKey × Outcome) → i < length os → get_or os i o ≡ o
    → paths_in (take i os) ++ paths_in (o ∷ []) ≡ paths_in (take (i + 1) os)
paths_more os i o less is =
    sym (ap (map path_of) (items_one_more os i o less is) ∙ map-append path_of (items_in (take i os)) (items_in (o ∷ [])))
