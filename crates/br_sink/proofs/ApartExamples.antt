-- The files that are kept if those whose paths conflict are left out, by example.
use Rattle.std.proofs.Common.{◌≡◌, ℕ, List, [], ◌∷◌, Ok, Err, refl}
use Rattle.std.specs.Prelude.{codes}
use Rattle.br_model.specs.Attribute.{stat_from}
use Rattle.br_model.specs.File.{fault}
use Rattle.br_model.specs.Name.{FileKey}
use Rattle.br_model.specs.Restored.{Restored}
use Rattle.br_sink.specs.ConflictsApart.{apart, conflicts}

abbrev key : ℕ → FileKey
key index = record { session = record { id = 1; time = 100 }; index = index }

abbrev file : ℕ → List ℕ → Restored
file index path = record {
  key = key index;
  outcome = Ok (record { path = path; kind = 3; stat = stat_from []; link = []; bytes = []; skipped = 0 });
}

abbrev no_file : ℕ → Restored
no_file index = record { key = key index; outcome = Err (fault 63) }

-- /a is a file, so /a/b is left out; /a/b is not kept, so /a/b/c conflicts with /a alone
below_a_file : apart (file 1 (codes "/a") ∷ file 2 (codes "/a/b") ∷ no_file 3 ∷ file 4 (codes "/a/b/c") ∷ file 5 (codes "/ab") ∷ [])
    ≡ file 1 (codes "/a") ∷ no_file 3 ∷ file 5 (codes "/ab") ∷ []
below_a_file = refl

paths_below_a_file : conflicts (file 1 (codes "/a") ∷ file 2 (codes "/a/b") ∷ no_file 3 ∷ file 4 (codes "/a/b/c") ∷ file 5 (codes "/ab") ∷ [])
    ≡ codes "/a/b" ∷ codes "/a/b/c" ∷ []
paths_below_a_file = refl

-- what is left out is in nobody's way
left_out_leaves_its_place : apart (file 1 (codes "/a") ∷ file 2 (codes "/a/b") ∷ file 3 (codes "/c") ∷ []) ≡ file 1 (codes "/a") ∷ file 3 (codes "/c") ∷ []
left_out_leaves_its_place = refl

-- the first of two that conflict is kept, also if it is the one below
first_is_kept : apart (file 1 (codes "/a/b") ∷ file 2 (codes "/a") ∷ file 3 (codes "/a/c") ∷ []) ≡ file 1 (codes "/a/b") ∷ file 3 (codes "/a/c") ∷ []
first_is_kept = refl

-- a directory is in nobody's way
below_a_directory : apart (file 1 (codes "/a/") ∷ file 2 (codes "/a/b") ∷ []) ≡ file 1 (codes "/a/") ∷ file 2 (codes "/a/b") ∷ []
below_a_directory = refl
