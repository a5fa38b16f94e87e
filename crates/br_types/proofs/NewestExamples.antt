-- Examples of newest copies.
use Rattle.std.proofs.Common.{◌≡◌, ℕ, true, false, List, [], ◌∷◌, None, Some, Ok, Err, refl}
use Rattle.std.specs.Prelude.{codes}
use Rattle.br_model.specs.Name.{FileKey}
use Rattle.br_model.specs.Attribute.{stat_from}
use Rattle.br_model.specs.File.{fault}
use Rattle.br_model.specs.Restored.{Restored}
use Rattle.br_types.specs.Newest.{Copy, is_older, is_outdated, copy_of, copies_of, is_current, is_newest, newest, is_beaten, is_news, with_copy}

abbrev key : ℕ → ℕ → ℕ → FileKey
key id time index = record { session = record { id = id; time = time }; index = index }

abbrev copy : ℕ → ℕ → ℕ → List ℕ → Copy
copy id time index path = record { key = key id time index; path = path }

-- the time of the session comes first
an_earlier_session_is_older : is_older (key 9 100 7) (key 1 200 1) ≡ true
an_earlier_session_is_older = refl

a_later_session_is_not_older : is_older (key 1 200 1) (key 9 100 7) ≡ false
a_later_session_is_not_older = refl

-- then its number
the_lesser_number_of_one_time_is_older : is_older (key 2 100 9) (key 10 100 1) ≡ true
the_lesser_number_of_one_time_is_older = refl

-- then the index
the_lesser_index_of_one_session_is_older : is_older (key 2 100 3) (key 2 100 4) ≡ true
the_lesser_index_of_one_session_is_older = refl

a_copy_is_not_older_than_itself : is_older (key 2 100 3) (key 2 100 3) ≡ false
a_copy_is_not_older_than_itself = refl

of_two_the_older_is_outdated : is_outdated (copy 1 100 1 (codes "/a") ∷ copy 1 200 1 (codes "/a") ∷ []) (copy 1 100 1 (codes "/a")) ≡ true
unfolding is_outdated
of_two_the_older_is_outdated = refl

of_two_the_newer_is_not : is_outdated (copy 1 100 1 (codes "/a") ∷ copy 1 200 1 (codes "/a") ∷ []) (copy 1 200 1 (codes "/a")) ≡ false
unfolding is_outdated
of_two_the_newer_is_not = refl

another_path_outdates_nothing : is_outdated (copy 1 200 1 (codes "/a/") ∷ []) (copy 1 100 1 (codes "/a")) ≡ false
unfolding is_outdated
another_path_outdates_nothing = refl

abbrev file : FileKey → List ℕ → List ℕ → Restored
file k path bytes = record {
  key = k;
  outcome = Ok (record { path = path; kind = 3; stat = stat_from []; link = []; bytes = bytes; skipped = 0 });
}

abbrev no_file : FileKey → Restored
no_file k = record { key = k; outcome = Err (fault 63) }

-- three sessions: the second changes /a and has no /b, and the third has a file without attributes
abbrev three : List Restored
three = file (key 1 100 1) (codes "/a") (codes "x") ∷ file (key 1 100 2) (codes "/b") [] ∷ no_file (key 1 300 1) ∷ file (key 2 200 1) (codes "/a") (codes "y") ∷ []

the_copies_of_files : copies_of three ≡ copy 1 100 1 (codes "/a") ∷ copy 1 100 2 (codes "/b") ∷ copy 2 200 1 (codes "/a") ∷ []
the_copies_of_files = refl

a_fault_is_no_copy : copy_of (no_file (key 1 300 1)) ≡ None
a_fault_is_no_copy = refl

a_fault_is_never_left_out : is_newest three (no_file (key 1 300 1)) ≡ true
a_fault_is_never_left_out = refl

no_copy_is_current : is_current (copy 1 100 1 (codes "/a") ∷ []) None ≡ true
no_copy_is_current = refl

the_older_copy_is_left_out : newest three ≡ file (key 1 100 2) (codes "/b") [] ∷ no_file (key 1 300 1) ∷ file (key 2 200 1) (codes "/a") (codes "y") ∷ []
unfolding newest is_outdated
the_older_copy_is_left_out = refl

-- a path twice in one session: the greater index
the_later_index_stays : newest (file (key 1 100 1) (codes "/a") (codes "x") ∷ file (key 1 100 2) (codes "/a") (codes "y") ∷ []) ≡ file (key 1 100 2) (codes "/a") (codes "y") ∷ []
unfolding newest is_outdated
the_later_index_stays = refl

nothing_of_nothing : newest [] ≡ []
unfolding newest
nothing_of_nothing = refl

nothing_known_beats : is_beaten (key 1 100 1) None ≡ false
nothing_known_beats = refl

a_newer_one_beats : is_beaten (key 1 100 1) (Some (key 1 200 1)) ≡ true
a_newer_one_beats = refl

the_first_is_news : is_news None (key 1 100 1) ≡ true
the_first_is_news = refl

an_older_one_is_no_news : is_news (Some (key 1 200 1)) (key 1 100 1) ≡ false
an_older_one_is_no_news = refl

a_newer_one_takes_the_place : with_copy (codes "/a") (Some (key 1 100 1)) (copy 1 200 1 (codes "/a")) ≡ Some (key 1 200 1)
a_newer_one_takes_the_place = refl

an_older_one_changes_nothing : with_copy (codes "/a") (Some (key 1 200 1)) (copy 1 100 1 (codes "/a")) ≡ Some (key 1 200 1)
an_older_one_changes_nothing = refl

another_path_changes_nothing : with_copy (codes "/a") None (copy 1 100 1 (codes "/b")) ≡ None
another_path_changes_nothing = refl
