-- The paths that patterns mark, by example.
use Rattle.std.proofs.Common.{◌≡◌, ℕ, List, [], ◌∷◌, Result, Ok, Err, true, false, refl}
use Rattle.std.specs.Prelude.{codes, pos}
use Rattle.br_model.specs.View.{Entry}
use Rattle.br_model.specs.Order.{put_all, ranked, in_order, without_repeats}
use Rattle.br_model.specs.Console.{tails, matches, children, matching, meant}
use Rattle.br_console.specs.MarkedPaths.{place_of, paths_by, is_met, marks_by, missed_by, marks_from}

entry : ℕ → List ℕ → Entry
entry index path = record { path = path; job = 1; session = record { id = 1; time = 100 }; index = index; size = pos 3; link_index = pos 0 }

view : List Entry
view = entry 1 (codes "/etc/") ∷ entry 2 (codes "/etc/passwd") ∷ entry 3 (codes "/home/ann/a.txt") ∷ []

unfoldable naming : Unit {0}
unfolding entry view paths_by marks_from put_all ranked in_order without_repeats tails matches children matching meant
naming = tt

-- ---- the directory and the last component

the_root_is_all_in_it : place_of (codes "/") ≡ (codes "/", codes "*")
the_root_is_all_in_it = refl

a_name_in_the_root : place_of (codes "/etc") ≡ (codes "/", codes "etc")
a_name_in_the_root = refl

a_slash_at_the_end_does_not_count : place_of (codes "/etc/") ≡ (codes "/", codes "etc")
a_slash_at_the_end_does_not_count = refl

a_directory_ends_in_a_slash : place_of (codes "/home/*/") ≡ (codes "/home/", codes "*")
a_directory_ends_in_a_slash = refl

-- ---- one pattern

the_root_means_all : paths_by view (codes "/") ≡ Ok (codes "/etc/" ∷ codes "/etc/passwd" ∷ codes "/home/ann/a.txt" ∷ [])
unfolding naming
the_root_means_all = refl

a_star_in_the_root_means_all : paths_by view (codes "/*") ≡ paths_by view (codes "/")
unfolding naming
a_star_in_the_root_means_all = refl

a_directory_with_all_below : paths_by view (codes "/etc") ≡ Ok (codes "/etc/" ∷ codes "/etc/passwd" ∷ [])
unfolding naming
a_directory_with_all_below = refl

a_directory_with_its_slash : paths_by view (codes "/etc/") ≡ paths_by view (codes "/etc")
unfolding naming
a_directory_with_its_slash = refl

a_file_by_a_star : paths_by view (codes "/etc/pass*") ≡ Ok (codes "/etc/passwd" ∷ [])
unfolding naming
a_file_by_a_star = refl

-- the view has no row for these directories
what_is_below_directories_by_a_star : paths_by view (codes "/home/*/") ≡ Ok (codes "/home/ann/a.txt" ∷ [])
unfolding naming
what_is_below_directories_by_a_star = refl

a_text_without_a_slash_in_front_means_nothing : paths_by view (codes "etc") ≡ Err 57
unfolding naming
a_text_without_a_slash_in_front_means_nothing = refl

an_empty_text_means_nothing : paths_by view [] ≡ Err 57
unfolding naming
an_empty_text_means_nothing = refl

a_name_that_is_not_there : paths_by view (codes "/none") ≡ Err 57
unfolding naming
a_name_that_is_not_there = refl

a_directory_that_is_not_there : paths_by view (codes "/none/*") ≡ Err 57
unfolding naming
a_directory_that_is_not_there = refl

-- a star in a directory is a byte like another
a_star_in_a_directory_is_itself : paths_by view (codes "/*/passwd") ≡ Err 57
unfolding naming
a_star_in_a_directory_is_itself = refl

-- ---- some patterns

patterns : List (List ℕ)
patterns = codes "/home/*/" ∷ codes "etc" ∷ codes "/etc/pass*" ∷ codes "/none" ∷ codes "/home" ∷ []

marks_are_in_order_and_each_once : marks_by view patterns ≡ codes "/etc/passwd" ∷ codes "/home/ann/a.txt" ∷ []
unfolding naming patterns
marks_are_in_order_and_each_once = refl

missed_patterns_in_order : missed_by view patterns ≡ codes "etc" ∷ codes "/none" ∷ []
unfolding naming patterns
missed_patterns_in_order = refl

no_patterns_mark_nothing : marks_by view [] ≡ []
unfolding naming
no_patterns_mark_nothing = refl
