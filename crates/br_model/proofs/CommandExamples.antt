-- The commands of the console, by example.
use Rattle.std.proofs.Common.{◌≡◌, [], ◌∷◌, ◌++◌, replicate, Some, None, Ok, Err, true, false, refl}
use Rattle.std.specs.Prelude.{codes}
use Rattle.br_model.specs.Console.{Cd, Pwd, Ls, Mark, Unmark, MarkDir, UnmarkDir, Count, LsMark, Find, Estimate, Done, Quit, alone, with_text, maybe_text, read_words, read_command, begins_with, tails, matches, bare, child_of, is_below, children, matching, root, is_directory_of, last_component, parent, step, walk, resolve}
use Rattle.br_model.proofs.Choosing.{choosing}

-- ---- reading a line

a_word_alone : alone Pwd [] ≡ Ok Pwd
a_word_alone = refl

no_text_behind_it : alone Pwd (codes "x") ≡ Err 55
no_text_behind_it = refl

a_word_with_text : with_text Cd (codes "x y") ≡ Ok (Cd (codes "x y"))
a_word_with_text = refl

no_word_without_text : with_text Cd [] ≡ Err 55
no_word_without_text = refl

a_word_with_text_that_may_miss : maybe_text Ls (codes "x") ≡ Ok (Ls (Some (codes "x")))
a_word_with_text_that_may_miss = refl

its_text_is_missing : maybe_text Ls [] ≡ Ok (Ls None)
its_text_is_missing = refl

reads_cd : read_command (codes "cd a b") ≡ Ok (Cd (codes "a b"))
unfolding choosing
reads_cd = refl

no_cd_alone : read_command (codes "cd") ≡ Err 55
unfolding choosing
no_cd_alone = refl

reads_mark : read_command (codes "mark a b") ≡ Ok (Mark (codes "a b"))
unfolding choosing
reads_mark = refl

no_mark_alone : read_command (codes "mark") ≡ Err 55
unfolding choosing
no_mark_alone = refl

reads_unmark : read_command (codes "unmark a b") ≡ Ok (Unmark (codes "a b"))
unfolding choosing
reads_unmark = refl

no_unmark_alone : read_command (codes "unmark") ≡ Err 55
unfolding choosing
no_unmark_alone = refl

reads_find : read_command (codes "find a b") ≡ Ok (Find (codes "a b"))
unfolding choosing
reads_find = refl

no_find_alone : read_command (codes "find") ≡ Err 55
unfolding choosing
no_find_alone = refl

reads_ls : read_command (codes "ls a") ≡ Ok (Ls (Some (codes "a")))
unfolding choosing
reads_ls = refl

reads_ls_alone : read_command (codes "ls") ≡ Ok (Ls None)
unfolding choosing
reads_ls_alone = refl

reads_markdir : read_command (codes "markdir a") ≡ Ok (MarkDir (Some (codes "a")))
unfolding choosing
reads_markdir = refl

reads_markdir_alone : read_command (codes "markdir") ≡ Ok (MarkDir None)
unfolding choosing
reads_markdir_alone = refl

reads_unmarkdir : read_command (codes "unmarkdir a") ≡ Ok (UnmarkDir (Some (codes "a")))
unfolding choosing
reads_unmarkdir = refl

reads_unmarkdir_alone : read_command (codes "unmarkdir") ≡ Ok (UnmarkDir None)
unfolding choosing
reads_unmarkdir_alone = refl

reads_pwd : read_command (codes "pwd") ≡ Ok Pwd
unfolding choosing
reads_pwd = refl

no_pwd_with_text : read_command (codes "pwd a") ≡ Err 55
unfolding choosing
no_pwd_with_text = refl

reads_count : read_command (codes "count") ≡ Ok Count
unfolding choosing
reads_count = refl

no_count_with_text : read_command (codes "count a") ≡ Err 55
unfolding choosing
no_count_with_text = refl

reads_lsmark : read_command (codes "lsmark") ≡ Ok LsMark
unfolding choosing
reads_lsmark = refl

no_lsmark_with_text : read_command (codes "lsmark a") ≡ Err 55
unfolding choosing
no_lsmark_with_text = refl

reads_estimate : read_command (codes "estimate") ≡ Ok Estimate
unfolding choosing
reads_estimate = refl

no_estimate_with_text : read_command (codes "estimate a") ≡ Err 55
unfolding choosing
no_estimate_with_text = refl

reads_done : read_command (codes "done") ≡ Ok Done
unfolding choosing
reads_done = refl

no_done_with_text : read_command (codes "done a") ≡ Err 55
unfolding choosing
no_done_with_text = refl

reads_quit : read_command (codes "quit") ≡ Ok Quit
unfolding choosing
reads_quit = refl

no_quit_with_text : read_command (codes "quit a") ≡ Err 55
unfolding choosing
no_quit_with_text = refl

without_the_blanks_at_the_ends : read_command (codes " \tcd \t a b \t") ≡ Ok (Cd (codes "a b"))
unfolding choosing
without_the_blanks_at_the_ends = refl

a_tab_ends_the_word : read_command (codes "cd\ta") ≡ Ok (Cd (codes "a"))
unfolding choosing
a_tab_ends_the_word = refl

letters_of_one_case : read_command (codes "Pwd") ≡ Err 55
unfolding choosing
letters_of_one_case = refl

no_command_on_an_empty_line : read_command [] ≡ Err 55
unfolding choosing
no_command_on_an_empty_line = refl

a_line_of_4096_bytes : read_command (codes "pwd" ++ replicate 4093 32) ≡ Ok Pwd
unfolding choosing
a_line_of_4096_bytes = refl

no_line_of_4097_bytes : read_command (codes "pwd" ++ replicate 4094 32) ≡ Err 55
unfolding choosing
no_line_of_4097_bytes = refl

-- ---- patterns

matches_itself : matches (codes "ab") (codes "ab") ≡ true
unfolding choosing
matches_itself = refl

does_not_match_no_front : matches (codes "ab") (codes "a") ≡ false
unfolding choosing
does_not_match_no_front = refl

does_not_match_no_more : matches (codes "a") (codes "ab") ≡ false
unfolding choosing
does_not_match_no_more = refl

matches_star_any : matches (codes "a*c") (codes "abbc") ≡ true
unfolding choosing
matches_star_any = refl

matches_star_nothing : matches (codes "a*c") (codes "ac") ≡ true
unfolding choosing
matches_star_nothing = refl

matches_star_at_the_end : matches (codes "a*") (codes "a") ≡ true
unfolding choosing
matches_star_at_the_end = refl

matches_star_alone : matches (codes "*") (codes "") ≡ true
unfolding choosing
matches_star_alone = refl

matches_two_stars : matches (codes "*b*") (codes "abc") ≡ true
unfolding choosing
matches_two_stars = refl

does_not_match_star_not_another : matches (codes "a*c") (codes "abd") ≡ false
unfolding choosing
does_not_match_star_not_another = refl

matches_question_one : matches (codes "a?c") (codes "abc") ≡ true
unfolding choosing
matches_question_one = refl

does_not_match_question_not_none : matches (codes "a?c") (codes "ac") ≡ false
unfolding choosing
does_not_match_question_not_none = refl

does_not_match_question_not_at_the_end : matches (codes "a?") (codes "a") ≡ false
unfolding choosing
does_not_match_question_not_at_the_end = refl

matches_star_of_stars : matches (codes "**") (codes "") ≡ true
unfolding choosing
matches_star_of_stars = refl

matches_empty : matches (codes "") (codes "") ≡ true
unfolding choosing
matches_empty = refl

matches_any_byte : matches (codes "?*") (0 ∷ 47 ∷ 255 ∷ []) ≡ true
unfolding choosing
matches_any_byte = refl

a_list_begins_with_itself : begins_with (codes "/a") (codes "/a") ≡ true
a_list_begins_with_itself = refl

a_list_does_not_begin_with_more : begins_with (codes "/a") (codes "/ab") ≡ false
a_list_does_not_begin_with_more = refl

what_is_left_from_each_place : tails (codes "ab") ≡ codes "ab" ∷ codes "b" ∷ [] ∷ []
unfolding choosing
what_is_left_from_each_place = refl

a_name_without_its_slash : bare (codes "a/") ≡ codes "a"
a_name_without_its_slash = refl

a_name_that_has_none : bare (codes "a") ≡ codes "a"
a_name_that_has_none = refl

-- ---- directories

a_child_to_its_slash : child_of (codes "/b/") (codes "/b/d/e") ≡ codes "d/"
a_child_to_its_slash = refl

a_child_to_the_end : child_of (codes "/b/") (codes "/b/c") ≡ codes "c"
a_child_to_the_end = refl

below_the_root : is_below (codes "/") (codes "/a") ≡ true
below_the_root = refl

not_below_itself : is_below (codes "/b/") (codes "/b/") ≡ false
not_below_itself = refl

names_in_byte_order_and_once : children (codes "/b/" ∷ codes "/b/c" ∷ codes "/a" ∷ codes "/b/d/e" ∷ codes "/a.b" ∷ []) (codes "/") ≡ codes "a" ∷ codes "a.b" ∷ codes "b/" ∷ []
unfolding choosing
names_in_byte_order_and_once = refl

names_of_a_directory : children (codes "/b/" ∷ codes "/b/c" ∷ codes "/a" ∷ codes "/b/d/e" ∷ codes "/a.b" ∷ []) (codes "/b/") ≡ codes "c" ∷ codes "d/" ∷ []
unfolding choosing
names_of_a_directory = refl

matching_without_the_slash : matching (codes "/b/" ∷ codes "/b/c" ∷ codes "/a" ∷ codes "/b/d/e" ∷ codes "/a.b" ∷ []) (codes "/") (codes "?") ≡ codes "a" ∷ codes "b/" ∷ []
unfolding choosing
matching_without_the_slash = refl

nothing_matching : matching (codes "/b/" ∷ codes "/b/c" ∷ codes "/a" ∷ codes "/b/d/e" ∷ codes "/a.b" ∷ []) (codes "/") (codes "b/") ≡ []
unfolding choosing
nothing_matching = refl

the_root_is_a_directory : is_directory_of [] (codes "/") ≡ true
the_root_is_a_directory = refl

a_front_of_a_path_is_a_directory : is_directory_of (codes "/b/" ∷ codes "/b/c" ∷ codes "/a" ∷ codes "/b/d/e" ∷ codes "/a.b" ∷ []) (codes "/b/d/") ≡ true
a_front_of_a_path_is_a_directory = refl

no_such_directory : is_directory_of (codes "/b/" ∷ codes "/b/c" ∷ codes "/a" ∷ codes "/b/d/e" ∷ codes "/a.b" ∷ []) (codes "/a/") ≡ false
no_such_directory = refl

the_last_name_of_a_file : last_component (codes "/b/c") ≡ codes "c"
the_last_name_of_a_file = refl

the_last_name_of_a_directory : last_component (codes "/b/cd/") ≡ codes "cd"
the_last_name_of_a_directory = refl

the_root_has_no_name : last_component (codes "/") ≡ []
the_root_has_no_name = refl

the_parent : parent (codes "/b/cd/") ≡ codes "/b/"
the_parent = refl

the_parent_of_the_first : parent (codes "/b/") ≡ codes "/"
the_parent_of_the_first = refl

the_root_is_its_parent : parent (codes "/") ≡ codes "/"
the_root_is_its_parent = refl

steps_down : step (codes "/b/") (codes "c") ≡ Ok (codes "/b/c/")
steps_down = refl

steps_up : step (codes "/b/c/") (codes "..") ≡ Ok (codes "/b/")
steps_up = refl

stays : step (codes "/b/") (codes ".") ≡ Ok (codes "/b/")
stays = refl

refuses_an_empty_step : step (codes "/b/") [] ≡ Err 56
refuses_an_empty_step = refl

walks_step_by_step : walk (codes "/b/") (codes "c" ∷ codes ".." ∷ codes "d" ∷ []) ≡ Ok (codes "/b/d/")
unfolding choosing
walks_step_by_step = refl

walks_nowhere : walk (codes "/b/") [] ≡ Ok (codes "/b/")
unfolding choosing
walks_nowhere = refl

leads_to_the_root : resolve (codes "/b/") (codes "/") ≡ Ok (codes "/")
unfolding choosing
leads_to_the_root = refl

leads_from_the_root : resolve (codes "/b/") (codes "/c/d") ≡ Ok (codes "/c/d/")
unfolding choosing
leads_from_the_root = refl

leads_from_the_directory : resolve (codes "/b/") (codes "c") ≡ Ok (codes "/b/c/")
unfolding choosing
leads_from_the_directory = refl

leads_with_a_slash_at_the_end : resolve (codes "/b/") (codes "c/") ≡ Ok (codes "/b/c/")
unfolding choosing
leads_with_a_slash_at_the_end = refl

refuses_two_slashes_at_the_end : resolve (codes "/b/") (codes "c//") ≡ Err 56
unfolding choosing
refuses_two_slashes_at_the_end = refl

refuses_two_slashes_in_front : resolve (codes "/b/") (codes "//c") ≡ Err 56
unfolding choosing
refuses_two_slashes_in_front = refl

refuses_no_way : resolve (codes "/b/") [] ≡ Err 56
unfolding choosing
refuses_no_way = refl

nothing_is_left_of_nothing : tails [] ≡ [] ∷ []
unfolding choosing
nothing_is_left_of_nothing = refl

the_root : root ≡ codes "/"
the_root = refl

a_word_and_its_text : read_words (codes "find") (codes "a b") ≡ Ok (Find (codes "a b"))
unfolding choosing
a_word_and_its_text = refl

no_such_word : read_words (codes "finds") (codes "a") ≡ Err 55
unfolding choosing
no_such_word = refl
