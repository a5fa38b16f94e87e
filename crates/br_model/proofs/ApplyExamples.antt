-- What the console's commands make of its state, by example.
use Rattle.std.proofs.Common.{◌≡◌, ℕ, zero, suc, ◌<◌, List, [], ◌∷◌, length, Some, None, Ok, Err, true, false, refl, ap, arith, lit≤}
use Rattle.std.specs.Prelude.{codes, pos, negsuc, ℤ, slice_index_or}
use Rattle.br_model.specs.Order.{is_among}
use Rattle.br_model.specs.View.{Entry, view_paths}
use Rattle.br_model.specs.Console.{Cd, Pwd, Ls, Mark, Unmark, MarkDir, UnmarkDir, Count, LsMark, Find, Estimate, Done, Quit, Console, IsConsole, at_start, Text, EndsDone, EndsQuit, is_meant, cwd_line, count_line, sign, mark_sign, with_marks, without_marks, says, some_of, meant, meant_directories, child_line, found_line, size_of, marked_bytes, apply, after_answer, answer_of, marks_after, answers, without_empty_end, console_lines, said, written, ends, ends_done, dialogue, marks_at_done}
use Rattle.br_model.proofs.Choosing.{choosing}

entry : ℤ → List ℕ → Entry
entry size path = record { path = path; job = 1; session = record { id = 1; time = 100 }; index = 1; size = size; link_index = pos 0 }

view : List Entry
view = entry (pos 9) (codes "/a/") ∷ entry (pos 3) (codes "/a/b") ∷ entry (negsuc 4) (codes "/a/c") ∷ entry (pos 5) (codes "/d") ∷ []

-- the console in this directory with these marks
at : List ℕ → List (List ℕ) → Console
at directory marked = record { directory = directory; marked = marked }

unfoldable consoling : Unit {0}
unfolding entry view at choosing
consoling = tt

begins_at_the_root_with_no_marks : at_start ≡ at (codes "/") []
unfolding consoling
begins_at_the_root_with_no_marks = refl

a_file_is_meant_by_its_name : is_meant (codes "/a/") (codes "b" ∷ []) (codes "/a/b") ≡ true
a_file_is_meant_by_its_name = refl

what_is_below_a_directory_is_meant : is_meant (codes "/") (codes "a/" ∷ []) (codes "/a/b") ≡ true
what_is_below_a_directory_is_meant = refl

what_begins_with_a_file_is_not_meant : is_meant (codes "/") (codes "a" ∷ []) (codes "/ab") ≡ false
what_begins_with_a_file_is_not_meant = refl

the_line_of_a_directory : cwd_line (codes "/a b/") ≡ codes "cwd is: /a\\x20b/\n"
unfolding consoling
the_line_of_a_directory = refl

the_line_of_a_count : count_line 10 (codes "marked") ≡ codes "10 marked\n"
unfolding consoling
the_line_of_a_count = refl

a_star_for_a_marked_path : sign (codes "/a/" ∷ codes "/a/b" ∷ []) (codes "/a/") ≡ 42
a_star_for_a_marked_path = refl

a_plus_for_a_directory_with_a_mark_below : sign (codes "/a/b" ∷ []) (codes "/a/") ≡ 43
a_plus_for_a_directory_with_a_mark_below = refl

a_space_for_a_directory_without : sign (codes "/ab" ∷ []) (codes "/a/") ≡ 32
a_space_for_a_directory_without = refl

a_space_for_a_file : sign (codes "/a/b" ∷ []) (codes "/a") ≡ 32
a_space_for_a_file = refl

a_star_for_a_mark : mark_sign (codes "/a" ∷ []) (codes "/a") ≡ 42
a_star_for_a_mark = refl

a_space_for_none : mark_sign (codes "/a/b" ∷ []) (codes "/a/") ≡ 32
a_space_for_none = refl

marks_in_order_and_counts_the_new : with_marks (at [] (codes "/b" ∷ codes "/d" ∷ [])) (codes "/c" ∷ codes "/b" ∷ []) ≡ (at [] (codes "/b" ∷ codes "/c" ∷ codes "/d" ∷ []), Text (codes "1 marked\n"))
unfolding consoling
marks_in_order_and_counts_the_new = refl

unmarks_and_counts_the_marked : without_marks (at [] (codes "/b" ∷ codes "/d" ∷ [])) (codes "/c" ∷ codes "/b" ∷ []) ≡ (at [] (codes "/d" ∷ []), Text (codes "1 unmarked\n"))
unfolding consoling
unmarks_and_counts_the_marked = refl

says_and_stays : says at_start (codes "x") ≡ (at_start, Text (codes "x"))
says_and_stays = refl

some_of_what_is_there : some_of (codes "x" ∷ []) ≡ Ok (codes "x" ∷ [])
some_of_what_is_there = refl

some_of_nothing : some_of [] ≡ Err 57
some_of_nothing = refl

means_a_directory_and_what_is_below : meant (view_paths view) (codes "/") (codes "a") ≡ Ok (codes "/a/" ∷ codes "/a/b" ∷ codes "/a/c" ∷ [])
unfolding consoling
means_a_directory_and_what_is_below = refl

means_nothing : meant (view_paths view) (codes "/") (codes "b") ≡ Err 57
unfolding consoling
means_nothing = refl

means_the_directory_itself : meant_directories (view_paths view) (codes "/a/") None ≡ Ok (codes "/a/" ∷ [])
unfolding consoling
means_the_directory_itself = refl

means_no_directory_without_an_entry : meant_directories (view_paths view) (codes "/") None ≡ Err 57
unfolding consoling
means_no_directory_without_an_entry = refl

means_directories_alone : meant_directories (view_paths view) (codes "/") (Some (codes "*")) ≡ Ok (codes "/a/" ∷ [])
unfolding consoling
means_directories_alone = refl

means_no_files : meant_directories (view_paths view) (codes "/") (Some (codes "d")) ≡ Err 57
unfolding consoling
means_no_files = refl

the_line_of_a_child : child_line (at (codes "/") (codes "/a/b" ∷ [])) (codes "a/") ≡ codes "+a/\n"
unfolding consoling
the_line_of_a_child = refl

the_line_of_a_marked_child : child_line (at (codes "/a/") (codes "/a/b" ∷ [])) (codes "b") ≡ codes "*b\n"
unfolding consoling
the_line_of_a_marked_child = refl

the_line_of_what_is_found : found_line (at (codes "/a/") (codes "/a/b" ∷ [])) (codes "/a/b") ≡ codes "*/a/b\n"
unfolding consoling
the_line_of_what_is_found = refl

the_line_of_a_directory_that_is_found : found_line (at (codes "/") (codes "/a/b" ∷ [])) (codes "/a/") ≡ codes " /a/\n"
unfolding consoling
the_line_of_a_directory_that_is_found = refl

a_size : size_of (pos 7) ≡ 7
a_size = refl

a_negative_size_is_0 : size_of (negsuc 7) ≡ 0
a_negative_size_is_0 = refl

the_bytes_of_marked_files : marked_bytes view (codes "/a/" ∷ codes "/a/b" ∷ codes "/a/c" ∷ []) ≡ 3
unfolding consoling
the_bytes_of_marked_files = refl

no_bytes_of_no_marks : marked_bytes view [] ≡ 0
unfolding consoling
no_bytes_of_no_marks = refl

-- ---- commands

changes_the_directory : apply view (at (codes "/a/") (codes "/a/b" ∷ codes "/d" ∷ [])) (Cd (codes "..")) ≡ Ok (at (codes "/") (codes "/a/b" ∷ codes "/d" ∷ []), Text (codes "cwd is: /\n"))
unfolding consoling
changes_the_directory = refl

no_such_directory : apply view (at (codes "/a/") (codes "/a/b" ∷ codes "/d" ∷ [])) (Cd (codes "b")) ≡ Err 56
unfolding consoling
no_such_directory = refl

a_way_with_an_empty_component : apply view (at (codes "/a/") (codes "/a/b" ∷ codes "/d" ∷ [])) (Cd (codes "b//c")) ≡ Err 56
unfolding consoling
a_way_with_an_empty_component = refl

says_the_directory : apply view (at (codes "/a/") (codes "/a/b" ∷ codes "/d" ∷ [])) Pwd ≡ Ok ((at (codes "/a/") (codes "/a/b" ∷ codes "/d" ∷ [])), Text (codes "cwd is: /a/\n"))
unfolding consoling
says_the_directory = refl

lists_the_directory : apply view (at (codes "/a/") (codes "/a/b" ∷ codes "/d" ∷ [])) (Ls None) ≡ Ok ((at (codes "/a/") (codes "/a/b" ∷ codes "/d" ∷ [])), Text (codes "*b\n c\n"))
unfolding consoling
lists_the_directory = refl

lists_what_matches : apply view (at (codes "/a/") (codes "/a/b" ∷ codes "/d" ∷ [])) (Ls (Some (codes "c"))) ≡ Ok ((at (codes "/a/") (codes "/a/b" ∷ codes "/d" ∷ [])), Text (codes " c\n"))
unfolding consoling
lists_what_matches = refl

lists_nothing : apply view (at (codes "/a/") (codes "/a/b" ∷ codes "/d" ∷ [])) (Ls (Some (codes "d"))) ≡ Err 57
unfolding consoling
lists_nothing = refl

marks_what_matches : apply view (at (codes "/a/") (codes "/a/b" ∷ codes "/d" ∷ [])) (Mark (codes "*")) ≡ Ok (at (codes "/a/") (codes "/a/b" ∷ codes "/a/c" ∷ codes "/d" ∷ []), Text (codes "1 marked\n"))
unfolding consoling
marks_what_matches = refl

unmarks_what_matches : apply view (at (codes "/a/") (codes "/a/b" ∷ codes "/d" ∷ [])) (Unmark (codes "*")) ≡ Ok (at (codes "/a/") (codes "/d" ∷ []), Text (codes "1 unmarked\n"))
unfolding consoling
unmarks_what_matches = refl

marks_the_directory : apply view (at (codes "/a/") (codes "/a/b" ∷ codes "/d" ∷ [])) (MarkDir None) ≡ Ok (at (codes "/a/") (codes "/a/" ∷ codes "/a/b" ∷ codes "/d" ∷ []), Text (codes "1 marked\n"))
unfolding consoling
marks_the_directory = refl

unmarks_the_directory : apply view (at (codes "/a/") (codes "/a/b" ∷ codes "/d" ∷ [])) (UnmarkDir None) ≡ Ok ((at (codes "/a/") (codes "/a/b" ∷ codes "/d" ∷ [])), Text (codes "0 unmarked\n"))
unfolding consoling
unmarks_the_directory = refl

marks_no_directory_that_matches : apply view (at (codes "/a/") (codes "/a/b" ∷ codes "/d" ∷ [])) (MarkDir (Some (codes "*"))) ≡ Err 57
unfolding consoling
marks_no_directory_that_matches = refl

counts_paths_and_marks : apply view (at (codes "/a/") (codes "/a/b" ∷ codes "/d" ∷ [])) Count ≡ Ok ((at (codes "/a/") (codes "/a/b" ∷ codes "/d" ∷ [])), Text (codes "4 paths, 2 marked\n"))
unfolding consoling
counts_paths_and_marks = refl

lists_the_marks_below : apply view (at (codes "/a/") (codes "/a/b" ∷ codes "/d" ∷ [])) LsMark ≡ Ok ((at (codes "/a/") (codes "/a/b" ∷ codes "/d" ∷ [])), Text (codes "/a/b\n"))
unfolding consoling
lists_the_marks_below = refl

finds_by_the_last_name_everywhere : apply view (at (codes "/a/") (codes "/a/b" ∷ codes "/d" ∷ [])) (Find (codes "?")) ≡ Ok ((at (codes "/a/") (codes "/a/b" ∷ codes "/d" ∷ [])), Text (codes " /a/\n*/a/b\n /a/c\n*/d\n"))
unfolding consoling
finds_by_the_last_name_everywhere = refl

finds_nothing : apply view (at (codes "/a/") (codes "/a/b" ∷ codes "/d" ∷ [])) (Find (codes "a/b")) ≡ Err 57
unfolding consoling
finds_nothing = refl

estimates : apply view (at (codes "/a/") (codes "/a/b" ∷ codes "/d" ∷ [])) Estimate ≡ Ok ((at (codes "/a/") (codes "/a/b" ∷ codes "/d" ∷ [])), Text (codes "2 marked, 8 bytes\n"))
unfolding consoling
estimates = refl

done_ends : apply view (at (codes "/a/") (codes "/a/b" ∷ codes "/d" ∷ [])) Done ≡ Ok ((at (codes "/a/") (codes "/a/b" ∷ codes "/d" ∷ [])), EndsDone)
unfolding consoling
done_ends = refl

quit_ends : apply view (at (codes "/a/") (codes "/a/b" ∷ codes "/d" ∷ [])) Quit ≡ Ok ((at (codes "/a/") (codes "/a/b" ∷ codes "/d" ∷ [])), EndsQuit)
unfolding consoling
quit_ends = refl

-- ---- scripts and dialogues

the_console_after_an_answer : after_answer at_start (Ok ((at (codes "/a/") (codes "/a/b" ∷ codes "/d" ∷ [])), EndsDone)) ≡ (at (codes "/a/") (codes "/a/b" ∷ codes "/d" ∷ []))
unfolding consoling
the_console_after_an_answer = refl

the_console_after_a_refusal : after_answer at_start (Err 55) ≡ at_start
the_console_after_a_refusal = refl

the_answer : answer_of (Ok (at_start, EndsQuit)) ≡ Ok EndsQuit
the_answer = refl

the_refusal : answer_of (Err 55) ≡ Err 55
the_refusal = refl

marks_after_a_script : marks_after view at_start (Mark (codes "d") ∷ Mark (codes "x") ∷ Cd (codes "a") ∷ []) ≡ at (codes "/a/") (codes "/d" ∷ [])
unfolding consoling
marks_after_a_script = refl

marks_after_no_script : marks_after view at_start [] ≡ at_start
unfolding consoling
marks_after_no_script = refl

answers_in_order : answers view at_start (Mark (codes "d") ∷ Mark (codes "x") ∷ Count ∷ []) ≡ Ok (Text (codes "1 marked\n")) ∷ Err 57 ∷ Ok (Text (codes "4 paths, 1 marked\n")) ∷ []
unfolding consoling
answers_in_order = refl

no_answers : answers view at_start [] ≡ []
unfolding consoling
no_answers = refl

the_last_line_may_lack_its_end : console_lines (codes "a\nb") ≡ codes "a" ∷ codes "b" ∷ []
unfolding consoling
the_last_line_may_lack_its_end = refl

the_last_end_begins_no_line : console_lines (codes "a\n\n") ≡ codes "a" ∷ [] ∷ []
unfolding consoling
the_last_end_begins_no_line = refl

no_lines : console_lines [] ≡ []
unfolding consoling
no_lines = refl

says_what_a_line_asks : said view at_start (codes "pwd ") ≡ Ok (at_start, Text (codes "cwd is: /\n"))
unfolding consoling
says_what_a_line_asks = refl

refuses_a_line : said view at_start (codes "pwd x") ≡ Err 55
unfolding consoling
refuses_a_line = refl

writes_a_text : written (Ok (Text (codes "x"))) ≡ codes "x"
writes_a_text = refl

writes_nothing_at_done : written (Ok EndsDone) ≡ []
writes_nothing_at_done = refl

writes_nothing_at_quit : written (Ok EndsQuit) ≡ []
writes_nothing_at_quit = refl

writes_a_refusal : written (Err 57) ≡ codes "refused 57\n"
unfolding consoling
writes_a_refusal = refl

goes_on_at_a_text : ends (Ok (Text [])) ≡ false
goes_on_at_a_text = refl

not_done_at_a_text : ends_done (Ok (Text [])) ≡ false
not_done_at_a_text = refl

ends_at_done : ends (Ok EndsDone) ≡ true
ends_at_done = refl

done_at_done : ends_done (Ok EndsDone) ≡ true
done_at_done = refl

ends_at_quit : ends (Ok EndsQuit) ≡ true
ends_at_quit = refl

not_done_at_quit : ends_done (Ok EndsQuit) ≡ false
not_done_at_quit = refl

goes_on_at_a_refusal : ends (Err 55) ≡ false
goes_on_at_a_refusal = refl

not_done_at_a_refusal : ends_done (Err 55) ≡ false
not_done_at_a_refusal = refl

nothing_behind_quit : dialogue view at_start (codes "pwd" ∷ codes "quit" ∷ codes "pwd" ∷ []) ≡ codes "cwd is: /\n"
unfolding consoling
nothing_behind_quit = refl

no_marks_at_quit : marks_at_done view at_start (codes "mark d" ∷ codes "quit" ∷ codes "done" ∷ []) ≡ None
unfolding consoling
no_marks_at_quit = refl

no_marks_without_done : marks_at_done view at_start (codes "mark d" ∷ []) ≡ None
unfolding consoling
no_marks_without_done = refl

is_console : IsConsole view (at (codes "/") (codes "/a/b" ∷ codes "/d" ∷ []))
unfolding consoling
is_console = record { ordered = refl; in_view = in_view }
  where
    in_view : (k : ℕ) (d : List ℕ) → k < 2 → is_among (view_paths view) (slice_index_or (codes "/a/b" ∷ codes "/d" ∷ []) k d) ≡ true
    in_view zero d lt = refl
    in_view (suc zero) d lt = refl
    in_view (suc (suc k)) d lt = absurd (omega arith)

no_console_with_a_mark_that_is_not_in_the_view : IsConsole view (at (codes "/") (codes "/e" ∷ [])) → ⊥
unfolding consoling
no_console_with_a_mark_that_is_not_in_the_view c = let h : false ≡ true = c.in_view 0 [] (lit≤ tt) in absurd cc

no_console_with_a_mark_twice : IsConsole view (at (codes "/") (codes "/d" ∷ codes "/d" ∷ [])) → ⊥
unfolding consoling
no_console_with_a_mark_twice c = let h : ◌≡◌ {A = ℕ} 1 2 = ap length c.ordered in omega arith

the_line_of_the_root : cwd_line (codes "/") ≡ codes "cwd is: /\n"
unfolding consoling
the_line_of_the_root = refl

the_line_of_none : count_line 0 (codes "unmarked") ≡ codes "0 unmarked\n"
unfolding consoling
the_line_of_none = refl

marks_a_path_once : with_marks (at [] (codes "/b" ∷ [])) (codes "/b" ∷ []) ≡ (at [] (codes "/b" ∷ []), Text (codes "0 marked\n"))
unfolding consoling
marks_a_path_once = refl

unmarks_what_is_not_marked : without_marks (at [] (codes "/b" ∷ [])) (codes "/c" ∷ []) ≡ (at [] (codes "/b" ∷ []), Text (codes "0 unmarked\n"))
unfolding consoling
unmarks_what_is_not_marked = refl

says_nothing_and_stays : says (at (codes "/a/") (codes "/d" ∷ [])) [] ≡ (at (codes "/a/") (codes "/d" ∷ []), Text [])
unfolding consoling
says_nothing_and_stays = refl

an_empty_end_is_dropped : without_empty_end (codes "a" ∷ [] ∷ []) ≡ codes "a" ∷ []
an_empty_end_is_dropped = refl

an_empty_part_inside_stays : without_empty_end ([] ∷ codes "a" ∷ []) ≡ [] ∷ codes "a" ∷ []
an_empty_part_inside_stays = refl
