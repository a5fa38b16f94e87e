-- What a bootstrap's lines may say, by example.
use Rattle.std.proofs.Common.{◌≡◌, ℕ, List, [], ◌∷◌, ◌++◌, ◌-◌, ◌+◌, ◌^◌, replicate, Ok, Err, true, false, refl}
use Rattle.std.specs.Prelude.{codes}
use Rattle.br_model.specs.Bootstrap.{Range, SessionId, SessionTime, VolFile, VolBlock, VolAddr, FileIndex, Stream, Group, group_on, with_ranges}
use Rattle.br_model.specs.BootstrapText.{NamesVolume, Asks, PassedOver, Unsupported, least, greatest, is_range, is_group, Nothing, OnVolume, Admits, change_last, with_statement, has_closed_quotes, before_comment, trimmed, is_dash, is_comma, is_equals, read_digits, read_ends, read_item, read_items, inside, read_volume, read_value, needs_volume, is_unsupported}
use Rattle.br_model.proofs.BootstrapTextExamples.{reading_text}

between : ℕ → ℕ → Range
between low high = record { low = low; high = high }

-- ---- numbers of criteria

the_ends_of_SessionId : is_range SessionId (between 0 (2 ^ 32 - 1)) ≡ true
unfolding between reading_text
the_ends_of_SessionId = refl

no_SessionId_above : is_range SessionId (between 1 (2 ^ 32 - 1 + 1)) ≡ false
unfolding between reading_text
no_SessionId_above = refl

the_ends_of_SessionTime : is_range SessionTime (between 0 (2 ^ 32 - 1)) ≡ true
unfolding between reading_text
the_ends_of_SessionTime = refl

no_SessionTime_above : is_range SessionTime (between 1 (2 ^ 32 - 1 + 1)) ≡ false
unfolding between reading_text
no_SessionTime_above = refl

the_ends_of_VolFile : is_range VolFile (between 0 (2 ^ 32 - 1)) ≡ true
unfolding between reading_text
the_ends_of_VolFile = refl

no_VolFile_above : is_range VolFile (between 1 (2 ^ 32 - 1 + 1)) ≡ false
unfolding between reading_text
no_VolFile_above = refl

the_ends_of_VolBlock : is_range VolBlock (between 0 (2 ^ 32 - 1)) ≡ true
unfolding between reading_text
the_ends_of_VolBlock = refl

no_VolBlock_above : is_range VolBlock (between 1 (2 ^ 32 - 1 + 1)) ≡ false
unfolding between reading_text
no_VolBlock_above = refl

the_ends_of_VolAddr : is_range VolAddr (between 0 (2 ^ 63 - 1)) ≡ true
unfolding between reading_text
the_ends_of_VolAddr = refl

no_VolAddr_above : is_range VolAddr (between 1 (2 ^ 63 - 1 + 1)) ≡ false
unfolding between reading_text
no_VolAddr_above = refl

the_ends_of_FileIndex : is_range FileIndex (between 1 (2 ^ 31 - 1)) ≡ true
unfolding between reading_text
the_ends_of_FileIndex = refl

no_FileIndex_above : is_range FileIndex (between 1 (2 ^ 31 - 1 + 1)) ≡ false
unfolding between reading_text
no_FileIndex_above = refl

the_ends_of_Stream : is_range Stream (between 1 (2 ^ 31 - 1)) ≡ true
unfolding between reading_text
the_ends_of_Stream = refl

no_Stream_above : is_range Stream (between 1 (2 ^ 31 - 1 + 1)) ≡ false
unfolding between reading_text
no_Stream_above = refl

no_FileIndex_0 : is_range FileIndex (between 0 1) ≡ false
unfolding between reading_text
no_FileIndex_0 = refl

no_Stream_0 : is_range Stream (between 0 1) ≡ false
unfolding between reading_text
no_Stream_0 = refl

a_range_of_one_number : is_range FileIndex (between 7 7) ≡ true
unfolding between reading_text
a_range_of_one_number = refl

no_falling_range : is_range FileIndex (between 7 6) ≡ false
unfolding between reading_text
no_falling_range = refl

states : List ℕ → Group
states name = record {
  volume = name;
  session_ids = between 0 4294967295 ∷ [];
  session_times = between 0 4294967295 ∷ [];
  files = between 0 4294967295 ∷ [];
  blocks = between 0 4294967295 ∷ [];
  addresses = between 0 9223372036854775807 ∷ [];
  indexes = between 1 2147483647 ∷ [];
  streams = between 1 2147483647 ∷ between 1 1 ∷ [];
}

a_group_of_all_criteria : is_group (states (codes "V 1")) ≡ true
unfolding states between reading_text
a_group_of_all_criteria = refl

no_group_without_a_volume : is_group (states []) ≡ false
unfolding states between reading_text
no_group_without_a_volume = refl

no_group_on_dot_dot : is_group (states (codes "..")) ≡ false
unfolding states between reading_text
no_group_on_dot_dot = refl

no_group_with_falling_session_ids : is_group (record (states (codes "V")) { session_ids = between 1 1 ∷ between 2 1 ∷ [] }) ≡ false
unfolding states between reading_text
no_group_with_falling_session_ids = refl

no_group_with_falling_session_times : is_group (record (states (codes "V")) { session_times = between 1 1 ∷ between 2 1 ∷ [] }) ≡ false
unfolding states between reading_text
no_group_with_falling_session_times = refl

no_group_with_falling_files : is_group (record (states (codes "V")) { files = between 1 1 ∷ between 2 1 ∷ [] }) ≡ false
unfolding states between reading_text
no_group_with_falling_files = refl

no_group_with_falling_blocks : is_group (record (states (codes "V")) { blocks = between 1 1 ∷ between 2 1 ∷ [] }) ≡ false
unfolding states between reading_text
no_group_with_falling_blocks = refl

no_group_with_falling_addresses : is_group (record (states (codes "V")) { addresses = between 1 1 ∷ between 2 1 ∷ [] }) ≡ false
unfolding states between reading_text
no_group_with_falling_addresses = refl

no_group_with_falling_indexes : is_group (record (states (codes "V")) { indexes = between 1 1 ∷ between 2 1 ∷ [] }) ≡ false
unfolding states between reading_text
no_group_with_falling_indexes = refl

no_group_with_falling_streams : is_group (record (states (codes "V")) { streams = between 1 1 ∷ between 2 1 ∷ [] }) ≡ false
unfolding states between reading_text
no_group_with_falling_streams = refl

-- ---- groups after a statement

a_volume_is_a_new_group_behind : with_statement (group_on (codes "A") ∷ []) (OnVolume (codes "B")) ≡ group_on (codes "A") ∷ group_on (codes "B") ∷ []
unfolding states between reading_text
a_volume_is_a_new_group_behind = refl

ranges_go_to_the_last_group : with_statement (group_on (codes "A") ∷ group_on (codes "B") ∷ []) (Admits Stream (between 1 1 ∷ [])) ≡ group_on (codes "A") ∷ with_ranges Stream (between 1 1 ∷ []) (group_on (codes "B")) ∷ []
unfolding states between reading_text
ranges_go_to_the_last_group = refl

nothing_changes_nothing : with_statement (group_on (codes "A") ∷ []) Nothing ≡ group_on (codes "A") ∷ []
unfolding states between reading_text
nothing_changes_nothing = refl

no_last_group_to_change : change_last (with_ranges Stream []) [] ≡ []
unfolding states between reading_text
no_last_group_to_change = refl

-- ---- parts of a line

no_quotes_are_closed : has_closed_quotes (codes "a") ≡ true
no_quotes_are_closed = refl

one_quote_is_open : has_closed_quotes (codes "a\"") ≡ false
one_quote_is_open = refl

two_quotes_are_closed : has_closed_quotes (codes "\"a\"") ≡ true
two_quotes_are_closed = refl

three_quotes_are_open : has_closed_quotes (codes "\"\"a\"") ≡ false
three_quotes_are_open = refl

a_comment_begins_outside_quotes : before_comment false (codes "a \"#\" b#c#") ≡ codes "a \"#\" b"
unfolding states between reading_text
a_comment_begins_outside_quotes = refl

no_comment_inside_quotes : before_comment true (codes "a#b") ≡ codes "a#b"
unfolding states between reading_text
no_comment_inside_quotes = refl

trims_spaces_and_tabs : trimmed (codes " \ta b\t") ≡ codes "a b"
unfolding states between reading_text
trims_spaces_and_tabs = refl

dash_is_one : is_dash 45 ≡ true
dash_is_one = refl

dash_is_no_other : is_dash 46 ≡ false
dash_is_no_other = refl

comma_is_one : is_comma 44 ≡ true
comma_is_one = refl

comma_is_no_other : is_comma 45 ≡ false
comma_is_no_other = refl

equals_is_one : is_equals 61 ≡ true
equals_is_one = refl

equals_is_no_other : is_equals 62 ≡ false
equals_is_no_other = refl

reads_20_digits : read_digits (replicate 19 48 ++ codes "5") ≡ Ok 5
unfolding states between reading_text
reads_20_digits = refl

refuses_21_digits : read_digits (replicate 20 48 ++ codes "5") ≡ Err 33
unfolding states between reading_text
refuses_21_digits = refl

refuses_no_digits : read_digits [] ≡ Err 33
unfolding states between reading_text
refuses_no_digits = refl

reads_one_end : read_ends (codes "7") ≡ Ok (between 7 7)
unfolding states between reading_text
reads_one_end = refl

reads_two_ends : read_ends (codes "5 - 2") ≡ Ok (between 5 2)
unfolding states between reading_text
reads_two_ends = refl

refuses_three_ends : read_ends (codes "1-2-3") ≡ Err 33
unfolding states between reading_text
refuses_three_ends = refl

refuses_no_second_end : read_ends (codes "1-") ≡ Err 33
unfolding states between reading_text
refuses_no_second_end = refl

reads_an_item : read_item FileIndex (codes " 3-4 ") ≡ Ok (between 3 4)
unfolding states between reading_text
reads_an_item = refl

refuses_an_item_out_of_range : read_item FileIndex (codes "0-4") ≡ Err 33
unfolding states between reading_text
refuses_an_item_out_of_range = refl

reads_items_in_order : read_items VolFile (codes "3" ∷ codes "0" ∷ []) ≡ Ok (between 3 3 ∷ between 0 0 ∷ [])
unfolding states between reading_text
reads_items_in_order = refl

refuses_an_empty_item : read_items VolFile (codes "3" ∷ [] ∷ []) ≡ Err 33
unfolding states between reading_text
refuses_an_empty_item = refl

inside_two_quotes : inside (codes "\"ab\"") ≡ codes "ab"
inside_two_quotes = refl

inside_one_byte : inside (codes "\"") ≡ []
inside_one_byte = refl

a_bare_name : read_volume (codes "V1") ≡ Ok (codes "V1")
unfolding states between reading_text
a_bare_name = refl

no_bare_name_with_a_space : read_volume (codes "V 1") ≡ Err 33
unfolding states between reading_text
no_bare_name_with_a_space = refl

a_name_in_quotes : read_volume (codes "\"V 1\"") ≡ Ok (codes "V 1")
unfolding states between reading_text
a_name_in_quotes = refl

no_name_behind_an_open_quote : read_volume (codes "\"V1") ≡ Err 33
unfolding states between reading_text
no_name_behind_an_open_quote = refl

no_name_without_a_quote_in_front : read_volume (codes "xV1\"") ≡ Err 33
unfolding states between reading_text
no_name_without_a_quote_in_front = refl

no_name_dot_in_quotes : read_volume (codes "\".\"") ≡ Err 33
unfolding states between reading_text
no_name_dot_in_quotes = refl

a_value_of_a_volume : read_value NamesVolume (codes "V1") ≡ Ok (OnVolume (codes "V1"))
unfolding states between reading_text
a_value_of_a_volume = refl

a_value_of_a_criterion : read_value (Asks VolFile) (codes "1,2-3") ≡ Ok (Admits VolFile (between 1 1 ∷ between 2 3 ∷ []))
unfolding states between reading_text
a_value_of_a_criterion = refl

a_value_passed_over : read_value PassedOver [] ≡ Ok Nothing
unfolding states between reading_text
a_value_passed_over = refl

no_value_with_an_open_quote : read_value PassedOver (codes "\"") ≡ Err 33
unfolding states between reading_text
no_value_with_an_open_quote = refl

no_value_that_is_not_supported : read_value Unsupported (codes "1") ≡ Err 32
unfolding states between reading_text
no_value_that_is_not_supported = refl

a_criterion_needs_a_volume : needs_volume (Asks VolFile) ≡ true
a_criterion_needs_a_volume = refl

what_is_passed_over_needs_none : needs_volume PassedOver ≡ false
what_is_passed_over_needs_none = refl

a_volume_needs_none : needs_volume NamesVolume ≡ false
a_volume_needs_none = refl

not_supported : is_unsupported Unsupported ≡ true
not_supported = refl

passed_over_is_supported : is_unsupported PassedOver ≡ false
passed_over_is_supported = refl

the_last_of_three_is_changed : change_last (with_ranges Stream (between 1 1 ∷ [])) (group_on (codes "A") ∷ group_on (codes "B") ∷ group_on (codes "C") ∷ []) ≡ group_on (codes "A") ∷ group_on (codes "B") ∷ with_ranges Stream (between 1 1 ∷ []) (group_on (codes "C")) ∷ []
unfolding between reading_text
the_last_of_three_is_changed = refl

trims_all_of_blanks : trimmed (codes " \t ") ≡ []
unfolding reading_text
trims_all_of_blanks = refl

the_least_of_a_session : least SessionId ≡ 0
the_least_of_a_session = refl

the_least_of_an_index : least FileIndex ≡ 1
the_least_of_an_index = refl

the_greatest_of_a_session : greatest SessionId ≡ 4294967295
the_greatest_of_a_session = refl

the_greatest_of_an_address : greatest VolAddr ≡ 9223372036854775807
the_greatest_of_an_address = refl
