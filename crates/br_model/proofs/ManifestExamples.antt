-- The manifest, by example.
use Rattle.std.proofs.Common.{◌≡◌, [], ◌∷◌, ◌++◌, Ok, Err, refl}
use Rattle.std.specs.Prelude.{codes, pos, negsuc}
use Rattle.br_model.specs.Name.{FileKey}
use Rattle.br_model.specs.Attribute.{stat_from}
use Rattle.br_model.specs.File.{Item, Fault, Outcome, fault}
use Rattle.br_model.specs.Restored.{Restored}
use Rattle.br_model.specs.Manifest.{key_fields, fault_fields, item_fields, outcome_fields, file_line, skipped_in, totals_of, total_line, manifest}
use Rattle.br_model.proofs.Reading.{reading}

key : FileKey
key = record { session = record { id = 1; time = 100 }; index = 20 }

item : Item
item = record {
  path = codes "/a b";
  kind = 4;
  stat = stat_from (pos 1 ∷ pos 2 ∷ pos 3 ∷ pos 4 ∷ pos 5 ∷ pos 6 ∷ pos 7 ∷ pos 8 ∷ pos 9 ∷ pos 10 ∷ pos 11 ∷ pos 12 ∷ pos 13 ∷ negsuc 0 ∷ []);
  link = codes "c d";
  bytes = [];
  skipped = 2;
}

restored : Outcome → Restored
restored outcome = record { key = key; outcome = outcome }

unsupported : Fault
unsupported = record { number = 65; stream = 40 }

hello : Item
hello = record { path = codes "/h"; kind = 3; stat = stat_from []; link = []; bytes = codes "hello"; skipped = 5 }

session_and_index : key_fields key ≡ codes "1" ∷ codes "100" ∷ codes "20" ∷ []
unfolding key item restored unsupported hello reading
session_and_index = refl

the_stream_behind_65 : fault_fields unsupported ≡ codes "65" ∷ codes "40" ∷ []
unfolding key item restored unsupported hello reading
the_stream_behind_65 = refl

no_stream_behind_64 : fault_fields (record { number = 64; stream = 40 }) ≡ codes "64" ∷ []
unfolding key item restored unsupported hello reading
no_stream_behind_64 = refl

no_stream_behind_66 : fault_fields (fault 66) ≡ codes "66" ∷ []
unfolding key item restored unsupported hello reading
no_stream_behind_66 = refl

the_fields_of_a_link : item_fields item ≡ codes "4" ∷ codes "/a\\x20b" ∷ codes "1,2,3,4,5,6,7,8,9,10,11,12,13,-1" ∷ codes "=c\\x20d" ∷ codes "0" ∷ codes "d41d8cd98f00b204e9800998ecf8427e" ∷ []
unfolding key item restored unsupported hello reading
the_fields_of_a_link = refl

the_fields_of_a_file : item_fields hello ≡ codes "3" ∷ codes "/h" ∷ codes "0,0,0,0,0,0,0,0,0,0,0,0,0,0" ∷ codes "=" ∷ codes "5" ∷ codes "5d41402abc4b2a76b9719d911017c592" ∷ []
unfolding key item restored unsupported hello reading
the_fields_of_a_file = refl

the_line_of_a_file : file_line (restored (Ok hello)) ≡ codes "F 1 100 20 3 /h 0,0,0,0,0,0,0,0,0,0,0,0,0,0 = 5 5d41402abc4b2a76b9719d911017c592\n"
unfolding key item restored unsupported hello reading
the_line_of_a_file = refl

the_line_of_a_fault : file_line (restored (Err (fault 63))) ≡ codes "X 1 100 20 63\n"
unfolding key item restored unsupported hello reading
the_line_of_a_fault = refl

the_line_of_a_stream : file_line (restored (Err unsupported)) ≡ codes "X 1 100 20 65 40\n"
unfolding key item restored unsupported hello reading
the_line_of_a_stream = refl

fields_of_a_file_begin_with_F : outcome_fields key (Ok hello) ≡ codes "F" ∷ key_fields key ++ item_fields hello
unfolding key item restored unsupported hello reading
fields_of_a_file_begin_with_F = refl

fields_of_a_fault_begin_with_X : outcome_fields key (Err (fault 60)) ≡ codes "X" ∷ codes "1" ∷ codes "100" ∷ codes "20" ∷ codes "60" ∷ []
unfolding key item restored unsupported hello reading
fields_of_a_fault_begin_with_X = refl

skipped_in_a_file : skipped_in (restored (Ok hello)) ≡ 5
unfolding key item restored unsupported hello reading
skipped_in_a_file = refl

nothing_skipped_in_a_fault : skipped_in (restored (Err unsupported)) ≡ 0
unfolding key item restored unsupported hello reading
nothing_skipped_in_a_fault = refl

counts_files_faults_and_skipped : totals_of (restored (Ok hello) ∷ restored (Err (fault 63)) ∷ restored (Ok item) ∷ []) ≡ record { files = 2; faults = 1; skipped = 7 }
unfolding key item restored unsupported hello reading
counts_files_faults_and_skipped = refl

counts_nothing : totals_of [] ≡ record { files = 0; faults = 0; skipped = 0 }
unfolding key item restored unsupported hello reading
counts_nothing = refl

the_line_of_the_totals : total_line (record { files = 2; faults = 1; skipped = 10 }) ≡ codes "total 2 1 10\n"
unfolding key item restored unsupported hello reading
the_line_of_the_totals = refl

lines_and_totals : manifest (restored (Err unsupported) ∷ restored (Err (fault 60)) ∷ []) ≡ codes "X 1 100 20 65 40\nX 1 100 20 60\ntotal 0 2 0\n"
unfolding key item restored unsupported hello reading
lines_and_totals = refl

the_totals_of_nothing : manifest [] ≡ codes "total 0 0 0\n"
unfolding key item restored unsupported hello reading
the_totals_of_nothing = refl

the_line_of_no_totals : total_line (totals_of []) ≡ codes "total 0 0 0\n"
unfolding reading
the_line_of_no_totals = refl
