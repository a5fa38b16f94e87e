-- The lines and the numbers of a check, by example.
use Rattle.std.proofs.Common.{◌≡◌, ℕ, ◌+◌, true, false, List, [], ◌∷◌, ◌++◌, replicate, Ok, Err, refl}
use Rattle.std.specs.Prelude.{codes}
use Rattle.std.specs.Fmt.{digits}
use Rattle.br_model.specs.Text.{escaped, hexadecimal}
use Rattle.br_model.specs.File.{Fault, fault}
use Rattle.br_model.specs.Name.{FileKey}
use Rattle.br_match.specs.declared.fault.PieceFault.TheVariants.{Block, Memory}
use Rattle.br_match.specs.declared.fault.PieceCause.TheVariants.{BadBlockSize}
use Rattle.br_records.specs.Outline.{Outlined}
use Rattle.br_types.specs.Newest.{is_outdated}
use Rattle.br_check.specs.Findings.{bytes_in, copy_lines, empty_line, fault_line, files_in, held_beside, is_long_name, memory_for, name_by, refused_line}

abbrev lf : List ℕ
lf = 10 ∷ []

abbrev key : ℕ → FileKey
key index = record { session = record { id = 7; time = 100 }; index = index }

abbrev file : ℕ → ℕ → List ℕ → ℕ → Outlined
file index kind path size = record { key = key index; outline = Ok (record { path = path; kind = kind; size = size }) }

abbrev no_file : ℕ → Fault → Outlined
no_file index f = record { key = key index; outline = Err f }

-- ---- lines

line_of_a_volume : fault_line (Block BadBlockSize (codes "Vol-1") 64512) ≡ codes "volume 11 Vol-1 64512" ++ lf
unfolding digits escaped hexadecimal
line_of_a_volume = refl

no_line_for_memory : fault_line Memory ≡ []
no_line_for_memory = refl

line_of_nothing : empty_line true ∷ empty_line false ∷ [] ≡ (codes "empty" ++ lf) ∷ [] ∷ []
line_of_nothing = refl

line_of_a_fault : refused_line (key 3) (fault 61) ≡ codes "file 61 7 100 3" ++ lf
unfolding digits escaped hexadecimal
line_of_a_fault = refl

-- fault 65 alone has its stream
line_of_a_stream : refused_line (key 3) (record { number = 65; stream = 12 }) ≡ codes "file 65 7 100 3 12" ++ lf
unfolding digits escaped hexadecimal
line_of_a_stream = refl

line_of_a_device : name_by (key 3) (record { path = codes "/dev/sda"; kind = 6; size = 0 }) ≡ codes "skipped 7 100 3 /dev/sda" ++ lf
unfolding digits escaped hexadecimal
line_of_a_device = refl

lines_of_two_copies : copy_lines (file 1 3 (codes "/a") 5 ∷ file 2 3 (codes "/b") 5 ∷ file 3 3 (codes "/a") 5 ∷ [])
    ≡ codes "older 7 100 1 /a" ++ lf ++ codes "newest 7 100 3 /a" ++ lf
unfolding digits escaped hexadecimal is_outdated
lines_of_two_copies = refl

-- ---- limits

names_up_to_255_bytes : is_long_name (replicate 255 97) ∷ is_long_name (replicate 256 97) ∷ [] ≡ false ∷ true ∷ []
names_up_to_255_bytes = refl

-- ---- numbers

abbrev two : List Outlined
two = file 1 3 (codes "/a") 5 ∷ no_file 2 (fault 61) ∷ file 3 5 (codes "/bc/") 0 ∷ []

files_of_two : files_in two ≡ 2
files_of_two = refl

bytes_of_two : bytes_in two ≡ 5
bytes_of_two = refl

-- 64 MiB, three times 400 and the two paths, and 200 for each of four fragments
held_for_two : held_beside 4 two ≡ 67108864 + 800 + 1206
held_for_two = refl

-- the data are held up to the budget
memory_by_the_data : memory_for 100 4 two ≡ 67110870 + 5
memory_by_the_data = refl

memory_by_the_budget : memory_for 3 4 two ≡ 67110870 + 3
memory_by_the_budget = refl
