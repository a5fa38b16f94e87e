-- What a job's spans hold, by example.
use Rattle.std.proofs.Common.{◌≡◌, ℕ, ◌+◌, List, [], ◌∷◌, ◌++◌, true, false, refl, inr, lit≤, Some}
use Rattle.std.specs.Prelude.{codes, pos, negsuc, ℤ}
use Rattle.std.specs.List.{AllZip}
use Rattle.br_model.specs.Name.{SessionKey}
use Rattle.br_model.specs.Attribute.{stat_from}
use Rattle.br_model.specs.Block.{Header, header_bytes, Fragment, fragment_bytes}
use Rattle.br_model.specs.Volume.{Volume, LaidBlock}
use Rattle.br_model.specs.Record.{Record}
use Rattle.br_model.specs.Job.{Span, SavedFile, Job}
use Rattle.br_model.specs.Stored.{is_in_span, IsSpanLaid, file_fragments, AreInSpan, MakesFile, Holds}
use Rattle.br_model.proofs.Choosing.{choosing}

key : SessionKey
key = record { id = 1; time = 100 }

part : SessionKey → ℤ → Fragment
part session index = record { session = session; index = index; stream = pos 2; size = 1; bytes = 7 ∷ [] }

header : ℕ → Header
header size = record { checksum = 0; size = size; number = 0; session = Some key }

-- a block of 37 bytes with a part of the file of this index
block : ℤ → List ℕ
block index = header_bytes (header 37) ++ fragment_bytes (part key index)

laid : ℕ → List ℕ → LaidBlock
laid address bytes = record { address = address; bytes = bytes }

-- the bytes from start to end, with the files 2 to 4
span : ℕ → ℕ → Span
span start end = record { volume = codes "A"; first = 2; last = 4; start = start; end = end; vol_index = 1 }

volumes : List Volume
volumes = record { name = codes "A"; bytes = block (pos 2) ++ block (pos 4) ++ codes "spoilt" } ∷ []

unfoldable standing : Unit {0}
unfolding key part header block laid span volumes choosing file_fragments
standing = tt

the_byte_before_a_span : is_in_span (span 37 73) 36 ≡ false
unfolding standing
the_byte_before_a_span = refl

the_first_byte_of_a_span : is_in_span (span 37 73) 37 ≡ true
unfolding standing
the_first_byte_of_a_span = refl

the_last_byte_of_a_span : is_in_span (span 37 73) 73 ≡ true
unfolding standing
the_last_byte_of_a_span = refl

the_byte_behind_a_span : is_in_span (span 37 73) 74 ≡ false
unfolding standing
the_byte_behind_a_span = refl

-- the second block alone
is_span_laid : IsSpanLaid volumes (span 37 73) (laid 37 (block (pos 4)) ∷ [])
unfolding standing
is_span_laid = record {
  bytes = block (pos 2) ++ block (pos 4) ++ codes "spoilt";
  all = laid 0 (block (pos 2)) ∷ laid 37 (block (pos 4)) ∷ [];
  found = refl;
  laid = (lit≤ tt, refl, header 37, refl, (λ e. absurd cc), refl, (lit≤ tt, refl, header 37, refl, (λ _. lit≤ tt), refl, inr refl));
  blocks_are = refl;
  first = laid 37 (block (pos 4));
  first_among = (0, lit≤ tt, refl);
  first_begins = refl;
  last = laid 37 (block (pos 4));
  last_among = (0, lit≤ tt, refl);
  last_ends = refl;
}

no_span_without_its_volume : IsSpanLaid [] (span 37 73) [] → ⊥
unfolding standing
no_span_without_its_volume s = let h = s.found in absurd cc

fragments_of_the_session_and_of_files : file_fragments key (laid 0 (block (pos 2)) ∷ laid 37 (block (pos 0)) ∷ laid 74 (block (negsuc 1)) ∷ laid 111 (block (pos 4)) ∷ []) ≡ part key (pos 2) ∷ part key (pos 4) ∷ []
unfolding standing
fragments_of_the_session_and_of_files = refl

no_fragments_of_another_session : file_fragments (record { id = 1; time = 101 }) (laid 0 (block (pos 2)) ∷ []) ≡ []
unfolding standing
no_fragments_of_another_session = refl

are_in_span : AreInSpan key (span 0 73) (laid 0 (block (pos 2)) ∷ laid 37 (block (pos 4)) ∷ [])
unfolding standing
are_in_span = (refl, (refl, tt))

no_index_below_the_first : AreInSpan key (span 0 36) (laid 0 (block (pos 1)) ∷ []) → ⊥
unfolding standing
no_index_below_the_first a = let h : false ≡ true = a.0 in absurd cc

no_index_above_the_last : AreInSpan key (span 0 36) (laid 0 (block (pos 5)) ∷ []) → ⊥
unfolding standing
no_index_above_the_last a = let h : false ≡ true = a.0 in absurd cc

-- ---- the saved files

attributes : ℕ → Record
attributes index = record { index = index; stream = 1; bytes = (48 + index) ∷ codes " 3 /a" ++ 0 ∷ codes "A A A A A A A A A A A A A A" ++ 0 ∷ 0 ∷ [] }

data_of : ℕ → List ℕ → Record
data_of index bytes = record { index = index; stream = 2; bytes = bytes }

file : List ℕ → SavedFile
file bytes = record { path = codes "/a"; kind = 3; stat = stat_from []; link = []; bytes = bytes }

-- the records of its own index alone
makes_file : MakesFile (attributes 1 ∷ attributes 2 ∷ data_of 2 (codes "x") ∷ data_of 1 (codes "y") ∷ []) (2, file (codes "x"))
unfolding attributes data_of file standing
makes_file = (_, refl, refl)

makes_no_file_without_attributes : MakesFile (attributes 1 ∷ []) (2, file []) → ⊥
unfolding attributes file standing
makes_no_file_without_attributes m = let h = m.1 in absurd cc

-- a job with one saved file and one span, and no volume
job : Job
job = record {
  rows = record { row = record { id = 1; kind = 66; level = 70; status = 84; start = 100; session = key; client = codes "c"; fileset = codes "f" }; files = []; spans = span 0 36 ∷ [] };
  saved = [];
}

does_not_hold_without_the_volume : Holds [] job → ⊥
unfolding job standing
does_not_hold_without_the_volume h = refute h.blocks h.laid
  where
    refute : (blocks : List (List LaidBlock)) → AllZip (IsSpanLaid []) (span 0 36 ∷ []) blocks → ⊥
    refute [] laid = laid
    refute (b ∷ bs) laid = let e = laid.0.found in absurd cc
