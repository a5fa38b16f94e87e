-- A file that is put part by part.
use Rattle.std.proofs.Common.{◌≡◌, List, Option, Some, Result, Ok, Err, ap}
use Rattle.std.specs.Prelude.{OnErr, OnOk}
use Rattle.br_model.specs.File.{Item}
use Rattle.br_model.proofs.AnswerLaws.{err_is}
use Rattle.br_sink.specs.declared.file_parts.PartsFault.{PartsFault}
use Rattle.br_reread_parts.specs.FileParts.{PutsAlike}

-- a file like this one, if more is given
pub puts_if : (given less : Type 0) (item : Item) (had has : Option (List Item)) → (given → less) → PutsAlike less item had has → PutsAlike given item had has
puts_if given less item had has so puts = record { bytes = puts.bytes; alike = puts.alike; same = λ g. puts.same (so g); more = puts.more }

-- what follows for a call that was taken
pub ok_weaker : {A E P Q : Type 0} (r : Result A E) → (P → Q) → OnOk r P → OnOk r Q
ok_weaker (Ok x) so p = so p
ok_weaker (Err e) so p = tt

-- what holds in any case holds for a call that was refused
pub err_anyway : {A E P : Type 0} (r : Result A E) → P → OnErr r P
err_anyway (Ok x) p = tt
err_anyway (Err e) p = p

-- the same fault of another result
pub err_again : {A B : Type 0} (m n : PartsFault) → ◌≡◌ {A = Result A PartsFault} (Err m) (Err n) → ◌≡◌ {A = Result B PartsFault} (Err m) (Err n)
err_again m n is = ap (λ (f : PartsFault). Err f) (err_is m n is)

pub fault_is : (m n : PartsFault) → ◌≡◌ {A = Option PartsFault} (Some m) (Some n) → m ≡ n
fault_is m n is = cc

pub err_of_some : {B : Type 0} (m n : PartsFault) → ◌≡◌ {A = Option PartsFault} (Some m) (Some n) → ◌≡◌ {A = Result B PartsFault} (Err m) (Err n)
err_of_some m n is = ap (λ (f : PartsFault). Err f) (fault_is m n is)
