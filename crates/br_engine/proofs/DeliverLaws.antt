-- Files that are delivered after their manifest.
use Rattle.std.proofs.Common.{◌≡◌, ℕ, Bool, true, false, cond, List, [], filter_map, Option, Some, None, Result, Ok, Err, refl, sym, ◌∙◌, subst}
use Rattle.std.proofs.KnownBytes.{Keeps-refl}
use Rattle.br_model.specs.Answer.{◌>>=◌, IsRefusal}
use Rattle.br_model.specs.Volume.{Volume}
use Rattle.br_model.specs.Bootstrap.{Group}
use Rattle.br_model.specs.BootstrapText.{read_bootstrap}
use Rattle.br_model.specs.Restored.{Planned, Restored}
use Rattle.br_model.specs.Manifest.{Totals, totals_of}
use Rattle.br_model.specs.Delivery.{Stop, delivery, item_of, put_behind}
use Rattle.br_bsr.specs.Fault as bootstrap
use Rattle.br_bsr.specs.declared.fault.BsrFault.{BsrFault}
use Rattle.br_engine.specs.Fault.{cause, IsNoDriveLeft, IsFree, IsNoLine}
use Rattle.br_engine.specs.BootstrapText.{ReadsAs}
use Rattle.br_engine.specs.Restoring.{NoneStand, Told}
use Rattle.br_engine.specs.Outputs.{InSink, are_files, end_of_files}
use Rattle.br_engine.specs.Extracting.{GivesOver, NoneStandForText, OverText, OverVolumes, Said, WritesNothing, extracted}
use Rattle.br_engine.specs.Delivering.{Delivers, EndsWith, IsDelivered}
use Rattle.br_engine.specs.declared.restore_end.RestoreEnd.{RestoreEnd}
use Rattle.br_engine.specs.declared.restore_end.RestoreEnd.TheVariants.{AllFiles, SomeFaults}
use Rattle.br_engine.specs.declared.fault.ExtractFault.{ExtractFault}
use Rattle.br_engine.specs.declared.fault.ExtractFault.TheVariants.{Memory, Bootstrap, Piece, Changed, Io, NoEnd}
use Rattle.br_engine.proofs.ExtractLaws.{over_no_text, over_text}

-- ---- the end of a restore

-- the end of a delivery that did not stop
pub ends_whole : (had has : InSink) (rs : List Restored) (end : RestoreEnd) → end ≡ end_of_files rs → IsDelivered had has rs → EndsWith had has rs end
ends_whole had has rs end is put = subst (λ (e : RestoreEnd). EndsWith had has rs e) (sym is) (go (are_files rs) refl)
  where
    go : (b : Bool) → are_files rs ≡ b → EndsWith had has rs (cond b AllFiles SomeFaults)
    go true h = (h, put)
    go false h = (h, put)

-- a delivery that does not stop returns the totals
pub delivered_totals : (rs : List Restored) (t : Totals) → delivery rs ≡ Ok t → delivery rs ≡ Ok (totals_of rs)
unfolding delivery
delivered_totals rs t e = go (put_behind [] (filter_map item_of rs)) e
  where
    go : (r : Result (Unit {0}) Stop) → (r >>= (λ _. Ok (totals_of rs))) ≡ Ok t → (r >>= (λ _. Ok (totals_of rs))) ≡ Ok (totals_of rs)
    go (Ok u) h = refl
    go (Err s) h = absurd cc

-- ---- what came of a restore

-- the restore is refused
pub delivers_refused : (earlier later : Told) (groups : List Group) (names : Option (List Planned)) (before after : Option (List ℕ)) (had : InSink) (fault : ExtractFault)
    → GivesOver earlier later groups names (Err fault) → WritesNothing before after fault
    → Delivers (λ holds. OverVolumes earlier later groups names holds) before after had had (Err fault)
delivers_refused earlier later groups names before after had fault given nothing = (given, nothing, refl)

-- memory ran out, or reading or writing failed
pub gives_free : (earlier later : Told) (groups : List Group) (names : Option (List Planned)) (fault : ExtractFault) → IsFree fault → GivesOver earlier later groups names (Err fault)
gives_free earlier later groups names Memory free = λ volumes stands. tt
gives_free earlier later groups names (Io fault) free = λ volumes stands. tt
gives_free earlier later groups names (Bootstrap fault) free = absurd free
gives_free earlier later groups names (Piece fault) free = absurd free
gives_free earlier later groups names Changed free = absurd free
gives_free earlier later groups names (NoEnd turns) free = absurd free

pub free_is_no_line : (fault : ExtractFault) → IsFree fault → IsNoLine fault
free_is_no_line Memory free = tt
free_is_no_line (Bootstrap fault) free = absurd free
free_is_no_line (Piece fault) free = tt
free_is_no_line Changed free = tt
free_is_no_line (Io fault) free = tt
free_is_no_line (NoEnd turns) free = absurd free

pub free_is_no_drive : (fault : ExtractFault) → IsFree fault → IsNoDriveLeft fault → ⊥
free_is_no_drive Memory free e = absurd cc
free_is_no_drive (Bootstrap fault) free e = free
free_is_no_drive (Piece fault) free e = free
free_is_no_drive Changed free e = free
free_is_no_drive (Io fault) free e = absurd cc
free_is_no_drive (NoEnd turns) free e = free

pub free_is_no_change : (fault : ExtractFault) → IsFree fault → fault ≡ Changed → ⊥
free_is_no_change Memory free e = absurd cc
free_is_no_change (Bootstrap fault) free e = free
free_is_no_change (Piece fault) free e = free
free_is_no_change Changed free e = free
free_is_no_change (Io fault) free e = absurd cc
free_is_no_change (NoEnd turns) free e = free

-- ---- over what a reader had left

-- texts that read alike give the same files
extracted_alike : (text bytes : List ℕ) (volumes : List Volume) → read_bootstrap text ≡ read_bootstrap bytes → extracted text volumes ≡ extracted bytes volumes
unfolding extracted
extracted_alike text bytes volumes is = rw is refl

-- what the reader had left reads as this text, if it is known
over_reader : (known : Option (List ℕ)) (earlier later : Told) (text : List ℕ) (P : Said) → ReadsAs text known
    → OverText (Some text) earlier later P → OverText known earlier later P
over_reader None earlier later text P is given = tt
over_reader (Some bytes) earlier later text P is given = λ volumes stands.
    subst P (extracted_alike text bytes volumes is) (given volumes (λ groups reads. stands groups (sym is ∙ reads)))

-- what is said of the bootstrap of a text that reads as what the reader had left
pub over_read : (known : Option (List ℕ)) (earlier later : Told) (text : List ℕ) (groups : List Group) (P : Said) → ReadsAs text known → read_bootstrap text ≡ Ok groups
    → OverVolumes earlier later groups None P → OverText known earlier later P
over_read known earlier later text groups P alike read given = over_reader known earlier later text P alike (over_text (Some text) earlier later text groups P refl read given)

-- there are no volumes for the bootstrap of such a text
pub none_read : (known : Option (List ℕ)) (earlier later : Told) (text : List ℕ) (groups : List Group) → ReadsAs text known → read_bootstrap text ≡ Ok groups
    → NoneStand earlier later groups → NoneStandForText known earlier later
none_read None earlier later text groups alike read none = tt
none_read (Some bytes) earlier later text groups alike read none = λ volumes stands. none volumes (stands groups (sym alike ∙ read))

-- a line of such a text is refused
pub read_refused : (known : Option (List ℕ)) (earlier later : Told) (before : Option (List ℕ)) (had : InSink) (text : List ℕ) (fault : BsrFault)
    → ReadsAs text known → IsRefusal (bootstrap.cause fault) (read_bootstrap text)
    → Delivers (λ holds. OverText known earlier later holds) before before had had (Err (Bootstrap fault))
read_refused known earlier later before had text fault alike refused =
    (over_reader known earlier later text (IsRefusal (cause (Bootstrap fault))) alike (over_no_text (Some text) earlier later text fault refl refused), Keeps-refl before, refl)

free : (known : Option (List ℕ)) (earlier later : Told) → OverText known earlier later (λ expected. IsRefusal None expected)
free None earlier later = tt
free (Some bytes) earlier later = λ volumes stands. tt
