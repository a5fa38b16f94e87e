-- What comes of two files that are read again and written side by side.
use Rattle.std.proofs.Common.{◌≡◌, ℕ, true, false, List, [], length, Option, Some, None, Result, Ok, Err, sym, subst, ◌∙◌}
use Rattle.std.specs.Prelude.{IfOk, is_some}
use Rattle.br_model.specs.File.{Item}
use Rattle.br_model.specs.Meaning.{Hit}
use Rattle.br_data.specs.StandingHits.{StandingStays}
use Rattle.br_data.specs.ManyDrives.{GoOn, RereadingMany}
use Rattle.br_sink.specs.FileParts.{AreAlike}
use Rattle.br_sink.specs.TwoParts.{AreTwoAlike, AreTwoSame, WritesTwo}
use Rattle.br_sink.specs.declared.file_parts.PartsFault.{PartsFault}
use Rattle.br_sink.specs.declared.two_parts.TwoPut.{TwoPut}
use Rattle.br_sink.specs.declared.two_parts.TwoPut.TheVariants.{Both, One, Neither}
use Rattle.br_reread_parts.specs.FileParts.{WritesFew}
use Rattle.br_reread_parts.specs.Steps.{IfBoth, IfPut, OpensFile, PutsOn, Step, either_fault, end_of, step_of}
use Rattle.br_reread_parts.specs.TwoParts.{AreReadSame, ComesOf, EndsAs, FailsBy, GivesTwo}
use Rattle.br_reread_parts.specs.declared.ahead.Ahead.{Ahead}
use Rattle.br_reread_parts.proofs.PartLaws.{some_of_few}
use Rattle.br_reread_parts.proofs.StepLaws.{whole_same, whole_written}

-- what comes of the first file's bytes and of what was read of the second
pub comes_of : (put : TwoPut) (fault : Option PartsFault) (bytes first second : List ℕ) (one other : Item) → bytes ≡ first → AreAlike bytes one.bytes
    → EndsAs put fault bytes second other → ComesOf put (Ok fault) first second one other
comes_of (Both x y) None bytes first second one other is alike ends = ((ends.0 ∙ is, subst (λ (b : List ℕ). AreAlike b one.bytes) (sym ends.0) alike), ends.1)
comes_of (Both x y) (Some _) bytes first second one other is alike ends = absurd ends
comes_of (One x why) fault bytes first second one other is alike ends = (ends ∙ is, subst (λ (b : List ℕ). AreAlike b one.bytes) (sym ends) alike)
comes_of (Neither why) fault bytes first second one other is alike ends = absurd ends

-- what was written of two files
pub written_two : (put : TwoPut) (end : Result (Option PartsFault) PartsFault) (m : RereadingMany) (one other : Item) (a b c d : Option (List ℕ)) (x y : Step)
    (first second : List ℕ) (k l : ℕ) → x.read ≡ [] → y.read ≡ [] → x.left ≡ length one.bytes → y.left ≡ length other.bytes
    → IfOk end (λ _. PutsOn m a b x (end_of first k)) → IfBoth end (PutsOn m c d y (end_of second l)) → WritesFew x.left a b → WritesFew y.left c d
    → ComesOf put end first second one other → WritesTwo one other (a, c) (b, d) put
written_two (Both p q) (Ok None) m one other a b c d x y first second k l new_x new_y left_x left_y puts_x puts_y few_x few_y comes = (
  whole_written m a b x first p k new_x puts_x comes.0.0,
  whole_written m c d y second q l new_y puts_y comes.1.0,
)
written_two (Both p q) (Ok (Some _)) m one other a b c d x y first second k l new_x new_y left_x left_y puts_x puts_y few_x few_y comes = absurd comes
written_two (Both p q) (Err _) m one other a b c d x y first second k l new_x new_y left_x left_y puts_x puts_y few_x few_y comes = absurd comes
written_two (One p why) (Ok fault) m one other a b c d x y first second k l new_x new_y left_x left_y puts_x puts_y few_x few_y comes = (
  whole_written m a b x first p k new_x puts_x comes.0,
  some_of_few other.bytes y.left c d left_y few_y,
)
written_two (One p why) (Err _) m one other a b c d x y first second k l new_x new_y left_x left_y puts_x puts_y few_x few_y comes = absurd comes
written_two (Neither why) end m one other a b c d x y first second k l new_x new_y left_x left_y puts_x puts_y few_x few_y comes = (
  some_of_few one.bytes x.left a b left_x few_x,
  some_of_few other.bytes y.left c d left_y few_y,
)

-- what is put is like the items
pub alike_two : (put : TwoPut) (end : Result (Option PartsFault) PartsFault) (one other : Item) (first second : List ℕ) → ComesOf put end first second one other
    → AreTwoAlike one other put
alike_two (Both p q) (Ok None) one other first second comes = (comes.0.1, comes.1.1)
alike_two (Both p q) (Ok (Some _)) one other first second comes = absurd comes
alike_two (Both p q) (Err _) one other first second comes = absurd comes
alike_two (One p why) (Ok fault) one other first second comes = comes.1
alike_two (One p why) (Err _) one other first second comes = absurd comes
alike_two (Neither why) end one other first second comes = tt

-- what is put has the bytes of the items, if these are given
pub same_two : StandingStays → (put : TwoPut) (end : Result (Option PartsFault) PartsFault) (m later : RereadingMany) (hits more : List Hit) (one other : Item)
    (a b c d : Option (List ℕ)) (x y : Ahead) (r s first second : List ℕ) (k l : ℕ) → GoOn m later → r ≡ [] → s ≡ [] → OpensFile m hits one x → OpensFile m more other y
    → IfOk end (λ _. PutsOn later a b (step_of r x) (end_of first k)) → IfBoth end (PutsOn later c d (step_of s y) (end_of second l))
    → ComesOf put end first second one other → GivesTwo m hits more one other → AreTwoSame one other put
same_two stays (Both p q) (Ok None) m later hits more one other a b c d x y r s first second k l on new_x new_y opened_x opened_y puts_x puts_y comes given = (
  comes.0.0 ∙ whole_same stays m later hits one a b x r first k on new_x opened_x puts_x given.0,
  comes.1.0 ∙ whole_same stays m later more other c d y s second l on new_y opened_y puts_y given.1,
)
same_two stays (Both p q) (Ok (Some _)) m later hits more one other a b c d x y r s first second k l on new_x new_y opened_x opened_y puts_x puts_y comes given = absurd comes
same_two stays (Both p q) (Err _) m later hits more one other a b c d x y r s first second k l on new_x new_y opened_x opened_y puts_x puts_y comes given = absurd comes
same_two stays (One p why) (Ok fault) m later hits more one other a b c d x y r s first second k l on new_x new_y opened_x opened_y puts_x puts_y comes given =
    comes.0 ∙ whole_same stays m later hits one a b x r first k on new_x opened_x puts_x given.0
same_two stays (One p why) (Err _) m later hits more one other a b c d x y r s first second k l on new_x new_y opened_x opened_y puts_x puts_y comes given = absurd comes
same_two stays (Neither why) end m later hits more one other a b c d x y r s first second k l on new_x new_y opened_x opened_y puts_x puts_y comes given = tt

-- what was read of two files is their bytes, if these are given
pub read_same : StandingStays → (end : Result (Option PartsFault) PartsFault) (m later : RereadingMany) (hits more : List Hit) (one other : Item)
    (a b c d : Option (List ℕ)) (x y : Ahead) (r s first second : List ℕ) (k l : ℕ) → GoOn m later → r ≡ [] → s ≡ [] → OpensFile m hits one x → OpensFile m more other y
    → IfOk end (λ _. PutsOn later a b (step_of r x) (end_of first k)) → IfBoth end (PutsOn later c d (step_of s y) (end_of second l))
    → GivesTwo m hits more one other → AreReadSame end first second one other
read_same stays (Ok None) m later hits more one other a b c d x y r s first second k l on new_x new_y opened_x opened_y puts_x puts_y given = (
  whole_same stays m later hits one a b x r first k on new_x opened_x puts_x given.0,
  whole_same stays m later more other c d y s second l on new_y opened_y puts_y given.1,
)
read_same stays (Ok (Some why)) m later hits more one other a b c d x y r s first second k l on new_x new_y opened_x opened_y puts_x puts_y given =
    whole_same stays m later hits one a b x r first k on new_x opened_x puts_x given.0
read_same stays (Err why) m later hits more one other a b c d x y r s first second k l on new_x new_y opened_x opened_y puts_x puts_y given = tt

-- what was read of the first file is its bytes
pub first_same : (fault : Option PartsFault) (first second : List ℕ) (one other : Item) → AreReadSame (Ok fault) first second one other → first ≡ one.bytes
first_same None first second one other same = same.0
first_same (Some why) first second one other same = same

-- and of the second one, if it did not fail
pub second_same : (fault : Option PartsFault) (first second : List ℕ) (one other : Item) → AreReadSame (Ok fault) first second one other → IfPut fault (second ≡ other.bytes)
second_same None first second one other same = same.1
second_same (Some why) first second one other same = tt

-- a file is not put for this reason, or counts as changed, also if the reason is that of the first or the second file
pub fails_none : (two : TwoPut) (fault : Option PartsFault) → fault ≡ None → FailsBy two None → FailsBy two fault
fails_none two fault is by = subst (λ (f : Option PartsFault). FailsBy two f) (sym is) by

pub fails_either : (two : TwoPut) (put : Result (Option PartsFault) PartsFault) (fault : Option PartsFault) → put ≡ Ok fault → FailsBy two fault
    → FailsBy two (either_fault put)
fails_either two put fault is by = subst (λ (p : Result (Option PartsFault) PartsFault). FailsBy two (either_fault p)) (sym is) by

-- what follows if the second file did not fail, follows
pub put_of_none : {P : Type 0} (fault : Option PartsFault) → fault ≡ None → IfPut fault P → P
put_of_none None is claim = claim
put_of_none (Some why) is claim = absurd (cc)

-- if the second file did not fail, what follows for both holds
pub both_of : {P : Type 0} (fault : Option PartsFault) → false ≡ is_some fault → IfBoth (Ok fault) P → P
both_of None none claim = claim
both_of (Some why) none claim = absurd (cc)

-- the same of a fault that is none
pub none_failed : {P : Type 0} (fault : Option PartsFault) → fault ≡ None → IfBoth (Ok fault) P → P
none_failed None is claim = claim
none_failed (Some why) is claim = absurd (cc)

-- nothing follows for both if the second file failed
pub none_of_both : (P : Type 0) (fault : Option PartsFault) → true ≡ is_some fault → IfBoth (Ok fault) P
none_of_both P None some = absurd (cc)
none_of_both P (Some why) some = tt

-- what follows for the second file follows for both
pub both_then : {P Q : Type 0} (fault : Option PartsFault) → (P → Q) → IfPut fault P → IfBoth (Ok fault) Q
both_then None so claim = so claim
both_then (Some why) so claim = tt
