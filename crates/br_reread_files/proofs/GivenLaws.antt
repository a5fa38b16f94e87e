-- Hits of a file among hits.
use Rattle.std.proofs.Common.{◌≡◌, List, ◌++◌, Result, Err, ap, sym, subst}
use Rattle.br_model.specs.Meaning.{Hit}
use Rattle.br_model.proofs.AnswerLaws.{err_is}
use Rattle.br_data.specs.ManyDrives.{RereadingMany}
use Rattle.br_data.specs.declared.reread_fault.AgainFault.{AgainFault}
use Rattle.br_reread_parts.specs.Given.{GivesHit, GivesHits}
use Rattle.br_reread_parts.proofs.GivenLaws.{all_before, all_behind}

-- the hits of a file are given
pub given_run : (m : RereadingMany) (all before run behind : List Hit) → before ++ (run ++ behind) ≡ all → GivesHits m all → GivesHits m run
given_run m all before run behind joined given =
    all_before (GivesHit m) run behind (all_behind (GivesHit m) before (run ++ behind) (subst (GivesHits m) (sym joined) given))

-- the same fault of another result
pub fault_again : {A B : Type 0} (m n : AgainFault) → ◌≡◌ {A = Result A AgainFault} (Err m) (Err n) → ◌≡◌ {A = Result B AgainFault} (Err m) (Err n)
fault_again m n is = ap (λ (f : AgainFault). Err f) (err_is m n is)
