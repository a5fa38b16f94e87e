-- A job with its session and rows, before anything is written.
use Rattle.std.proofs.Common.{◌≡◌, ℕ, ◌<◌, ◌^◌, ◌⊎◌, List, Result, Ok, Err, IfOk, refl, sym, subst, ◌∙◌, inl, inr}
use Rattle.std.specs.List.{AllByRecursion}
use Rattle.br_model.specs.Answer.{IsRefusal}
use Rattle.br_model.specs.Name.{SessionKey}
use Rattle.br_model.specs.Job.{JobRows, Span, are_rows, checked_rows}
use Rattle.br_model.specs.Session.{Place, ToSave, Written, rows_of}
use Rattle.br_model.specs.SessionHolds.{IsToSave}
use Rattle.br_model.proofs.AnswerLaws.{chosen, err_is_not_ok, ok_is}
use Rattle.br_session.specs.Outcome.{IsOutcome, SessionHolds}
use Rattle.br_session.specs.declared.fault.SessionFault.{SessionFault}
use Rattle.br_history.specs.Fault.{cause}
use Rattle.br_history.specs.Preparing.{HasSession, IsInRange, IsJobWritten, MakesSession, job_rows}
use Rattle.br_history.specs.Saving.{ToCommit, IsToCommit, IsJobWith}
use Rattle.br_history.specs.declared.fault.HistoryFault.{HistoryFault}
use Rattle.br_history.specs.declared.fault.HistoryFault.TheVariants.{Memory, DuplicateJob, DuplicateSession, BadRow}
use Rattle.br_history.proofs.RowFitLaws.{written_rows_fit_lem}

-- the numbers of its session are those of the key
pub in_range : (c : ToCommit) (key : SessionKey) → key ≡ c.row.session → IsToCommit c → key.id < 2 ^ 32 → key.time < 2 ^ 32 → IsInRange c
in_range c key same is id_fits time_fits = record {
  commits = is;
  id_fits = subst (λ (k : SessionKey). k.id < 2 ^ 32) same id_fits;
  time_fits = subst (λ (k : SessionKey). k.time < 2 ^ 32) same time_fits;
}

-- ---- a session is written

-- what comes of writing the session of the job to volumes of these lengths
pub record ComesOf (c : ToCommit) (starts : List (List ℕ × ℕ)) (r : Result Written SessionFault) : Type 0 where
  pub outcome : IsOutcome c.files c.row.session c.limit (c.places, starts) r
  pub holds : IfOk r (λ written. SessionHolds c.files c.row.session c.places starts written)

pub comes_of : (c : ToCommit) (starts : List (List ℕ × ℕ)) (r : Result Written SessionFault) (files : List ToSave) (key : SessionKey) (limit : ℕ) (places : List Place)
    → files ≡ c.files → key ≡ c.row.session → limit ≡ c.limit → places ≡ c.places
    → IsOutcome files key limit (places, starts) r → IfOk r (λ written. SessionHolds files key places starts written) → ComesOf c starts r
comes_of c starts r files key limit places files_are key_is limit_is places_are outcome holds = record {
  outcome = rw (files_are, key_is, limit_is, places_are) at outcome;
  holds = rw (files_are, key_is, places_are) at holds;
}

-- ---- its rows

-- the rows of a job have its own row
pub row_stays : (c : ToCommit) (spans : List Span) → (job_rows c spans).row ≡ c.row
unfolding rows_of
row_stays c spans = refl

-- once its session is written, its rows fit together
fit : (c : ToCommit) (starts : List (List ℕ × ℕ)) (written : Written) → IsInRange c → IsJobWritten c starts written → AllByRecursion IsToSave c.files
    → checked_rows (job_rows c written.spans) ≡ Ok (job_rows c written.spans)
fit c starts written is was all =
    written_rows_fit_lem c.row c.files c.deleted c.limit c.places starts written all is.commits.in_order is.commits.early is.id_fits is.time_fits is.commits.bounds.1 was.is_written

-- so nothing but a lack of memory refuses them
pub only_memory : {X : Type 0} (why : HistoryFault) (r : Result X ℕ) (x : X) → r ≡ Ok x → IsRefusal (cause why) r → why ≡ Memory
only_memory Memory r x ok e = refl
only_memory DuplicateJob r x ok e = absurd (err_is_not_ok 40 x (sym e ∙ ok))
only_memory DuplicateSession r x ok e = absurd (err_is_not_ok 41 x (sym e ∙ ok))
only_memory BadRow r x ok e = absurd (err_is_not_ok 42 x (sym e ∙ ok))

pub refused_rows : (c : ToCommit) (starts : List (List ℕ × ℕ)) (written : Written) (why : HistoryFault) → IsInRange c → IsJobWritten c starts written
    → IsRefusal (cause why) (checked_rows (job_rows c written.spans)) → (why ≡ Memory) ⊎ AllByRecursion IsToSave c.files → MakesSession c starts (Err why)
refused_rows c starts written why is was e (inl memory) = inl memory
refused_rows c starts written why is was e (inr all) =
    let rows = job_rows c written.spans in
    inl (only_memory why (checked_rows rows) rows (fit c starts written is was all) e)

-- rows that are not refused are those that were given
same_rows : (rows other : JobRows) → checked_rows rows ≡ Ok other → rows ≡ other
unfolding checked_rows
same_rows rows other e =
    elim (chosen (are_rows rows) (Ok rows) (Err 42) (Ok other) e) [
      | inl p ↦ ok_is rows other p.1
      | inr p ↦ absurd (err_is_not_ok 42 other p.1)
    ]

-- the session and the rows
pub has_session : (c : ToCommit) (starts : List (List ℕ × ℕ)) (written : Written) (rows : JobRows) (blocks : List (List ℕ × List ℕ)) → IsInRange c
    → IsJobWritten c starts written → checked_rows (job_rows c written.spans) ≡ Ok rows → IsJobWith c.files rows → blocks ≡ written.blocks → HasSession c starts rows blocks
has_session c starts written rows blocks is was made of_files blocks_are =
    let same = same_rows (job_rows c written.spans) rows made in
    record {
      written = written;
      blocks_are = blocks_are;
      is_session = record {
        is_written = was;
        rows_are = sym same;
        is_job = subst (IsJobWith c.files) (sym same) of_files;
        in_range = is;
      };
    }
