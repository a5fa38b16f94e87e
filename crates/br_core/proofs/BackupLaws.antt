-- Jobs that were committed, and one more.
use Rattle.std.proofs.Common.{◌≡◌, ℕ, suc, ◌+◌, ◌<◌, List, [], ◌∷◌, ◌++◌, length, take, get_or, map, Option, Some, None, Result, Ok, Err, OnErr, OnOk, refl, sym, ap, subst, ◌∙◌, inl, inr, arith}
use Rattle.std.proofs.lemmas.List.{length-append, length-map, take_more, map-append}
use Rattle.std.specs.Prelude.{IfSome}
use Rattle.std.specs.Global.{Vec}
use Rattle.std.specs.List.{AllByRecursion}
use Rattle.br_model.specs.Answer.{◌>>=◌, Answers}
use Rattle.br_model.specs.Volume.{Volume, volume_bytes, Extends}
use Rattle.br_model.specs.Job.{Span, JobRows, Job, pushed}
use Rattle.br_model.specs.Session.{Place, checked_spans, visits}
use Rattle.br_model.specs.SessionHolds.{IsReady, AreAppended}
use Rattle.br_model.specs.PlanMeaning.{rows_of_jobs}
use Rattle.br_volume.proofs.ExtendLaws.{extends_itself}
use Rattle.br_volume.specs.Store.{AreAppendedInTurn, IsAppended}
use Rattle.br_history.specs.Committing.{AreWhole}
use Rattle.br_history.specs.Fault.{cause, fault_number}
use Rattle.br_history.specs.Preparing.{MakesSession}
use Rattle.br_history.specs.Saving.{ToCommit}
use Rattle.br_history.specs.Taken.{admitted}
use Rattle.br_history.specs.declared.fault.HistoryFault.{HistoryFault}
use Rattle.br_history.specs.declared.fault.HistoryFault.TheVariants.{Memory, DuplicateJob, DuplicateSession, BadRow}
use Rattle.br_history.proofs.AdmittedLaws.{pushed_is_admitted_lem}
use Rattle.br_history.proofs.PreparingLaws.{only_memory, row_stays}
use Rattle.br_history.proofs.StayWholeLaws.{volumes_stay_whole_lem, whole_volumes_are_ready_lem}
use Rattle.br_core.specs.Machine.{World, IsCommitted, IsRefusedFor, job_rows, lengths_of}
use Rattle.br_core.specs.Backups.{Committed, AreBackups, IsAdded, backups_of, job_with, jobs_of}
use Rattle.br_core.specs.Committing.{AppendsSession, CommitsTo, IsPrepared, Prepares}
use Rattle.br_volume.proofs.AppendLaws.{in_turn_more}

-- ---- a job is prepared

-- what is said of any rows with the row of the job
pushed_as : (history : List JobRows) (c : ToCommit) (spans : List Span) (r : Result (List JobRows) ℕ) → admitted history c.row ≡ r
    → pushed history (job_rows c spans) ≡ (r >>= λ h. Ok (h ++ job_rows c spans ∷ []))
pushed_as history c spans r e =
    pushed_is_admitted_lem history (job_rows c spans)
    ∙ ap (λ (a : Result (List JobRows) ℕ). a >>= λ h. Ok (h ++ job_rows c spans ∷ [])) (ap (admitted history) (row_stays c spans) ∙ e)

-- a job that can't be among the others
not_among : (history : List JobRows) (c : ToCommit) (starts : List (List ℕ × ℕ)) (n : ℕ) → admitted history c.row ≡ Err n
    → (w : World) (found : List Volume) → rows_of_jobs w.jobs ≡ history → lengths_of found ≡ starts → IsRefusedFor w c found n
not_among history c starts n e w found same lengths = inl (ap (λ (h : List JobRows). pushed h (job_rows c [])) same ∙ pushed_as history c [] (Err n) e)

pub refused_row : (history : List JobRows) (c : ToCommit) (starts : List (List ℕ × ℕ)) (why : HistoryFault) → admitted history c.row ≡ Err (fault_number why) → Prepares history c starts (Err why)
refused_row history c starts Memory e = tt
refused_row history c starts DuplicateJob e = not_among history c starts 40 e
refused_row history c starts DuplicateSession e = not_among history c starts 41 e
refused_row history c starts BadRow e = not_among history c starts 42 e

-- its session is not made
refused_spans : (history : List JobRows) (c : ToCommit) (starts : List (List ℕ × ℕ)) (why : HistoryFault) → admitted history c.row ≡ Ok history → MakesSession c starts (Err why)
    → Prepares history c starts (Err why)
refused_spans history c starts Memory ok h = tt
refused_spans history c starts DuplicateJob ok (inl e) = absurd cc
refused_spans history c starts DuplicateJob ok (inr (e, spans)) = absurd cc
refused_spans history c starts DuplicateSession ok (inl e) = absurd cc
refused_spans history c starts DuplicateSession ok (inr (e, spans)) = absurd cc
refused_spans history c starts BadRow ok (inl e) = absurd cc
refused_spans history c starts BadRow ok (inr (e, spans)) =
    λ w found same lengths. inr (
      refl,
      record {
        blocks = spans.blocks;
        accepted = history ++ job_rows c [] ∷ [];
        fits = ap (λ (h : List JobRows). pushed h (job_rows c [])) same ∙ pushed_as history c [] (Ok history) ok;
        packed = spans.packed;
        refused = ap (λ (s : List (List ℕ × ℕ)). checked_spans s (visits c.places spans.blocks)) lengths ∙ spans.refused;
      },
    )

-- the job is prepared, if its session is made
pub prepares : (history : List JobRows) (c : ToCommit) (starts : List (List ℕ × ℕ)) (r : Result (JobRows × Vec (List ℕ × Vec ℕ)) HistoryFault) → admitted history c.row ≡ Ok history
    → MakesSession c starts r → Prepares history c starts r
prepares history c starts (Ok p) ok session = record {
  session = session;
  fits =
      subst (λ (r : JobRows). pushed history r ≡ Ok (history ++ r ∷ [])) (sym session.is_session.rows_are) (pushed_as history c session.written.spans (Ok history) ok);
}
prepares history c starts (Err why) ok session = refused_spans history c starts why ok session

-- ---- blocks are appended one after another

-- the first blocks, and one more
pub turn_more : (blocks : List (List ℕ × Vec ℕ)) (i : ℕ) (block : List ℕ × Vec ℕ) (earlier middle later : List Volume) → i < length blocks → block ≡ get_or blocks i block
    → AreAppendedInTurn (map (λ (b : List ℕ × Vec ℕ). (b.0, b.1.items)) (take i blocks)) earlier middle → IsAppended block.0 block.1.items middle later
    → AreAppendedInTurn (map (λ (b : List ℕ × Vec ℕ). (b.0, b.1.items)) (take (i + 1) blocks)) earlier later
turn_more blocks i block earlier middle later lt is before one =
    let seen : List ℕ × Vec ℕ → List ℕ × List ℕ = λ b. (b.0, b.1.items) in
    let first = take i blocks in
    let more : take (i + 1) blocks ≡ first ++ block ∷ [] = take_more blocks i block lt ∙ ap (λ (b : List ℕ × Vec ℕ). first ++ b ∷ []) (sym is) in
    subst (λ (bs : List (List ℕ × List ℕ)). AreAppendedInTurn bs earlier later) (sym (ap (map seen) more ∙ map-append seen first (block ∷ [])))
    (in_turn_more (map seen first) (seen block) earlier middle later before one)

-- ---- a job more

-- the rows of the jobs are the history
rows_back : (history : List JobRows) (commits : List Committed) → length commits ≡ length history → rows_of_jobs (jobs_of history commits) ≡ history
rows_back [] commits e = refl
rows_back (j ∷ js) [] e = absurd (omega (arith, e))
rows_back (j ∷ js) (c ∷ cs) e = ap (λ (rest : List JobRows). j ∷ rest) (rows_back js cs (omega (arith, e)))

-- the number of jobs is that of commits
jobs_length : (history : List JobRows) (commits : List Committed) → length commits ≡ length history → length (jobs_of history commits) ≡ length commits
jobs_length [] [] e = refl
jobs_length [] (c ∷ cs) e = absurd (omega (arith, e))
jobs_length (j ∷ js) [] e = refl
jobs_length (j ∷ js) (c ∷ cs) e = ap suc (jobs_length js cs (omega (arith, e)))

-- one job more
jobs_more : (history : List JobRows) (commits : List Committed) (rows : JobRows) (c : Committed) → length commits ≡ length history
    → jobs_of (history ++ rows ∷ []) (commits ++ c ∷ []) ≡ jobs_of history commits ++ job_with (rows, c) ∷ []
jobs_more [] [] rows c e = refl
jobs_more [] (d ∷ ds) rows c e = absurd (omega (arith, e))
jobs_more (j ∷ js) [] rows c e = absurd (omega (arith, e))
jobs_more (j ∷ js) (d ∷ ds) rows c e = ap (λ (rest : List Job). job_with (j, d) ∷ rest) (jobs_more js ds rows c (omega (arith, e)))

-- each place is ready, if all volumes consist of whole blocks
all_ready : (volumes : List Volume) (places : List Place) → AreWhole volumes → AllByRecursion (λ (p : Place). IsReady volumes (lengths_of volumes) p.volume) places
all_ready volumes [] whole = tt
all_ready volumes (p ∷ ps) whole = (whole_volumes_are_ready_lem volumes p.volume whole, all_ready volumes ps whole)

-- a job that was prepared is committed once its blocks are appended
committed : (history : List JobRows) (commits : List Committed) (volumes later : List Volume) (c : ToCommit) (rows : JobRows) (blocks : List (List ℕ × List ℕ))
    → AreBackups history commits volumes → IsPrepared history c (lengths_of volumes) rows blocks → AreAppended blocks volumes later → Extends later volumes
    → IsCommitted (backups_of history commits volumes) c volumes (backups_of (history ++ rows ∷ []) (commits ++ record { job = c; before = volumes } ∷ []) later)
committed history commits volumes later c rows blocks are is appended extends =
    let session = is.session.is_session in
    let more : List Committed = commits ++ record { job = c; before = volumes } ∷ [] in
    let longer : length more ≡ length (history ++ rows ∷ []) = omega (arith, are.each, length-append history (rows ∷ []), length-append commits (record { job = c; before = volumes } ∷ [])) in
    record {
      written = is.session.written;
      is_written = session.is_written.is_written;
      fits =
          ap (λ (h : List JobRows). pushed h (job_rows c is.session.written.spans)) (rows_back history commits are.each) ∙ ap (pushed history) (sym session.rows_are) ∙ is.fits
          ∙ ap Ok (sym (rows_back (history ++ rows ∷ []) more longer));
      is_job = session.is_job;
      jobs_are =
          jobs_more history commits rows (record { job = c; before = volumes }) are.each
          ∙ ap (λ (r : JobRows). jobs_of history commits ++ job_with (r, record { job = c; before = volumes }) ∷ []) session.rows_are;
      extend = extends;
      holds =
          session.is_written.holds c.row c.deleted volumes later later refl (all_ready volumes c.places are.whole)
          (subst (λ (bs : List (List ℕ × List ℕ)). AreAppended bs volumes later) is.session.blocks_are appended) (extends_itself later);
      earlier_are = map-append (λ (d : Committed). d.before) commits (record { job = c; before = volumes } ∷ []);
      restores_are = refl;
    }

-- and the volumes still consist of whole blocks
still_backups : (history : List JobRows) (commits : List Committed) (volumes later : List Volume) (c : ToCommit) (rows : JobRows) (blocks : List (List ℕ × List ℕ))
    → AreBackups history commits volumes → IsPrepared history c (lengths_of volumes) rows blocks → AreAppended blocks volumes later
    → AreBackups (history ++ rows ∷ []) (commits ++ record { job = c; before = volumes } ∷ []) later
still_backups history commits volumes later c rows blocks are is appended = record {
  each = omega (arith, are.each, length-append history (rows ∷ []), length-append commits (record { job = c; before = volumes } ∷ []));
  whole =
      volumes_stay_whole_lem c.files c.row.session c.limit c.places (lengths_of volumes) is.session.written volumes later is.session.is_session.in_range.id_fits is.session.is_session.in_range.time_fits is.session.is_session.in_range.commits.bounds.1 is.session.is_session.is_written.is_written are.whole
      (subst (λ (bs : List (List ℕ × List ℕ)). AreAppended bs volumes later) is.session.blocks_are appended);
}

-- a job that is not prepared is refused
pub refuses : (w : World) (history : List JobRows) (commits : List Committed) (volumes : List Volume) (c : ToCommit) (starts : List (List ℕ × ℕ)) (why : HistoryFault)
    → backups_of history commits volumes ≡ w → AreBackups history commits volumes → starts ≡ lengths_of volumes → Prepares history c starts (Err why) → CommitsTo w c w (Err why)
refuses w history commits volumes c starts why same are starts_are refused =
    subst (λ (it : World). CommitsTo it c it (Err why)) same (refl, go (cause why) (subst (λ (s : List (List ℕ × ℕ)). Prepares history c s (Err why)) starts_are refused))
  where
    go : (o : Option ℕ)
        → IfSome o (λ n. (w : World) (found : List Volume) → rows_of_jobs w.jobs ≡ history → lengths_of found ≡ lengths_of volumes → IsRefusedFor w c found n)
        → IfSome o (IsRefusedFor (backups_of history commits volumes) c volumes)
    go None h = tt
    go (Some n) h = h (backups_of history commits volumes) volumes (rows_back history commits are.each) refl

-- what is seen of blocks
abbrev seen : List ℕ × Vec ℕ → List ℕ × List ℕ
seen b = (b.0, b.1.items)

-- one that is prepared is added, or memory ran out
pub adds : (r : Result (Unit {0}) HistoryFault) (history history' : List JobRows) (commits commits' : List Committed) (volumes later volumes' : List Volume) (c : ToCommit) (rows : JobRows)
    (starts : List (List ℕ × ℕ)) (blocks given : List (List ℕ × Vec ℕ)) → AreBackups history commits volumes → starts ≡ lengths_of volumes → given ≡ blocks
    → IsPrepared history c starts rows (map seen blocks) → AreAppended (map seen given) volumes later → Extends later volumes
    → Answers (λ (u : Unit {0}). history') cause r (pushed history rows) → OnOk r (IsAdded history commits rows (record { job = c; before = volumes }) later history' commits' volumes')
    → OnErr r ((history' ≡ history) × (commits' ≡ commits) × (volumes' ≡ volumes))
    → CommitsTo (backups_of history commits volumes) c (backups_of history' commits' volumes') r × AreBackups history' commits' volumes'
adds (Ok u) history history' commits commits' volumes later volumes' c rows starts blocks given are starts_are given_are is appended extends answers ok err =
    let prepared = subst (λ (s : List (List ℕ × ℕ)). IsPrepared history c s rows (map seen blocks)) starts_are is in
    let all = subst (λ (bs : List (List ℕ × Vec ℕ)). AreAppended (map seen bs) volumes later) given_are appended in
    rw (ok.history_is, ok.commits_are, ok.volumes_are)
    (committed history commits volumes later c rows (map seen blocks) are prepared all extends, still_backups history commits volumes later c rows (map seen blocks) are prepared all)
adds (Err why) history history' commits commits' volumes later volumes' c rows starts blocks given are starts_are given_are is appended extends answers ok err =
    let memory : why ≡ Memory = only_memory why (pushed history rows) (history ++ rows ∷ []) is.fits answers in
    rw (err.0, err.1, err.2, memory) ((refl, tt), are)

-- the session of a job that is added was appended to the volumes before it
pub appends : (r : Result (Unit {0}) HistoryFault) (history history' : List JobRows) (commits commits' : List Committed) (volumes later volumes' : List Volume) (c : ToCommit) (rows : JobRows)
    (starts : List (List ℕ × ℕ)) (blocks given : List (List ℕ × Vec ℕ)) → starts ≡ lengths_of volumes → given ≡ blocks → IsPrepared history c starts rows (map seen blocks)
    → AreAppended (map seen given) volumes later → OnOk r (IsAdded history commits rows (record { job = c; before = volumes }) later history' commits' volumes')
    → OnOk r (AppendsSession volumes c volumes')
appends (Ok u) history history' commits commits' volumes later volumes' c rows starts blocks given starts_are given_are is appended ok =
    let prepared = subst (λ (s : List (List ℕ × ℕ)). IsPrepared history c s rows (map seen blocks)) starts_are is in
    let all = subst (λ (bs : List (List ℕ × List ℕ)). AreAppended bs volumes later) (ap (map seen) given_are ∙ prepared.session.blocks_are) appended in
    record {
      written = prepared.session.written;
      is_written = prepared.session.is_session.is_written.is_written;
      appended = subst (λ (vs : List Volume). AreAppended prepared.session.written.blocks volumes vs) (sym ok.volumes_are) all;
    }
appends (Err why) history history' commits commits' volumes later volumes' c rows starts blocks given starts_are given_are is appended ok = tt

-- ---- what is seen of the jobs and volumes

-- there is a state before each commit
pub as_many : (w : World) (history : List JobRows) (commits : List Committed) (volumes : List Volume) → backups_of history commits volumes ≡ w → AreBackups history commits volumes
    → length w.jobs ≡ length w.earlier
as_many w history commits volumes same are =
    subst (λ (it : World). length it.jobs ≡ length it.earlier) same (jobs_length history commits are.each ∙ sym (length-map commits (λ (c : Committed). c.before)))

-- the number of commits is that of jobs
pub commits_length : (w : World) (history : List JobRows) (commits : List Committed) (volumes : List Volume) → backups_of history commits volumes ≡ w → AreBackups history commits volumes
    → length commits ≡ length w.jobs
commits_length w history commits volumes same are = subst (λ (it : World). length commits ≡ length it.jobs) same (sym (jobs_length history commits are.each))

-- the history has the rows of the jobs
pub rows_are : (w : World) (history : List JobRows) (commits : List Committed) (volumes : List Volume) → backups_of history commits volumes ≡ w → AreBackups history commits volumes
    → history ≡ rows_of_jobs w.jobs
rows_are w history commits volumes same are = subst (λ (it : World). history ≡ rows_of_jobs it.jobs) same (sym (rows_back history commits are.each))

-- the volumes consist of whole blocks
pub are_whole : (w : World) (history : List JobRows) (commits : List Committed) (volumes : List Volume) → backups_of history commits volumes ≡ w → AreBackups history commits volumes → AreWhole w.volumes
are_whole w history commits volumes same are = subst (λ (it : World). AreWhole it.volumes) same are.whole

-- no jobs and no volumes
pub no_backups : AreBackups [] [] []
unfolding volume_bytes
no_backups = record { each = refl; whole = λ name. ([], inl refl) }
