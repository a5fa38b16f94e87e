use Rattle.std.proofs.Common.{◌≡◌, ◌++◌, ◌∷◌, [], map, reverse, subst}
use Rattle.std.specs.List.{AllByRecursion}
use Rattle.std.proofs.lemmas.Result.{err_from_is_err_and}
use Rattle.br_data.proofs.GoOnLaws.{go_more}
use Rattle.br_join.specs.Outcome.{restored}
use Rattle.br_reread_files.specs.Runs.{GivesRuns}
use Rattle.br_reread_files.specs.Sharing.{IsBegun, runs_in}
use Rattle.br_reread_files.specs.declared.file_work.Work.{Work}
use Rattle.br_reread_files.proofs.GivenLaws.{fault_again}
use Rattle.br_reread_files.proofs.RunLaws.{runs_kept}
use Rattle.br_reread_files.proofs.SharingLaws.{given_behind, given_front, last_first, works_more}
use Rattle.br_reread_files.proofs.TurnLaws.{all_but_last}
use Rattle.br_reread_files.proofs.file_work.finish_all.Goals as goal

pub loop-alloc-preserved : goal.loop-alloc-preserved
loop-alloc-preserved g c =
    let i = c.loop-alloc.invariant in
    let first = c.args.many.now in
    let before = c.loop-alloc.many in
    let work : Work = c.take_last.result in
    let new = c.take_last.new.self.items in
    let old = c.loop-alloc.works.items in
    let taken : old ≡ new ++ work ∷ [] = c.take_last.ensures.items in
    let turned : runs_in (reverse old) ≡ work.runs.now ++ runs_in (reverse new) = last_first new old work taken in record {
      on = go_more _ _ _ i.on c.push_work.ensures.on;
      begun = λ begun. (all_but_last IsBegun new work (subst (AllByRecursion IsBegun) taken (i.begun begun))).0;
      given = λ given. given_behind first work.runs.now (runs_in (reverse new)) (subst (GivesRuns first) turned (i.given given));
      files = λ given begun.
          works_more (map restored c.loop-alloc.made.items) _ _ new old work taken
          (c.in_ok-push_work.ensures.files
          (runs_kept c.standing_stays.ensures first before work.runs.now i.on (given_front first work.runs.now (runs_in (reverse new)) (subst (GivesRuns first) turned (i.given given))))
          (all_but_last IsBegun new work (subst (AllByRecursion IsBegun) taken (i.begun begun))).1)
          (i.files given begun);
    }

pub returns-in_err-push_work-clause-changed : goal.returns-in_err-push_work-clause-changed
returns-in_err-push_work-clause-changed g c =
    let i = c.loop-alloc.invariant in
    let first = c.args.many.now in
    let work : Work = c.take_last.result in
    let new = c.take_last.new.self.items in
    let old = c.loop-alloc.works.items in
    let taken : old ≡ new ++ work ∷ [] = c.take_last.ensures.items in
    let turned : runs_in (reverse old) ≡ work.runs.now ++ runs_in (reverse new) = last_first new old work taken in
    let p = err_from_is_err_and c.from_residual.result c.from_residual.ensures.1 in
    rw (p.1, p.2)
    (λ is can.
    c.in_err-push_work.ensures.changed (fault_again _ _ is)
    (runs_kept c.standing_stays.ensures first c.loop-alloc.many work.runs.now i.on
    (given_front first work.runs.now (runs_in (reverse new)) (subst (GivesRuns first) turned (i.given can.0))))
    (all_but_last IsBegun new work (subst (AllByRecursion IsBegun) taken (i.begun can.1))).1)
