use Rattle.std.proofs.Common.{◌≡◌, ◌-◌, drop, sym, ap, ◌∙◌, arith}
use Rattle.br_plan.proofs.RunLaws.{run_is, run_of, runs_long}
use Rattle.br_plan.proofs.index_runs.run_at.Goals as goal

pub len_at-requires : goal.len_at-requires
len_at-requires c = omega (arith, runs_long c.args.files.now c.args.runs.now c.requires.runs, c.requires.inside)

pub end_of-end-requires-clause-some : goal.end_of-end-requires-clause-some
end_of-end-requires-clause-some c =
    (run_of c.args.files.now c.args.runs.now c.args.place c.len_at.result c.file_at-first.result _ _ c.requires.runs c.file_at-first.ensures c.len_at.ensures).0

pub file_at-last-requires : goal.file_at-last-requires
file_at-last-requires c = omega (arith, c.end_of-end.ensures.bound, c.end_of-end.ensures.after, c.saturating_sub.ensures)

pub returns-clause-first : goal.returns-clause-first
returns-clause-first c =
    let files = c.args.files.now in
    let place = c.args.place in
    let end = c.end_of-end.result in
    let is = c.end_of-end.ensures in
    let run = run_of files c.args.runs.now place c.len_at.result c.file_at-first.result _ _ c.requires.runs c.file_at-first.ensures c.len_at.ensures in
    let before : c.saturating_sub.result ≡ end - 1 = c.saturating_sub.ensures in
    rw (c.index_of.ensures.same, c.index_of-2.ensures.same)
    (run_is files place c.len_at.result end c.file_at-first.result c.file_at-last.result _ run.1 is.after is.fits is.bound
    (ap (λ k. drop k files) (sym before) ∙ c.file_at-last.ensures))
