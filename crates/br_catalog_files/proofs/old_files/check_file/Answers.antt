use Rattle.std.proofs.Common.{arith, sym, ◌∙◌}
use Rattle.br_catalog_files.proofs.FileLaws.{file_is_whole}
use Rattle.br_catalog_files.proofs.old_files.check_file.Goals.{then-file-gt-MAX_INDEX-via-then-file-gt-MAX_INDEX, then-file-gt-MAX_INDEX-via-else-file-gt-MAX_INDEX+then-not-has_numbers, then-not-is_text-via-then-not-is_text, then-not-is_text-via-else-not-is_text+then-not-is_digest}
use Rattle.br_catalog_files.proofs.old_files.check_file.Goals as goal
use Rattle.std.proofs.lemmas.Result.{err_from_is_err_and}
use Rattle.br_catalog_files.proofs.TakeLaws.{checked_file}

pub returns-clause-whole : goal.returns-clause-whole
returns-clause-whole c =
    let file = c.args.file.now in
    file_is_whole file.numbers.job file.numbers.index c.args.front.now c.args.rest.now file.lstat.now file.digest.now (omega (arith, c.if-file-gt-MAX_INDEX.false)) c.in_ok-check_path.ensures.path
    (sym c.is_text.ensures ∙ c.if-not-is_text.false) (sym c.is_digest.ensures ∙ c.if-not-is_digest.false) (sym c.has_numbers.ensures ∙ c.if-not-has_numbers.false)

pub returns-in_err-check_path-clause-other : goal.returns-in_err-check_path-clause-other
returns-in_err-check_path-clause-other c = λ whole.
    let p = err_from_is_err_and c.from_residual.result c.from_residual.ensures.1 in
    rw (p.1, p.2) (c.in_err-check_path.ensures.other (checked_file c.args.file.now c.args.front.now c.args.rest.now whole).path)

pub returns-then-file-gt-MAX_INDEX-clause-other : goal.returns-then-file-gt-MAX_INDEX-clause-other
returns-then-file-gt-MAX_INDEX-clause-other c = λ whole.
    let it = checked_file c.args.file.now c.args.front.now c.args.rest.now whole in
    elim c.then-file-gt-MAX_INDEX.branch [
      | then-file-gt-MAX_INDEX-via-then-file-gt-MAX_INDEX w ↦ absurd (omega (arith, it.low, w.if-file-gt-MAX_INDEX.true))
      | then-file-gt-MAX_INDEX-via-else-file-gt-MAX_INDEX+then-not-has_numbers w ↦ sym it.numbers ∙ sym w.has_numbers.ensures ∙ w.if-not-has_numbers.true
    ]

pub returns-then-not-is_text-clause-other : goal.returns-then-not-is_text-clause-other
returns-then-not-is_text-clause-other c = λ whole.
    let it = checked_file c.args.file.now c.args.front.now c.args.rest.now whole in
    elim c.then-not-is_text.branch [
      | then-not-is_text-via-then-not-is_text w ↦ sym it.characters_are ∙ sym c.is_text.ensures ∙ w.if-not-is_text.true
      | then-not-is_text-via-else-not-is_text+then-not-is_digest w ↦ sym it.digest_is ∙ sym w.is_digest.ensures ∙ w.if-not-is_digest.true
    ]
