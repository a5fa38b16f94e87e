use Rattle.std.proofs.Common.{◌≡◌, ◌==◌, ◌+◌, not, Ok, length, ap, sym, ◌∙◌, eqb-true, arith}
use Rattle.std.specs.List.{list_all}
use Rattle.std.specs.Str.Lines.{lines}
use Rattle.br_model.specs.Text.{is_empty}
use Rattle.br_model.specs.BootstrapText.{is_group, read_lines, read_bootstrap}
use Rattle.br_bsr.specs.Fault.{refusal_cause}
use Rattle.br_bsr.specs.Line.{statement_view}
use Rattle.br_bsr.proofs.LineLaws.{line_said, lines_refused, lines_over}
use Rattle.br_bsr.proofs.ValidLaws.{line_valid, statement_valid}
use Rattle.br_bsr.proofs.read.groups_in.Goals as goal

pub returns : goal.returns
unfolding read_bootstrap
returns c =
    c.loop-rest.invariant.reads
    ∙ lines_over (c.loop-rest.number + 1) c.loop-rest.groups.items c.loop-rest.rest.now (eqb-true (length c.loop-rest.rest.now) 0 (sym c.is_empty.ensures ∙ c.loop-rest-test.false))
    ∙ ap Ok (sym c.from_valid.ensures)

pub returns-in-Err : goal.returns-in-Err
unfolding read_bootstrap
returns-in-Err c =
    let has : not c.is_empty-in-loop-rest.result ≡ not (is_empty c.loop-rest.groups.items) =
    ap not (c.is_empty-in-loop-rest.ensures ∙ ap (λ n. n == 0) c.loop-rest.groups.ok.0) in
    let split = c.loop-rest.invariant.reads ∙ ap (read_lines (c.loop-rest.number + 1) c.loop-rest.groups.items) c.first_line.ensures.first in
    rw (c.at.ensures, split)
    (lines_refused (c.loop-rest.number + 1) c.loop-rest.groups.items (not c.is_empty-in-loop-rest.result) c.first_line.result.0.now (lines c.first_line.result.1.now) (refusal_cause c.in-Err.refusal) has c.in-Err.ensures)

pub loop-rest-preserved : goal.loop-rest-preserved
loop-rest-preserved c =
    let has : not c.is_empty-in-loop-rest.result ≡ not (is_empty c.loop-rest.groups.items) =
    ap not (c.is_empty-in-loop-rest.ensures ∙ ap (λ n. n == 0) c.loop-rest.groups.ok.0) in record {
      reads =
          c.loop-rest.invariant.reads ∙ ap (read_lines (c.loop-rest.number + 1) c.loop-rest.groups.items) c.first_line.ensures.first
          ∙ line_said (c.loop-rest.number + 1) c.loop-rest.groups.items (not c.is_empty-in-loop-rest.result) c.first_line.result.0.now (lines c.first_line.result.1.now) (statement_view c.in-Ok.statement) has c.in-Ok.ensures
          ∙ ap (λ groups. read_lines (c.loop-rest.number + 1 + 1) groups (lines c.first_line.result.1.now)) (sym c.in_ok-add.ensures.groups);
      counts = omega (arith, c.first_line.ensures.shorter, c.loop-rest.invariant.counts);
      few = c.in_ok-add.ensures.few;
      valid =
          ap (list_all is_group) c.in_ok-add.ensures.groups
          ∙ statement_valid c.loop-rest.groups.items (statement_view c.in-Ok.statement) c.loop-rest.invariant.valid
          (line_valid (not c.is_empty-in-loop-rest.result) c.first_line.result.0.now (statement_view c.in-Ok.statement) c.in-Ok.ensures);
    }
