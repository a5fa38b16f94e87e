use Rattle.br_model.specs.Manifest.{file_line}
use Rattle.br_join.specs.Outcome.{restored}
use Rattle.br_sink.proofs.PartLaws.{lines_more, part_more}
use Rattle.br_sink.proofs.manifest_parts.write_lines.Goals as goal

pub loop-key-preserved : goal.loop-key-preserved
loop-key-preserved g c =
    let x = c.loop-key-item.result in
    part_more _ _ _ c.loop-key.text.items c.write_line.new.text.items (file_line (restored x)) _ _
    (lines_more file_line restored c.args.outcomes.now c.loop-key.key-index x c.args.text.now.items c.loop-key-test.true c.loop-key-item.is)
    c.loop-key.invariant c.in_ok-write_line.ensures
