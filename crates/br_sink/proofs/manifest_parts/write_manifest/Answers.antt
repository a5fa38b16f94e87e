use Rattle.std.proofs.Common.{List, ℕ, ◌++◌, map, flat_map, ap, subst, ◌∙◌}
use Rattle.std.specs.Io.KnownBytes.{Appends}
use Rattle.br_model.specs.Manifest.{Totals, file_line, manifest, total_line}
use Rattle.br_join.specs.Outcome.{restored}
use Rattle.br_sink.specs.ManifestParts.{WritesPart}
use Rattle.br_sink.proofs.PartLaws.{part_all}
use Rattle.br_sink.proofs.manifest_parts.write_manifest.Goals as goal

pub returns : goal.returns
unfolding manifest
returns g c =
    let before = g.W.Write.contents c.args.writer.now in
    let between = g.W.Write.contents c.write_lines.new.writer in
    let after = g.W.Write.contents c.write_all.new.self in
    let lines = flat_map file_line (map restored c.args.outcomes.now) in
    part_all before between after c.write_lines.new.text.items (total_line c.totals.result) lines (manifest (map restored c.args.outcomes.now))
    (ap (λ (t : Totals). lines ++ total_line t) c.totals.ensures)
    (subst (WritesPart before between c.write_lines.new.text.items) (ap (λ (bytes : List ℕ). bytes ++ lines) c.requires) c.in_ok-write_lines.ensures)
    (subst (Appends between after) (c.deref.ensures.value ∙ c.in_ok-push_totals.ensures) c.in_ok-write_all.ensures.bytes)
