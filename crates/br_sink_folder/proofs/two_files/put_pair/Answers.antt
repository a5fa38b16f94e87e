use Rattle.std.proofs.Common.{sym, ◌∙◌}
use Rattle.br_sink_folder.proofs.two_files.put_pair.Goals as goal

pub returns-clause-left : goal.returns-clause-left
returns-clause-left g c =
    c.write_pair.ensures.left (sym c.is_file.ensures ∙ c.if-not-is_file.false) (sym c.is_file-else-not-is_file.ensures ∙ c.if-not-is_file-2.false) _
    (_, c.in-Ok.ensures.made, c.in-Ok-make_second.ensures.made)
