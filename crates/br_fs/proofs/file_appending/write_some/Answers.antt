use Rattle.std.proofs.Common.{◌∙◌}
use Rattle.br_fs.proofs.DurableLaws.{lasts_more}
use Rattle.br_fs.proofs.file_appending.write_some.Goals as goal

pub returns-in_default : goal.returns-in_default
returns-in_default g c = record {
  fits = tt;
  written = tt;
  refused = c.in_default.ensures.refused ∙ c.loop.invariant.same;
  file = c.write.ensures.file ∙ c.loop.invariant.file;
  lasts = lasts_more _ _ _ c.loop.invariant.lasts c.write.ensures.lasts;
}

pub returns-in_default-2-clause-lasts : goal.returns-in_default-2-clause-lasts
returns-in_default-2-clause-lasts g c = lasts_more _ _ _ c.loop.invariant.lasts c.write.ensures.lasts

pub loop-preserved : goal.loop-preserved
loop-preserved g c = record {
  same = c.in-Err-Interrupted.ensures.refused ∙ c.loop.invariant.same;
  file = c.write.ensures.file ∙ c.loop.invariant.file;
  lasts = lasts_more _ _ _ c.loop.invariant.lasts c.write.ensures.lasts;
}
