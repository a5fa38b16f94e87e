use Rattle.std.proofs.Common.{◌<◌, ◌≤◌, ◌∙◌, length, refl, arith, le_refl}
use Rattle.std.proofs.lemmas.Grind.{common_steps}
use Rattle.br_store.proofs.LookParts.{reading_start, reading_more, reading_end}
use Rattle.br_store.proofs.look_file.read_all.Goals as goal

pub loop-source-init : goal.loop-source-init
loop-source-init g c = record { begun = reading_start _ _ _ _ c.new-bytes.ensures.items; same = refl; later = le_refl _ }

pub loop-source-preserved : goal.loop-source-preserved
loop-source-preserved g c =
    let few : length c.loop-source.bytes.items < c.args.len = let count = c.len.ensures in let test = c.loop-source-test.true in grind (arith, common_steps) in
    record {
      begun = reading_more _ _ _ _ _ _ _ _ c.args.len c.loop-source.invariant.same c.loop-source.invariant.later c.in_ok-read_more.ensures.later
          c.loop-source.invariant.begun c.requires.len few c.in_ok-read_more.ensures.read;
      same = c.in_ok-read_more.ensures.same ∙ c.loop-source.invariant.same;
      later = omega (arith, c.loop-source.invariant.later, c.in_ok-read_more.ensures.later);
    }

pub returns-clause-read : goal.returns-clause-read
returns-clause-read g c =
    let whole : c.args.len ≤ length c.loop-source.bytes.items = let count = c.len.ensures in let test = c.loop-source-test.false in grind (arith, common_steps) in
    reading_end _ _ _ _ _ _ c.args.len c.loop-source.invariant.begun c.requires.len whole c.truncate.ensures.items
