use Rattle.std.proofs.Common.{◌∙◌, ◌++◌, ℕ, List, Option, Err, ap}
use Rattle.std.proofs.lemmas.Result.{on_ok_weaker}
use Rattle.br_volume.specs.declared.fault.DriveFault.{DriveFault}
use Rattle.br_check.specs.Label.{line_by, name_at}
use Rattle.br_check.proofs.LabelLaws.{label_passed, label_read}
use Rattle.br_check.proofs.label.push_label.Goals as goal

pub returns-in-Ok-clause-tells : goal.returns-in-Ok-clause-tells
returns-in-Ok-clause-tells g c =
    let before = c.args.text.now.items in
    on_ok_weaker c.push_by.result
    (λ pushed.
    label_read (g.D.Drive.shows c.block_at.new.self) (g.D.Drive.failures c.args.drive.now) (g.D.Drive.failures c.block_at.new.self) c.args.vol.now
    c.block_at.new.buf.items before c.push_by.new.text.items c.in-Ok.field-0 c.in-Ok.ensures.answers c.in-Ok.ensures.sized
    (pushed ∙ ap (λ (o : Option (List ℕ)). before ++ line_by c.args.vol.now o) (c.name_at.ensures ∙ ap name_at c.deref.ensures.value)))
    c.push_by.ensures

pub returns-in-Err-clause-tells : goal.returns-in-Err-clause-tells
returns-in-Err-clause-tells g c =
    on_ok_weaker c.passed.result
    (λ which.
    label_passed (g.D.Drive.shows c.block_at.new.self) (g.D.Drive.failures c.args.drive.now) (g.D.Drive.failures c.block_at.new.self) c.args.vol.now
    c.block_at.new.buf.items c.args.text.now.items c.in-Err.fault which c.in-Err.ensures.answers (λ is. c.in-Err.ensures.failed (ap (λ (f : DriveFault). Err f) is)))
    c.passed.ensures
