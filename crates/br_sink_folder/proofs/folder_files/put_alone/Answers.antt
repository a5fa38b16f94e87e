use Rattle.std.proofs.Common.{◌≡◌, ◌∙◌, ap, length}
use Rattle.std.proofs.lemmas.Result.{err_from_is_err_and}
use Rattle.br_model.specs.Delivery.{Stop}
use Rattle.br_sink_folder.proofs.HeldLaws.{leaves_all}
use Rattle.br_sink_folder.proofs.StopLaws.{stops_here, stops_more}
use Rattle.br_sink_folder.proofs.folder_files.put_alone.Goals as goal

pub returns-in_err-write-clause-before : goal.returns-in_err-write-clause-before
returns-in_err-write-clause-before g c = λ items nodes is below held.
    let p = err_from_is_err_and c.from_residual.result c.from_residual.ensures.1 in
    rw (p.1, p.2)
    (stops_more g.M.Remover.is_refused c.args.root.now items c.args.item.now _ nodes (g.M.FileMaker.nodes c.write.new.maker) c.args.place is
    (c.in_err-write.ensures.stopped c.args.place below) (c.in_err-write.ensures.before items nodes held))

pub returns-in-Err-clause-before : goal.returns-in-Err-clause-before
returns-in-Err-clause-before g c = λ items nodes is below held.
    let at : c.of_sink.result.done ≡ length items = ap (λ (stop : Stop). stop.done) c.of_sink.ensures ∙ is in
    let left = c.in_ok-write.ensures.left items nodes held in
    stops_here g.M.Remover.is_refused c.args.root.now items c.args.item.now c.of_sink.result nodes (g.M.FileMaker.nodes c.write.new.maker)
    (g.M.FileMaker.nodes c.write_item.new.maker) at left.files c.write_item.ensures.rest c.in-Err.ensures.removed

pub returns-in-Ok-clause-left : goal.returns-in-Ok-clause-left
returns-in-Ok-clause-left g c = λ items nodes held.
    leaves_all c.args.root.now items c.args.item.now nodes (g.M.FileMaker.nodes c.write.new.maker) (g.M.FileMaker.nodes c.write_item.new.maker)
    (c.in_ok-write.ensures.left items nodes held) c.in-Ok.ensures.file c.write_item.ensures.folders c.in-Ok.ensures.folder
