use Rattle.std.proofs.Common.{inr, ap}
use Rattle.br_cli_serve.proofs.DialogueLaws.{held_by}
use Rattle.br_cli_serve.proofs.script.Script.restore.Goals as goal

pub returns-clause-restores : goal.returns-clause-restores
returns-clause-restores g c =
    let old = c.args.self.now in
    let over = c.in_ok-dialogue.ensures.over in
    inr (
      c.in-Ok.request,
      c.in-Ok.ensures,
      held_by old.desk.session (g.V.VolumeStore.holds old.desk.keeper.volumes) _ old.drives _ c.in-Ok.request
          (g.W.Write.contents c.args.writer.now) (g.W.Write.contents c.converse.new.writer) (g.W.Write.contents c.finish_dialogue.new.writer) old.end _
          c.finish_dialogue.new.self.end c.finish_dialogue.result c.in_ok-dialogue.dialogue
          (ap (λ k. g.V.VolumeStore.holds k.volumes) c.converse.ensures.keeper) c.converse.ensures.drives c.converse.ensures.end over c.finish_dialogue.ensures.finishes,
    )
