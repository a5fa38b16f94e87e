use Rattle.std.proofs.Common.{List, ℕ, Ok, OnOk, ap, subst}
use Rattle.br_sink_folder.specs.Below.{KeepsOutside}
use Rattle.br_sink_folder.specs.Way.{MakesFolder}
use Rattle.br_sink_folder.proofs.LikeLaws.{changes_after, gives_only, gives_up_after, outside_after, put_after, puts_there}
use Rattle.br_sink_folder.proofs.WayLaws.{no_folder}
use Rattle.br_sink_folder.proofs.WindowLaws.{on_err_known}
use Rattle.br_sink_folder.proofs.resumed_delivery.put_missing.Goals as goal

pub returns-then-branch-clause-file : goal.returns-then-branch-clause-file
returns-then-branch-clause-file g c =
    puts_there c.args.sink.now.path c.args.item.now c.args.sink.now.nodes c.is_put.new.self.nodes c.is_put.ensures.added
    (c.in_ok-is_put.ensures.there (ap Ok c.if-branch.true))

pub returns-else-branch-clause-file : goal.returns-else-branch-clause-file
returns-else-branch-clause-file g c =
    put_after c.put.result c.args.sink.now.path c.is_put.new.self.path c.args.item.now c.args.sink.now.nodes c.is_put.new.self.nodes
    c.put.new.self.nodes c.is_put.ensures.path c.is_put.ensures.added c.put.ensures.file

pub returns-else-branch-clause-outside : goal.returns-else-branch-clause-outside
returns-else-branch-clause-outside g c =
    outside_after c.args.sink.now.path c.args.sink.now.nodes c.is_put.new.self.nodes c.put.new.self.nodes c.is_put.ensures.added
    (subst (λ (p : List ℕ). KeepsOutside p c.is_put.new.self.nodes c.put.new.self.nodes) c.is_put.ensures.path c.put.ensures.outside)

pub returns-else-branch-clause-rest : goal.returns-else-branch-clause-rest
returns-else-branch-clause-rest g c =
    changes_after c.args.sink.now.path c.is_put.new.self.path c.args.item.now.path c.args.sink.now.nodes c.is_put.new.self.nodes c.put.new.self.nodes
    c.is_put.ensures.path c.is_put.ensures.added c.put.ensures.rest

pub returns-then-branch-clause-folder : goal.returns-then-branch-clause-folder
returns-then-branch-clause-folder g c =
    no_folder c.args.sink.now.path c.args.item.now c.is_put.new.self.nodes (c.in_ok-is_put.ensures.file (ap Ok c.if-branch.true))

pub returns-else-branch-clause-folder : goal.returns-else-branch-clause-folder
returns-else-branch-clause-folder g c =
    subst (λ (p : List ℕ). OnOk c.put.result (MakesFolder p c.args.item.now c.put.new.self.nodes)) c.is_put.ensures.path c.put.ensures.folder

pub returns-else-branch-clause-removed : goal.returns-else-branch-clause-removed
returns-else-branch-clause-removed g c =
    gives_up_after c.put.result g.M.Remover.is_refused c.args.sink.now.path c.is_put.new.self.path c.args.item.now.path c.args.sink.now.nodes
    c.is_put.new.self.nodes c.put.new.self.nodes c.is_put.ensures.path c.is_put.ensures.added c.put.ensures.removed

pub returns-in_err-is_put-clause-removed : goal.returns-in_err-is_put-clause-removed
returns-in_err-is_put-clause-removed g c =
    on_err_known c.from_residual.result
    (gives_only g.M.Remover.is_refused c.args.sink.now.path c.args.item.now.path c.args.sink.now.nodes c.is_put.new.self.nodes c.is_put.ensures.added)
