use Rattle.std.proofs.Common.{List, ℕ, Ok, OnOk, ap, subst}
use Rattle.br_sink_folder.specs.Below.{KeepsOutside}
use Rattle.br_sink_folder.specs.Way.{MakesFolder}
use Rattle.br_sink_folder.proofs.LikeLaws.{outside_after, put_parts_after, puts_there}
use Rattle.br_sink_folder.proofs.WayLaws.{no_folder}
use Rattle.br_sink_folder.proofs.resumed_delivery.put_missing_parts.Goals as goal

pub returns-then-is_there-clause-file : goal.returns-then-is_there-clause-file
returns-then-is_there-clause-file g c =
    puts_there c.args.sink.now.path c.args.item.now c.args.sink.now.nodes c.is_put.new.self.nodes c.is_put.ensures.added
    (c.in_ok-is_there.ensures.there (ap Ok c.if-is_there.true))

pub returns-else-is_there-clause-file : goal.returns-else-is_there-clause-file
returns-else-is_there-clause-file g c =
    put_parts_after c.put_parts.result c.args.sink.now.path c.is_put.new.self.path c.args.item.now c.args.sink.now.nodes c.is_put.new.self.nodes
    c.put_parts.new.self.nodes c.is_put.ensures.path c.is_put.ensures.added c.put_parts.ensures.alike c.put_parts.ensures.file

pub returns-else-is_there-clause-outside : goal.returns-else-is_there-clause-outside
returns-else-is_there-clause-outside g c =
    outside_after c.args.sink.now.path c.args.sink.now.nodes c.is_put.new.self.nodes c.put_parts.new.self.nodes c.is_put.ensures.added
    (subst (λ (p : List ℕ). KeepsOutside p c.is_put.new.self.nodes c.put_parts.new.self.nodes) c.is_put.ensures.path c.put_parts.ensures.outside)

pub returns-then-is_there-clause-folder : goal.returns-then-is_there-clause-folder
returns-then-is_there-clause-folder g c =
    no_folder c.args.sink.now.path c.args.item.now c.is_put.new.self.nodes (c.in_ok-is_there.ensures.file (ap Ok c.if-is_there.true))

pub returns-else-is_there-clause-folder : goal.returns-else-is_there-clause-folder
returns-else-is_there-clause-folder g c =
    subst (λ (p : List ℕ). OnOk c.put_parts.result (MakesFolder p c.args.item.now c.put_parts.new.self.nodes)) c.is_put.ensures.path
    c.put_parts.ensures.folder
