use Rattle.br_sink_folder.proofs.WindowLaws.{below_push}
use Rattle.br_sink_folder.proofs.window.Window.hold.Goals as goal

pub returns-clause-below : goal.returns-clause-below
returns-clause-below g c = λ n below less. below_push n c.args.self.now.made.items c.push_reserved.new.self.items c.args.one c.push_reserved.ensures.items below less
