use Rattle.br_sink.proofs.keep_going.LeavingSink.put_all.Goals as goal

pub invariant_of-self : goal.invariant_of-self
invariant_of-self g c = c.put_each.ensures.noted (g.S.Sink.has c.self.inside.start.value) c.self.invariant
