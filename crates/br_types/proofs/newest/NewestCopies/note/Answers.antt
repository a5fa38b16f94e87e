use Rattle.std.proofs.lemmas.Result.{on_ok_weaker}
use Rattle.br_types.proofs.NewestLaws.{noted_more}
use Rattle.br_types.proofs.newest.NewestCopies.note.Goals as goal

pub returns : goal.returns
returns c =
    on_ok_weaker c.keep.result (λ keeps copies was.
    noted_more c.args.self.now.newest c.keep.new.newest (record { key = c.args.key; path = c.args.path.now }) keeps copies was)
    c.keep.ensures
