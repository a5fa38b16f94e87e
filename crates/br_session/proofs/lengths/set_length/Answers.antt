use Rattle.std.proofs.lemmas.Map.Text.{btree_map_updates_str}
use Rattle.br_session.proofs.LengthLaws.{length_put}
use Rattle.br_session.proofs.lengths.set_length.Goals as goal

pub returns : goal.returns
returns c = λ list was name.
    let put = btree_map_updates_str c.bytes.result.now c.args.lengths.now c.insert.new.self _ c.in_ok-insert.ensures.updates name in
    length_put _ _ c.args.vol.now name c.args.length list (was name) (rw c.bytes.ensures.same at put)
