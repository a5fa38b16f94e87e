use Rattle.std.proofs.Common.{◌≡◌, length, vec_len, vec_capacity}
use Rattle.left_right.specs.Sides.{view}
use Rattle.br_keeper.specs.Sessions.{AllKnow}
use Rattle.br_keeper.specs.Writers.{ShowsAsBefore}
use Rattle.br_keeper.proofs.publisher.open_sessions.Given as goal

abbrev pub invariant-loop-count : goal.invariant-loop-count
invariant-loop-count l = record {
  same : ShowsAsBefore l.initial.writer l.writer;
  know : AllKnow l.front.book (view l.initial.writer.desk.place).opening l.front.log l.list.items;
  many : length l.list.items ≡ l.count;
  room : (vec_len l.list ≡ l.count) × (vec_capacity l.list ≡ vec_capacity l.initial.list);
}
