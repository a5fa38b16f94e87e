use Rattle.std.proofs.Common.{◌≡◌, ◌<◌, ◌^◌, rules, Some, sym, ap, subst, ◌∙◌, arith}
use Rattle.std.proofs.lemmas.Option.{same_Some}
use Rattle.br_model.specs.Name.{SessionKey}
use Rattle.br_model.specs.Block.{Header, header_bytes}
use Rattle.br_model.proofs.WrittenBlockLaws.{IsKey}
use Rattle.br_block.proofs.BuildingLaws.{header_reads_back}
use Rattle.br_block.proofs.head.BlockHead.write.Goals as goal

pub returns-clause-text : goal.returns-clause-text
unfolding header_bytes
returns-clause-text c = search rules

pub returns-clause-reads_back : goal.returns-clause-reads_back
returns-clause-reads_back c =
    let a : c.self.inside.checksum < 2 ^ 32 = search rules in
    let b : c.self.inside.number < 2 ^ 32 = search rules in
    let id : c.in-Some.id < 2 ^ 32 = search rules in
    let time : c.in-Some.time < 2 ^ 32 = search rules in
    let checksum : c.self.inside.checksum ≡ c.args.self.now.checksum = ap (λ (h : Header). h.checksum) c.self.view_is in
    let number : c.self.inside.number ≡ c.args.self.now.number = ap (λ (h : Header). h.number) c.self.view_is in
    let key : SessionKey = record { id = c.in-Some.id; time = c.in-Some.time } in
    let session : c.args.self.now.session ≡ Some key = search rules in
    λ from to. header_reads_back c.args.self.now _ (returns-clause-text c) (record {
      checksum_to = omega (arith, checksum, a);
      size_from = rw session from;
      size_to = to;
      number_to = omega (arith, number, b);
      session_is = λ other is. subst IsKey (same_Some key other (sym session ∙ is)) (record { id_to = id; time_to = time });
    })
