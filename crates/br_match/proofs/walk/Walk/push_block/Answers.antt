use Rattle.std.proofs.Common.{◌≡◌, ◌+◌, false, Ok, sym, ◌∙◌}
use Rattle.br_model.specs.Meaning.{is_covered, just_groups}
use Rattle.br_match.specs.Walk.{BlockAnswers, Follows, HasHead}
use Rattle.br_match.proofs.FoundLaws.{uncovered_step}
use Rattle.br_match.proofs.GroupLaws.{covered_alike}
use Rattle.br_match.proofs.OverLaws.{over_any}
use Rattle.br_match.proofs.walk.Walk.push_block.Goals as goal

pub push_covered-requires-clause-covered : goal.push_covered-requires-clause-covered
push_covered-requires-clause-covered g c =
    sym (covered_alike c.args.self.now.matchers c.args.self.now.piece.now.groups c.args.self.now.addr c.args.self.now.alike) ∙ sym c.covers_any.ensures ∙ c.if-covers_any.true

pub returns-else-covers_any-clause-hits : goal.returns-else-covers_any-clause-hits
returns-else-covers_any-clause-hits g c =
    let piece = c.args.self.now.piece.now in
    let a = c.args.self.now.addr in
    let h = c.args.head in
    let hits = c.args.hits.now.items in
    let uncovered : is_covered (just_groups piece.groups) a ≡ false =
    sym (covered_alike c.args.self.now.matchers piece.groups a c.args.self.now.alike) ∙ sym c.covers_any.ensures ∙ c.if-covers_any.false in
    let shows = g.D.Drive.shows c.args.drive.now in
    over_any shows shows piece (λ volumes. Follows volumes piece a → HasHead volumes piece a h → BlockAnswers piece a (a + h.size) hits hits (Ok tt) volumes)
    (λ volumes follows has. uncovered_step volumes piece a h hits c.requires.near uncovered has)
