use Rattle.std.proofs.Common.{◌≡◌, ℕ, ◌-◌, take, ap, ◌∙◌, arith}
use Rattle.br_sink_folder.proofs.BelowLaws.{front_below}
use Rattle.br_sink_folder.proofs.WayLaws.{front_now}
use Rattle.br_sink_folder.proofs.below_folder.make_front.Goals as goal

pub returns-in-Some : goal.returns-in-Some
returns-in-Some g c =
    let root = c.args.root.now in
    let path = c.args.path.now in
    let front = c.in-Some.front.now in
    let got = rw c.in-Some.is at c.get.ensures.cases in
    let less : c.args.at - 0 ≡ c.args.at = omega arith in
    let is : front ≡ take c.args.at path = got.0 ∙ ap (λ (n : ℕ). take n path) less in
    record {
      folder = front_now c.make_folder.result path front c.args.at (g.M.FileMaker.nodes c.make_folder.new.maker) is c.make_folder.ensures.folder;
      added = c.make_folder.ensures.added root (front_below root path front c.args.at c.requires.below c.requires.past got.0);
    }
