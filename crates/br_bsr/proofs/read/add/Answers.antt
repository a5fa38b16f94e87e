use Rattle.std.proofs.Common.{◌≡◌, ◌<◌, ◌-◌, length, vec_len, ap, sym, ◌∙◌, arith}
use Rattle.br_model.specs.Bootstrap.{with_ranges}
use Rattle.br_model.specs.BootstrapText.{with_statement}
use Rattle.br_bsr.specs.Line.{statement_view}
use Rattle.br_bsr.specs.Statement.{criterion_of}
use Rattle.br_bsr.proofs.LineLaws.{last_changed, none_changed}
use Rattle.br_bsr.proofs.read.add.Goals as goal
use Rattle.br_bsr.proofs.read.add.Goals.{in-Some+in_ok-admit-in-Admits, in_default}

pub returns-after-last_mut-clause-groups : goal.returns-after-last_mut-clause-groups
returns-after-last_mut-clause-groups c =
    elim c.match-last_mut.branch [
      | in-Some+in_ok-admit-in-Admits w ↦
          let some : 0 < length c.args.groups.now.items = w.in-Some.ensures.item.3.0 in
          let whole : vec_len c.args.groups.now ≡ length c.args.groups.now.items = c.args.groups.now.ok.0 in
          ap (λ groups. groups.items) w.groups-is
          ∙ last_changed (with_ranges (criterion_of c.in-Admits.criterion) c.in-Admits.ranges.items) c.args.groups.now.items (vec_len c.args.groups.now - 1)
          w.in-Some.group.now w.admit.new.self (omega (arith, some, whole)) w.in-Some.ensures.value
          (w.in_ok-admit-in-Admits.ensures ∙ ap (λ ranges. with_ranges (criterion_of c.in-Admits.criterion) ranges w.in-Some.group.now) w.deref.ensures.value)
          ∙ ap (λ statement. with_statement c.args.groups.now.items (statement_view statement)) (sym c.in-Admits.is)
      | in_default w ↦
          ap (λ groups. groups.items) w.groups-is
          ∙ none_changed (with_ranges (criterion_of c.in-Admits.criterion) c.in-Admits.ranges.items) c.args.groups.now.items w.in_default.ensures.item.3
          ∙ ap (λ statement. with_statement c.args.groups.now.items (statement_view statement)) (sym c.in-Admits.is)
    ]
