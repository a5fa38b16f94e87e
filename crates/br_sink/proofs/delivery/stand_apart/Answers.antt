use Rattle.std.proofs.Common.{rules, ◌≡◌, ℕ, ◌+◌, ◌<◌, true, false, List, [], ◌∷◌, ◌++◌, take, drop, length, refl, ap, sym, subst, ◌∙◌, arith, append-nil, length-append}
use Rattle.std.specs.List.{list_any}
use Rattle.br_model.specs.Delivery.{in_the_way}
use Rattle.br_model.specs.File.{Item}
use Rattle.br_sink.specs.Delivery.{AreApart, StandApart, items_in}
use Rattle.br_types.specs.Conflicts.{Noted}
use Rattle.br_sink.proofs.DeliveryLaws.{items_at, items_file, items_fault, items_one_more, paths_behind, behind_one_more, apart_one_more, ends_apart, some_behind, not_false, not_true, stand_before}
use Rattle.br_sink.proofs.delivery.stand_apart.Goals as goal
use Rattle.br_sink.proofs.delivery.stand_apart.Goals.{in-File+in_ok-is_next+else-not-branch, in_default}

pub loop-outcome-init : goal.loop-outcome-init
loop-outcome-init c = record {
  place = refl;
  many = refl;
  few = omega arith;
  apart = ends_apart;
  noted = c.new-ways.ensures;
}

pub returns-in_err-is_next-clause-memory : goal.returns-in_err-is_next-clause-memory
returns-in_err-is_next-clause-memory c =
    let os = c.args.outcomes.now in
    let i : ℕ = c.loop-outcome.outcome-index in
    let item : Item = c.in-File.item in
    let before : List Item = items_in (take i os) in
    let around = items_at os i c.loop-outcome-item.result item c.loop-outcome-test.true c.loop-outcome-item.is c.in-File.is in
    let some : 0 < length (items_in os) = let w = some_behind (items_in os) before (items_in (drop (i + 1) os)) item around in omega (arith, w) in
    search (rules, some)

pub returns-then-not-branch-clause-apart : goal.returns-then-not-branch-clause-apart
returns-then-not-branch-clause-apart c =
    let os = c.args.outcomes.now in
    let i : ℕ = c.loop-outcome.outcome-index in
    let l = c.loop-outcome.invariant in
    let item : Item = c.in-File.item in
    let paths : List (List ℕ) = paths_behind [] (items_in (take i os)) in
    let around = items_at os i c.loop-outcome-item.result item c.loop-outcome-test.true c.loop-outcome-item.is c.in-File.is in
    let path_is : c.bytes.result.now ≡ item.path = search rules in
    let refused : c.in_ok-is_next.field-0 ≡ false = search rules in
    let way = not_false c.in_ok-is_next.field-0 (list_any (in_the_way c.bytes.result.now) paths) (c.in_ok-is_next.ensures.way paths l.noted) refused in
    subst (λ (p : ℕ). StandApart os p c.loop-outcome.files) (sym l.place)
    (stand_before os i c.loop-outcome.files item (items_in (drop (i + 1) os)) c.loop-outcome-test.true l.many around l.apart
    (subst (λ (p : List ℕ). list_any (in_the_way p) paths ≡ true) path_is way))

pub loop-outcome-preserved : goal.loop-outcome-preserved
loop-outcome-preserved c =
    let os = c.args.outcomes.now in
    let i : ℕ = c.loop-outcome.outcome-index in
    let o = c.loop-outcome-item.result in
    let l = c.loop-outcome.invariant in
    let before : List Item = items_in (take i os) in
    let one_more : items_in (take (i + 1) os) ≡ before ++ items_in (o ∷ []) = items_one_more os i o c.loop-outcome-test.true (sym c.loop-outcome-item.is) in
    elim c.match-outcome.branch [
      | in-File+in_ok-is_next+else-not-branch w ↦
          let item : Item = w.in-File.item in
          let more : items_in (take (i + 1) os) ≡ before ++ item ∷ [] = one_more ∙ ap (λ (is : List Item). before ++ is) (items_file o item w.in-File.is) in
          let longer : length (items_in (take (i + 1) os)) ≡ length before + 1 = ap length more ∙ length-append before (item ∷ []) in
          let paths : List (List ℕ) = paths_behind [] before in
          let path_is : w.bytes.result.now ≡ item.path = search rules in
          let passed : w.in_ok-is_next.field-0 ≡ true = search rules in
          let free = not_true w.in_ok-is_next.field-0 (list_any (in_the_way w.bytes.result.now) paths) (w.in_ok-is_next.ensures.way paths l.noted) passed in
          let noted = w.in_ok-is_next.ensures.noted passed paths l.noted in
          record {
            place = omega (arith, l.place);
            many = omega (arith, longer, l.many, w.files-is);
            few = omega (arith, l.few, w.files-is);
            apart = subst AreApart (sym more) (apart_one_more before item l.apart (subst (λ (p : List ℕ). list_any (in_the_way p) paths ≡ false) path_is free));
            noted =
                subst (λ (ps : List (List ℕ)). Noted c.match-outcome.ways ps) (sym (ap (paths_behind []) more ∙ behind_one_more [] before item))
                (rw w.ways-is (subst (λ (p : List ℕ). Noted w.is_next.new.ways (p ∷ paths)) path_is noted));
          }
      | in_default w ↦
          let same : items_in (take (i + 1) os) ≡ before =
          one_more ∙ ap (λ (is : List Item). before ++ is) (items_fault o w.in_default.field-0 w.in_default.field-1 w.in_default.is) ∙ append-nil before in
          record {
            place = omega (arith, l.place);
            many = w.files-is ∙ l.many ∙ sym (ap length same);
            few = omega (arith, l.few, w.files-is);
            apart = subst AreApart (sym same) l.apart;
            noted = subst (λ (ps : List (List ℕ)). Noted c.match-outcome.ways ps) (sym (ap (paths_behind []) same)) (rw w.ways-is l.noted);
          }
    ]
