use Rattle.std.proofs.Common.{◌≡◌, ℕ, ◌+◌, List, [], ◌∷◌, ◌++◌, take, ap, subst, sym, ◌∙◌, append-nil}
use Rattle.std.specs.List.{AllZip}
use Rattle.std.proofs.lemmas.List.{take_all}
use Rattle.std.proofs.lemmas.Result.{err_from_is_err_and}
use Rattle.br_model.specs.File.{Item}
use Rattle.br_data.proofs.GoOnLaws.{go_itself, go_more}
use Rattle.br_sink.specs.Delivery.{items_in}
use Rattle.br_sink.proofs.DeliveryLaws.{items_fault, items_file, items_one_more}
use Rattle.br_reread_files.specs.Again.{IsLike}
use Rattle.br_reread_files.proofs.AgainLaws.{like_more, made_at, some_file}
use Rattle.br_reread_files.proofs.GivenLaws.{fault_again}
use Rattle.br_reread_parts.proofs.GivenLaws.{hits_kept}
use Rattle.br_reread_files.proofs.files_once_more.made_once_more.Goals as goal
use Rattle.br_reread_files.proofs.files_once_more.made_once_more.Goals.{in-File+in_ok-made+in_ok-push_item, in_default}

pub loop-key-init : goal.loop-key-init
loop-key-init g c = record {
  on = go_itself c.args.many.now;
  like = subst (λ files. AllZip IsLike (items_in files) []) (sym c.new-files.ensures.items) tt;
  same = λ given made. ap items_in c.new-files.ensures.items;
}

-- ---- a file is not made once more, or not appended

pub returns-in_err-made-clause-some : goal.returns-in_err-made-clause-some
returns-in_err-made-clause-some g c =
    let p = err_from_is_err_and c.from_residual.result c.from_residual.ensures.1 in
    rw p.1 (some_file c.args.outcomes.now c.loop-key.key-index c.loop-key-item.result c.in-File.item c.loop-key-test.true c.loop-key-item.is c.in-File.is)

pub returns-in_err-made-clause-changed : goal.returns-in_err-made-clause-changed
returns-in_err-made-clause-changed g c =
    let p = err_from_is_err_and c.from_residual.result c.from_residual.ensures.1 in
    rw (p.1, p.2)
    (λ is can.
    c.in_err-made.ensures.changed (fault_again _ _ is) (hits_kept c.standing_stays.ensures _ _ c.args.hits.now c.loop-key.invariant.on can.0)
    (made_at c.args.hits.now c.args.outcomes.now c.loop-key.key-index c.loop-key-item.result c.in-File.item c.loop-key-test.true c.loop-key-item.is c.in-File.is can.1))

pub returns-in_err-made-clause-on : goal.returns-in_err-made-clause-on
returns-in_err-made-clause-on g c = go_more _ _ _ c.loop-key.invariant.on c.item_once_more.ensures.on

pub returns-in_err-push_item-clause-some : goal.returns-in_err-push_item-clause-some
returns-in_err-push_item-clause-some g c =
    let p = err_from_is_err_and c.from_residual-in_err-push_item.result c.from_residual-in_err-push_item.ensures.1 in
    rw p.1 (some_file c.args.outcomes.now c.loop-key.key-index c.loop-key-item.result c.in-File.item c.loop-key-test.true c.loop-key-item.is c.in-File.is)

pub returns-in_err-push_item-clause-on : goal.returns-in_err-push_item-clause-on
returns-in_err-push_item-clause-on g c = go_more _ _ _ c.loop-key.invariant.on c.item_once_more.ensures.on

-- ---- all files so far

pub returns-clause-like : goal.returns-clause-like
returns-clause-like g c =
    let all = take_all c.loop-key.key-index c.args.outcomes.now c.loop-key-test.false in
    subst (λ os. AllZip IsLike (items_in c.loop-key.files.items) (items_in os)) all c.loop-key.invariant.like

pub returns-clause-same : goal.returns-clause-same
returns-clause-same g c = λ given made.
    c.loop-key.invariant.same given made ∙ ap items_in (take_all c.loop-key.key-index c.args.outcomes.now c.loop-key-test.false)

pub loop-key-preserved : goal.loop-key-preserved
loop-key-preserved g c =
    let os = c.args.outcomes.now in
    let i : ℕ = c.loop-key.key-index in
    let o = c.loop-key-item.result in
    let l = c.loop-key.invariant in
    let before : List Item = items_in (take i os) in
    let one_more : items_in (take (i + 1) os) ≡ before ++ items_in (o ∷ []) = items_one_more os i o c.loop-key-test.true (sym c.loop-key-item.is) in
    elim c.match-outcome.branch [
      | in-File+in_ok-made+in_ok-push_item w ↦
          let item : Item = w.in-File.item in
          let made = w.in_ok-made.made in
          let more : items_in (take (i + 1) os) ≡ before ++ item ∷ [] = one_more ∙ ap (λ (is : List Item). before ++ is) (items_file o item w.in-File.is) in
          let pushed : items_in c.match-outcome.files.items ≡ items_in c.loop-key.files.items ++ made ∷ [] = rw w.files-is w.in_ok-push_item.ensures in
          record {
            on = rw w.many-is (go_more _ _ _ l.on w.item_once_more.ensures.on);
            like =
                subst (AllZip IsLike (items_in c.match-outcome.files.items)) (sym more)
                (subst (λ (is : List Item). AllZip IsLike is (before ++ item ∷ [])) (sym pushed) (like_more (items_in c.loop-key.files.items) before made item l.like w.in_ok-made.ensures.like));
            same = λ given all.
                let one : made ≡ item =
                w.in_ok-made.ensures.same (hits_kept c.standing_stays.ensures _ _ c.args.hits.now l.on given)
                (made_at c.args.hits.now os i o item c.loop-key-test.true c.loop-key-item.is w.in-File.is all) in
                pushed ∙ (λ k. l.same given all k ++ one k ∷ []) ∙ sym more;
          }
      | in_default w ↦
          let same : items_in (take (i + 1) os) ≡ before =
          one_more ∙ ap (λ (is : List Item). before ++ is) (items_fault o w.in_default.field-0 w.in_default.field-1 w.in_default.is) ∙ append-nil before in
          record {
            on = rw w.many-is l.on;
            like = subst (AllZip IsLike (items_in c.match-outcome.files.items)) (sym same) (rw w.files-is l.like);
            same = λ given all. rw w.files-is (l.same given all) ∙ sym same;
          }
    ]
