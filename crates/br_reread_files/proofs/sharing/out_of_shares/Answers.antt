use Rattle.std.proofs.Common.{◌≡◌, ◌++◌, ◌∷◌, [], List, map, length, ap, sym, subst, ◌∙◌, arith}
use Rattle.std.specs.List.{AllByRecursion}
use Rattle.br_reread_files.specs.declared.sharing.FileShare.{FileShare}
use Rattle.br_reread_files.specs.declared.file_work.Work.{Work}
use Rattle.br_reread_files.proofs.TurnLaws.{all_but_last, back_more, map_more, last_alone}
use Rattle.br_reread_files.proofs.sharing.out_of_shares.Goals as goal

pub loop-shares-preserved : goal.loop-shares-preserved
loop-shares-preserved g c = let i = c.loop-shares.invariant in
    let D : Type 0 = g.row.D.Denot in
    let one : D → List D = λ d. d ∷ [] in
    let drives_of : FileShare D → List D = λ s. s.drives.items in
    let work_of : FileShare D → Work = λ s. s.work in
    let P : FileShare D → Type 0 = λ s. length s.drives.items ≡ 1 in
    let taken = c.take_last-own.ensures in
    let s : FileShare D = c.take_last-own.result in
    let new = c.take_last-own.new.self.items in
    let old = c.loop-shares.shares.items in
    let drive = c.take_last.ensures in
    let back = c.push_reserved.ensures in
    let works = c.push_reserved-in-loop-shares.ensures in
    let each = all_but_last P new s (subst (λ (l : List (FileShare D)). AllByRecursion P l) taken.items i.one) in
    let alone = last_alone s.drives.items c.take_last.new.self.items c.take_last.result each.1 drive.items in record {
      drives =
          back_more drives_of (map one c.loop-shares.drives.items) (map one c.push_reserved.new.self.items) _ new old s taken.items
          (ap (map one) back.items ∙ map_more one c.loop-shares.drives.items c.take_last.result
          ∙ ap (λ (ds : List D). map one c.loop-shares.drives.items ++ ds ∷ []) (sym alone.0))
          i.drives;
      works = back_more work_of c.loop-shares.works.items c.push_reserved-in-loop-shares.new.self.items _ new old s taken.items works.items i.works;
      one = each.0;
      drives_room = let a = back.len in let b = back.capacity in let d = taken.len in let e = i.drives_room in omega (arith, a, b, d, e);
      works_room = let a = works.len in let b = works.capacity in let d = taken.len in let e = i.works_room in omega (arith, a, b, d, e);
    }
