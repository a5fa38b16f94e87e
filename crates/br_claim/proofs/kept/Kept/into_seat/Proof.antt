-- The seat comes out of the struct.
use Rattle.atomic_table.proofs.Names.{◌≡◌, [], ◌∷◌, refl, List, Val, SProp, emp, ‵, raw, ◌⊛◌, ◌$◌, ◌∵◌, !, qed, by, move, keep, drop, split, fsplit, fsplit3, fjoin, fpick, use0, rewrite, stop, fld, of_opd, returns, enter, alloc_all, pass_all, free_all, look_at, get, get_in, sets, sub, whole, tables, RattleType, owns, types_at, plain, nothing, alive, Stays, stay_dropped, walk_of, fact, fact_i, Is, shows, peeks}
use Rattle.atomic_table.proofs.Walks.{proved, leaves}
use Rattle.atomic_table.proofs.Fields.{token_val}
use Rattle.br_claim.specs.contracts.kept.Kept as kept
use Rattle.br_claim.proofs.KeptValues.{Goes-blank, SeatRow, kept_val, seat_told, kept_told}
use Rattle.br_claim.specs.contracts.kept.Kept.into_seat.{ended, clauses}
use Rattle.br_claim.specs.contracts.kept.Kept.into_seat.Key.{name as #self}
use Rattle.br_claim.proofs.kept.Kept.into_seat.Statement.{statement}
use Rattle.br_claim.proofs.kept.Kept.into_seat.Code as code

pub into_seat_spec : {M : Type 1} → statement M
into_seat_spec 𝓤 𝓛 𝓜 𝓡 wired =
    let H = 𝓛.H in let 𝓣 = tables 𝓤 H 𝓜 𝓡 𝓡.env in let En = ended in let c = clauses 𝓛 𝓜.mem 𝓡.returns in
    let fn = code.function in let Lr : RattleType = SeatRow in let Rr : RattleType = kept.the_row in
    let hs : Stays En.signature.params En.kept = (stay_dropped (plain (λ _. Rr)) En.kept.0, tt) in
    proved 𝓛 En hs c 𝓜 𝓡 (Goes-blank 𝓛 0 (plain (λ _. Rr)) En.kept.0 (λ κs x f. tt), tt) #self fn (code.unfolded 𝓤 H 𝓜 𝓡 wired)
    (λ κs. ((λ _. kept_val ∷ []), tt)) (λ κs. ((λ x vs so. kept_told x vs so), tt)) (λ κs qs bounds a gh are.
    let x : Lr.Denot = a.0.seat in
    let y : (walk_of 𝓛 En hs c).Ghost = ((κs, qs, bounds, a, (kept_val ∷ [], tt)), gh) in let Post : Val → SProp 𝓤 = (walk_of 𝓛 En hs c).post y in
    qed 𝓛 ((raw (alive 𝓛 En.signature κs qs) ⊛ ‵ (owns (types_at En.signature.params κs) a y.0.4)) ∷ raw ((c κs a).requires gh) ∷ []) ∵
    split ! $ move ! (1 ∷ []) $ fsplit ! $ fsplit ! $ fpick ! (λ vss. fsplit3 ! $ drop ! $ peeks ! Lr (Is Lr) (shows 𝓛 Lr) x vss.0 (λ so.
    rewrite ! 0 (λ (ws : List Val). ‵ (Lr.own_val x ws)) (seat_told x vss.0 so) refl $ keep ! (0 ∷ 4 ∷ []) $
    enter ! 𝓣.C 𝓣.Λ fn (kept_val ∷ []) Post $ alloc_all ! (λ l. pass_all ! refl ((tt, ((tt, tt), tt)), tt) $
    sets ! (of_opd ! (get_in ! (fld ! refl (stop !)) (sub ! 0 refl (whole !)))) refl (tt, (tt, tt)) $ sets ! (of_opd ! (get ! refl)) refl (tt, (tt, tt)) $
    use0 𝓛 (raw (fact 𝓤 (x ≡ x))) (fact_i 𝓤 (x ≡ x) (emp 𝓤) refl) $ nothing ! $ nothing ! $ fjoin ! $
    returns ! (look_at ! 0 refl) $ free_all ! refl $ keep ! (3 ∷ 0 ∷ 2 ∷ 1 ∷ []) $ by ! (leaves 𝓛 En hs c y token_val x ((tt, tt), tt) (tt, tt))))))
