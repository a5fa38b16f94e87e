-- The seat goes into the struct.
use Rattle.atomic_table.proofs.Names.{◌≡◌, [], ◌∷◌, ◌++◌, refl, List, Val, vstruct, of_list, SProp, emp, fsep, ‵, raw, ◌⊛◌, ◌$◌, ◌∵◌, !, qed, by, move, keep, split, fjoin, fpack, use0, feq_i, of_opd, no_more, and_then, returns, enter, alloc_all, pass_all, free_all, look_at, get, sets, agg, tables, RattleType, owns, Valss, types_at, plain, nothing, alive, Stays, stay_dropped, walk_of, Goes-dropped, fact, fact_i}
use Rattle.atomic_table.proofs.Walks.{proved, leaves}
use Rattle.atomic_table.proofs.Fields.{token_val}
use Rattle.br_claim.specs.contracts.kept.Kept as kept
use Rattle.br_claim.proofs.KeptValues.{SeatRow, kept_val, seat_told}
use Rattle.br_claim.specs.contracts.kept.Kept.new.{ended, clauses}
use Rattle.br_claim.specs.contracts.kept.Kept.new.Key.{name as #self}
use Rattle.br_claim.proofs.kept.Kept.new.Statement.{statement}
use Rattle.br_claim.proofs.kept.Kept.new.Code as code

pub new_spec : {M : Type 1} → statement M
new_spec 𝓤 𝓛 𝓜 𝓡 wired =
    let H = 𝓛.H in let 𝓣 = tables 𝓤 H 𝓜 𝓡 𝓡.env in let En = ended in let c = clauses 𝓛 𝓜.mem 𝓡.returns in
    let fn = code.function in let Lr : RattleType = SeatRow in let Rr : RattleType = kept.the_row in
    let hs : Stays En.signature.params En.kept = (stay_dropped (plain (λ _. Lr)) En.kept.0, tt) in
    proved 𝓛 En hs c 𝓜 𝓡 (Goes-dropped 𝓛 0 (plain (λ _. Lr)) En.kept.0 (λ κs x f. refl), tt) #self fn (code.unfolded 𝓤 H 𝓜 𝓡 wired)
    (λ κs. ((λ _. token_val ∷ []), tt)) (λ κs. ((λ x vs so. seat_told x vs so), tt)) (λ κs qs bounds a gh are.
    let x : Lr.Denot = a.0 in
    let r : Rr.Denot = record { seat = x } in let y : (walk_of 𝓛 En hs c).Ghost = ((κs, qs, bounds, a, (token_val ∷ [], tt)), gh) in let Post : Val → SProp 𝓤 = (walk_of 𝓛 En hs c).post y in
    qed 𝓛 ((raw (alive 𝓛 En.signature κs qs) ⊛ ‵ (owns (types_at En.signature.params κs) a y.0.4)) ∷ raw ((c κs a).requires gh) ∷ []) ∵
    split ! $ keep ! (1 ∷ 0 ∷ []) $ feq_i ! (List Val) (kept_val ∷ []) (kept_val ∷ []) refl $ fjoin ! $
    fpack ! (Valss (Lr ∷ [])) (λ vss. fsep (base.Fml.feq (List Val) (kept_val ∷ []) (vstruct (of_list (vss.0 ++ [])) ∷ [])) (owns (Lr ∷ []) (x, tt) vss)) (token_val ∷ [], tt) $ nothing ! $ move ! (1 ∷ 0 ∷ []) $ fjoin ! $
    enter ! 𝓣.C 𝓣.Λ fn (token_val ∷ []) Post $ alloc_all ! (λ l. pass_all ! refl ((tt, (tt, tt)), tt) $
    sets ! (of_opd ! (get ! refl)) refl (tt, (tt, tt)) $ sets ! (agg ! (and_then ! (get ! refl) (no_more !))) refl (tt, ((tt, tt), tt)) $
    use0 𝓛 (raw (fact 𝓤 (x ≡ x))) (fact_i 𝓤 (x ≡ x) (emp 𝓤) refl) $ nothing ! $ nothing ! $ fjoin ! $
    returns ! (look_at ! 0 refl) $ free_all ! refl $ keep ! (3 ∷ 0 ∷ 2 ∷ 1 ∷ []) $ by ! (leaves 𝓛 En hs c y kept_val r (tt, tt) (tt, tt))))
