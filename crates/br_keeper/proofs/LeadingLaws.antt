-- Additions that lead from one beginning of the list to another.
use Rattle.std.proofs.Common.{◌≡◌, ℕ, false, ◌+◌, List, [], ◌∷◌, ◌++◌, fold, sym, refl, ap, ◌∙◌, subst, append_assoc, Option, Some, None, MatchOption}
use Rattle.std.proofs.lemmas.List.{append-nil}
use Rattle.logbook.specs.Pages.{Book}
use Rattle.br_model.specs.Job.{JobRows}
use Rattle.br_keeper.specs.declared.published.Added.{Added}
use Rattle.crossbeam_utils.specs.Register.{TurnsAt}
use Rattle.br_keeper.specs.declared.published.PublishedView.{PublishedView}
use Rattle.br_keeper.specs.declared.published.Published.{Published}
use Rattle.br_keeper.specs.Beginnings.{Beginning, beginning}
use Rattle.br_keeper.specs.Keeps.{knowing, book_in, Keeps}
use Rattle.br_keeper.proofs.ShowingLaws.{publishes}
use Rattle.std.specs.Option.{is_some}
use Rattle.br_keeper.specs.Writers.{IsWriter, listed, Leads}

pub leads_snoc : (f : Beginning) (more : List Added) (g : Beginning) (a : Added) → Leads f more g → a.front ≡ beginning g.book (g.log ++ a.rows ∷ []) → Leads f (more ++ a ∷ []) a.front
leads_snoc f [] g a h e = let P : Beginning → Type 0 = λ b. a.front ≡ beginning b.book (b.log ++ a.rows ∷ []) in (subst P (sym h) e, refl)
leads_snoc f (x ∷ more) g a h e = (h.0, leads_snoc x.front more g a h.1 e)

-- what the writer's copy is once all additions were applied
pub leads_fold : (opening jobs : List JobRows) (f : Beginning) (more : List Added) (g : Beginning) → jobs ≡ opening ++ f.log → Leads f more g → fold (λ (s : List JobRows × Beginning) (a : Added). (s.0 ++ a.rows ∷ [], a.front)) (jobs, f) more ≡ (opening ++ g.log, g)
leads_fold opening jobs f [] g are h = λ k. ((are ∙ ap (λ (b : Beginning). opening ++ b.log) h) k, h k)
leads_fold opening jobs f (a ∷ more) g are h = leads_fold opening (jobs ++ a.rows ∷ []) a.front more g
    (ap (λ l. l ++ a.rows ∷ []) are ∙ append_assoc opening f.log (a.rows ∷ []) ∙ ap (λ (b : Beginning). opening ++ b.log) (sym h.0)) h.1

pub nothing_more : (o : Option Added) (more : List Added) → false ≡ is_some o → more ++ listed o ≡ more
nothing_more None more e = append-nil more
nothing_more (Some a) more e = absurd (cc)

-- what a publish of all that waits shows
pub published_is : (v : PublishedView) (jobs : List JobRows) (now : Beginning) (waiting : List Added) (opening : List JobRows) (shown front : Beginning) (y : Published) → IsWriter v jobs now waiting opening shown front
    → (y.history, y.front) ≡ fold (λ (s : List JobRows × Beginning) (a : Added). (s.0 ++ a.rows ∷ [], a.front)) (jobs, now) waiting → (y.history ≡ opening ++ front.log) × (y.front ≡ front)
published_is v jobs now waiting opening shown front y w is = let P : Beginning → Type 0 = λ b. Leads b waiting front in
    let e = is ∙ leads_fold opening jobs now waiting front (w.jobs_are ∙ ap (λ (b : Beginning). opening ++ b.log) (sym w.now_is)) (subst P (sym w.now_is) w.leads) in
    (ap (λ (p : List JobRows × Beginning). p.0) e, ap (λ (p : List JobRows × Beginning). p.1) e)

pub publish_step : (seat : ℕ) (v : PublishedView) (x : Published) (waiting : List Added) (opening : List JobRows) (shown front : Beginning) (y : Published) → IsWriter v x.history x.front waiting opening shown front
    → (y.history, y.front) ≡ fold (λ (s : List JobRows × Beginning) (a : Added). (s.0 ++ a.rows ∷ [], a.front)) (x.history, x.front) waiting
    → TurnsAt (λ (x : Published). Keeps x.history x.front) seat v x y (λ v x y w. w ≡ v)
publish_step seat v x waiting opening shown front y w is = let p = published_is v x.history x.front waiting opening shown front y w is in
    let o : v.opening ≡ opening = ap (λ (z : PublishedView). z.opening) w.knows in
    publishes seat v x y (ap (λ (z : PublishedView). z.knows) w.knows) (ap (λ (b : Beginning). b.book) p.1 ∙ ap book_in (sym w.knows)) (p.0 ∙ ap (λ (b : Beginning). opening ++ b.log) (sym p.1) ∙ ap (λ l. l ++ y.front.log) (sym o))

pub writer_on : (v u : PublishedView) (jobs jobs' : List JobRows) (now now' : Beginning) (waiting waiting' : List Added) (opening : List JobRows) (shown front : Beginning) → u ≡ v → jobs' ≡ jobs → now' ≡ now → waiting' ≡ waiting
    → IsWriter v jobs now waiting opening shown front → IsWriter u jobs' now' waiting' opening shown front
writer_on v u jobs jobs' now now' waiting waiting' opening shown front a b c d w = let P : List Added → Type 0 = λ l. Leads shown l front in record { knows = a ∙ w.knows; now_is = c ∙ w.now_is; jobs_are = b ∙ w.jobs_are; leads = subst P (sym d) w.leads }

pub none_waiting : (f : Beginning) (more : List Added) (o : Option Added) → more ≡ [] → false ≡ is_some o → Leads f (more ++ listed o) f
none_waiting f more o none e = let P : List Added → Type 0 = λ l. Leads f l f in subst P (sym (nothing_more o more e ∙ none)) refl

pub stored_on : (shown front next : Beginning) (more : List Added) (a : Added) (o : Option Added) → Leads shown (more ++ listed o) front → o ≡ None → a.front ≡ next → next ≡ beginning front.book (front.log ++ a.rows ∷ []) → Leads shown (more ++ a ∷ []) next
stored_on shown front next more a o h none same is = let P : Option Added → Type 0 = λ q. Leads shown (more ++ listed q) front in let Q : List Added → Type 0 = λ l. Leads shown l front in let R : Beginning → Type 0 = λ b. Leads shown (more ++ a ∷ []) b in
    subst R same (leads_snoc shown more front a (subst Q (append-nil more) (subst P none h)) (same ∙ is))

pub each_some : {A : Type 0} (o : Option A) (P Q : A → Type 0) → MatchOption o ⊥ P → ((w : A) → P w → Q w) → MatchOption o ⊥ Q
each_some None P Q h f = h
each_some (Some w) P Q h f = f w h

pub from_some : {A : Type 0} (o : Option A) (P : A → Type 0) (X : Type 0) → MatchOption o ⊥ P → ((w : A) → P w → X) → X
from_some None P X h f = absurd h
from_some (Some w) P X h f = f w h

pub none_is : (o : Option Added) → false ≡ is_some o → o ≡ None
none_is None e = refl
none_is (Some a) e = absurd (cc)

pub writer_stored : (v : PublishedView) (jobs : List JobRows) (now : Beginning) (more : List Added) (o : Option Added) (opening : List JobRows) (shown front next : Beginning) (a : Added) → o ≡ None → a.front ≡ next → next ≡ beginning front.book (front.log ++ a.rows ∷ [])
    → IsWriter v jobs now (more ++ listed o) opening shown front → IsWriter v jobs now (more ++ a ∷ []) opening shown next
writer_stored v jobs now more o opening shown front next a none same is w = record {
  knows = w.knows ∙ ap (λ (b : Book). knowing b opening) (sym (ap (λ (b : Beginning). b.book) is));
  now_is = w.now_is;
  jobs_are = w.jobs_are;
  leads = stored_on shown front next more a o w.leads none same is;
}

pub none_waits : (jobs : List JobRows) (now : Beginning) (waiting : List Added) (y : Published) → waiting ≡ [] → (y.history, y.front) ≡ fold (λ (s : List JobRows × Beginning) (a : Added). (s.0 ++ a.rows ∷ [], a.front)) (jobs, now) waiting
    → (y.history ≡ jobs) × (y.front ≡ now)
none_waits jobs now waiting y none is = let e : (y.history, y.front) ≡ (jobs, now) = is ∙ ap (λ l. fold (λ (s : List JobRows × Beginning) (a : Added). (s.0 ++ a.rows ∷ [], a.front)) (jobs, now) l) none in
    (ap (λ (p : List JobRows × Beginning). p.0) e, ap (λ (p : List JobRows × Beginning). p.1) e)
