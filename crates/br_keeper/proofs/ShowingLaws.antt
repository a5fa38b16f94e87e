-- Each step keeps the rule of what is published.
use Rattle.std.proofs.Common.{◌≡◌, ◌≢◌, ℕ, zero, suc, true, true≢false, List, [], ◌∷◌, ◌++◌, set, sym, refl, ap, ◌∙◌, subst, ⊎_elim}
use Rattle.std.proofs.lemmas.List.{append-nil}
use mathlib.Core.Option.{some, some-ne-none, some-injective}
use lib.ListN.{get_elem?}
use Rattle.crossbeam_utils.specs.Register.{Admits, TurnsAt, Forks, Merges}
use Rattle.atomic_table.proofs.Lists.{at_set, at_snoc, set_again}
use Rattle.logbook.specs.Pages.{Book}
use Rattle.br_model.specs.Job.{JobRows}
use Rattle.br_keeper.specs.declared.published.PublishedView.{PublishedView}
use Rattle.br_keeper.specs.declared.published.Published.{Published}
use Rattle.br_keeper.specs.Beginnings.{Beginning}
use Rattle.br_keeper.specs.Keeps.{knowing, stranger, book_in, Keeps, Saw}

abbrev Knows : Book → List JobRows → PublishedView → Type 0
Knows book opening v = v.knows ≡ true → (book_in v ≡ book) × (v.opening ≡ opening)

fits_set : (book : Book) (opening : List JobRows) (views : List PublishedView) (seat : ℕ) (w : PublishedView) → Knows book opening w → ((j : ℕ) (v : PublishedView) → get_elem? views j ≡ some v → Knows book opening v) → (j : ℕ) (v : PublishedView) → get_elem? (set views seat w) j ≡ some v → Knows book opening v
fits_set book opening views seat w mine others j v at = ⊎_elim (λ (t : (j ≡ seat) × (w ≡ v)). subst (λ (y : PublishedView). Knows book opening y) t.1 mine) (λ (t : (j ≢ seat) × (get_elem? views j ≡ some v)). others j v t.1) (at_set views seat j w v at)

fits_snoc : (book : Book) (opening : List JobRows) (views : List PublishedView) (w : PublishedView) → Knows book opening w → ((j : ℕ) (v : PublishedView) → get_elem? views j ≡ some v → Knows book opening v) → (j : ℕ) (v : PublishedView) → get_elem? (views ++ w ∷ []) j ≡ some v → Knows book opening v
fits_snoc book opening views w mine others j v at = ⊎_elim (others j v) (λ (same : w ≡ v). subst (λ (y : PublishedView). Knows book opening y) same mine) (at_snoc views w v j at)

strange : (book : Book) (opening : List JobRows) → Knows book opening stranger
strange book opening k = absurd (true≢false (sym k))

only : (book : Book) (opening : List JobRows) (j : ℕ) (v : PublishedView) → get_elem? (stranger ∷ []) j ≡ some v → Knows book opening v
only book opening zero v e = subst (λ (y : PublishedView). Knows book opening y) (some-injective stranger v e) (strange book opening)
only book opening (suc j) v e = absurd (some-ne-none v (sym e))

pub starts : (jobs : List JobRows) (front : Beginning) → front.log ≡ [] → Keeps jobs front (stranger ∷ [])
starts jobs front none = record { opening = jobs; jobs_are = sym (ap (λ l. jobs ++ l) none ∙ append-nil jobs); fits = only front.book jobs }

pub admits : Admits (λ (x : Published). Keeps x.history x.front) stranger
admits x views h = record { opening = h.opening; jobs_are = h.jobs_are; fits = fits_snoc x.front.book h.opening views stranger (strange x.front.book h.opening) h.fits }

pub enters : (seat : ℕ) (v : PublishedView) (x : Published) → TurnsAt (λ (x : Published). Keeps x.history x.front) seat v x x (λ v x y w. Saw v x.history x.front w)
enters seat v x views h at = (
  v,
  (let P : List PublishedView → Type 0 = λ l. Keeps x.history x.front l in subst P (sym (set_again views seat v at)) h),
  (refl, λ k. let f = h.fits seat v at k in (sym f.0, h.jobs_are ∙ ap (λ l. l ++ x.front.log) (sym f.1))),
)

-- the first publish, of what was shown already
pub opens : (seat : ℕ) (v : PublishedView) (x y : Published) → x.front.log ≡ [] → y.front.log ≡ [] → y.front.book ≡ x.front.book → y.history ≡ x.history
    → TurnsAt (λ (x : Published). Keeps x.history x.front) seat v x y (λ v x y w. w ≡ knowing y.front.book y.history)
opens seat v x y none still book jobs views h at = let w : PublishedView = knowing y.front.book y.history in let o : h.opening ≡ y.history = sym (append-nil h.opening) ∙ ap (λ l. h.opening ++ l) (sym none) ∙ sym h.jobs_are ∙ sym jobs in (
  w,
  record {
    opening = y.history;
    jobs_are = sym (ap (λ l. y.history ++ l) still ∙ append-nil y.history);
    fits = fits_set y.front.book y.history views seat w (λ _. (refl, refl)) (λ j u e k. let f = h.fits j u e k in (f.0 ∙ sym book, f.1 ∙ o));
  },
  refl,
)

-- a later publish, by the keeper, who knows the list
pub publishes : (seat : ℕ) (v : PublishedView) (x y : Published) → v.knows ≡ true → y.front.book ≡ book_in v → y.history ≡ v.opening ++ y.front.log
    → TurnsAt (λ (x : Published). Keeps x.history x.front) seat v x y (λ v x y w. w ≡ v)
publishes seat v x y knows book jobs views h at = let mine = h.fits seat v at knows in (
  v,
  record {
    opening = h.opening;
    jobs_are = jobs ∙ ap (λ l. l ++ y.front.log) mine.1;
    fits = fits_set y.front.book h.opening views seat v (λ _. (sym book, mine.1)) (λ j u e k. let f = h.fits j u e k in (f.0 ∙ sym mine.0 ∙ sym book, f.1));
  },
  refl,
)

pub forks : (seat : ℕ) (v : PublishedView) → Forks (λ (x : Published). Keeps x.history x.front) seat v v v
forks seat v x views h at = record { opening = h.opening; jobs_are = h.jobs_are; fits = fits_snoc x.front.book h.opening (set views seat v) v (h.fits seat v at) (fits_set x.front.book h.opening views seat v (h.fits seat v at) h.fits) }

pub merges : (seat : ℕ) (v : PublishedView) (other : ℕ) (w : PublishedView) → Merges (λ (x : Published). Keeps x.history x.front) seat v other w w stranger
merges seat v other w x views h at apart there = let theirs : Knows x.front.book h.opening w = ⊎_elim (λ (t : (other ≡ seat) × (w ≡ w)). absurd (apart t.0)) (λ (t : (other ≢ seat) × (get_elem? views other ≡ some w)). h.fits other w t.1) (at_set views seat other w w there) in record {
  opening = h.opening;
  jobs_are = h.jobs_are;
  fits = fits_set x.front.book h.opening (set views seat w) other stranger (strange x.front.book h.opening) (fits_set x.front.book h.opening views seat w theirs h.fits);
}
