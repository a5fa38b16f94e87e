-- The data of records, one record after another.
use Rattle.std.proofs.Common.{◌≡◌, ℕ, ◌+◌, ◌-◌, ◌<◌, ◌≤◌, Bool, true, false, cond, List, [], ◌∷◌, ◌++◌, length, get_or, drop, replicate, Result, Ok, Err, refl, sym, ap, ◌∙◌, arith, append_assoc}
use Rattle.std.specs.Prelude.{filter}
use Rattle.std.proofs.lemmas.List.{at_drop_more, at_drop_all, length-append, length-replicate, append-nil}
use Rattle.br_model.specs.Answer.{◌>>=◌, refused_as, IsRefusal}
use Rattle.br_model.specs.Record.{Record}
use Rattle.br_model.specs.File.{Fault, fault, Extent, extent_end, extent_of, extents_from, bytes_from, is_data}
use Rattle.br_model.proofs.AnswerLaws.{bind_ok, refused_as_ok, ok_is}
use Rattle.br_records.specs.Data.{laid}
use Rattle.br_records.specs.Making.{cause, file_fault}
use Rattle.br_records.specs.declared.making_fault.MakingFault.{MakingFault}
use Rattle.br_records.specs.declared.making_fault.MakingFault.TheVariants.{Memory, File}
use Rattle.br_records.proofs.ExtentLaws.{extent_rises}
use Rattle.br_join.specs.Data.{laid_from}

-- ---- one record more

module _ {A : Type 0} (g : List Extent → A) (end : ℕ) (r : Record) (rs : List Record) where
  abbrev all : Result A ℕ
  all = extents_from end (r ∷ rs) >>= λ es. Ok (g es)

  all_is : all ≡ (extent_of end r >>= λ e. (extents_from (extent_end e) rs >>= λ es. Ok (g (e ∷ es))))
  unfolding extents_from
  all_is = go (extent_of end r)
    where
      inner : (e : Extent) (more : Result (List Extent) ℕ) → ((more >>= λ es. Ok (e ∷ es)) >>= λ es. Ok (g es)) ≡ (more >>= λ es. Ok (g (e ∷ es)))
      inner e (Ok es) = refl
      inner e (Err n) = refl

      go : (x : Result Extent ℕ) → ((x >>= λ e. (extents_from (extent_end e) rs >>= λ more. Ok (e ∷ more))) >>= λ es. Ok (g es)) ≡ (x >>= λ e. (extents_from (extent_end e) rs >>= λ es. Ok (g (e ∷ es))))
      go (Ok e) = inner e (extents_from (extent_end e) rs)
      go (Err n) = refl

  all_refused : (f : Fault) → refused_as fault (extent_of end r) ≡ Err f → refused_as fault all ≡ Err f
  all_refused f is = ap (refused_as fault) all_is ∙ go (extent_of end r) is
    where
      same : (m k : Fault) → ◌≡◌ {A = Result Extent Fault} (Err m) (Err k) → ◌≡◌ {A = Result A Fault} (Err m) (Err k)
      same m k d = cc

      go : (x : Result Extent ℕ) → refused_as fault x ≡ Err f → refused_as fault (x >>= λ e. (extents_from (extent_end e) rs >>= λ es. Ok (g (e ∷ es)))) ≡ Err f
      go (Ok e) h = absurd cc
      go (Err n) h = same (fault n) f h

  all_more : (e : Extent) → extent_of end r ≡ Ok e → all ≡ (extents_from (extent_end e) rs >>= λ es. Ok (g (e ∷ es)))
  all_more e is = all_is ∙ ap (λ x. x >>= λ e. (extents_from (extent_end e) rs >>= λ es. Ok (g (e ∷ es)))) is

-- the bytes with the data of one record more
pub laid_more : (bytes more : List ℕ) (r : Record) (rs : List Record) → refused_as fault (laid bytes r) ≡ Ok more → laid_from bytes (r ∷ rs) ≡ laid_from more rs
unfolding bytes_from
laid_more bytes more r rs is =
    let steps = bind_ok (extent_of (length bytes) r) (λ e. Ok (bytes ++ replicate (e.start - length bytes) 0 ++ e.bytes)) more (refused_as_ok fault (laid bytes r) more is) in
    let e : Extent = steps.0 in
    let le : length bytes ≤ e.start = extent_rises (length bytes) r e steps.1 in
    all_more (λ es. bytes ++ bytes_from (length bytes) es) (length bytes) r rs e steps.1 ∙ go e (extents_from (extent_end e) rs)
    ∙ ap (λ (n : ℕ). extents_from n rs >>= λ es. Ok ((bytes ++ replicate (e.start - length bytes) 0 ++ e.bytes) ++ bytes_from n es)) (adds e le)
    ∙ ap (λ (all : List ℕ). laid_from all rs) (ok_is (bytes ++ replicate (e.start - length bytes) 0 ++ e.bytes) more steps.2)
  where
    adds : (e : Extent) → length bytes ≤ e.start → extent_end e ≡ length (bytes ++ replicate (e.start - length bytes) 0 ++ e.bytes)
    adds e le =
        omega (arith, length-append (bytes ++ replicate (e.start - length bytes) 0) e.bytes, length-append bytes (replicate (e.start - length bytes) 0), length-replicate {A = ℕ} (e.start - length bytes) 0)

    regroup : (a b c d : List ℕ) → a ++ ((b ++ c) ++ d) ≡ ((a ++ b) ++ c) ++ d
    regroup a b c d = simp append_assoc

    go : (e : Extent) (x : Result (List Extent) ℕ)
        → (x >>= λ es. Ok (bytes ++ ((replicate (e.start - length bytes) 0 ++ e.bytes) ++ bytes_from (extent_end e) es)))
        ≡ (x >>= λ es. Ok ((bytes ++ replicate (e.start - length bytes) 0 ++ e.bytes) ++ bytes_from (extent_end e) es))
    go e (Ok es) = ap (λ (all : List ℕ). Ok all) (regroup bytes (replicate (e.start - length bytes) 0) e.bytes (bytes_from (extent_end e) es))
    go e (Err n) = refl

pub laid_refused : (bytes : List ℕ) (r : Record) (rs : List Record) (f : Fault) → refused_as fault (laid bytes r) ≡ Err f → refused_as fault (laid_from bytes (r ∷ rs)) ≡ Err f
laid_refused bytes r rs f is = all_refused (λ es. bytes ++ bytes_from (length bytes) es) (length bytes) r rs f (go (extent_of (length bytes) r) is)
  where
    same : (m k : Fault) → ◌≡◌ {A = Result (List ℕ) Fault} (Err m) (Err k) → ◌≡◌ {A = Result Extent Fault} (Err m) (Err k)
    same m k d = cc

    go : (x : Result Extent ℕ) → refused_as fault (x >>= λ e. Ok (bytes ++ replicate (e.start - length bytes) 0 ++ e.bytes)) ≡ Err f → refused_as fault x ≡ Err f
    go (Ok e) h = absurd cc
    go (Err n) h = same (fault n) f h

-- a refusal, or out of memory
pub laid_given_up : (bytes : List ℕ) (r : Record) (rs : List Record) (whole : Result (List ℕ) ℕ) (e : MakingFault) → whole ≡ laid_from bytes (r ∷ rs)
    → IsRefusal (cause e) (refused_as fault (laid bytes r)) → IsRefusal (cause e) (refused_as fault whole)
laid_given_up bytes r rs whole Memory same is = tt
laid_given_up bytes r rs whole (File f) same is = ap (refused_as fault) same ∙ laid_refused bytes r rs (file_fault f) is

-- nothing comes after the last record
pub laid_done : (bytes : List ℕ) → laid_from bytes [] ≡ Ok bytes
unfolding extents_from bytes_from
laid_done bytes = ap (λ (all : List ℕ). Ok all) (append-nil bytes)

-- ---- at a place of a list of records

pub data_more : (rs : List Record) (i : ℕ) (r : Record) → i < length rs → r ≡ get_or rs i r → is_data r ≡ true → filter is_data (drop i rs) ≡ r ∷ filter is_data (drop (i + 1) rs)
data_more rs i r within is data_is =
    at_drop_more (filter is_data) rs i r within ∙ ap (λ (s : Record). cond (is_data s) (s ∷ filter is_data (drop (i + 1) rs)) (filter is_data (drop (i + 1) rs))) (sym is)
    ∙ ap (λ (b : Bool). cond b (r ∷ filter is_data (drop (i + 1) rs)) (filter is_data (drop (i + 1) rs))) data_is

pub data_not : (rs : List Record) (i : ℕ) (r : Record) → i < length rs → r ≡ get_or rs i r → is_data r ≡ false → filter is_data (drop i rs) ≡ filter is_data (drop (i + 1) rs)
data_not rs i r within is other =
    at_drop_more (filter is_data) rs i r within ∙ ap (λ (s : Record). cond (is_data s) (s ∷ filter is_data (drop (i + 1) rs)) (filter is_data (drop (i + 1) rs))) (sym is)
    ∙ ap (λ (b : Bool). cond b (r ∷ filter is_data (drop (i + 1) rs)) (filter is_data (drop (i + 1) rs))) other

pub data_done : (rs : List Record) (i : ℕ) → length rs ≤ i → filter is_data (drop i rs) ≡ []
data_done rs i past = at_drop_all (filter is_data) rs i past
