-- A file that is read part by part while other programs may change it.
use Rattle.std.proofs.Common.{◌≡◌, ◌<◌, ◌≤◌, ◌∙◌, ℕ, ◌+◌, ◌-◌, List, [], ◌++◌, length, take, drop, min, Option, Some, None, IfSome, inl, inr, sym, ap, subst, arith, le_refl, take_all, take-take, take-add, length-take, length-take-le, length-append}
use Rattle.std.proofs.lemmas.Bool.{cases_lt}
use Rattle.br_store.specs.declared.look_source.Source.{Source}
use Rattle.br_store.specs.Scene.{At, Scene, IsFront, bytes_of}
use Rattle.br_store.specs.Moments.{Agrees, Continues, IsBegun, IsRead}

-- the bytes that one call read follow those that were read before
pub more_read : (bytes old buf : List ℕ) (n : ℕ) → n ≤ length buf → take n buf ≡ take n (drop (length old) bytes)
    → Continues bytes old (old ++ take n buf)
more_read bytes old buf n fits more =
    let count : n ≡ length (old ++ take n buf) - length old = omega (arith, length-append old (take n buf), length-take-le n buf fits) in
    ap (λ xs. old ++ xs) (more ∙ ap (λ k. take k (drop (length old) bytes)) count)

-- two first parts, in either order
swapped : (a b : ℕ) (xs : List ℕ) → take a (take b xs) ≡ take b (take a xs)
swapped a b xs = elim (cases_lt a b) [
  | inl below ↦ take-take a b xs (omega (arith, below)) ∙ sym (take_all b (take a xs) (omega (arith, below, length-take a xs)))
  | inr above ↦ take_all a (take b xs) (omega (arith, above, length-take b xs)) ∙ sym (take-take b a xs above)
]

agrees_nothing : (xs ys : List ℕ) → ys ≡ [] → Agrees xs ys
agrees_nothing xs ys none = subst (λ zs. Agrees xs zs) (sym none) (take_all (length xs) [] (omega arith))

-- one part more, of a file that by now begins with what it had
longer : (ys old new : List ℕ) → Continues ys old new → length old + (length new - length old) ≡ length new
longer ys old new more = omega (arith, ap length more, length-append old (take (length new - length old) (drop (length old) ys)))

still_front : (xs ys old : List ℕ) → Agrees xs old → length old < length xs → IsFront ys xs → IsFront ys old
still_front xs ys old agrees few begins =
    sym (take_all (length xs) old (omega (arith, few))) ∙ agrees ∙ ap (λ zs. take (length old) zs) begins
    ∙ take-take (length old) (length xs) ys (omega (arith, few))

next_front : (ys old new : List ℕ) → IsFront ys old → Continues ys old new → IsFront ys new
next_front ys old new front more =
    more ∙ ap (λ zs. zs ++ take (length new - length old) (drop (length old) ys)) front
    ∙ sym (take-add (length old) (length new - length old) ys) ∙ ap (λ n. take n ys) (longer ys old new more)

agrees_more : (xs ys old new : List ℕ) → Agrees xs old → length old < length xs → IsFront ys xs → Continues ys old new → Agrees xs new
agrees_more xs ys old new agrees few begins more =
    ap (λ zs. take (length xs) zs) (next_front ys old new (still_front xs ys old agrees few begins) more)
    ∙ swapped (length xs) (length new) ys ∙ ap (λ zs. take (length new) zs) (sym begins)

agrees_all : (xs old new : List ℕ) (len : ℕ) → Agrees xs old → len ≡ length xs → len ≤ length old → new ≡ take len old → new ≡ xs
agrees_all xs old new len agrees is whole cut =
    cut ∙ ap (λ n. take n old) is ∙ agrees ∙ take_all (length old) xs (omega (arith, is, whole))

-- a claim of the scenes, if they are told, at another state of a sight that tells the same
pub carried : (P : (ℕ → Scene) → Type 0) (old new : Option (ℕ → Scene)) → new ≡ old → IfSome old P → IfSome new P
carried P old new same holds = subst (λ told. IfSome told P) (sym same) holds

pub reading_start : (told : Option (ℕ → Scene)) (source : Source) (from : ℕ) (bytes : List ℕ) → bytes ≡ [] → IsBegun told source from from bytes
reading_start None source from bytes none = tt
reading_start (Some scenes) source from bytes none = λ lasts. agrees_nothing (bytes_of source (scenes from)) bytes none

reading_on : (told : Option (ℕ → Scene)) (source : Source) (from now to : ℕ) (old new : List ℕ) (len : ℕ) → from ≤ now → now ≤ to
    → IsBegun told source from now old → At told from (λ scene. len ≡ length (bytes_of source scene)) → length old < len
    → At told to (λ scene. Continues (bytes_of source scene) old new) → IsBegun told source from to new
reading_on None source from now to old new len first next begun is few more = tt
reading_on (Some scenes) source from now to old new len first next begun is few more = λ lasts.
    agrees_more (bytes_of source (scenes from)) (bytes_of source (scenes to)) old new
    (begun (λ u above below. lasts u above (omega (arith, below, next)))) (omega (arith, few, is)) (lasts to (omega (arith, first, next)) (le_refl to)) more

pub reading_more : (told later : Option (ℕ → Scene)) (source : Source) (from now to : ℕ) (old new : List ℕ) (len : ℕ) → later ≡ told → from ≤ now → now ≤ to
    → IsBegun told source from now old → At told from (λ scene. len ≡ length (bytes_of source scene)) → length old < len
    → At later to (λ scene. Continues (bytes_of source scene) old new) → IsBegun told source from to new
reading_more told later source from now to old new len same first next begun is few more =
    reading_on told source from now to old new len first next begun is few (carried (λ scenes. Continues (bytes_of source (scenes to)) old new) later told (sym same) more)

pub reading_end : (told : Option (ℕ → Scene)) (source : Source) (from to : ℕ) (old new : List ℕ) (len : ℕ) → IsBegun told source from to old
    → At told from (λ scene. len ≡ length (bytes_of source scene)) → len ≤ length old → new ≡ take len old → IsRead told source from to new
reading_end None source from to old new len begun is whole cut = tt
reading_end (Some scenes) source from to old new len begun is whole cut = λ lasts.
    agrees_all (bytes_of source (scenes from)) old new len (begun lasts) is whole cut

-- the header of a log in memory is its first 32 bytes
pub front_read : (n : ℕ) (buf log : List ℕ) → take n buf ≡ take n log → n ≡ min (length log) (length buf) → length buf ≡ 32 → take 32 log ≡ take n buf
front_read n buf log part count long = elim (cases_lt (length log) 32) [
  | inl below ↦ take_all 32 log (omega (arith, below)) ∙ sym (take_all n log (omega (arith, count, long, below))) ∙ sym part
  | inr above ↦ let whole : 32 ≡ n = omega (arith, count, long, above) in ap (λ k. take k log) whole ∙ sym part
]
