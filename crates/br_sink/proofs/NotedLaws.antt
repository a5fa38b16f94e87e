-- The file among outcomes that has a given number of files before it.
use Rattle.std.proofs.Common.{◌≡◌, ℕ, ◌+◌, ◌<◌, List, [], ◌∷◌, ◌++◌, take, drop, length, ap, sym, subst, ◌∙◌, arith, get_or, length-append}
use Rattle.std.proofs.Math.Seq.{take-append_seam}
use Rattle.br_model.specs.File.{Item}
use Rattle.br_model.specs.Name.{FileKey}
use Rattle.br_join.specs.declared.item.Outcome.{Outcome}
use Rattle.br_join.specs.declared.item.Outcome.TheVariants.{File, Fault}
use Rattle.br_sink.specs.Delivery.{items_in}
use Rattle.br_sink.proofs.DeliveryLaws.{items_at, items_file, items_fault, items_one_more}
use Rattle.br_sink.specs.KeepGoing.{IsFileAt}

module _ (os : List (FileKey × Outcome)) (i : ℕ) (o : FileKey × Outcome) (less : i < length os) (is : o ≡ get_or os i o) where
  -- it is at the place after this number of files
  pub file_here : (item : Item) (place left count : ℕ) → o.1 ≡ File item → place ≡ i → left ≡ 0 → left + length (items_in (take i os)) ≡ count
      → IsFileAt os count place item
  file_here item place left count file here none sum =
      let before : List Item = items_in (take i os) in
      let many : length before ≡ count = omega (arith, none, sum) in
      let front : take count (items_in os) ≡ before =
      ap (λ (n : ℕ). take n (items_in os)) (sym many) ∙ ap (take (length before)) (items_at os i o item less is file) ∙ take-append_seam before (item ∷ items_in (drop (i + 1) os)) in
      let more : items_in (take (i + 1) os) ≡ before ++ item ∷ [] = items_one_more os i o less (sym is) ∙ ap (λ (xs : List Item). before ++ xs) (items_file o item file) in
      subst (λ (p : ℕ). IsFileAt os count p item) (sym here)
      (record {
        within = less;
        before = sym front;
        at_it = more ∙ ap (λ (xs : List Item). xs ++ item ∷ []) (sym front);
      })

  -- one file more comes before it
  pub one_more : (item : Item) → o.1 ≡ File item → length (items_in (take (i + 1) os)) ≡ length (items_in (take i os)) + 1
  one_more item file =
      let before : List Item = items_in (take i os) in
      ap length (items_one_more os i o less (sym is) ∙ ap (λ (xs : List Item). before ++ xs) (items_file o item file)) ∙ length-append before (item ∷ [])

  -- or none
  pub no_more : (number stream : ℕ) → o.1 ≡ Fault number stream → length (items_in (take (i + 1) os)) ≡ length (items_in (take i os))
  no_more number stream fault =
      let before : List Item = items_in (take i os) in
      let longer = ap length (items_one_more os i o less (sym is) ∙ ap (λ (xs : List Item). before ++ xs) (items_fault o number stream fault)) ∙ length-append before [] in
      omega (arith, longer)
