-- The grammar of bootstrap text, by example.
use Rattle.std.proofs.Common.{◌≡◌, ℕ, ◌≤◌, ◌⊎◌, List, [], ◌∷◌, ◌++◌, length, fold, replicate, true, false, refl, ap, inl, inr, arith, lit≤}
use Rattle.std.specs.Prelude.{codes, slice_index}
use Rattle.std.specs.List.{AllZip}
use Rattle.br_model.specs.Bootstrap.{Range, FileIndex, VolFile, Stream, group_on}
use Rattle.br_model.specs.BootstrapText.{NamesVolume, Asks, PassedOver, Unsupported, Statement, Nothing, OnVolume, Admits, with_statement, AreBlanks, IsNumber, ArePair, IsItem, AreItems, IsVolumeValue, IsValue, IsAssignment, IsComment, IsLine, IsVolumeFirst, IsBootstrapText, Keyword}
use Rattle.br_model.proofs.BootstrapTextExamples.{reading_text}

between : ℕ → ℕ → Range
between low high = record { low = low; high = high }

-- ---- numbers

spaces_and_tabs_are_blanks : AreBlanks (codes " \t")
spaces_and_tabs_are_blanks = refl

a_line_feed_is_no_blank : AreBlanks (codes " \n") → ⊥
a_line_feed_is_no_blank e = absurd cc

a_number_of_20_digits : IsNumber (replicate 19 48 ++ codes "5") 5
unfolding reading_text
a_number_of_20_digits = (lit≤ tt, refl)

no_number_of_21_digits : IsNumber (replicate 20 48 ++ codes "5") 5 → ⊥
unfolding reading_text
no_number_of_21_digits n = let h : 21 ≤ 20 = n.0 in omega arith

no_number_of_no_digits : IsNumber [] 0 → ⊥
unfolding reading_text
no_number_of_no_digits n = let h = n.1 in absurd cc

a_pair_with_blanks : ArePair (codes "5 -\t6") 5 6
unfolding reading_text
a_pair_with_blanks = record {
  first = codes "5";
  before = codes " ";
  after = codes "\t";
  second = codes "6";
  joined = refl;
  first_is = (lit≤ tt, refl);
  second_is = (lit≤ tt, refl);
  blanks_before = refl;
  blanks_after = refl;
}

-- ---- items

an_item_of_one_number : IsItem FileIndex (codes "1") (between 1 1)
unfolding between reading_text
an_item_of_one_number = record { spelled = inl ((lit≤ tt, refl), refl); ordered = lit≤ tt; from_least = lit≤ tt; to_greatest = lit≤ tt }

an_item_to_the_greatest : IsItem FileIndex (codes "2147483647") (between 2147483647 2147483647)
unfolding between reading_text
an_item_to_the_greatest = record { spelled = inl ((lit≤ tt, refl), refl); ordered = lit≤ tt; from_least = lit≤ tt; to_greatest = lit≤ tt }

no_item_below_the_least : IsItem FileIndex (codes "0") (between 0 0) → ⊥
unfolding between
no_item_below_the_least i = let h : 1 ≤ 0 = i.from_least in omega arith

no_item_above_the_greatest : IsItem FileIndex (codes "2147483648") (between 2147483648 2147483648) → ⊥
unfolding between
no_item_above_the_greatest i = let h : 2147483648 ≤ 2147483647 = i.to_greatest in omega arith

no_falling_item : IsItem FileIndex (codes "5-2") (between 5 2) → ⊥
unfolding between
no_falling_item i = let h : 5 ≤ 2 = i.ordered in omega arith

two_items : AreItems FileIndex (codes "1 ,\t2") (between 1 1 ∷ between 2 2 ∷ [])
unfolding between reading_text
two_items = (
  codes "1",
  codes " ",
  codes "\t",
  codes "2",
  refl,
  refl,
  refl,
  an_item_of_one_number,
  record { spelled = inl ((lit≤ tt, refl), refl); ordered = lit≤ tt; from_least = lit≤ tt; to_greatest = lit≤ tt },
)

no_items_are_none : AreItems FileIndex [] [] → ⊥
no_items_are_none none = none

-- ---- values

a_volume_without_quotes : IsVolumeValue (codes "V1") (codes "V1")
unfolding reading_text
a_volume_without_quotes = (refl, inl (refl, refl))

a_volume_in_quotes : IsVolumeValue (codes "\"V 1\"") (codes "V 1")
unfolding reading_text
a_volume_in_quotes = (refl, inr refl)

no_volume_with_a_space_without_quotes : IsVolumeValue (codes "V 1") (codes "V 1") → ⊥
no_volume_with_a_space_without_quotes v = refute v.1
  where
    refute : ((codes "V 1" ≡ codes "V 1") × (true ≡ false)) ⊎ (codes "V 1" ≡ codes "\"V 1\"") → ⊥
    refute (inl e) = let h = e.1 in absurd cc
    refute (inr e) = let h : ◌≡◌ {A = ℕ} 3 5 = ap (λ (xs : List ℕ). length xs) e in omega arith

no_volume_dot_dot : IsVolumeValue (codes "..") (codes "..") → ⊥
unfolding reading_text
no_volume_dot_dot v = let h = v.0 in absurd cc

a_value_of_a_volume : IsValue NamesVolume (codes "V1") (OnVolume (codes "V1"))
a_value_of_a_volume = a_volume_without_quotes

a_value_of_a_criterion : IsValue (Asks FileIndex) (codes "1") (Admits FileIndex (between 1 1 ∷ []))
unfolding between
a_value_of_a_criterion = (refl, an_item_of_one_number)

no_value_of_another_criterion : IsValue (Asks VolFile) (codes "1") (Admits FileIndex (between 1 1 ∷ [])) → ⊥
no_value_of_another_criterion v = let h = v.0 in absurd cc

any_value_passed_over : IsValue PassedOver (codes "\"a b\" c") Nothing
any_value_passed_over = refl

no_value_passed_over_with_an_open_quote : IsValue PassedOver (codes "\"a") Nothing → ⊥
no_value_passed_over_with_an_open_quote e = absurd cc

no_value_that_is_not_supported : IsValue Unsupported [] Nothing → ⊥
no_value_that_is_not_supported none = none

no_ranges_of_a_volume : IsValue NamesVolume (codes "1") (Admits FileIndex (between 1 1 ∷ [])) → ⊥
no_ranges_of_a_volume none = none

-- ---- lines

-- blanks may be around the equals sign
an_assignment : IsAssignment (codes "stream =\t1") (Admits Stream (between 1 1 ∷ []))
unfolding between reading_text
an_assignment = record {
  word = codes "stream";
  before = codes " ";
  after = codes "\t";
  value = codes "1";
  keyword = Asks Stream;
  joined = refl;
  word_is = refl;
  blanks_before = refl;
  blanks_after = refl;
  value_is = (refl, record { spelled = inl ((lit≤ tt, refl), refl); ordered = lit≤ tt; from_least = lit≤ tt; to_greatest = lit≤ tt });
}

no_comment_is_one : IsComment []
no_comment_is_one = tt

a_comment_begins_with_a_number_sign : IsComment (codes "#=\"")
a_comment_begins_with_a_number_sign = refl

no_comment_begins_otherwise : IsComment (codes "x#") → ⊥
no_comment_begins_otherwise e = let h : ◌≡◌ {A = ℕ} 120 35 = e in omega arith

spaces : ℕ → List ℕ
spaces count = replicate count 32

a_line_of_4096_blanks : IsLine (spaces 4096) Nothing
unfolding spaces
a_line_of_4096_blanks = record {
  front = replicate 4096 32;
  middle = [];
  back = [];
  comment = [];
  joined = refl;
  blanks_front = refl;
  blanks_back = refl;
  comment_is = tt;
  middle_is = inl (refl, refl);
  fits = lit≤ tt;
}

no_line_of_4097_bytes : IsLine (spaces 4097) Nothing → ⊥
unfolding spaces
no_line_of_4097_bytes l = let h : 4097 ≤ 4096 = l.fits in omega arith

-- ---- texts

nothing_before_the_volume : IsVolumeFirst (Nothing ∷ OnVolume (codes "V") ∷ Admits FileIndex [] ∷ [])
nothing_before_the_volume = tt

nothing_without_a_volume : IsVolumeFirst (Nothing ∷ [])
nothing_without_a_volume = tt

no_criterion_before_the_volume : IsVolumeFirst (Nothing ∷ Admits FileIndex [] ∷ OnVolume (codes "V") ∷ []) → ⊥
no_criterion_before_the_volume none = none

nothing_states_nothing : IsBootstrapText [] []
nothing_states_nothing = record { statements = []; each = tt; volume_first = tt; groups_are = refl }

nothing_states_no_group : IsBootstrapText [] (group_on (codes "V") ∷ []) → ⊥
nothing_states_no_group t = refute t.statements t.each t.groups_are
  where
    refute : (statements : List Statement) → AllZip IsLine [] statements → (group_on (codes "V") ∷ []) ≡ fold with_statement [] statements → ⊥
    refute [] each e = absurd cc
    refute (s ∷ more) each e = each

-- a pair itself may fall
a_pair_that_falls : ArePair (codes "6-5") 6 5
unfolding reading_text
a_pair_that_falls = record {
  first = codes "6";
  before = [];
  after = [];
  second = codes "5";
  joined = refl;
  first_is = (lit≤ tt, refl);
  second_is = (lit≤ tt, refl);
  blanks_before = refl;
  blanks_after = refl;
}

an_assignment_of_nothing : IsAssignment (codes "count=") Nothing
unfolding reading_text
an_assignment_of_nothing = record {
  word = codes "count";
  before = [];
  after = [];
  value = [];
  keyword = PassedOver;
  joined = refl;
  word_is = refl;
  blanks_before = refl;
  blanks_after = refl;
  value_is = refl;
}

no_assignment_states_an_empty_range : IsAssignment (codes "stream=1") (Admits Stream []) → ⊥
no_assignment_states_an_empty_range a = refute a.keyword a.value_is
  where
    refute : (k : Keyword) → IsValue k a.value (Admits Stream []) → ⊥
    refute NamesVolume v = v
    refute (Asks c) v = v.1
    refute PassedOver v = v
    refute Unsupported v = v

no_pair_without_a_dash : ArePair (codes "6") 6 6 → ⊥
no_pair_without_a_dash p = refute p.first p.before p.after p.second p.joined
  where
    refute : (first before after second : List ℕ) → (54 ∷ []) ≡ (first ++ before ++ 45 ∷ after ++ second) → ⊥
    refute [] [] after second e = let h : ◌≡◌ {A = ℕ} 54 45 = ap (λ xs. slice_index xs 0) e in omega arith
    refute [] (b ∷ []) after second e = absurd cc
    refute [] (b ∷ c ∷ bs) after second e = absurd cc
    refute (a ∷ []) [] after second e = absurd cc
    refute (a ∷ []) (b ∷ bs) after second e = absurd cc
    refute (a ∷ c ∷ more) before after second e = absurd cc
