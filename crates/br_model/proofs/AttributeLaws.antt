-- What is written of attributes is read as these.
use Rattle.std.proofs.Common.{◌≡◌, ℕ, ◌+◌, ◌-◌, ◌*◌, ◌/◌, ◌%◌, ◌^◌, ◌<◌, ◌≤◌, Bool, true, false, not, eqb, ltb, leb, List, [], ◌∷◌, ◌++◌, length, map, filter, take, drop, Some, Ok, refl, sym, ap, ◌∙◌, arith, append_assoc}
use Rattle.std.specs.Prelude.{ℤ, pos, negsuc, fold, decimal}
use Rattle.std.specs.List.{AllByRecursion, list_all, slice_split, prefix_len, join_with_byte, before_first}
use Rattle.br_model.specs.Text.{is_empty, is_space, words, decimal_value}
use Rattle.br_model.specs.Number.{is_64_bits, are_digits64, digit64, write_magnitude, write_number}
use Rattle.br_model.specs.Name.{is_path}
use Rattle.br_model.specs.Attribute.{Stat, stat_numbers, stat_from, read_numbers, read_stat, write_stat, field, read_positive, read_attributes, write_attributes, AttributesReadBack}
use Rattle.br_model.proofs.NumberLaws.{is_digit, some_digits, magnitude_digits, numbers_read_back_lem}
use Rattle.std.proofs.lemmas.Bool.{eqb-true, eq-eqb, ne_eqb, lt-ltb, le-leb, and_from, and_parts, not-true, both_ways, not_from_false}
use Rattle.std.proofs.lemmas.List.{length-append, take_at, drop_at}
use Rattle.std.proofs.lemmas.List.Folds.{list_all-append}
use Rattle.std.proofs.lemmas.List.Sums.{fold_push}
use Rattle.std.proofs.lemmas.Nat.{mod_below}
use Rattle.std.proofs.lemmas.Fmt.{decimal_by_steps}
use Rattle.std.specs.Char.{is_ascii_digit}
-- ---- texts without a byte
use Rattle.br_model.proofs.ListLaws.{all_pass, all_weaker, holds_of_all, keeps_all, long_is_not_empty}

abbrev pub Lacks : ℕ → List ℕ → Type 0
Lacks c text = list_all (λ b. not (eqb b c)) text ≡ true

pub all_join : (p : ℕ → Bool) (xs ys : List ℕ) → list_all p xs ≡ true → list_all p ys ≡ true → list_all p (xs ++ ys) ≡ true
all_join p xs ys h g = list_all-append p xs ys ∙ and_from (list_all p xs) (list_all p ys) h g

pub all_so : (p q : ℕ → Bool) → ((c : ℕ) → p c ≡ true → q c ≡ true) → (xs : List ℕ) → list_all p xs ≡ true → list_all q xs ≡ true
all_so p q f xs h = holds_of_all q xs (all_weaker (λ c. p c ≡ true) (λ c. q c ≡ true) f xs (all_pass p xs h))

-- a test that a byte fails is passed by none that equals it
pub unlike : (p : ℕ → Bool) (c : ℕ) → p c ≡ false → (b : ℕ) → p b ≡ true → not (eqb b c) ≡ true
unlike p c fails b passes = go (eqb b c) refl
  where
    go : (t : Bool) → eqb b c ≡ t → not t ≡ true
    go true e = absurd (both_ways (p c) fails (ap p (sym (eqb-true b c e)) ∙ passes))
    go false e = refl

pub count_before : (c : ℕ) (front rest : List ℕ) → Lacks c front → prefix_len (λ b. not (eqb b c)) (front ++ c ∷ rest) ≡ length front
count_before c [] rest h = let e : eqb c c ≡ true = eq-eqb c c refl in rw e refl
count_before c (x ∷ xs) rest h =
    let first = (and_parts (not (eqb x c)) (list_all (λ b. not (eqb b c)) xs) h).0 in
    let more = count_before c xs rest (and_parts (not (eqb x c)) (list_all (λ b. not (eqb b c)) xs) h).1 in
    rw (first, more) (omega arith)

-- a field before its end byte
field_is : (c : ℕ) (front rest : List ℕ) → Lacks c front → field c (front ++ c ∷ rest) ≡ Ok (front, rest)
unfolding field
field_is c front rest h =
    let n = count_before c front rest h in
    let within : ltb (length front) (length (front ++ c ∷ rest)) ≡ true = lt-ltb (length front) (length (front ++ c ∷ rest)) (omega (arith, length-append front (c ∷ rest))) in
    let taken : take (length front) (front ++ c ∷ rest) ≡ front = take_at front (c ∷ rest) (length front) refl in
    let dropped : drop (length front + 1) (front ++ c ∷ rest) ≡ rest =
    ap (drop (length front + 1)) (sym (append_assoc front (c ∷ []) rest)) ∙ drop_at (front ++ c ∷ []) rest (length front + 1) (length-append front (c ∷ [])) in
    rw (n, within, taken, dropped) refl

pub before_is : (c : ℕ) (front rest : List ℕ) → Lacks c front → before_first (λ b. eqb b c) (front ++ c ∷ rest) ≡ front
before_is c front rest h = rw (count_before c front rest h) (take_at front (c ∷ rest) (length front) refl)

-- ---- decimals

abbrev and_decimal : ℕ → ℕ → ℕ
and_decimal n c = 10 * n + (c - 48)

pub record IsDecimalOf (n : ℕ) (text : List ℕ) : Type 0 where
  pub all : list_all is_ascii_digit text ≡ true
  value : fold and_decimal 0 text ≡ n
  some : 0 < length text

one_digit : (d : ℕ) → d < 10 → is_ascii_digit (48 + d) ≡ true
one_digit d lt = and_from (leb 48 (48 + d)) (leb (48 + d) 57) (le-leb 48 (48 + d) (omega arith)) (le-leb (48 + d) 57 (omega arith))

pub decimal_is : (n : ℕ) → n < 2 ^ 64 → IsDecimalOf n (decimal n)
decimal_is n lt = decimal_by_steps IsDecimalOf one more n lt
  where
    one : (m : ℕ) → m < 10 → IsDecimalOf m ((48 + m) ∷ [])
    one m below = record { all = and_from (is_ascii_digit (48 + m)) true (one_digit m below) refl; value = omega arith; some = omega arith }

    more : (m : ℕ) (ds : List ℕ) → 10 ≤ m → IsDecimalOf (m / 10) ds → IsDecimalOf m (ds ++ ((48 + m % 10) ∷ []))
    more m ds le h = record {
      all = all_join is_ascii_digit ds ((48 + m % 10) ∷ []) h.all (and_from (is_ascii_digit (48 + m % 10)) true (one_digit (m % 10) (mod_below m 10 (omega arith))) refl);
      value = fold_push and_decimal 0 ds (48 + m % 10) ∙ omega (arith, h.value);
      some = omega (arith, length-append ds ((48 + m % 10) ∷ []));
    }

pub decimal_reads : (n : ℕ) → n < 2 ^ 64 → decimal_value (decimal n) ≡ Some n
unfolding decimal_value
decimal_reads n lt =
    let d = decimal_is n lt in
    let some : eqb (length (decimal n)) 0 ≡ false = ne_eqb (length (decimal n)) 0 (λ e. omega (arith, e, d.some)) in
    rw (some, d.all, d.value) refl

positive_reads : (n : ℕ) → 1 ≤ n → n < 2 ^ 31 → read_positive (decimal n) ≡ Ok n
unfolding read_positive
positive_reads n from to =
    let low : leb 1 n ≡ true = le-leb 1 n from in
    let high : ltb n (2 ^ 31) ≡ true = lt-ltb n (2 ^ 31) to in
    rw (decimal_reads n (omega (arith, to)), low, high) refl

decimal_lacks_space : (n : ℕ) → n < 2 ^ 64 → Lacks 32 (decimal n)
decimal_lacks_space n lt = all_so is_ascii_digit (λ b. not (eqb b 32)) (unlike is_ascii_digit 32 refl) (decimal n) (decimal_is n lt).all

-- ---- numbers with spaces between them

-- a number has digits and perhaps a minus, and no other bytes
digits_all : (text : List ℕ) → are_digits64 text ≡ true → list_all is_digit text ≡ true
digits_all text e = (and_parts (not (is_empty text)) (list_all is_digit text) e).1

number_lacks : (c : ℕ) → is_digit c ≡ false → not (eqb 45 c) ≡ true → (z : ℤ) → Lacks c (write_number z)
unfolding write_number
number_lacks c fails other (pos n) = all_so is_digit (λ b. not (eqb b c)) (unlike is_digit c fails) (write_magnitude n) (digits_all (write_magnitude n) (magnitude_digits n))
number_lacks c fails other (negsuc n) =
    and_from (not (eqb 45 c)) (list_all (λ b. not (eqb b c)) (write_magnitude (n + 1))) other
    (all_so is_digit (λ b. not (eqb b c)) (unlike is_digit c fails) (write_magnitude (n + 1)) (digits_all (write_magnitude (n + 1)) (magnitude_digits (n + 1))))

no_space : (z : ℤ) → Lacks 32 (write_number z)
unfolding digit64
no_space z = number_lacks 32 refl refl z

no_nul : (z : ℤ) → Lacks 0 (write_number z)
unfolding digit64
no_nul z = number_lacks 0 refl refl z

some_bytes : (z : ℤ) → 0 < length (write_number z)
unfolding write_number
some_bytes (pos n) = some_digits (write_magnitude n) (magnitude_digits n)
some_bytes (negsuc n) = omega arith

each_written : (P : List ℕ → Type 0) → ((z : ℤ) → P (write_number z)) → (ns : List ℤ) → AllByRecursion P (map write_number ns)
each_written P f [] = tt
each_written P f (n ∷ ns) = (f n, each_written P f ns)

join_lacks : (c d : ℕ) → not (eqb c d) ≡ true → (parts : List (List ℕ)) → AllByRecursion (Lacks d) parts → Lacks d (join_with_byte c parts)
join_lacks c d other [] h = refl
join_lacks c d other (x ∷ []) h = h.0
join_lacks c d other (x ∷ y ∷ xs) h =
    all_join (λ b. not (eqb b d)) x (c ∷ join_with_byte c (y ∷ xs)) h.0
    (and_from (not (eqb c d)) (list_all (λ b. not (eqb b d)) (join_with_byte c (y ∷ xs))) other (join_lacks c d other (y ∷ xs) h.1))

pub split_last : (c : ℕ) (word : List ℕ) → Lacks c word → slice_split (λ b. eqb b c) word ≡ word ∷ []
split_last c [] h = refl
split_last c (x ∷ xs) h =
    let first = not-true (eqb x c) (and_parts (not (eqb x c)) (list_all (λ b. not (eqb b c)) xs) h).0 in
    rw (first, split_last c xs (and_parts (not (eqb x c)) (list_all (λ b. not (eqb b c)) xs) h).1) refl

pub split_first : (c : ℕ) (word rest : List ℕ) → Lacks c word → slice_split (λ b. eqb b c) (word ++ c ∷ rest) ≡ word ∷ slice_split (λ b. eqb b c) rest
split_first c [] rest h = let e : eqb c c ≡ true = eq-eqb c c refl in rw e refl
split_first c (x ∷ xs) rest h =
    let first = not-true (eqb x c) (and_parts (not (eqb x c)) (list_all (λ b. not (eqb b c)) xs) h).0 in
    rw (first, split_first c xs rest (and_parts (not (eqb x c)) (list_all (λ b. not (eqb b c)) xs) h).1) refl

split_joined : (word : List ℕ) (more : List (List ℕ)) → AllByRecursion (Lacks 32) (word ∷ more) → slice_split is_space (join_with_byte 32 (word ∷ more)) ≡ word ∷ more
split_joined word [] h = split_last 32 word h.0
split_joined word (next ∷ more) h = split_first 32 word (join_with_byte 32 (next ∷ more)) h.0 ∙ ap (λ parts. word ∷ parts) (split_joined next more h.1)

HasBytes : List ℕ → Type 0
HasBytes part = 0 < length part

all_kept : (parts : List (List ℕ)) → AllByRecursion HasBytes parts → filter (λ part. not (is_empty part)) parts ≡ parts
unfolding HasBytes
all_kept parts h =
    keeps_all (λ part. not (is_empty part)) parts
    (all_weaker HasBytes (λ part. not (is_empty part) ≡ true) (λ part some. not_from_false (is_empty part) (long_is_not_empty part some)) parts h)

words_are : (n : ℤ) (ns : List ℤ) → words (join_with_byte 32 (map write_number (n ∷ ns))) ≡ map write_number (n ∷ ns)
unfolding words HasBytes
words_are n ns =
    ap (filter (λ part. not (is_empty part))) (split_joined (write_number n) (map write_number ns) (each_written (Lacks 32) no_space (n ∷ ns)))
    ∙ all_kept (map write_number (n ∷ ns)) (each_written HasBytes some_bytes (n ∷ ns))

numbers_read : (ns : List ℤ) → AllByRecursion (λ z. is_64_bits z ≡ true) ns → read_numbers (map write_number ns) ≡ Ok ns
unfolding read_numbers
numbers_read [] h = refl
numbers_read (n ∷ ns) h = rw (numbers_read_back_lem n h.0, numbers_read ns h.1) refl

pub stat_reads : (s : Stat) → AllByRecursion (λ z. is_64_bits z ≡ true) (stat_numbers s) → read_stat (write_stat s) ≡ Ok s
unfolding read_stat write_stat stat_from
stat_reads s h =
    let ws : words (join_with_byte 32 (map write_number (stat_numbers s))) ≡ map write_number (stat_numbers s) =
    words_are s.dev (s.ino ∷ s.mode ∷ s.nlink ∷ s.uid ∷ s.gid ∷ s.rdev ∷ s.size ∷ s.blksize ∷ s.blocks ∷ s.atime ∷ s.mtime ∷ s.ctime ∷ s.link_index ∷ []) in
    let read : read_numbers (take 14 (map write_number (stat_numbers s))) ≡ Ok (stat_numbers s) = numbers_read (stat_numbers s) h in
    rw (ws, read) refl

-- ---- the whole record

stat_lacks : (s : Stat) → Lacks 0 (write_stat s)
unfolding write_stat
stat_lacks s = join_lacks 32 0 refl (map write_number (stat_numbers s)) (each_written (Lacks 0) no_nul (stat_numbers s))

path_lacks : (path : List ℕ) → is_path path ≡ true → Lacks 0 path
unfolding is_path
path_lacks path e = (and_parts _ _ (and_parts _ _ e).0).1

regroup : (a b c d e : List ℕ) → a ++ 32 ∷ b ++ 32 ∷ c ++ 0 ∷ d ++ 0 ∷ e ++ 0 ∷ [] ≡ a ++ 32 ∷ (b ++ 32 ∷ (c ++ 0 ∷ (d ++ 0 ∷ (e ++ 0 ∷ []))))
regroup a b c d e =
    append_assoc (a ++ 32 ∷ b ++ 32 ∷ c ++ 0 ∷ d) (0 ∷ e) (0 ∷ []) ∙ append_assoc (a ++ 32 ∷ b ++ 32 ∷ c) (0 ∷ d) (0 ∷ (e ++ 0 ∷ []))
    ∙ append_assoc (a ++ 32 ∷ b) (32 ∷ c) (0 ∷ (d ++ 0 ∷ (e ++ 0 ∷ []))) ∙ append_assoc a (32 ∷ b) (32 ∷ (c ++ 0 ∷ (d ++ 0 ∷ (e ++ 0 ∷ []))))

pub attributes_read_back_lem : AttributesReadBack
unfolding read_attributes write_attributes
attributes_read_back_lem a can =
    let behind_stat = a.link ++ 0 ∷ [] in
    let behind_path = write_stat a.stat ++ 0 ∷ behind_stat in
    let behind_kind = a.path ++ 0 ∷ behind_path in
    let behind_index = decimal a.kind ++ 32 ∷ behind_kind in
    let text : write_attributes a ≡ decimal a.index ++ 32 ∷ behind_index = regroup (decimal a.index) (decimal a.kind) a.path (write_stat a.stat) a.link in
    let index_field = field_is 32 (decimal a.index) behind_index (decimal_lacks_space a.index (omega (arith, can.index_to))) in
    let kind_field = field_is 32 (decimal a.kind) behind_kind (decimal_lacks_space a.kind (omega (arith, can.kind_to))) in
    let path_field = field_is 0 a.path behind_path (path_lacks a.path can.path_is) in
    let stat_field = field_is 0 (write_stat a.stat) behind_stat (stat_lacks a.stat) in
    let index_is = positive_reads a.index can.index_from can.index_to in
    let kind_is = positive_reads a.kind can.kind_from can.kind_to in
    let same : eqb a.index a.index ≡ true = eq-eqb a.index a.index refl in
    let link : before_first (λ b. eqb b 0) (a.link ++ 0 ∷ []) ≡ a.link = before_is 0 a.link [] can.link_is in
    rw (text, index_field, index_is, same, kind_field, kind_is, path_field, can.path_is, stat_field, stat_reads a.stat can.numbers, link) refl
