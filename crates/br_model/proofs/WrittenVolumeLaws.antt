-- Whole blocks that are appended to a volume of whole blocks lie in it after these, and
-- make a span.
use Rattle.std.proofs.Common.{◌≡◌, ℕ, suc, ◌+◌, ◌<◌, ◌≤◌, true, false, List, [], ◌∷◌, ◌++◌, length, take, drop, filter, Option, Some, None, Ok, refl, sym, ap, subst, ◌∙◌, inl, inr, arith}
use Rattle.std.proofs.lemmas.Bool.{le-leb, lt-leb, lt-ltb, le-ltb}
use Rattle.std.proofs.lemmas.List.{append-nil, length-append, length-drop, take_at, drop_at, take-append-le, drop-append-le}
use Rattle.std.proofs.lemmas.List.Elements.{filter-append}
use Rattle.std.specs.Prelude.{Contains, flat_map}
use Rattle.std.specs.Int.{is_in_range}
use Rattle.std.specs.List.{AllByRecursion}
use Rattle.br_model.specs.Block.{Header, read_header}
use Rattle.br_model.specs.Volume.{Volume, volume_bytes, LaidBlock, is_above, AreLaidFrom, AreLaid}
use Rattle.br_model.specs.Job.{Span}
use Rattle.br_model.specs.Stored.{is_in_span, IsSpanLaid}
use Rattle.br_model.proofs.VolumeLaws.{header_has_16}
use Rattle.br_model.proofs.SpanLaws.{everywhere, read_header_more, less_covered}
use Rattle.br_model.proofs.ListLaws.{all_weaker, keeps_all, keeps_none}

-- a block that is as long as its header says
pub record IsWholeBlock (block : List ℕ) : Type 0 where
  pub header : Header
  pub read : read_header block ≡ Ok header
  pub size_is : header.size ≡ length block

-- some blocks, joined
abbrev pub joined : List (List ℕ) → List ℕ
joined blocks = flat_map (λ (b : List ℕ). b) blocks

-- some blocks, one after the other, from an address on
abbrev pub laid_at : ℕ → List (List ℕ) → List LaidBlock
laid_at address [] = []
laid_at address (b ∷ bs) = record { address = address; bytes = b } ∷ laid_at (address + length b) bs

-- what is laid at an address is laid at an equal one, in equal bytes
pub laid_same : (a b : ℕ) (xs ys : List ℕ) (bound : Option ℕ) (bs : List LaidBlock) → a ≡ b → xs ≡ ys → AreLaidFrom a xs bound everywhere bs → AreLaidFrom b ys bound everywhere bs
laid_same a b xs ys bound bs p q laid =
    subst (λ (zs : List ℕ). AreLaidFrom b zs bound everywhere bs) q (subst (λ (n : ℕ). AreLaidFrom n xs bound everywhere bs) p laid)

-- whole blocks that are joined are laid one after the other
pub blocks_are_laid : (address : ℕ) (blocks : List (List ℕ)) → AllByRecursion IsWholeBlock blocks → AreLaidFrom address (joined blocks) None everywhere (laid_at address blocks)
blocks_are_laid address [] whole = inl refl
blocks_are_laid address (b ∷ bs) whole =
    let w = whole.0 in
    let h = w.header in
    let behind = joined bs in
    let long : 16 ≤ length b = (header_has_16 b h w.read).0 in
    let taken : take h.size (b ++ behind) ≡ b = take_at b behind h.size (sym w.size_is) in
    let dropped : drop h.size (b ++ behind) ≡ behind = drop_at b behind h.size (sym w.size_is) in
    let rest = blocks_are_laid (address + length b) bs whole.1 in (
      omega (arith, long, length-append b behind),
      refl,
      h,
      read_header_more b behind h w.read,
      (λ q. omega (arith, w.size_is, length-append b behind)),
      ap (λ (xs : List ℕ). record { address = address; bytes = xs }) (sym taken),
      laid_same (address + length b) (address + h.size) behind (drop h.size (b ++ behind)) None (laid_at (address + length b) bs) (omega (arith, w.size_is)) (sym dropped) rest,
    )

-- what is laid after whole blocks is laid with them, if these are not above the bound
pub laid_behind : (address : ℕ) (left more : List ℕ) (bound : Option ℕ) (bs cs : List LaidBlock)
    → ((a : ℕ) → a < address + length left → is_above bound a ≡ false)
    → AreLaidFrom address left None everywhere bs → AreLaidFrom (address + length left) more bound everywhere cs
    → AreLaidFrom address (left ++ more) bound everywhere (bs ++ cs)
laid_behind address left more bound [] cs below laid behind =
    elim laid [
      | inl e ↦ laid_same (address + length left) address more (left ++ more) bound cs (omega (arith, ap length e)) (ap (λ (xs : List ℕ). xs ++ more) (sym e)) behind
      | inr e ↦ absurd cc
    ]
laid_behind address left more bound (b ∷ bs) cs below laid behind =
    let h = laid.2 in
    let long : 16 ≤ length left = (header_has_16 left h laid.3).0 in
    let whole : h.size ≤ length left = laid.4 refl in
    let left_is = length-drop h.size left in
    let same : ◌≡◌ {A = LaidBlock} (record { address = address; bytes = take h.size left }) (record { address = address; bytes = take h.size (left ++ more) }) =
    ap (λ (xs : List ℕ). record { address = address; bytes = xs }) (sym (take-append-le h.size left more whole)) in
    let end : address + length left ≡ address + h.size + length (drop h.size left) = omega (arith, left_is, whole) in
    let rest = laid_behind (address + h.size) (drop h.size left) more bound bs cs (λ a lt. below a (omega (arith, lt, end))) laid.6
    (laid_same (address + length left) (address + h.size + length (drop h.size left)) more more bound cs end refl behind) in (
      omega (arith, long, length-append left more),
      below address (omega (arith, long)),
      h,
      read_header_more left more h laid.3,
      (λ q. omega (arith, whole, length-append left more)),
      laid.5 ∙ same,
      laid_same (address + h.size) (address + h.size) (drop h.size left ++ more) (drop h.size (left ++ more)) bound (bs ++ cs) refl (sym (drop-append-le h.size left more whole)) rest,
    )

-- the addresses of whole blocks are within what they fill
pub addresses_within : (address : ℕ) (left : List ℕ) (bs : List LaidBlock) → AreLaidFrom address left None everywhere bs
    → AllByRecursion (λ (b : LaidBlock). (address ≤ b.address) × (b.address < address + length left)) bs
addresses_within address left [] laid = tt
addresses_within address left (b ∷ bs) laid =
    let h = laid.2 in
    let at : b.address ≡ address = ap (λ (y : LaidBlock). y.address) laid.5 in
    let whole : h.size ≤ length left = laid.4 refl in (
      (omega (arith, at), omega (arith, at, laid.0)),
      all_weaker (λ (c : LaidBlock). (address + h.size ≤ c.address) × (c.address < address + h.size + length (drop h.size left))) (λ (c : LaidBlock). (address ≤ c.address) × (c.address < address + length left))
          (λ c is. (omega (arith, is.0), omega (arith, is.1, length-drop h.size left, whole))) bs (addresses_within (address + h.size) (drop h.size left) bs laid.6),
    )

-- a volume of whole blocks with whole blocks after them is one
pub whole_appended : (old : List ℕ) (before : List LaidBlock) (blocks : List (List ℕ)) → AllByRecursion IsWholeBlock blocks → AreLaid old None everywhere before
    → AreLaid (old ++ joined blocks) None everywhere (before ++ laid_at (length old) blocks)
whole_appended old before blocks whole laid =
    laid_behind 0 old (joined blocks) None before (laid_at (length old) blocks) (λ a lt. refl) laid
    (subst (λ (n : ℕ). AreLaidFrom n (joined blocks) None everywhere (laid_at (length old) blocks)) (omega arith) (blocks_are_laid (length old) blocks whole))

-- the last of some blocks ends where they end
pub last_laid : (address : ℕ) (block : List ℕ) (blocks : List (List ℕ))
    → (b : LaidBlock) × Contains (laid_at address (block ∷ blocks)) b × (b.address + length b.bytes ≡ address + length (joined (block ∷ blocks)))
last_laid address block [] = (record { address = address; bytes = block }, (0, omega arith, refl), omega (arith, length-append block []))
last_laid address block (next ∷ more) =
    let rest = last_laid (address + length block) next more in
    (rest.0, (suc rest.1.0, omega (arith, rest.1.1), rest.1.2), omega (arith, rest.2, length-append block (joined (next ∷ more))))

-- a number from the low end of a range on, and not above its high end, is in it
pub in_range : (low high n : ℕ) → low ≤ n → n ≤ high → is_in_range low high n ≡ true
in_range low high n from to = let a = le-leb low n from in let b = le-leb n high to in rw (a, b) refl

-- an address below the start of a span is not in it
before_span : (s : Span) (a : ℕ) → a < s.start → is_in_span s a ≡ false
before_span s a lt = rw (lt-leb s.start a lt) refl

-- the appended blocks are laid in their span, whatever follows it
pub appended_are_laid : (volumes : List Volume) (s : Span) (old more : List ℕ) (before : List LaidBlock) (block : List ℕ) (blocks : List (List ℕ))
    → AllByRecursion IsWholeBlock (block ∷ blocks) → AreLaid old None everywhere before
    → volume_bytes volumes s.volume ≡ Some ((old ++ joined (block ∷ blocks)) ++ more)
    → s.start ≡ length old → s.end + 1 ≡ length old + length (joined (block ∷ blocks))
    → IsSpanLaid volumes s (laid_at (length old) (block ∷ blocks))
appended_are_laid volumes s old more before block blocks whole laid found start end =
    let new = joined (block ∷ blocks) in
    let bytes = (old ++ new) ++ more in
    let mine = laid_at (length old) (block ∷ blocks) in
    let all = before ++ mine in
    let length_is = length-append old new in
    let below = λ (a : ℕ) (lt : a < 0 + length (old ++ new)). le-ltb s.end a (omega (arith, lt, length_is, end)) in
    let above : is_above (Some s.end) (0 + length (old ++ new)) ≡ true = lt-ltb s.end (0 + length (old ++ new)) (omega (arith, length_is, end)) in
    let walked : AreLaidFrom 0 bytes (Some s.end) everywhere (all ++ []) = laid_behind 0 (old ++ new) more (Some s.end) all [] below (whole_appended old before (block ∷ blocks) whole laid) (inr above) in
    let here : AreLaidFrom 0 bytes (Some s.end) everywhere all = subst (λ (bs : List LaidBlock). AreLaidFrom 0 bytes (Some s.end) everywhere bs) (append-nil all) walked in
    let kept : filter (λ (b : LaidBlock). is_in_span s b.address) mine ≡ mine =
    keeps_all (λ (b : LaidBlock). is_in_span s b.address) mine
    (all_weaker (λ (b : LaidBlock). (length old ≤ b.address) × (b.address < length old + length new)) (λ (b : LaidBlock). is_in_span s b.address ≡ true)
    (λ b is. in_range s.start s.end b.address (omega (arith, is.0, start)) (omega (arith, is.1, end))) mine (addresses_within (length old) new mine (blocks_are_laid (length old) (block ∷ blocks) whole))) in
    let left_out : filter (λ (b : LaidBlock). is_in_span s b.address) before ≡ [] =
    keeps_none (λ (b : LaidBlock). is_in_span s b.address) before
    (all_weaker (λ (b : LaidBlock). (0 ≤ b.address) × (b.address < 0 + length old)) (λ (b : LaidBlock). is_in_span s b.address ≡ false)
    (λ b is. before_span s b.address (omega (arith, is.1, start))) before (addresses_within 0 old before laid)) in
    let last = last_laid (length old) block blocks in
    record {
      bytes = bytes;
      all = all;
      found = found;
      laid = less_covered 0 bytes (Some s.end) everywhere (is_in_span s) all (λ a q. refl) here;
      blocks_are = sym (filter-append (λ (b : LaidBlock). is_in_span s b.address) before mine ∙ ap (λ (bs : List LaidBlock). bs ++ filter (λ (b : LaidBlock). is_in_span s b.address) mine) left_out ∙ kept);
      first = record { address = length old; bytes = block };
      first_among = (0, omega arith, refl);
      first_begins = sym start;
      last = last.0;
      last_among = last.1;
      last_ends = last.2 ∙ sym end;
    }
