-- The walk of a volume finds its blocks exactly if it is laid out in them.
use Rattle.std.proofs.Common.{◌≡◌, ℕ, zero, suc, ◌+◌, ◌*◌, ◌/◌, ◌<◌, ◌≤◌, Bool, true, false, ◌&&◌, ◌||◌, ltb, List, [], ◌∷◌, length, take, drop, Option, Some, None, Result, Ok, Err, cond, ap, sym, ◌∙◌, refl, subst, inl, inr, arith}
use Rattle.std.proofs.lemmas.Bool.{ltb-false, le-ltb, or_cases, or_from, or_parts, or_right}
use Rattle.std.proofs.lemmas.List.{length-drop, drop-drop}
use Rattle.std.specs.Prelude.{not}
use Rattle.br_model.specs.Answer.{◌>>=◌, refuse_if, refused_as}
use Rattle.br_model.specs.Text.{is_empty}
use Rattle.br_model.specs.Name.{SessionKey}
use Rattle.br_model.specs.Block.{Header, u32_at, letters, older_letters, header_length, has_letters, session_of, read_header}
use Rattle.br_model.specs.Volume.{LaidBlock, BlockFault, is_above, AreLaidFrom, blocks_from, blocks_of, WalkIsExact, next_block, step_and, steps_from, StepsAreTheWalk}
use Rattle.br_model.proofs.AnswerLaws.{bind_ok, refuse_ok, refused_as_ok, ok_is, chosen}
use Rattle.br_model.proofs.ListLaws.{empty_is_nil, long_is_not_empty, not_empty_is_long}

-- a header has 16 bytes at least
pub at_least_16 : (session : Option SessionKey) → 16 ≤ header_length session
at_least_16 None = omega arith
at_least_16 (Some key) = omega arith

-- and 24 at most
pub at_most_24 : (session : Option SessionKey) → header_length session ≤ 24
at_most_24 None = omega arith
at_most_24 (Some key) = omega arith

-- a header that is read has as many bytes as one with its letters, and gives at least this size
pub record ReadsHeader (bytes : List ℕ) (h : Header) : Type 0 where
  pub lettered : 16 ≤ length bytes
  pub long : header_length (session_of bytes) ≤ length bytes
  pub size_from : header_length (session_of bytes) ≤ h.size
  pub size_to : h.size ≤ 4194304
  pub session_is : session_of bytes ≡ h.session

pub header_reads : (bytes : List ℕ) (h : Header) → read_header bytes ≡ Ok h → ReadsHeader bytes h
unfolding read_header
header_reads bytes h e =
    let size = u32_at 4 bytes in
    let least = header_length (session_of bytes) in
    let other : Bool = not (has_letters older_letters bytes || has_letters letters bytes) in
    let head : Header = record { checksum = u32_at 0 bytes; size = size; number = u32_at 8 bytes; session = session_of bytes } in
    let sized : Unit {0} → Result Header ℕ = λ _. Ok head in
    let whole : Unit {0} → Result Header ℕ = λ _. refuse_if (ltb size least || ltb 4194304 size) 11 >>= sized in
    let lettered : Unit {0} → Result Header ℕ = λ _. refuse_if (ltb (length bytes) least) 12 >>= whole in
    let long : Unit {0} → Result Header ℕ = λ _. refuse_if other 10 >>= lettered in
    let a = refuse_ok (ltb (length bytes) 16) 12 long h e in
    let b = refuse_ok other 10 lettered h a.1 in
    let c = refuse_ok (ltb (length bytes) least) 12 whole h b.1 in
    let d = refuse_ok (ltb size least || ltb 4194304 size) 11 sized h c.1 in
    let same : head ≡ h = ok_is head h d.1 in
    let sizes = or_parts (ltb size least) (ltb 4194304 size) d.0 in
    record {
      lettered = ltb-false (length bytes) 16 a.0;
      long = ltb-false (length bytes) least c.0;
      size_from = subst (λ (g : Header). least ≤ g.size) same (ltb-false size least sizes.0);
      size_to = subst (λ (g : Header). g.size ≤ 4194304) same (ltb-false 4194304 size sizes.1);
      session_is = ap (λ (g : Header). g.session) same;
    }

-- a header that is read has at least 16 bytes, and gives at least this size
pub header_has_16 : (bytes : List ℕ) (h : Header) → read_header bytes ≡ Ok h → (16 ≤ length bytes) × (16 ≤ h.size)
header_has_16 bytes h e =
    let r = header_reads bytes h e in
    (r.lettered, omega (arith, r.size_from, at_least_16 (session_of bytes)))

pub and_false : (a b : Bool) → (a && b) ≡ false → a ≡ true → b ≡ false
and_false true b e p = e
and_false false b e p = absurd cc

unless : (a b : Bool) → (a ≡ true → b ≡ false) → (a && b) ≡ false
unless true b h = h refl
unless false b h = refl

-- the block at an address that a header says
abbrev pub laid_block : ℕ → List ℕ → Header → LaidBlock
laid_block address left h = record { address = address; bytes = take h.size left }

-- what the walk finds is what the volume is laid out in
pub found_is_laid : (n address : ℕ) (left : List ℕ) (bound : Option ℕ) (covered : ℕ → Bool) (bs : List LaidBlock) → length left < 16 * n
    → blocks_from n address left bound covered ≡ Ok bs → AreLaidFrom address left bound covered bs
unfolding blocks_from
found_is_laid zero address left bound covered bs lt e = absurd (omega arith)
found_is_laid (suc n) address left bound covered bs lt e =
    let end : Bool = is_empty left || is_above bound address in
    let give : Header → List LaidBlock → Result (List LaidBlock) BlockFault = λ h more. Ok (laid_block address left h ∷ more) in
    let go : Header → Unit {0} → Result (List LaidBlock) BlockFault = λ h _. blocks_from n (address + h.size) (drop h.size left) bound covered >>= give h in
    let test : Header → Result (List LaidBlock) BlockFault = λ h. refuse_if (covered address && ltb (length left) h.size) (record { number = 12; address = address }) >>= go h in
    let fault_of : ℕ → BlockFault = λ number. record { number = number; address = address } in
    let steps : Result (List LaidBlock) BlockFault = refused_as fault_of (read_header left) >>= test in
    elim (chosen end (Ok []) steps (Ok bs) e) [
      | inl p ↦ subst (λ (xs : List LaidBlock). AreLaidFrom address left bound covered xs) (ok_is [] bs p.1)
          (elim (or_cases (is_empty left) (is_above bound address) p.0) [ inl q ↦ inl (empty_is_nil left q) | inr q ↦ inr q ])
      | inr p ↦
          let none = or_parts (is_empty left) (is_above bound address) p.0 in
          let a = bind_ok (refused_as fault_of (read_header left)) test bs p.1 in
          let h = a.0 in
          let read : read_header left ≡ Ok h = refused_as_ok fault_of (read_header left) h a.1 in
          let b = refuse_ok (covered address && ltb (length left) h.size) (record { number = 12; address = address }) (go h) bs a.2 in
          let c = bind_ok (blocks_from n (address + h.size) (drop h.size left) bound covered) (give h) bs b.1 in
          let long : 16 ≤ length left = (header_has_16 left h read).0 in
          let size : 16 ≤ h.size = (header_has_16 left h read).1 in
          let more = found_is_laid n (address + h.size) (drop h.size left) bound covered c.0 (omega (arith, length-drop h.size left)) c.1 in
          subst (λ (xs : List LaidBlock). AreLaidFrom address left bound covered xs) (ok_is (laid_block address left h ∷ c.0) bs c.2)
          (not_empty_is_long left none.0, none.1, h, read, (λ q. ltb-false (length left) h.size (and_false (covered address) (ltb (length left) h.size) b.0 q)), refl, more)
    ]

-- what the volume is laid out in is what the walk finds
pub laid_is_found : (n address : ℕ) (left : List ℕ) (bound : Option ℕ) (covered : ℕ → Bool) (bs : List LaidBlock) → length left < 16 * n
    → AreLaidFrom address left bound covered bs → blocks_from n address left bound covered ≡ Ok bs
unfolding blocks_from
laid_is_found zero address left bound covered bs lt laid = absurd (omega arith)
laid_is_found (suc n) address left bound covered [] lt laid =
    let test : (is_empty left || is_above bound address) ≡ true =
    elim laid [ inl e ↦ rw e refl | inr e ↦ or_right (is_empty left) (is_above bound address) e ] in
    rw test refl
laid_is_found (suc n) address left bound covered (b ∷ bs) lt laid =
    let h = laid.2 in
    let long : 16 ≤ length left = (header_has_16 left h laid.3).0 in
    let size : 16 ≤ h.size = (header_has_16 left h laid.3).1 in
    let test : (is_empty left || is_above bound address) ≡ false =
    or_from (is_empty left) (is_above bound address) (long_is_not_empty left laid.0) laid.1 in
    let whole : (covered address && ltb (length left) h.size) ≡ false =
    unless (covered address) (ltb (length left) h.size) (λ q. le-ltb (length left) h.size (laid.4 q)) in
    let more = laid_is_found n (address + h.size) (drop h.size left) bound covered bs (omega (arith, length-drop h.size left)) laid.6 in
    rw (test, laid.3, whole, more, laid.5) refl

enough : (n : ℕ) → n < 16 * (n / 16 + 1)
enough n = omega arith

pub walk_is_exact_lem : WalkIsExact
unfolding blocks_of
walk_is_exact_lem bytes bound covered blocks = (
  found_is_laid (length bytes / 16 + 1) 0 bytes bound covered blocks (enough (length bytes)),
  laid_is_found (length bytes / 16 + 1) 0 bytes bound covered blocks (enough (length bytes)),
)

-- ---- the walk step by step

pub steps_are_the_walk_lem : StepsAreTheWalk
unfolding steps_from blocks_from next_block
steps_are_the_walk_lem zero bytes bound covered address = refl
steps_are_the_walk_lem (suc n) bytes bound covered address =
    ends (λ next. steps_are_the_walk_lem n bytes bound covered next) (is_empty left || is_above bound address) (read_header left)
  where
    IsSame : ℕ → Type 0
    IsSame next = steps_from n bytes bound covered next ≡ blocks_from n next (drop next bytes) bound covered

    left : List ℕ
    left = drop address bytes

    fault_of : ℕ → BlockFault
    fault_of number = record { number = number; address = address }

    again : (next : ℕ) → Result (List LaidBlock) BlockFault
    again next = steps_from n bytes bound covered next

    give : Header → List LaidBlock → Result (List LaidBlock) BlockFault
    give h more = Ok (laid_block address left h ∷ more)

    step : Header → Unit {0} → Result (Option (LaidBlock × ℕ)) BlockFault
    step h _ = Ok (Some (laid_block address left h, address + h.size))

    go : Header → Unit {0} → Result (List LaidBlock) BlockFault
    go h _ = blocks_from n (address + h.size) (drop h.size left) bound covered >>= give h

    same_rest : ((next : ℕ) → IsSame next) → (h : Header) → (again (address + h.size) >>= give h) ≡ (blocks_from n (address + h.size) (drop h.size left) bound covered >>= give h)
    same_rest rest h =
        ap (λ r. r >>= give h) (rest (address + h.size)
        ∙ ap (λ tail. blocks_from n (address + h.size) tail bound covered) (sym (drop-drop h.size address bytes)))

    whole : ((next : ℕ) → IsSame next) → (b : Bool) (h : Header) → ((refuse_if b (fault_of 12) >>= step h) >>= step_and again) ≡ (refuse_if b (fault_of 12) >>= go h)
    whole rest true h = refl
    whole rest false h = same_rest rest h

    valid : ((next : ℕ) → IsSame next) → (r : Result Header ℕ)
        → ((refused_as fault_of r >>= λ h. refuse_if (covered address && ltb (length left) h.size) (fault_of 12) >>= step h) >>= step_and again)
        ≡ (refused_as fault_of r >>= λ h. refuse_if (covered address && ltb (length left) h.size) (fault_of 12) >>= go h)
    valid rest (Ok h) = whole rest (covered address && ltb (length left) h.size) h
    valid rest (Err e) = refl

    ends : ((next : ℕ) → IsSame next) → (b : Bool) (r : Result Header ℕ)
        → (cond b (Ok None) (refused_as fault_of r >>= λ h. refuse_if (covered address && ltb (length left) h.size) (fault_of 12) >>= step h) >>= step_and again)
        ≡ cond b (Ok []) (refused_as fault_of r >>= λ h. refuse_if (covered address && ltb (length left) h.size) (fault_of 12) >>= go h)
    ends rest true r = refl
    ends rest false r = valid rest r
