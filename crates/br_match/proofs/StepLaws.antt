-- The walk of a piece's volume: from an address on it is the step there, and then the walk
-- from the next address.
use Rattle.std.proofs.Common.{◌≡◌, ℕ, zero, suc, ◌+◌, ◌*◌, ◌/◌, ◌<◌, Bool, true, false, ◌&&◌, ◌||◌, ltb, List, [], ◌∷◌, ◌++◌, length, drop, Option, Some, None, Result, Ok, Err, cond, ap, sym, ◌∙◌, refl, arith, add-one}
use Rattle.std.proofs.lemmas.List.{length-drop, drop-drop}
use Rattle.std.specs.Prelude.{flat_map, option_map}
use Rattle.br_model.specs.Answer.{◌>>=◌, refuse_if, refused_as, some_or}
use Rattle.br_model.specs.Text.{is_empty}
use Rattle.br_model.specs.Block.{Header, read_header}
use Rattle.br_model.specs.Volume.{Volume, volume_bytes, LaidBlock, BlockFault, is_above, blocks_from, blocks_of, next_block}
use Rattle.br_model.specs.Bootstrap.{Group}
use Rattle.br_model.specs.Meaning.{Piece, PieceFault, Hit, bound_of, is_covered, just_groups, hits_in, hits_among, hits_on}
use Rattle.br_model.proofs.VolumeLaws.{header_has_16, laid_block}
use Rattle.br_match.specs.Walk.{on_volume, unknown, step_among, rest_among, step_on, rest_on, in_front, and_rest}

-- ---- enough blocks are all

-- a fault at an address
abbrev fault_at : ℕ → ℕ → BlockFault
fault_at address number = record { number = number; address = address }

-- a number of blocks that is large enough gives them all
enough : (n m address : ℕ) (left : List ℕ) (bound : Option ℕ) (covered : ℕ → Bool) → length left < 16 * n → length left < 16 * m
    → blocks_from n address left bound covered ≡ blocks_from m address left bound covered
unfolding blocks_from
enough zero m address left bound covered fits also = absurd (omega arith)
enough (suc n) zero address left bound covered fits also = absurd (omega arith)
enough (suc n) (suc m) address left bound covered fits also =
    ends (λ h. enough n m (address + h.size) (drop h.size left) bound covered) (is_empty left || is_above bound address)
  where
    Same : Type 0
    Same = (h : Header) → length (drop h.size left) < 16 * n → length (drop h.size left) < 16 * m
        → blocks_from n (address + h.size) (drop h.size left) bound covered ≡ blocks_from m (address + h.size) (drop h.size left) bound covered

    give : Header → List LaidBlock → Result (List LaidBlock) BlockFault
    give h more = Ok (laid_block address left h ∷ more)

    go : ℕ → Header → Unit {0} → Result (List LaidBlock) BlockFault
    go k h _ = blocks_from k (address + h.size) (drop h.size left) bound covered >>= give h

    more : Same → (h : Header) → read_header left ≡ Ok h → go n h tt ≡ go m h tt
    more same h read =
        let size = header_has_16 left h read in
        let fewer = length-drop h.size left in
        ap (λ r. r >>= give h) (same h (omega (arith, size.0, size.1, fewer)) (omega (arith, size.0, size.1, fewer)))

    whole : Same → (b : Bool) (h : Header) → read_header left ≡ Ok h → (refuse_if b (fault_at address 12) >>= go n h) ≡ (refuse_if b (fault_at address 12) >>= go m h)
    whole same true h read = refl
    whole same false h read = more same h read

    valid : Same → (r : Result Header ℕ) → read_header left ≡ r
        → (refused_as (fault_at address) r >>= λ h. refuse_if (covered address && ltb (length left) h.size) (fault_at address 12) >>= go n h)
        ≡ (refused_as (fault_at address) r >>= λ h. refuse_if (covered address && ltb (length left) h.size) (fault_at address 12) >>= go m h)
    valid same (Ok h) read = whole same (covered address && ltb (length left) h.size) h read
    valid same (Err e) read = refl

    ends : Same → (b : Bool)
        → cond b (Ok []) (refused_as (fault_at address) (read_header left) >>= λ h. refuse_if (covered address && ltb (length left) h.size) (fault_at address 12) >>= go n h)
        ≡ cond b (Ok []) (refused_as (fault_at address) (read_header left) >>= λ h. refuse_if (covered address && ltb (length left) h.size) (fault_at address 12) >>= go m h)
    ends same true = refl
    ends same false = valid same (read_header left) refl

-- ---- one step, and the rest

-- the hits of a step in some bytes, and those after it
abbrev and_more : (ℕ → Result (List Hit) BlockFault) → Option (List Hit × ℕ) → Result (List Hit) BlockFault
and_more rest None = Ok []
and_more rest (Some s) = do
  more ← rest s.1
  Ok (s.0 ++ more)

rest_is_step : (numbered : List (ℕ × Group)) (bytes : List ℕ) (address : ℕ)
    → rest_among numbered bytes address ≡ (step_among numbered bytes address >>= and_more (rest_among numbered bytes))
unfolding rest_among step_among blocks_from next_block
rest_is_step numbered bytes address =
    ap (λ n. blocks_from n address left bound covered >>= all) (add-one (length left / 16)) ∙ ends (is_empty left || is_above bound address)
  where
    left : List ℕ
    left = drop address bytes

    bound : Option ℕ
    bound = bound_of (just_groups numbered)

    covered : ℕ → Bool
    covered = is_covered (just_groups numbered)

    all : List LaidBlock → Result (List Hit) BlockFault
    all blocks = Ok (flat_map (hits_in numbered) blocks)

    show : Option (LaidBlock × ℕ) → Result (Option (List Hit × ℕ)) BlockFault
    show step = Ok (option_map (λ (s : LaidBlock × ℕ). (hits_in numbered s.0, s.1)) step)

    rest : ℕ → Result (List Hit) BlockFault
    rest next = rest_among numbered bytes next

    give : Header → List LaidBlock → Result (List LaidBlock) BlockFault
    give h more = Ok (laid_block address left h ∷ more)

    go : Header → Unit {0} → Result (List LaidBlock) BlockFault
    go h _ = blocks_from (length left / 16) (address + h.size) (drop h.size left) bound covered >>= give h

    one : Header → Unit {0} → Result (Option (LaidBlock × ℕ)) BlockFault
    one h _ = Ok (Some (laid_block address left h, address + h.size))

    joined : (b : LaidBlock) (r : Result (List LaidBlock) BlockFault) → ((r >>= λ more. Ok (b ∷ more)) >>= all) ≡ ((r >>= all) >>= λ more. Ok (hits_in numbered b ++ more))
    joined b (Ok bs) = refl
    joined b (Err e) = refl

    behind : (h : Header) → read_header left ≡ Ok h → (go h tt >>= all) ≡ ((one h tt >>= show) >>= and_more rest)
    behind h read =
        let size = header_has_16 left h read in
        let fewer = length-drop h.size left in
        let next : drop h.size left ≡ drop (address + h.size) bytes = drop-drop h.size address bytes in
        let same : blocks_from (length left / 16) (address + h.size) (drop h.size left) bound covered
        ≡ blocks_from (length (drop (address + h.size) bytes) / 16 + 1) (address + h.size) (drop (address + h.size) bytes) bound covered
        = enough (length left / 16) (length (drop h.size left) / 16 + 1) (address + h.size) (drop h.size left) bound covered (omega (arith, size.0, size.1, fewer)) (omega arith)
        ∙ ap (λ (xs : List ℕ). blocks_from (length xs / 16 + 1) (address + h.size) xs bound covered) next in
        joined (laid_block address left h) (blocks_from (length left / 16) (address + h.size) (drop h.size left) bound covered)
        ∙ ap (λ r. (r >>= all) >>= λ more. Ok (hits_in numbered (laid_block address left h) ++ more)) same

    whole : (b : Bool) (h : Header) → read_header left ≡ Ok h
        → ((refuse_if b (fault_at address 12) >>= go h) >>= all) ≡ (((refuse_if b (fault_at address 12) >>= one h) >>= show) >>= and_more rest)
    whole true h read = refl
    whole false h read = behind h read

    valid : (r : Result Header ℕ) → read_header left ≡ r
        → ((refused_as (fault_at address) r >>= λ h. refuse_if (covered address && ltb (length left) h.size) (fault_at address 12) >>= go h) >>= all)
        ≡ (((refused_as (fault_at address) r >>= λ h. refuse_if (covered address && ltb (length left) h.size) (fault_at address 12) >>= one h) >>= show) >>= and_more rest)
    valid (Ok h) read = whole (covered address && ltb (length left) h.size) h read
    valid (Err e) read = refl

    ends : (b : Bool)
        → (cond b (Ok []) (refused_as (fault_at address) (read_header left) >>= λ h. refuse_if (covered address && ltb (length left) h.size) (fault_at address 12) >>= go h) >>= all)
        ≡ ((cond b (Ok None) (refused_as (fault_at address) (read_header left) >>= λ h. refuse_if (covered address && ltb (length left) h.size) (fault_at address 12) >>= one h) >>= show) >>= and_more rest)
    ends true = refl
    ends false = valid (read_header left) refl

-- from an address on the walk is the step there, and then the walk from the next address
pub rest_is_step_on : (volumes : List Volume) (piece : Piece) (address : ℕ)
    → rest_on volumes piece address ≡ (step_on volumes piece address >>= and_rest (rest_on volumes piece))
unfolding rest_on step_on
rest_is_step_on volumes piece address = go (volume_bytes volumes piece.volume) refl
  where
    told : BlockFault → PieceFault
    told = on_volume piece.volume

    rest_in : List ℕ → ℕ → Result (List Hit) PieceFault
    rest_in bytes next = refused_as told (rest_among piece.groups bytes next)

    more : (bytes : List ℕ) (s : Option (List Hit × ℕ)) → refused_as told (and_more (rest_among piece.groups bytes) s) ≡ and_rest (rest_in bytes) s
    more bytes None = refl
    more bytes (Some s) = behind (rest_among piece.groups bytes s.1)
      where
        behind : (r : Result (List Hit) BlockFault) → refused_as told (r >>= λ more. Ok (s.0 ++ more)) ≡ in_front s.0 (refused_as told r)
        behind (Ok hs) = refl
        behind (Err e) = refl

    told_step : (bytes : List ℕ) (r : Result (Option (List Hit × ℕ)) BlockFault) → refused_as told (r >>= and_more (rest_among piece.groups bytes)) ≡ (refused_as told r >>= and_rest (rest_in bytes))
    told_step bytes (Ok s) = more bytes s
    told_step bytes (Err e) = refl

    go : (o : Option (List ℕ)) → volume_bytes volumes piece.volume ≡ o
        → (some_or o (unknown piece.volume) >>= λ bytes. rest_in bytes address)
        ≡ ((some_or o (unknown piece.volume) >>= λ bytes. refused_as told (step_among piece.groups bytes address)) >>= and_rest (rest_on volumes piece))
    go None is = refl
    go (Some bytes) is =
        ap (refused_as told) (rest_is_step piece.groups bytes address) ∙ told_step bytes (step_among piece.groups bytes address)
        ∙ ap (λ (f : ℕ → Result (List Hit) PieceFault). refused_as told (step_among piece.groups bytes address) >>= and_rest f)
        (λ t next. sym (same next) t)
      where
        same : (next : ℕ) → rest_on volumes piece next ≡ rest_in bytes next
        same next = ap (λ o. some_or o (unknown piece.volume) >>= λ bytes. rest_in bytes next) is

-- from address 0 on it is the whole walk
pub rest_from_0 : (volumes : List Volume) (piece : Piece) → rest_on volumes piece 0 ≡ hits_on volumes piece
unfolding rest_on hits_on rest_among hits_among blocks_of
rest_from_0 volumes piece = refl
