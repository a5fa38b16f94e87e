-- Spans of volumes: a span that is laid stays so while volumes grow, and the walk for several spans finds the blocks of each.
use Rattle.std.proofs.Common.{◌≡◌, ℕ, suc, ◌+◌, ◌<◌, ◌≤◌, Bool, true, false, not, cond, ltb, List, [], ◌∷◌, length, ◌++◌, filter, Option, Some, None, Result, Ok, Err, refl, sym, ap, subst, ◌∙◌, inl, inr, arith}
use Rattle.std.proofs.lemmas.Bool.{cases_lt, leb-true, ltb-true, ltb-false, le-ltb, lt-ltb, and_parts, both_ways, false_from_ne_true}
use Rattle.std.proofs.lemmas.Option.{same_Some}
use Rattle.std.proofs.lemmas.List.{length-append, length-drop, length-take-le, take_all, take-append-drop, take-append-le, drop-append-le}
use Rattle.std.specs.Prelude.{nat_le, Contains, drop, take, fold, max}
use Rattle.std.specs.List.{AllByRecursion, AllZip, list_any}
use Rattle.br_model.specs.Name.{SessionKey}
use Rattle.br_model.specs.Block.{Header, u32_at, older_letters, header_length, has_letters, session_of, read_header, read_block}
use Rattle.br_model.specs.Volume.{Volume, volume_bytes, Extends, LaidBlock, is_above, AreLaidFrom, AreLaid}
use Rattle.br_model.specs.Job.{Span, Job}
use Rattle.br_model.specs.Stored.{is_in_span, IsSpanLaid, Holds}
use Rattle.br_model.proofs.AnswerLaws.{bind_ok, chosen, ok_is, err_is_not_ok}
use Rattle.br_model.proofs.VolumeLaws.{at_least_16, at_most_24, header_reads, header_has_16, laid_is_found}
use Rattle.br_model.proofs.ListLaws.{all_weaker, at_least, filter_within, first_or_later, keeps_none, kept_passes}
use Rattle.br_model.proofs.PairLaws.{EachPair}

-- ---- the front of a volume

-- four bytes of the front
front_at : (p m : List ℕ) (i : ℕ) → i + 4 ≤ length p → take 4 (drop i (p ++ m)) ≡ take 4 (drop i p)
front_at p m i fits = ap (take 4) (drop-append-le i p m (omega arith)) ∙ take-append-le 4 (drop i p) m (omega (arith, length-drop i p))

-- the key after the letters
abbrev key_in : List ℕ → SessionKey
key_in bytes = record { id = u32_at 16 bytes; time = u32_at 20 bytes }

-- the letters are in the first 16 bytes, and give the length of the header
length_front : (p m : List ℕ) → 16 ≤ length p → header_length (session_of (p ++ m)) ≡ header_length (session_of p)
length_front p m long = rw (front_at p m 12 (omega arith)) (same (has_letters older_letters p))
  where
    same : (b : Bool) → header_length (cond b None (Some (key_in (p ++ m)))) ≡ header_length (cond b None (Some (key_in p)))
    same true = refl
    same false = refl

-- the session is in the header
session_front : (p m : List ℕ) → 16 ≤ length p → header_length (session_of p) ≤ length p → session_of (p ++ m) ≡ session_of p
session_front p m long whole = rw (front_at p m 12 (omega arith)) (same (has_letters older_letters p) whole)
  where
    same : (b : Bool) → header_length (cond b None (Some (key_in p))) ≤ length p → cond b None (Some (key_in (p ++ m))) ≡ cond b None (Some (key_in p))
    same true le = refl
    same false le = rw (front_at p m 16 (omega arith), front_at p m 20 (omega arith)) refl

-- a header is read from its own bytes alone
pub read_header_front : (p m : List ℕ) → 16 ≤ length p → header_length (session_of p) ≤ length p → read_header (p ++ m) ≡ read_header p
unfolding read_header
read_header_front p m long whole =
    let longer = length-append p m in
    let short : ltb (length (p ++ m)) 16 ≡ ltb (length p) 16 = le-ltb (length (p ++ m)) 16 (omega (arith, longer)) ∙ sym (le-ltb (length p) 16 long) in
    let held : ltb (length (p ++ m)) (header_length (session_of p)) ≡ ltb (length p) (header_length (session_of p)) =
    le-ltb (length (p ++ m)) (header_length (session_of p)) (omega (arith, longer, whole)) ∙ sym (le-ltb (length p) (header_length (session_of p)) whole) in
    rw (short, session_front p m long whole, held, front_at p m 12 (omega arith), front_at p m 0 (omega arith), front_at p m 4 (omega arith), front_at p m 8 (omega arith)) refl

-- a header is read whatever follows it
pub read_header_more : (p m : List ℕ) (h : Header) → read_header p ≡ Ok h → read_header (p ++ m) ≡ Ok h
read_header_more p m h e = let r = header_reads p h e in read_header_front p m r.lettered r.long ∙ e

-- a header is read from as many bytes as it has
pub read_header_within : (p m : List ℕ) (h : Header) → read_header (p ++ m) ≡ Ok h → header_length h.session ≤ length p → read_header p ≡ Ok h
read_header_within p m h e le =
    let r = header_reads (p ++ m) h e in
    let same = ap header_length r.session_is in
    let long : 16 ≤ length p = omega (arith, at_least_16 h.session, le) in
    let whole : header_length (session_of p) ≤ length p = omega (arith, length_front p m long, same, le) in
    sym (read_header_front p m long whole) ∙ e

-- and from as many as it says
pub read_header_fewer : (p m : List ℕ) (h : Header) → read_header (p ++ m) ≡ Ok h → h.size ≤ length p → read_header p ≡ Ok h
read_header_fewer p m h e le =
    let r = header_reads (p ++ m) h e in
    read_header_within p m h e (omega (arith, ap header_length r.session_is, r.size_from, le))

-- a header is read in the first 24 bytes, or in all if there are fewer
pub read_header_alone : (left : List ℕ) → read_header (take 24 left) ≡ read_header left
read_header_alone left =
    elim (cases_lt (length left) 24) [
      | inl short ↦ ap read_header (take_all 24 left (omega (arith, short)))
      | inr long ↦
          let size = length-take-le 24 left long in
          sym (read_header_front (take 24 left) (drop 24 left) (omega (arith, size)) (omega (arith, size, at_most_24 (session_of (take 24 left))))) ∙ ap read_header (take-append-drop 24 left)
    ]

-- a whole block at the front is read whatever follows it
pub read_block_front : (p m block : List ℕ) → read_block p ≡ Ok block → read_block (p ++ m) ≡ Ok block
unfolding read_block
read_block_front p m block e =
    let give : Header → Result (List ℕ) ℕ = λ h. cond (ltb (length p) h.size) (Err 12) (Ok (take h.size p)) in
    let r = bind_ok (read_header p) give block e in
    let h = r.0 in
    let read : read_header (p ++ m) ≡ Ok h = read_header_more p m h r.1 in
    elim (chosen (ltb (length p) h.size) (Err 12) (Ok (take h.size p)) (Ok block) r.2) [
      | inl q ↦ absurd (err_is_not_ok 12 block q.1)
      | inr q ↦
          let fits : h.size ≤ length p = ltb-false (length p) h.size q.0 in
          let fits_later : ltb (length (p ++ m)) h.size ≡ false = le-ltb (length (p ++ m)) h.size (omega (arith, length-append p m)) in
          rw (read, fits_later, take-append-le h.size p m fits) q.1
    ]

-- ---- coverage

-- every address is covered
abbrev pub everywhere : ℕ → Bool
everywhere address = true

-- what is laid is laid if fewer addresses are covered
pub less_covered : (address : ℕ) (left : List ℕ) (bound : Option ℕ) (covered fewer : ℕ → Bool) (bs : List LaidBlock)
    → ((a : ℕ) → fewer a ≡ true → covered a ≡ true) → AreLaidFrom address left bound covered bs → AreLaidFrom address left bound fewer bs
less_covered address left bound covered fewer [] f laid = laid
less_covered address left bound covered fewer (b ∷ bs) f laid =
    let h = laid.2 in
    (laid.0, laid.1, h, laid.3, (λ q. laid.4 (f address q)), laid.5, less_covered (address + h.size) (drop h.size left) bound covered fewer bs f laid.6)

-- bytes are laid in one list of blocks up to a bound, whatever is covered
pub laid_once : (address : ℕ) (left : List ℕ) (bound : Option ℕ) (covered other : ℕ → Bool) (bs cs : List LaidBlock)
    → AreLaidFrom address left bound covered bs → AreLaidFrom address left bound other cs → bs ≡ cs
laid_once address left bound covered other bs cs p q =
    let nowhere : ℕ → Bool = λ a. false in
    let none : (c : ℕ → Bool) (a : ℕ) → nowhere a ≡ true → c a ≡ true = λ c a e. absurd (both_ways false refl e) in
    let n = suc (length left) in
    ok_is bs cs (sym (laid_is_found n address left bound nowhere bs (omega arith) (less_covered address left bound covered nowhere bs (none covered) p))
    ∙ laid_is_found n address left bound nowhere cs (omega arith) (less_covered address left bound other nowhere cs (none other) q))

-- after the bound nothing is laid
nothing_above : (address : ℕ) (left : List ℕ) (bound : Option ℕ) (covered other : ℕ → Bool) (bs : List LaidBlock)
    → is_above bound address ≡ true → AreLaidFrom address left bound covered bs → AreLaidFrom address left bound other bs
nothing_above address left bound covered other [] e laid = laid
nothing_above address left bound covered other (b ∷ bs) e laid = absurd (both_ways (is_above bound address) laid.1 e)

-- ---- whole blocks

-- The volume has these blocks up to an address, each whole, and a byte at the address.
pub record IsWholeTo (bytes : List ℕ) (end : ℕ) (all : List LaidBlock) : Type 0 where
  pub laid : AreLaid bytes (Some end) everywhere all
  pub within : end < length bytes

-- whole blocks up to an address that has a byte stay while bytes come after them
pub whole_stays : (address : ℕ) (left more : List ℕ) (end : ℕ) (bs : List LaidBlock)
    → AreLaidFrom address left (Some end) everywhere bs → end < address + length left → AreLaidFrom address (left ++ more) (Some end) everywhere bs
whole_stays address left more end [] laid within =
    elim laid [
      | inl e ↦ inr (lt-ltb end address (omega (arith, ap length e)))
      | inr e ↦ inr e
    ]
whole_stays address left more end (b ∷ bs) laid within =
    let h = laid.2 in
    let long : 16 ≤ length left = (header_has_16 left h laid.3).0 in
    let whole : h.size ≤ length left = laid.4 refl in
    let longer = length-append left more in
    let same : ◌≡◌ {A = LaidBlock} (record { address = address; bytes = take h.size left }) (record { address = address; bytes = take h.size (left ++ more) }) =
    ap (λ (xs : List ℕ). record { address = address; bytes = xs }) (sym (take-append-le h.size left more whole)) in
    let rest = whole_stays (address + h.size) (drop h.size left) more end bs laid.6 (omega (arith, length-drop h.size left)) in
    let behind = subst (λ (xs : List ℕ). AreLaidFrom (address + h.size) xs (Some end) everywhere bs) (sym (drop-append-le h.size left more whole)) rest in
    (omega arith, laid.1, h, read_header_more left more h laid.3, (λ q. omega arith), laid.5 ∙ same, behind)

-- the same of a volume
pub whole_later : (bytes more : List ℕ) (end : ℕ) (all : List LaidBlock) → IsWholeTo bytes end all → IsWholeTo (bytes ++ more) end all
whole_later bytes more end all is = record {
  laid = whole_stays 0 bytes more end all is.laid (omega (arith, is.within));
  within = omega (arith, is.within, length-append bytes more);
}

-- bytes in which a block is laid are not empty
pub some_left : (address : ℕ) (left : List ℕ) (bound : Option ℕ) (covered : ℕ → Bool) (bs : List LaidBlock) (b : LaidBlock) → AreLaidFrom address left bound covered bs → Contains bs b → 0 < length left
some_left address left bound covered [] b laid among = absurd (omega (arith, among.1))
some_left address left bound covered (x ∷ xs) b laid among = laid.0

-- if a covered block ends at the bound, each block is whole and the bound has a byte
pub ends_whole : (address : ℕ) (left : List ℕ) (end : ℕ) (covered : ℕ → Bool) (bs : List LaidBlock) (last : LaidBlock)
    → AreLaidFrom address left (Some end) covered bs → Contains bs last → covered last.address ≡ true → last.address + length last.bytes ≡ end + 1
    → AreLaidFrom address left (Some end) everywhere bs × (end < address + length left)
ends_whole address left end covered [] last laid among c ends = absurd (omega (arith, among.1))
ends_whole address left end covered (x ∷ xs) last laid among c ends =
    let h = laid.2 in
    elim (first_or_later x xs last among) [
      | inl e ↦
          let is : last ≡ record { address = address; bytes = take h.size left } = sym e ∙ laid.5 in
          let at : last.address ≡ address = ap (λ (y : LaidBlock). y.address) is in
          let whole : h.size ≤ length left = laid.4 (ap covered (sym at) ∙ c) in
          let size : length last.bytes ≡ h.size = ap (λ (y : LaidBlock). length y.bytes) is ∙ length-take-le h.size left whole in
          let above : is_above (Some end) (address + h.size) ≡ true = lt-ltb end (address + h.size) (omega arith) in
          ((laid.0, laid.1, h, laid.3, (λ q. whole), laid.5, nothing_above (address + h.size) (drop h.size left) (Some end) covered everywhere xs above laid.6), omega arith)
      | inr inside ↦
          let more = some_left (address + h.size) (drop h.size left) (Some end) covered xs last laid.6 inside in
          let whole : h.size ≤ length left = omega (arith, length-drop h.size left) in
          let rest = ends_whole (address + h.size) (drop h.size left) end covered xs last laid.6 inside c ends in
          let within : end < address + h.size + length (drop h.size left) = rest.1 in
          ((laid.0, laid.1, h, laid.3, (λ q. whole), laid.5, rest.0), omega (arith, length-drop h.size left))
    ]

-- ---- earlier bounds

above_more : (bound : Option ℕ) (a b : ℕ) → a ≤ b → is_above bound a ≡ true → is_above bound b ≡ true
above_more None a b le e = e
above_more (Some n) a b le e = let h = ltb-true n a e in lt-ltb n b (omega (arith, h, le))

-- the blocks whose address is not above a bound
abbrev pub up_to : Option ℕ → List LaidBlock → List LaidBlock
up_to bound bs = filter (λ (b : LaidBlock). not (is_above bound b.address)) bs

none_up_to : (address : ℕ) (left : List ℕ) (bound less : Option ℕ) (covered : ℕ → Bool) (bs : List LaidBlock)
    → is_above less address ≡ true → AreLaidFrom address left bound covered bs → up_to less bs ≡ []
none_up_to address left bound less covered [] e laid = refl
none_up_to address left bound less covered (b ∷ bs) e laid =
    let h = laid.2 in
    let at : b.address ≡ address = ap (λ (y : LaidBlock). y.address) laid.5 in
    let above : is_above less b.address ≡ true = ap (is_above less) at ∙ e in
    let rest : up_to less bs ≡ [] = none_up_to (address + h.size) (drop h.size left) bound less covered bs (above_more less address (address + h.size) (omega arith) e) laid.6 in
    rw (above, rest) refl

-- what is laid up to a bound is laid up to an earlier one, in the blocks that are not above it
pub laid_up_to : (address : ℕ) (left : List ℕ) (bound less : Option ℕ) (covered : ℕ → Bool) (bs : List LaidBlock)
    → ((a : ℕ) → is_above bound a ≡ true → is_above less a ≡ true) → AreLaidFrom address left bound covered bs → AreLaidFrom address left less covered (up_to less bs)
laid_up_to address left bound less covered [] f laid =
    elim laid [
      | inl e ↦ inl e
      | inr e ↦ inr (f address e)
    ]
laid_up_to address left bound less covered (b ∷ bs) f laid =
    go (is_above less address) refl (laid_up_to (address + laid.2.size) (drop laid.2.size left) bound less covered bs f laid.6)
  where
    go : (t : Bool) → is_above less address ≡ t → AreLaidFrom (address + laid.2.size) (drop laid.2.size left) less covered (up_to less bs)
        → AreLaidFrom address left less covered (up_to less (b ∷ bs))
    go true e rest = subst (λ (xs : List LaidBlock). AreLaidFrom address left less covered xs) (sym (none_up_to address left bound less covered (b ∷ bs) e laid)) (inr e)
    go false e rest =
        let at : b.address ≡ address = ap (λ (y : LaidBlock). y.address) laid.5 in
        let below : is_above less b.address ≡ false = ap (is_above less) at ∙ e in
        rw below (laid.0, e, laid.2, laid.3, laid.4, laid.5, rest)

-- what is above a number is above a smaller one
pub above_smaller : (end less : ℕ) → less ≤ end → (a : ℕ) → is_above (Some end) a ≡ true → is_above (Some less) a ≡ true
above_smaller end less le a e = let h = ltb-true end a e in lt-ltb less a (omega (arith, h, le))

-- the same of a volume
pub whole_up_to : (bytes : List ℕ) (end less : ℕ) (all : List LaidBlock) → less ≤ end → IsWholeTo bytes end all → IsWholeTo bytes less (up_to (Some less) all)
whole_up_to bytes end less all le is = record {
  laid = laid_up_to 0 bytes (Some end) (Some less) everywhere all (above_smaller end less le) is.laid;
  within = omega (arith, is.within);
}

-- ---- a span that is laid

-- the blocks of a span among others
abbrev pub blocks_in : Span → List LaidBlock → List LaidBlock
blocks_in s all = filter (λ (b : LaidBlock). is_in_span s b.address) all

-- the volume of a span that is laid has whole blocks up to the span's end
pub span_is_whole : (volumes : List Volume) (s : Span) (blocks : List LaidBlock) (is : IsSpanLaid volumes s blocks) → IsWholeTo is.bytes s.end is.all
span_is_whole volumes s blocks is =
    let last = kept_passes (λ (b : LaidBlock). is_in_span s b.address) is.all is.last (subst (λ (bs : List LaidBlock). Contains bs is.last) is.blocks_are is.last_among) in
    let r = ends_whole 0 is.bytes s.end (is_in_span s) is.all is.last is.laid last.0 last.1 is.last_ends in
    record { laid = r.0; within = omega (arith, r.1) }

-- a span that is laid stays so, with the same blocks, while volumes grow
pub span_stays : (volumes later : List Volume) (s : Span) (blocks : List LaidBlock) → Extends later volumes → IsSpanLaid volumes s blocks → IsSpanLaid later s blocks
span_stays volumes later s blocks extends is =
    let grown = extends s.volume is.bytes is.found in
    let whole = whole_later is.bytes grown.0 s.end is.all (span_is_whole volumes s blocks is) in
    record {
      bytes = is.bytes ++ grown.0;
      all = is.all;
      found = grown.1;
      laid = less_covered 0 (is.bytes ++ grown.0) (Some s.end) everywhere (is_in_span s) is.all (λ a q. refl) whole.laid;
      blocks_are = is.blocks_are;
      first = is.first;
      first_among = is.first_among;
      first_begins = is.first_begins;
      last = is.last;
      last_among = is.last_among;
      last_ends = is.last_ends;
    }

spans_stay : (volumes later : List Volume) (spans : List Span) (blocks : List (List LaidBlock)) → Extends later volumes
    → AllZip (IsSpanLaid volumes) spans blocks → AllZip (IsSpanLaid later) spans blocks
spans_stay volumes later [] [] extends laid = tt
spans_stay volumes later [] (bs ∷ bss) extends laid = absurd laid
spans_stay volumes later (s ∷ ss) [] extends laid = absurd laid
spans_stay volumes later (s ∷ ss) (bs ∷ bss) extends laid = (span_stays volumes later s bs extends laid.0, spans_stay volumes later ss bss extends laid.1)

-- all volumes that extend those that hold a job hold it, too, with the same blocks and records
pub job_stays : (volumes later : List Volume) (j : Job) → Extends later volumes → Holds volumes j → Holds later j
job_stays volumes later j extends holds = record {
  blocks = holds.blocks;
  laid = spans_stay volumes later j.rows.spans holds.blocks extends holds.laid;
  in_span = holds.in_span;
  records = holds.records;
  cut = holds.cut;
  files = holds.files;
  no_others = holds.no_others;
}

-- ---- the spans of one volume

-- the volume of a span that is laid, by the bytes that it has
pub span_whole_in : (volumes : List Volume) (bytes : List ℕ) (s : Span) (blocks : List LaidBlock) → volume_bytes volumes s.volume ≡ Some bytes
    → (is : IsSpanLaid volumes s blocks) → IsWholeTo bytes s.end is.all
span_whole_in volumes bytes s blocks found is =
    subst (λ (xs : List ℕ). IsWholeTo xs s.end is.all) (same_Some is.bytes bytes (sym is.found ∙ found)) (span_is_whole volumes s blocks is)

-- the blocks of a span are those of its volume that it has, however far beyond its end the volume is walked
pub span_blocks_are : (volumes : List Volume) (bytes : List ℕ) (end : ℕ) (all : List LaidBlock) (s : Span) (blocks : List LaidBlock)
    → IsWholeTo bytes end all → volume_bytes volumes s.volume ≡ Some bytes → s.end ≤ end → IsSpanLaid volumes s blocks → blocks ≡ blocks_in s all
span_blocks_are volumes bytes end all s blocks whole found le is =
    let same : is.all ≡ up_to (Some s.end) all =
    laid_once 0 bytes (Some s.end) everywhere everywhere is.all (up_to (Some s.end) all) (span_whole_in volumes bytes s blocks found is).laid (whole_up_to bytes end s.end all le whole).laid in
    is.blocks_are ∙ ap (blocks_in s) same ∙ filter_within (λ (b : LaidBlock). is_in_span s b.address) (λ (b : LaidBlock). not (is_above (Some s.end) b.address)) near all
  where
    near : (b : LaidBlock) → is_in_span s b.address ≡ true → not (is_above (Some s.end) b.address) ≡ true
    near b e =
        let le_end = leb-true b.address s.end (and_parts (nat_le s.start b.address) (nat_le b.address s.end) e).1 in
        ap not (le-ltb s.end b.address le_end)

-- a span is laid in some blocks
abbrev pub IsLaidIn : List Volume → Span → Type 0
IsLaidIn volumes s = (blocks : List LaidBlock) × IsSpanLaid volumes s blocks

-- the greatest end of some spans
abbrev pub last_end : List Span → ℕ
last_end spans = fold (λ n (s : Span). max n s.end) 0 spans

-- whether an address is in one of the spans
abbrev pub is_in_any : List Span → ℕ → Bool
is_in_any spans address = list_any (λ (s : Span). is_in_span s address) spans

end_below : (n : ℕ) (spans : List Span) (s : Span) → Contains spans s → s.end ≤ fold (λ m (t : Span). max m t.end) n spans
end_below n [] s among = absurd (omega (arith, among.1))
end_below n (t ∷ ts) s among =
    elim (first_or_later t ts s among) [
      | inl e ↦ let h = at_least (λ (s : Span). s.end) (max n t.end) ts in let same : t.end ≡ s.end = ap (λ (u : Span). u.end) e in omega (arith, h, same)
      | inr inside ↦ end_below (max n t.end) ts s inside
    ]

-- the end of each span is not above the greatest
pub end_not_above : (spans : List Span) (s : Span) → Contains spans s → s.end ≤ last_end spans
end_not_above spans s among = end_below 0 spans s among

-- a span of the volume that is laid in some blocks
abbrev pub IsLaidOn : List Volume → List ℕ → Span → Type 0
IsLaidOn volumes volume s = (s.volume ≡ volume) × IsLaidIn volumes s

on_whole : (volumes : List Volume) (volume bytes : List ℕ) (s : Span) → volume_bytes volumes volume ≡ Some bytes → IsLaidOn volumes volume s → (all : List LaidBlock) × IsWholeTo bytes s.end all
on_whole volumes volume bytes s found on =
    (on.1.1.all, span_whole_in volumes bytes s on.1.0 (ap (volume_bytes volumes) on.0 ∙ found) on.1.1)

whole_to_last : (volumes : List Volume) (volume bytes : List ℕ) (n : ℕ) (before : List LaidBlock) (spans : List Span) → volume_bytes volumes volume ≡ Some bytes
    → IsWholeTo bytes n before → AllByRecursion (IsLaidOn volumes volume) spans → (all : List LaidBlock) × IsWholeTo bytes (fold (λ m (s : Span). max m s.end) n spans) all
whole_to_last volumes volume bytes n before [] found whole on = (before, whole)
whole_to_last volumes volume bytes n before (s ∷ ss) found whole on =
    elim (cases_lt n s.end) [
      | inl lt ↦
          let w = on_whole volumes volume bytes s found on.0 in
          let same : s.end ≡ max n s.end = omega arith in
          whole_to_last volumes volume bytes (max n s.end) w.0 ss found (subst (λ (m : ℕ). IsWholeTo bytes m w.0) same w.1) on.1
      | inr le ↦
          let same : n ≡ max n s.end = omega arith in
          whole_to_last volumes volume bytes (max n s.end) before ss found (subst (λ (m : ℕ). IsWholeTo bytes m before) same whole) on.1
    ]

-- The volume is laid in whole blocks up to the greatest end of some spans, so with their bytes covered, and each span that
-- ends there or before has those of its addresses.
pub record AreSpansLaid (volumes : List Volume) (bytes : List ℕ) (spans : List Span) : Type 0 where
  pub all : List LaidBlock
  pub whole : IsWholeTo bytes (last_end spans) all
  pub laid : AreLaid bytes (Some (last_end spans)) (is_in_any spans) all
  pub each : (s : Span) (blocks : List LaidBlock) → volume_bytes volumes s.volume ≡ Some bytes → s.end ≤ last_end spans
      → IsSpanLaid volumes s blocks → blocks ≡ blocks_in s all

-- some spans of one volume that are laid, one at least, are laid together
pub spans_are_laid : (volumes : List Volume) (volume bytes : List ℕ) (spans : List Span) → volume_bytes volumes volume ≡ Some bytes
    → 0 < length spans → AllByRecursion (IsLaidOn volumes volume) spans → AreSpansLaid volumes bytes spans
spans_are_laid volumes volume bytes [] found some on = absurd (omega arith)
spans_are_laid volumes volume bytes (s ∷ ss) found some on =
    let w = on_whole volumes volume bytes s found on.0 in
    let first : s.end ≡ max 0 s.end = omega arith in
    let r = whole_to_last volumes volume bytes (max 0 s.end) w.0 ss found (subst (λ (m : ℕ). IsWholeTo bytes m w.0) first w.1) on.1 in
    let end = last_end (s ∷ ss) in
    record {
      all = r.0;
      whole = r.1;
      laid = less_covered 0 bytes (Some end) everywhere (is_in_any (s ∷ ss)) r.0 (λ a q. refl) r.1.laid;
      each = λ t blocks here le is. span_blocks_are volumes bytes end r.0 t blocks r.1 here le is;
    }

-- ---- the order of blocks

abbrev pub IsBehind : ℕ → LaidBlock → Type 0
IsBehind address b = address ≤ b.address

-- the addresses rise, by 16 at least
abbrev pub AreAscending : List LaidBlock → Type 0
AreAscending bs = EachPair (λ (b : LaidBlock). IsBehind (b.address + 16)) bs

-- blocks that are laid are at the address where the bytes begin, or after it
pub laid_behind : (address : ℕ) (left : List ℕ) (bound : Option ℕ) (covered : ℕ → Bool) (bs : List LaidBlock) → AreLaidFrom address left bound covered bs → AllByRecursion (IsBehind address) bs
laid_behind address left bound covered [] laid = tt
laid_behind address left bound covered (b ∷ bs) laid =
    let h = laid.2 in
    let at : b.address ≡ address = ap (λ (y : LaidBlock). y.address) laid.5 in
    (omega (arith, at), all_weaker (IsBehind (address + h.size)) (IsBehind address) (λ x behind. omega arith) bs (laid_behind (address + h.size) (drop h.size left) bound covered bs laid.6))

-- blocks that are laid are in order of address
pub laid_ascend : (address : ℕ) (left : List ℕ) (bound : Option ℕ) (covered : ℕ → Bool) (bs : List LaidBlock) → AreLaidFrom address left bound covered bs → AreAscending bs
laid_ascend address left bound covered [] laid = tt
laid_ascend address left bound covered (b ∷ bs) laid =
    let h = laid.2 in
    let at : b.address ≡ address = ap (λ (y : LaidBlock). y.address) laid.5 in
    let size : 16 ≤ h.size = (header_has_16 left h laid.3).1 in
    let rest = laid_behind (address + h.size) (drop h.size left) bound covered bs laid.6 in
    (all_weaker (IsBehind (address + h.size)) (IsBehind (b.address + 16)) (λ x behind. omega arith) bs rest, laid_ascend (address + h.size) (drop h.size left) bound covered bs laid.6)

-- ---- spans that are apart

-- each span ends before the later ones begin
abbrev pub AreApart : List Span → Type 0
AreApart spans = EachPair (λ (s t : Span). s.end < t.start) spans

in_span : (s : Span) (address : ℕ) → is_in_span s address ≡ true → (s.start ≤ address) × (address ≤ s.end)
in_span s address e = (leb-true s.start address (and_parts (nat_le s.start address) (nat_le address s.end) e).0, leb-true address s.end (and_parts (nat_le s.start address) (nat_le address s.end) e).1)

none_passes : (test : ℕ → Bool) (end from : ℕ) (bs : List LaidBlock) → ((a : ℕ) → test a ≡ true → a ≤ end) → end < from → AllByRecursion (IsBehind from) bs
    → filter (λ (b : LaidBlock). test b.address) bs ≡ []
none_passes test end from bs below lt behind = keeps_none (λ (b : LaidBlock). test b.address) bs (all_weaker (IsBehind from) (λ (b : LaidBlock). test b.address ≡ false) fails bs behind)
  where
    fails : (b : LaidBlock) → IsBehind from b → test b.address ≡ false
    fails b le = false_from_ne_true (test b.address) (λ e. let h = below b.address e in omega (arith, h, lt, le))

-- ---- whole blocks by themselves

-- the block has a valid header and all its bytes
pub record IsWholeBlock (b : LaidBlock) : Type 0 where
  pub header : Header
  pub read : read_header b.bytes ≡ Ok header
  pub size_is : length b.bytes ≡ header.size
