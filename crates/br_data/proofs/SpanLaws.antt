-- Where the data of the fragments of a block are.
use Rattle.std.proofs.Common.{◌≡◌, ℕ, suc, zero, ◌+◌, ◌<◌, ◌≤◌, false, cond, eqb, List, [], ◌∷◌, ◌++◌, length, get_or, take, drop, Option, Some, None, Ok, Err, refl, sym, ap, subst, ◌∙◌, append_assoc, length-append, length-drop, arith}
use Rattle.std.proofs.lemmas.List.{drop-drop}
use Rattle.std.specs.Prelude.{flat_map, option_map, slice_get}
use Rattle.std.specs.List.{AllZip}
use Rattle.br_model.specs.Name.{SessionKey}
use Rattle.br_model.specs.Answer.{◌>>=◌, some_or}
use Rattle.br_model.specs.Block.{Fragment, be32, signed_be32, fragment_bytes, fragments_of, header_length, read_block, record_header_length, session_of, spelling, AreFragments}
use Rattle.br_data.specs.DataSpans.{AreDataIn, IsDataAt, data_in, data_of}
use Rattle.br_data.specs.KeptData.{Kept}
use Rattle.br_data.specs.KnownBlocks.{KnownBlock, bytes_of, fragment_of}
use Rattle.br_data.specs.declared.data_spans.DataSpan.{DataSpan}
use Rattle.br_data.specs.declared.reread_fault.AgainFault.TheVariants.{Changed}

-- ---- a walk over the fragments

-- a record's header and the data after it
spelled : (session : Option SessionKey) (f : Fragment) → (front : List ℕ) × (length front ≡ record_header_length session) × (spelling session f ≡ front ++ f.bytes)
unfolding fragment_bytes
spelled None f =
    (be32 f.session.id ++ be32 f.session.time ++ signed_be32 f.index ++ signed_be32 f.stream ++ be32 f.size, refl, refl)
spelled (Some key) f = (signed_be32 f.index ++ signed_be32 f.stream ++ be32 f.size, refl, refl)

drop_front : (d r : List ℕ) → drop (length d) (d ++ r) ≡ r
drop_front [] r = refl
drop_front (c ∷ d) r = drop_front d r

take_front : (d r : List ℕ) → take (length d) (d ++ r) ≡ d
take_front [] r = refl
take_front (c ∷ d) r = ap (λ ys. c ∷ ys) (take_front d r)

-- the data of the fragments so far are at their places, and the others follow
pub record SpansTo (block : List ℕ) (done left : List Fragment) (end : ℕ) (spans : List DataSpan) : Type 0 where
  pub so_far : AreDataIn block spans done
  pub rest : List ℕ
  pub joined : drop end block ≡ flat_map (spelling (session_of block)) left ++ rest
  pub bound : end ≤ length block

-- a block that is read from its own bytes
pub same_block : (bytes block : List ℕ) → read_block bytes ≡ Ok bytes → read_block bytes ≡ Ok block → block ≡ bytes
same_block bytes block whole read = cc

-- before the first fragment
pub spans_begin : (block : List ℕ) (fs : List Fragment) (end : ℕ) → AreFragments block fs → end ≡ header_length (session_of block) → end ≤ length block → SpansTo block [] fs end []
spans_begin block fs end are at within = record {
  so_far = tt;
  rest = are.rest;
  joined = ap (λ n. drop n block) at ∙ are.joined;
  bound = within;
}

zip_more : (R : DataSpan → Fragment → Type 0) (ss : List DataSpan) (fs : List Fragment) (s : DataSpan) (f : Fragment) → R s f → AllZip R ss fs → AllZip R (ss ++ s ∷ []) (fs ++ f ∷ [])
zip_more R [] [] s f r h = (r, tt)
zip_more R [] (g ∷ fs) s f r h = absurd h
zip_more R (t ∷ ss) [] s f r h = absurd h
zip_more R (t ∷ ss) (g ∷ fs) s f r h = (h.0, zip_more R ss fs s f r h.1)

-- what is at an end, if a fragment is left
next_joined : (block : List ℕ) (done left : List Fragment) (end : ℕ) (spans : List DataSpan) (f : Fragment) → (to : SpansTo block done (f ∷ left) end spans)
    → (front : List ℕ) × (length front ≡ record_header_length (session_of block))
    × (drop end block ≡ front ++ (f.bytes ++ (flat_map (spelling (session_of block)) left ++ to.rest)))
next_joined block done left end spans f to =
    let session = session_of block in
    let s = spelled session f in
    let more = flat_map (spelling session) left in
    (s.0, s.1, to.joined ∙ append_assoc (spelling session f) more to.rest ∙ ap (λ t. t ++ (more ++ to.rest)) s.2 ∙ append_assoc s.0 f.bytes (more ++ to.rest))

-- the next data are within the block
pub next_fits : (block : List ℕ) (done left : List Fragment) (end : ℕ) (spans : List DataSpan) (f : Fragment) → SpansTo block done (f ∷ left) end spans
    → end + record_header_length (session_of block) + length f.bytes ≤ length block
next_fits block done left end spans f to =
    let n = next_joined block done left end spans f to in
    let more = flat_map (spelling (session_of block)) left ++ to.rest in
    omega (arith, length-drop end block, ap length n.2, length-append n.0 (f.bytes ++ more), length-append f.bytes more, n.1, to.bound)

-- one fragment more
pub spans_on : (block : List ℕ) (done left : List Fragment) (end header : ℕ) (spans : List DataSpan) (f : Fragment) (s : DataSpan) → SpansTo block done (f ∷ left) end spans
    → header ≡ record_header_length (session_of block) → s.start ≡ end + header → s.len ≡ length f.bytes → SpansTo block (done ++ f ∷ []) left (s.start + s.len) (spans ++ s ∷ [])
spans_on block done left end header spans f s to is start len = record {
  so_far = zip_more (IsDataAt block) spans done s f (record { inside = omega (arith, fits, is, start, len); same = ap (λ n. take n (drop s.start block)) len ∙ ap (take (length f.bytes)) content ∙ take_front f.bytes more }) to.so_far;
  rest = to.rest;
  joined = (let e : s.start + s.len ≡ s.start + length f.bytes = omega (arith, len) in ap (λ n. drop n block) e) ∙ sym (drop-drop (length f.bytes) s.start block) ∙ ap (drop (length f.bytes)) content ∙ drop_front f.bytes more;
  bound = omega (arith, fits, is, start, len);
}
  where
    fits : end + record_header_length (session_of block) + length f.bytes ≤ length block
    fits = next_fits block done left end spans f to

    more : List ℕ
    more = flat_map (spelling (session_of block)) left ++ to.rest

    content : drop s.start block ≡ f.bytes ++ (flat_map (spelling (session_of block)) left ++ to.rest)
    content =
        let n = next_joined block done left end spans f to in
        let e : s.start ≡ end + length n.0 = omega (arith, start, is, n.1) in
        ap (λ k. drop k block) e ∙ sym (drop-drop (length n.0) end block) ∙ ap (drop (length n.0)) n.2 ∙ drop_front n.0 (f.bytes ++ more)

-- ---- the data at a place

zip_some : (block : List ℕ) (spans : List DataSpan) (fs : List Fragment) (k : ℕ) (s : DataSpan) → AreDataIn block spans fs → slice_get spans k ≡ Some s
    → (f : Fragment) × (slice_get fs k ≡ Some f) × IsDataAt block s f
zip_some block [] [] k s h is = absurd cc
zip_some block [] (f ∷ fs) k s h is = absurd h
zip_some block (t ∷ ss) [] k s h is = absurd h
zip_some block (t ∷ ss) (f ∷ fs) zero s h is = let same : t ≡ s = cc in (f, refl, subst (λ x. IsDataAt block x f) same h.0)
zip_some block (t ∷ ss) (f ∷ fs) (suc k) s h is = zip_some block ss fs k s h.1 is

zip_none : (block : List ℕ) (spans : List DataSpan) (fs : List Fragment) (k : ℕ) → AreDataIn block spans fs → slice_get spans k ≡ None → slice_get fs k ≡ None
zip_none block [] [] k h is = refl
zip_none block [] (f ∷ fs) k h is = absurd h
zip_none block (t ∷ ss) [] k h is = absurd h
zip_none block (t ∷ ss) (f ∷ fs) zero h is = absurd cc
zip_none block (t ∷ ss) (f ∷ fs) (suc k) h is = zip_none block ss fs k h.1 is

get_some : (spans : List DataSpan) (k : ℕ) (s : DataSpan) → k < length spans → s ≡ get_or spans k s → slice_get spans k ≡ Some s
get_some [] k s lt is = absurd (omega (arith, lt))
get_some (t ∷ ts) zero s lt is = ap (λ (x : DataSpan). Some x) (sym is)
get_some (t ∷ ts) (suc k) s lt is = get_some ts k s (omega (arith, lt)) is

get_none : (spans : List DataSpan) (k : ℕ) → length spans ≤ k → slice_get spans k ≡ None
get_none [] k le = refl
get_none (t ∷ ts) zero le = absurd (omega (arith, le))
get_none (t ∷ ts) (suc k) le = get_none ts k (omega (arith, le))

pub data_inside : (block : List ℕ) (spans : List DataSpan) (k : ℕ) (s : DataSpan) → AreDataIn block spans (fragments_of block) → k < length spans → s ≡ get_or spans k s → s.start + s.len ≤ length block
data_inside block spans k s h lt is = (zip_some block spans (fragments_of block) k s h (get_some spans k s lt is)).2.inside

pub data_is : (block : List ℕ) (spans : List DataSpan) (k : ℕ) (s : DataSpan) (content : List ℕ) → AreDataIn block spans (fragments_of block) → k < length spans → s ≡ get_or spans k s
    → content ≡ take s.len (drop s.start block) → Some content ≡ data_in block k
data_is block spans k s content h lt is at =
    let z = zip_some block spans (fragments_of block) k s h (get_some spans k s lt is) in
    ap Some (at ∙ z.2.same) ∙ sym (ap (option_map (λ (f : Fragment). f.bytes)) z.1)

pub no_data : (block : List ℕ) (spans : List DataSpan) (k : ℕ) → AreDataIn block spans (fragments_of block) → length spans ≤ k → None ≡ data_in block k
no_data block spans k h le = sym (ap (option_map (λ (f : Fragment). f.bytes)) (zip_none block spans (fragments_of block) k h (get_none spans k le)))

-- ---- the bytes of data

-- what is read if no bytes are held
pub read_is : (known : Option KnownBlock) (n : ℕ) (kept : Kept) (content : List ℕ) → kept.held ≡ false → Some content ≡ data_of known n
    → bytes_of known n kept ≡ cond (eqb (length content) (length kept.bytes)) (Ok content) (Err Changed)
read_is None n kept content held is = absurd cc
read_is (Some known) n kept content held is =
    ap (λ b. cond b (Ok kept.bytes) (fragment_of (Some known) n >>= λ f. cond (eqb (length f.bytes) (length kept.bytes)) (Ok f.bytes) (Err Changed))) held ∙ go (slice_get (fragments_of known.bytes) n) is
  where
    go : (o : Option Fragment) → Some content ≡ option_map (λ (f : Fragment). f.bytes) o
        → (some_or o Changed >>= λ f. cond (eqb (length f.bytes) (length kept.bytes)) (Ok f.bytes) (Err Changed)) ≡ cond (eqb (length content) (length kept.bytes)) (Ok content) (Err Changed)
    go None e = absurd cc
    go (Some f) e = let same : f.bytes ≡ content = cc in ap (λ (d : List ℕ). cond (eqb (length d) (length kept.bytes)) (Ok d) (Err Changed)) same

pub none_read : (known : Option KnownBlock) (n : ℕ) (kept : Kept) → kept.held ≡ false → None ≡ data_of known n → bytes_of known n kept ≡ Err Changed
none_read None n kept held is = ap (λ b. cond b (Ok kept.bytes) (Err Changed)) held
none_read (Some known) n kept held is =
    ap (λ b. cond b (Ok kept.bytes) (fragment_of (Some known) n >>= λ f. cond (eqb (length f.bytes) (length kept.bytes)) (Ok f.bytes) (Err Changed))) held ∙ go (slice_get (fragments_of known.bytes) n) is
  where
    go : (o : Option Fragment) → None ≡ option_map (λ (f : Fragment). f.bytes) o
        → (some_or o Changed >>= λ f. cond (eqb (length f.bytes) (length kept.bytes)) (Ok f.bytes) (Err Changed)) ≡ Err Changed
    go None e = refl
    go (Some f) e = absurd cc
