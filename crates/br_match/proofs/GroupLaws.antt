-- The groups of a piece, one after the other.
use Rattle.std.proofs.Common.{◌≡◌, ℕ, ◌+◌, ◌/◌, ◌%◌, ◌^◌, ◌<◌, Bool, true, false, ◌&&◌, ◌||◌, cond, take, filter, get_or, subst, Ok, List, [], ◌∷◌, ◌++◌, Option, Some, None, length, refl, ap, sym, ◌∙◌, append_assoc, add-zero, arith}
use Rattle.std.proofs.lemmas.List.{take_more}
use Rattle.std.specs.Prelude.{fold, max, option_map, find, nat_abs}
use Rattle.std.specs.Int.{is_positive}
use Rattle.std.specs.List.{AllByRecursion, AllZip, list_any, cons_option}
use Rattle.br_model.specs.Text.{is_empty}
use Rattle.br_model.specs.Name.{SessionKey}
use Rattle.br_model.specs.Block.{Header, session_of, read_header, Fragment, MayHold, IsFragmentOf, fragments_of}
use Rattle.br_model.specs.Volume.{LaidBlock}
use Rattle.br_model.specs.Bootstrap.{Group, admits, hits}
use Rattle.br_model.specs.Meaning.{Hit, last_address, is_covered, covers, just_groups, first_hitting, hit_at, hits_in}
use Rattle.br_model.proofs.ListLaws.{all_any, all_weaker}
use Rattle.br_model.proofs.VolumeLaws.{header_reads}
use Rattle.br_match.specs.Groups.{AreAlike, admits_block, admits_record, first_admitting, first_for, hits_of_fragments, own_session}

-- the end of the walk for some groups, if it is no earlier than an address
abbrev pub bound_from : ℕ → List Group → Option ℕ
bound_from n groups =
    cond (list_any (λ (g : Group). is_empty g.addresses) groups) None (Some (fold (λ m g. max m (last_address g)) n groups))

-- ---- the fragments of a block, one after the other

-- what an option holds, in a list
abbrev pub listed : Option Hit → List Hit
listed None = []
listed (Some h) = h ∷ []

-- one more fragment has one more hit at most
pub one_more : (first : Fragment → Option ℕ) (address n : ℕ) (fragments : List Fragment) (f : Fragment)
    → hits_of_fragments first address n (fragments ++ f ∷ [])
    ≡ hits_of_fragments first address n fragments ++ listed (option_map (hit_at (record { address = address; bytes = [] }) (n + length fragments, f)) (first f))
one_more first address n [] f = rw (add-zero n) (here (hit n f))
  where
    hit : ℕ → Fragment → Option Hit
    hit k g = option_map (hit_at (record { address = address; bytes = [] }) (k, g)) (first g)

    here : (o : Option Hit) → cons_option o [] ≡ listed o
    here None = refl
    here (Some h) = refl
one_more first address n (g ∷ gs) f =
    let place : (n + 1) + length gs ≡ n + length (g ∷ gs) = omega arith in
    ap (λ (hs : List Hit). cons_option (hit n g) hs) (one_more first address (n + 1) gs f ∙ ap (λ (k : ℕ). behind ++ listed (hit k f)) place)
    ∙ moved (hit n g) behind (listed (hit (n + length (g ∷ gs)) f))
  where
    hit : ℕ → Fragment → Option Hit
    hit k h = option_map (hit_at (record { address = address; bytes = [] }) (k, h)) (first h)

    behind : List Hit
    behind = hits_of_fragments first address (n + 1) gs

    moved : (o : Option Hit) (xs ys : List Hit) → cons_option o (xs ++ ys) ≡ cons_option o xs ++ ys
    moved None xs ys = refl
    moved (Some h) xs ys = refl

-- the hits so far, followed by those of the next fragment
pub pushed_more : (first : Fragment → Option ℕ) (address ordinal : ℕ) (fragments : List Fragment) (f : Fragment) (o : Option Hit) (before found after : List Hit)
    → o ≡ option_map (hit_at (record { address = address; bytes = [] }) (ordinal, f)) (first f) → ordinal ≡ length fragments
    → found ≡ before ++ hits_of_fragments first address 0 fragments → after ≡ found ++ listed o
    → after ≡ before ++ hits_of_fragments first address 0 (fragments ++ f ∷ [])
pushed_more first address ordinal fragments f o before found after is place so_far pushed =
    let hit : ℕ → Option Hit = λ k. option_map (hit_at (record { address = address; bytes = [] }) (k, f)) (first f) in
    let place_is : ordinal ≡ 0 + length fragments = omega (arith, place) in
    let same : o ≡ hit (0 + length fragments) = is ∙ ap hit place_is in
    pushed ∙ ap (λ (hs : List Hit). hs ++ listed o) so_far ∙ append_assoc before (hits_of_fragments first address 0 fragments) (listed o)
    ∙ ap (λ (p : Option Hit). before ++ (hits_of_fragments first address 0 fragments ++ listed p)) same
    ∙ ap (λ (hs : List Hit). before ++ hs) (sym (one_more first address 0 fragments f))

-- a label is not hit
pub label_not_hit : (session : Option SessionKey) (near : List (ℕ × Group)) (address ordinal : ℕ) (f : Fragment) → is_positive f.index ≡ false
    → None ≡ option_map (hit_at (record { address = address; bytes = [] }) (ordinal, f)) (first_for session near f)
label_not_hit session near address ordinal f label = ap (option_map (hit_at (record { address = address; bytes = [] }) (ordinal, f))) (sym (never near))
  where
    never : (gs : List (ℕ × Group)) → first_for session gs f ≡ None
    never [] = refl
    never (g ∷ gs) = rw label (never gs)

pub no_index : {X : Type 0} (b : Bool) (x : X) → None ≡ cond b (Some x) None → b ≡ false
no_index true x e = absurd cc
no_index false x e = refl

-- ---- groups that are alike

-- one more of both
pub alike_more : (ms gs : List (ℕ × Group)) (i : ℕ) (m g : ℕ × Group) → i < length gs → g ≡ get_or gs i g → AreAlike m g → AllZip AreAlike ms (take i gs)
    → AllZip AreAlike (ms ++ m ∷ []) (take (i + 1) gs)
alike_more ms gs i m g inside is alike all =
    rw (take_more gs i g inside) (subst (λ (x : ℕ × Group). AllZip AreAlike (ms ++ m ∷ []) (take i gs ++ x ∷ [])) is (zip_more ms (take i gs) all))
  where
    zip_more : (xs ys : List (ℕ × Group)) → AllZip AreAlike xs ys → AllZip AreAlike (xs ++ m ∷ []) (ys ++ g ∷ [])
    zip_more [] [] h = (alike, tt)
    zip_more [] (y ∷ ys) h = absurd h
    zip_more (x ∷ xs) [] h = absurd h
    zip_more (x ∷ xs) (y ∷ ys) h = (h.0, zip_more xs ys h.1)

hits_alike : (m g : ℕ × Group) (address : ℕ) (f : Fragment) → AreAlike m g → hits m.1 address f ≡ hits g.1 address f
unfolding hits
hits_alike m g address f al = λ t.
    is_positive f.index && al.session_ids f.session.id t && al.session_times f.session.time t
    && al.files (address / 2 ^ 32) t && al.blocks (address % 2 ^ 32) t && al.addresses address t
    && al.indexes (nat_abs f.index) t && al.streams (nat_abs f.stream) t

first_alike : (ms gs : List (ℕ × Group)) (address : ℕ) (f : Fragment) → AllZip AreAlike ms gs → first_hitting ms address f ≡ first_hitting gs address f
unfolding first_hitting
first_alike [] [] address f al = refl
first_alike [] (g ∷ gs) address f al = absurd al
first_alike (m ∷ ms) [] address f al = absurd al
first_alike (m ∷ ms) (g ∷ gs) address f al = go (hits m.1 address f) (hits g.1 address f) (hits_alike m g address f al.0) (first_alike ms gs address f al.1)
  where
    found : List (ℕ × Group) → Option (ℕ × Group)
    found xs = find (λ (x : ℕ × Group). hits x.1 address f) xs

    number : Option (ℕ × Group) → Option ℕ
    number o = option_map (λ (x : ℕ × Group). x.0) o

    go : (b c : Bool) → b ≡ c → number (found ms) ≡ number (found gs) → number (cond b (Some m) (found ms)) ≡ number (cond c (Some g) (found gs))
    go true true e rest = ap (λ (n : ℕ). Some n) al.0.number
    go true false e rest = absurd cc
    go false true e rest = absurd cc
    go false false e rest = rest

same_hits : (first second : Fragment → Option ℕ) (address n : ℕ) (fs : List Fragment) → AllByRecursion (λ (f : Fragment). first f ≡ second f) fs
    → hits_of_fragments first address n fs ≡ hits_of_fragments second address n fs
same_hits first second address n [] same = refl
same_hits first second address n (f ∷ fs) same =
    ap (λ (o : Option ℕ). cons_option (option_map (hit_at (record { address = address; bytes = [] }) (n, f)) o) (hits_of_fragments first address (n + 1) fs)) same.0
    ∙ ap (λ (hs : List Hit). cons_option (option_map (hit_at (record { address = address; bytes = [] }) (n, f)) (second f)) hs) (same_hits first second address (n + 1) fs same.1)

-- groups that are alike have the same hits in a block
pub hits_in_alike : (ms gs : List (ℕ × Group)) (b : LaidBlock) → AllZip AreAlike ms gs → hits_in ms b ≡ hits_in gs b
unfolding hits_in
hits_in_alike ms gs b al =
    same_hits (λ f. first_hitting ms b.address f) (λ f. first_hitting gs b.address f) b.address 0 (fragments_of b.bytes)
    (all_any (λ (f : Fragment). first_hitting ms b.address f ≡ first_hitting gs b.address f) (λ f. first_alike ms gs b.address f al) (fragments_of b.bytes))

-- and cover the same addresses
pub covered_alike : (ms gs : List (ℕ × Group)) (address : ℕ) → AllZip AreAlike ms gs → list_any (λ (m : ℕ × Group). covers m.1 address) ms ≡ is_covered (just_groups gs) address
covered_alike [] [] address al = refl
covered_alike [] (g ∷ gs) address al = absurd al
covered_alike (m ∷ ms) [] address al = absurd al
covered_alike (m ∷ ms) (g ∷ gs) address al =
    ap (λ (b : Bool). b || list_any (λ (x : ℕ × Group). covers x.1 address) ms) (al.0.addresses address) ∙ ap (λ (b : Bool). covers g.1 address || b) (covered_alike ms gs address al.1)

-- ---- groups that admit a block

both : (x i s : Bool) → ((x && i) && s) ≡ (x && (i && s))
both true i s = refl
both false i s = refl

never_both : (x : Bool) → false ≡ (x && false)
never_both true = refl
never_both false = refl

hits_split : (session : Option SessionKey) (g : Group) (address : ℕ) (f : Fragment) → MayHold session f.session
    → hits g address f ≡ (admits_block g address session && admits_record g (own_session session f.session) f.index f.stream)
unfolding hits
hits_split None g address f may = go (is_positive f.index) (admits g.session_ids f.session.id) (admits g.session_times f.session.time)
  where
    x : Bool
    x = admits_block g address None

    b : Bool
    b = admits g.files (address / 2 ^ 32)

    c : Bool
    c = admits g.blocks (address % 2 ^ 32)

    i : Bool
    i = admits g.indexes (nat_abs f.index)

    s : Bool
    s = admits g.streams (nat_abs f.stream)

    go : (p k t : Bool) → (p && k && t && b && c && admits g.addresses address && i && s) ≡ (x && (p && (k && t) && i && s))
    go true true true = both x i s
    go true true false = never_both x
    go true false t = never_both x
    go false k t = never_both x
hits_split (Some key) g address f may =
    go (is_positive f.index) ∙ ap (λ (k : SessionKey). admits_block g address (Some k) && admits_record g None f.index f.stream) may
  where
    x : Bool
    x = admits_block g address (Some f.session)

    i : Bool
    i = admits g.indexes (nat_abs f.index)

    s : Bool
    s = admits g.streams (nat_abs f.stream)

    go : (p : Bool)
        → (p && admits g.session_ids f.session.id && admits g.session_times f.session.time && admits g.files (address / 2 ^ 32) && admits g.blocks (address % 2 ^ 32) && admits g.addresses address && i && s)
        ≡ (x && (p && true && i && s))
    go true = both x i s
    go false = never_both x

first_near : (ms : List (ℕ × Group)) (address : ℕ) (session : Option SessionKey) (f : Fragment) → MayHold session f.session
    → first_for session (filter (λ (m : ℕ × Group). admits_block m.1 address session) ms) f ≡ first_hitting ms address f
unfolding first_hitting
first_near [] address session f may = refl
first_near (m ∷ ms) address session f may =
    kept (admits_block m.1 address session)
    ∙ go (admits_block m.1 address session) (admits_record m.1 own f.index f.stream) (hits m.1 address f) (hits_split session m.1 address f may) (first_near ms address session f may)
  where
    own : Option SessionKey
    own = own_session session f.session

    near : List (ℕ × Group)
    near = filter (λ (x : ℕ × Group). admits_block x.1 address session) ms

    number : Option (ℕ × Group) → Option ℕ
    number o = option_map (λ (x : ℕ × Group). x.0) o

    rest_near : Option (ℕ × Group)
    rest_near = find (λ (x : ℕ × Group). admits_record x.1 own f.index f.stream) near

    rest : Option (ℕ × Group)
    rest = find (λ (x : ℕ × Group). hits x.1 address f) ms

    kept : (b : Bool) → first_admitting own f.index f.stream (cond b (m ∷ near) near) ≡ number (cond b (cond (admits_record m.1 own f.index f.stream) (Some m) rest_near) rest_near)
    kept true = refl
    kept false = refl

    go : (b r h : Bool) → h ≡ (b && r) → number rest_near ≡ number rest → number (cond b (cond r (Some m) rest_near) rest_near) ≡ number (cond h (Some m) rest)
    go true true true e same = refl
    go true true false e same = absurd cc
    go true false true e same = absurd cc
    go true false false e same = same
    go false r true e same = absurd cc
    go false r false e same = same

-- the groups that admit a block have all its hits
pub hits_near : (ms near : List (ℕ × Group)) (address : ℕ) (session : Option SessionKey) (block : List ℕ) (fs : List Fragment) → fs ≡ fragments_of block
    → near ≡ filter (λ (m : ℕ × Group). admits_block m.1 address session) ms → AllByRecursion (λ (f : Fragment). MayHold session f.session) fs
    → hits_of_fragments (first_for session near) address 0 fs ≡ hits_in ms (record { address = address; bytes = block })
unfolding hits_in
hits_near ms near address session block fs is near_is may =
    same_hits (first_for session near) (λ f. first_hitting ms address f) address 0 fs
    (all_weaker (λ (f : Fragment). MayHold session f.session) (λ (f : Fragment). first_for session near f ≡ first_hitting ms address f)
    (λ f of_session. ap (λ (gs : List (ℕ × Group)). first_for session gs f) near_is ∙ first_near ms address session f of_session) fs may)
    ∙ ap (hits_of_fragments (λ f. first_hitting ms address f) address 0) is

-- a block with the session of its header, or without one, may contain its fragments
pub may_stand : (block : List ℕ) (h : Header) (fs : List Fragment) → read_header block ≡ Ok h → AllByRecursion (IsFragmentOf (session_of block)) fs
    → AllByRecursion (λ (f : Fragment). MayHold h.session f.session) fs
may_stand block h fs e each =
    subst (λ (s : Option SessionKey). AllByRecursion (λ (f : Fragment). MayHold s f.session) fs) (header_reads block h e).session_is
    (all_weaker (IsFragmentOf (session_of block)) (λ (f : Fragment). MayHold (session_of block) f.session) (λ f is. is.session_is) fs each)
