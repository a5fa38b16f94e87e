-- The groups that have ended before an address, and those that begin after it.
use Rattle.std.proofs.Common.{◌≡◌, ℕ, suc, zero, ◌+◌, ◌-◌, ◌<◌, ◌≤◌, ◌^◌, ◌/◌, ◌%◌, ◌⊎◌, inl, inr, Bool, false, Option, ◌||◌, ◌&&◌, List, [], ◌∷◌, ◌++◌, length, take, drop, filter, get_or, refl, ap, sym, subst, ◌∙◌, arith}
use Rattle.std.proofs.Math.Bool.{or-false, and-false}
use Rattle.std.proofs.Math.Seq.{get_or-append_seam}
use Rattle.std.proofs.lemmas.Bool.{cases_lt}
use Rattle.std.proofs.lemmas.List.{append-nil, length-append, length-drop, length-take, reverse-append, take-append-drop, take_all, take_more, get_or-take, get_or-drop, get_or_append_left}
use Rattle.std.proofs.lemmas.List.Elements.{filter-append}
use Rattle.std.proofs.lemmas.List.Folds.{list_any_none, list_any-append}
use Rattle.std.proofs.lemmas.List.Sorted.{IsNonDecreasingBy-push}
use Rattle.std.specs.Prelude.{max, min, reverse}
use Rattle.std.specs.List.{AllZip, list_any}
use Rattle.std.specs.List.Sorted.{IsPartitionPoint}
use Rattle.br_model.specs.Name.{SessionKey}
use Rattle.br_model.specs.Bootstrap.{Group, admits}
use Rattle.br_model.specs.Meaning.{covers}
use Rattle.br_match.specs.Groups.{admits_block, admits_session}
use Rattle.br_match.specs.Near.{AreEnds, AreStarts, BeginsAt, EndsBy, IsAround, IsBounded}

-- ---- as the addresses are found

-- the addresses at which the first groups end, none of them above the greatest
pub record EndsSoFar (groups : List (ℕ × Group)) (i greatest : ℕ) (ends : List ℕ) : Type 0 where
  pub so_far : AreEnds (take i groups) ends
  pub most : (k d : ℕ) → k < length ends → get_or ends k d ≤ greatest

zip_more : (R : ℕ × Group → ℕ → Type 0) (gs : List (ℕ × Group)) (ns : List ℕ) (g : ℕ × Group) (n : ℕ) → R g n → AllZip R gs ns → AllZip R (gs ++ g ∷ []) (ns ++ n ∷ [])
zip_more R [] [] g n r h = (r, tt)
zip_more R [] (m ∷ ns) g n r h = absurd h
zip_more R (x ∷ gs) [] g n r h = absurd h
zip_more R (x ∷ gs) (m ∷ ns) g n r h = (h.0, zip_more R gs ns g n r h.1)

-- one more group
pub ends_more : (groups : List (ℕ × Group)) (ends : List ℕ) (i greatest last : ℕ) (g : ℕ × Group) → i < length groups → g ≡ get_or groups i g → EndsBy g last
    → EndsSoFar groups i greatest ends → EndsSoFar groups (i + 1) (max last greatest) (ends ++ max last greatest ∷ [])
ends_more groups ends i greatest last g inside is by e = record {
  so_far = record {
    rising = IsNonDecreasingBy-push (λ (n : ℕ). n) ends end e.so_far.rising (λ d some. let m = e.most (length ends - 1) d (omega arith) in omega (arith, m));
    each = rw (take_more groups i g inside) (subst (λ (x : ℕ × Group). AllZip EndsBy (take i groups ++ x ∷ []) (ends ++ end ∷ [])) is (zip_more EndsBy (take i groups) ends g end (λ n above fits. by n (omega arith) fits) e.so_far.each));
  };
  most = λ k d within. at k d within (cases_lt k (length ends));
}
  where
    end : ℕ
    end = max last greatest

    at : (k d : ℕ) → k < length (ends ++ end ∷ []) → (k < length ends) ⊎ (length ends ≤ k) → get_or (ends ++ end ∷ []) k d ≤ end
    at k d within (inl before) = let m = e.most k d before in rw (get_or_append_left ends (end ∷ []) d k before) (omega (arith, m))
    at k d within (inr behind) =
        let longer = length-append ends (end ∷ []) in
        let k_is : k ≡ length ends = omega (arith, longer) in
        rw (k_is, get_or-append_seam ends end [] d) (omega arith)

-- all groups
pub ends_all : (groups : List (ℕ × Group)) (ends : List ℕ) (i greatest : ℕ) → length groups ≤ i → EndsSoFar groups i greatest ends → AreEnds groups ends
ends_all groups ends i greatest all e = subst (λ (gs : List (ℕ × Group)). AreEnds gs ends) (take_all i groups all) e.so_far

-- the addresses at which some groups begin, none of them below the least
pub record StartsSoFar (groups : List (ℕ × Group)) (least : ℕ) (starts : List ℕ) : Type 0 where
  pub so_far : AreStarts groups starts
  pub lowest : (k d : ℕ) → k < length starts → least ≤ get_or starts k d

-- one more group before them
in_front_of_all : (groups : List (ℕ × Group)) (starts : List ℕ) (least first : ℕ) (g : ℕ × Group) → BeginsAt g first
    → StartsSoFar groups least starts → StartsSoFar (g ∷ groups) (min first least) (min first least ∷ starts)
in_front_of_all groups starts least first g at s = record {
  so_far = record { rising = rise; each = (λ n below. at n (omega arith), s.so_far.each) };
  lowest = low;
}
  where
    start : ℕ
    start = min first least

    low : (k d : ℕ) → k < length (start ∷ starts) → start ≤ get_or (start ∷ starts) k d
    low zero d within = omega arith
    low (suc k) d within = let m = s.lowest k d (omega arith) in omega (arith, m)

    rise : (i j d : ℕ) → i ≤ j → j < length (start ∷ starts) → get_or (start ∷ starts) i d ≤ get_or (start ∷ starts) j d
    rise zero j d le lt = low j d lt
    rise (suc i) zero d le lt = absurd (omega arith)
    rise (suc i) (suc j) d le lt = s.so_far.rising i j d (omega arith) (omega arith)

-- the same if the addresses come in the other order
pub starts_more : (groups : List (ℕ × Group)) (pushed : List ℕ) (least first : ℕ) (g : ℕ × Group) → BeginsAt g first
    → StartsSoFar groups least (reverse pushed) → StartsSoFar (g ∷ groups) (min first least) (reverse (pushed ++ min first least ∷ []))
starts_more groups pushed least first g at s = rw (reverse-append pushed (min first least ∷ [])) (in_front_of_all groups (reverse pushed) least first g at s)

-- ---- around an address

zip_at : (R : ℕ × Group → ℕ → Type 0) (gs : List (ℕ × Group)) (ns : List ℕ) (k : ℕ) (d : ℕ × Group) (e : ℕ) → AllZip R gs ns → k < length gs → (k < length ns) × R (get_or gs k d) (get_or ns k e)
zip_at R [] ns k d e h lt = absurd (omega arith)
zip_at R (x ∷ gs) [] k d e h lt = absurd h
zip_at R (x ∷ gs) (n ∷ ns) zero d e h lt = (omega arith, h.0)
zip_at R (x ∷ gs) (n ∷ ns) (suc k) d e h lt = let more = zip_at R gs ns k d e h.1 (omega arith) in (omega (arith, more.0), more.1)

-- the groups between those that have ended and those that have not begun
pub around : (groups : List (ℕ × Group)) (ends starts : List ℕ) (address first begun end : ℕ) → IsBounded groups ends starts → address < 2 ^ 64
    → IsPartitionPoint (λ (n : ℕ). n < address) (λ (n : ℕ). address ≤ n) ends first → IsPartitionPoint (λ (n : ℕ). n ≤ address) (λ (n : ℕ). address < n) starts begun
    → end ≡ max begun first → IsAround address groups (take (end - first) (drop first groups))
around groups ends starts address first begun end bounded fits past ahead end_is = record {
  before = take first groups;
  after = behind;
  all = sym (ap (λ (gs : List (ℕ × Group)). take first groups ++ gs) (take-append-drop (end - first) (drop first groups)) ∙ take-append-drop first groups);
  ended = ended;
  begun = not_begun;
}
  where
    behind : List (ℕ × Group)
    behind = drop (end - first) (drop first groups)

    ended : (k : ℕ) (d : ℕ × Group) → k < length (take first groups) → covers (get_or (take first groups) k d).1 address ≡ false
    ended k d within =
        let long = length-take first groups in
        let before : k < first = omega (arith, long) in
        let at = zip_at EndsBy groups ends k d 0 bounded.ended.each (omega (arith, long)) in
        rw (get_or-take first groups k d before) (at.1 address (past.0 k 0 (omega arith) before) fits)

    not_begun : (k : ℕ) (d : ℕ × Group) → k < length behind → covers (get_or behind k d).1 address ≡ false
    not_begun k d within =
        let long = length-drop (end - first) (drop first groups) in
        let longer = length-drop first groups in
        let place : ℕ = first + ((end - first) + k) in
        let at = zip_at BeginsAt groups starts place d 0 bounded.begun.each (omega (arith, long, longer)) in
        rw (get_or-drop (end - first) (drop first groups) k d, get_or-drop first groups ((end - first) + k) d) (at.1 address (ahead.1 place 0 (omega (arith, end_is)) at.0))

-- the same, as equations
pub around_seen : (whole groups given near : List (ℕ × Group)) (ends starts seen_ends seen_starts : List ℕ) (address first begun end : ℕ)
    → groups ≡ whole → given ≡ groups → seen_ends ≡ ends → seen_starts ≡ starts → IsBounded groups ends starts → address < 2 ^ 64
    → IsPartitionPoint (λ (n : ℕ). n < address) (λ (n : ℕ). address ≤ n) seen_ends first → IsPartitionPoint (λ (n : ℕ). n ≤ address) (λ (n : ℕ). address < n) seen_starts begun
    → end ≡ max begun first → near ≡ take (end - first) (drop first given) → IsAround address whole near
around_seen whole groups given near ends starts seen_ends seen_starts address first begun end whole_is given_is ends_are starts_are bounded fits past ahead end_is near_is =
    subst (λ (gs : List (ℕ × Group)). IsAround address gs near) whole_is
    (subst (λ (gs : List (ℕ × Group)). IsAround address groups gs) (sym (near_is ∙ ap (λ (gs : List (ℕ × Group)). take (end - first) (drop first gs)) given_is))
    (around groups ends starts address first begun end bounded fits (subst (λ (ns : List ℕ). IsPartitionPoint (λ (n : ℕ). n < address) (λ (n : ℕ). address ≤ n) ns first) ends_are past)
    (subst (λ (ns : List ℕ). IsPartitionPoint (λ (n : ℕ). n ≤ address) (λ (n : ℕ). address < n) ns begun) starts_are ahead) end_is))

-- one of them covers the address, if any does
pub covered_around : (address : ℕ) (groups near : List (ℕ × Group)) → IsAround address groups near
    → list_any (λ (m : ℕ × Group). covers m.1 address) near ≡ list_any (λ (m : ℕ × Group). covers m.1 address) groups
covered_around address groups near a =
    sym (ap (list_any p) a.all ∙ list_any-append p a.before (near ++ a.after)
    ∙ ap (λ (b : Bool). b || list_any p (near ++ a.after)) (list_any_none p a.before a.ended) ∙ list_any-append p near a.after
    ∙ ap (λ (b : Bool). list_any p near || b) (list_any_none p a.after a.begun) ∙ or-false (list_any p near))
  where
    p : ℕ × Group → Bool
    p m = covers m.1 address

filter_none : (p : ℕ × Group → Bool) (gs : List (ℕ × Group)) → ((k : ℕ) (d : ℕ × Group) → k < length gs → p (get_or gs k d) ≡ false) → filter p gs ≡ []
filter_none p [] none = refl
filter_none p (g ∷ gs) none =
    let here : p g ≡ false = none 0 g (omega arith) in
    rw here (filter_none p gs (λ k d lt. none (suc k) d (omega arith)))

-- all that admit a block there are among them
pub admitting_around : (address : ℕ) (session : Option SessionKey) (groups near : List (ℕ × Group)) → IsAround address groups near
    → filter (λ (m : ℕ × Group). admits_block m.1 address session) near ≡ filter (λ (m : ℕ × Group). admits_block m.1 address session) groups
admitting_around address session groups near a =
    sym (ap (filter p) a.all ∙ filter-append p a.before (near ++ a.after)
    ∙ ap (λ (gs : List (ℕ × Group)). gs ++ filter p (near ++ a.after)) (filter_none p a.before (λ k d lt. never (get_or a.before k d) (a.ended k d lt))) ∙ filter-append p near a.after
    ∙ ap (λ (gs : List (ℕ × Group)). filter p near ++ gs) (filter_none p a.after (λ k d lt. never (get_or a.after k d) (a.begun k d lt))) ∙ append-nil (filter p near))
  where
    p : ℕ × Group → Bool
    p m = admits_block m.1 address session

    never : (m : ℕ × Group) → covers m.1 address ≡ false → p m ≡ false
    never m none = rw none (and-false (admits_session m.1 session && admits m.1.files (address / 2 ^ 32) && admits m.1.blocks (address % 2 ^ 32)))
