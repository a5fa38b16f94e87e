-- What reads one after another give.
use Rattle.std.proofs.Common.{◌≡◌, ℕ, ◌+◌, ◌-◌, ◌≤◌, ◌<◌, inl, inr, Option, Some, None, List, ◌++◌, length, take, drop, refl, ap, sym, ◌∙◌, append_assoc, arith}
use Rattle.std.specs.Prelude.{⊤}
use Rattle.std.proofs.Math.Seq.{take-add, take-append-add}
use Rattle.std.proofs.lemmas.List.{length-take-le, drop-drop, take_all, take_at, take-append-drop}
use Rattle.std.proofs.Common.{length-append, length-drop}
use Rattle.br_fs.specs.Tree.{Tree}
use Rattle.br_fs.specs.Calls.{IsReadAt}
use Rattle.br_fs.specs.Read.{IsFront, IsEnd}

-- after k interrupts
abbrev pub IsQuieter : ℕ → Option ℕ → Option ℕ → Type 0
IsQuieter k None later = ⊤
IsQuieter k (Some n) None = ⊥
IsQuieter k (Some n) (Some m) = m + k ≤ n

-- a part after a front
more_of : (bytes : List ℕ) (a : ℕ) (front buffer : List ℕ) (n : ℕ) → n ≤ length buffer → front ≡ take (length front) (drop a bytes)
    → take n buffer ≡ take n (drop (a + length front) bytes)
    → front ++ take n buffer ≡ take (length (front ++ take n buffer)) (drop a bytes)
more_of bytes a front buffer n fits is part =
    let long : length (front ++ take n buffer) ≡ length front + n = length-append front (take n buffer) ∙ ap (λ (k : ℕ). length front + k) (length-take-le n buffer fits) in
    ap (λ (l : List ℕ). l ++ take n buffer) is
    ∙ ap (λ (l : List ℕ). take (length front) (drop a bytes) ++ l) (part ∙ ap (take n) (sym (drop-drop (length front) a bytes)))
    ∙ sym (take-add (length front) n (drop a bytes))
    ∙ ap (λ (k : ℕ). take k (drop a bytes)) (sym long)

some_same : (x y : List ℕ) → Some x ≡ Some y → x ≡ y
some_same x y h = cc

pub front_more : (told : Option Tree) (path : List ℕ) (a : ℕ) (front buffer : List ℕ) (n : ℕ) → n ≤ length buffer
    → IsFront told path a front → IsReadAt told path (a + length front) buffer n → IsFront told path a (front ++ take n buffer)
front_more None path a front buffer n fits was read = inr tt
front_more (Some vs) path a front buffer n fits (inl none) read =
    inr (read.0, read.1, (more_of read.0 a front buffer n fits (rw none refl) read.2.same, read.2.below))
front_more (Some vs) path a front buffer n fits (inr has) read =
    let one = some_same has.0 read.0 (sym has.1 ∙ read.1) in
    inr (read.0, read.1, (more_of read.0 a front buffer n fits (has.2.0 ∙ ap (λ (l : List ℕ). take (length front) (drop a l)) one) read.2.same, read.2.below))

all_of : (bytes : List ℕ) (a wanted : ℕ) (front : List ℕ) → length front ≤ wanted → length bytes ≤ a + length front
    → front ≡ take (length front) (drop a bytes) → front ≡ take wanted (drop a bytes)
all_of bytes a wanted front fits ends is =
    let dropped = length-drop a bytes in
    let short : length (drop a bytes) ≤ length front = omega arith in
    is ∙ take_all (length front) (drop a bytes) short ∙ sym (take_all wanted (drop a bytes) (omega arith))

-- a read of no bytes, if the buffer has room for some, is at the file's end
pub end_of : (told : Option Tree) (path : List ℕ) (a : ℕ) (front buffer : List ℕ) (n : ℕ) → n ≡ 0 → 0 < length buffer
    → IsReadAt told path (a + length front) buffer n → IsEnd told path a front
end_of None path a front buffer n none room read = tt
end_of (Some vs) path a front buffer n none room read = (read.0, read.1, (read.2.some none room, read.2.below))

-- a buffer of which a part was written after some of the old bytes
pub part_put : (old given tail more rest : List ℕ) (done n room : ℕ) → given ≡ old → done ≤ length old → n ≤ length tail → done + n ≤ room
    → take (done + n) (take room (take done given ++ (tail ++ more) ++ rest)) ≡ take done old ++ take n tail
part_put old given tail more rest done n room same within fits below =
    let front : List ℕ = take done old ++ take n tail in
    let after : List ℕ = drop n tail ++ (more ++ rest) in
    let regrouped : (tail ++ more) ++ rest ≡ take n tail ++ after =
    append_assoc tail more rest ∙ ap (λ (l : List ℕ). l ++ (more ++ rest)) (sym (take-append-drop n tail)) ∙ append_assoc (take n tail) (drop n tail) (more ++ rest) in
    let split : take done given ++ (tail ++ more) ++ rest ≡ front ++ after =
    append_assoc (take done given) (tail ++ more) rest ∙ ap (λ (l : List ℕ). take done l ++ ((tail ++ more) ++ rest)) same ∙ ap (λ (l : List ℕ). take done old ++ l) regrouped
    ∙ sym (append_assoc (take done old) (take n tail) after) in
    let long : length front ≡ done + n =
    length-append (take done old) (take n tail) ∙ ap (λ (k : ℕ). k + length (take n tail)) (length-take-le done old within)
    ∙ ap (λ (k : ℕ). done + k) (length-take-le n tail fits) in
    let room_is : room ≡ length front + (room - (done + n)) = omega arith in
    ap (λ (l : List ℕ). take (done + n) (take room l)) split
    ∙ ap (λ (k : ℕ). take (done + n) (take k (front ++ after))) room_is
    ∙ ap (take (done + n)) (take-append-add front after (room - (done + n)))
    ∙ take_at front _ (done + n) long

-- a tree that stays the same
pub front_kept : (first second : Option Tree) (path : List ℕ) (a : ℕ) (front : List ℕ) → second ≡ first → IsFront first path a front → IsFront second path a front
front_kept first second path a front same h = rw same h
