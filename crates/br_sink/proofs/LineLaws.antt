-- Fields with a byte between two.
use Rattle.std.proofs.Common.{◌≡◌, ℕ, List, [], ◌∷◌, ◌++◌, refl, ap, sym, ◌∙◌, append_assoc, get_or, length, decimal, Ok}
use Rattle.std.specs.Prelude.{ℤ, pos, map, take, drop, fold, flat_map}
use Rattle.std.specs.List.{join_with_byte}
use Rattle.br_model.specs.Text.{escaped, hexadecimal, line, signed_decimal}
use Rattle.md5.specs.Md5.{md5}
use Rattle.br_model.specs.Name.{FileKey}
use Rattle.br_model.specs.File.{Item}
use Rattle.br_model.specs.Manifest.{file_line, item_fields, key_fields}
use Rattle.br_model.specs.Attribute.{Stat, stat_numbers}

append_nil : (xs : List ℕ) → xs ++ [] ≡ xs
append_nil [] = refl
append_nil (x ∷ xs) = ap (λ ys. x ∷ ys) (append_nil xs)

-- ---- fields with a byte between two

-- a byte before every field but the first
joined : (byte : ℕ) (first : List ℕ) (fields : List (List ℕ)) → join_with_byte byte (first ∷ fields) ≡ first ++ flat_map (λ field. byte ∷ field) fields
joined byte first [] = sym (append_nil first)
joined byte first (field ∷ fields) = ap (λ t. first ++ byte ∷ t) (joined byte field fields)

commas_map : (ns : List ℤ) → flat_map (λ field. 44 ∷ field) (map signed_decimal ns) ≡ flat_map (λ n. 44 ∷ signed_decimal n) ns
commas_map [] = refl
commas_map (n ∷ ns) = ap (λ t. (44 ∷ signed_decimal n) ++ t) (commas_map ns)

-- the numbers of a file, the first and then the others
pub stat_joined : (s : Stat) (ns : List ℤ) (text front : List ℕ) → ns ≡ stat_numbers s → front ≡ text ++ signed_decimal (get_or ns 0 (pos 0))
    → front ++ flat_map (λ n. 44 ∷ signed_decimal n) (take 13 (drop 1 ns)) ≡ text ++ join_with_byte 44 (map signed_decimal (stat_numbers s))
stat_joined s ns text front same is =
    let behind : List ℤ = drop 1 (stat_numbers s) in
    let commas : List ℤ → List ℕ = λ (ms : List ℤ). flat_map (λ n. 44 ∷ signed_decimal n) ms in
    let first : front ≡ text ++ signed_decimal s.dev = is ∙ ap (λ (ms : List ℤ). text ++ signed_decimal (get_or ms 0 (pos 0))) same in
    ap (λ (ms : List ℤ). front ++ commas (take 13 (drop 1 ms))) same ∙ ap (λ t. t ++ commas behind) first ∙ append_assoc text (signed_decimal s.dev) (commas behind)
    ∙ ap (λ t. text ++ t) (sym (joined 44 (signed_decimal s.dev) (map signed_decimal behind) ∙ ap (λ t. signed_decimal s.dev ++ t) (commas_map behind)))

-- pieces before a last one
abbrev before : List (List ℕ) → List ℕ → List ℕ
before [] last = last
before (piece ∷ pieces) last = piece ++ before pieces last

-- pieces that are written one after another
written : (text last : List ℕ) (pieces : List (List ℕ)) → fold (λ t piece. t ++ piece) text pieces ++ last ≡ text ++ before pieces last
written text last [] = refl
written text last (piece ∷ pieces) = written (text ++ piece) last pieces ∙ append_assoc text piece (before pieces last)

-- what is written of a file makes its fields
pub item_chain : (text kind path numbers link size digest : List ℕ)
    → (((((text ++ 32 ∷ kind) ++ 32 ∷ path) ++ 32 ∷ []) ++ numbers) ++ 32 ∷ 61 ∷ link) ++ ((32 ∷ size) ++ (32 ∷ digest))
    ≡ text ++ 32 ∷ join_with_byte 32 (kind ∷ path ∷ numbers ∷ (61 ∷ link) ∷ size ∷ digest ∷ [])
item_chain text kind path numbers link size digest =
    written text ((32 ∷ size) ++ (32 ∷ digest)) ((32 ∷ kind) ∷ (32 ∷ path) ∷ (32 ∷ []) ∷ numbers ∷ (32 ∷ 61 ∷ link) ∷ [])

-- a letter, the key and further fields make a line
line_chain : (mark : ℕ) (text id time index field : List ℕ) (fields : List (List ℕ))
    → (((text ++ mark ∷ []) ++ 32 ∷ join_with_byte 32 (id ∷ time ∷ index ∷ [])) ++ 32 ∷ join_with_byte 32 (field ∷ fields)) ++ 10 ∷ []
    ≡ text ++ line (join_with_byte 32 ((mark ∷ []) ∷ id ∷ time ∷ index ∷ field ∷ fields))
line_chain mark text id time index field fields = simp append_assoc

-- the line of a file that is there
pub file_chain : (key : FileKey) (item : Item) (text t1 t2 t3 t4 : List ℕ) → t1 ≡ text ++ 70 ∷ []
    → t2 ≡ t1 ++ 32 ∷ join_with_byte 32 (key_fields key) → t3 ≡ t2 ++ 32 ∷ join_with_byte 32 (item_fields item) → t4 ≡ t3 ++ 10 ∷ []
    → t4 ≡ text ++ file_line (record { key = key; outcome = Ok item })
file_chain key item text t1 t2 t3 t4 mark is more end =
    end ∙ ap (λ t. t ++ 10 ∷ []) (more ∙ ap (λ t. t ++ 32 ∷ join_with_byte 32 (item_fields item)) (is ∙ ap (λ t. t ++ 32 ∷ join_with_byte 32 (key_fields key)) mark))
    ∙ line_chain 70 text (decimal key.session.id) (decimal key.session.time) (decimal key.index) (decimal item.kind)
    (escaped item.path ∷ join_with_byte 44 (map signed_decimal (stat_numbers item.stat)) ∷ (61 ∷ escaped item.link) ∷ decimal (length item.bytes) ∷ hexadecimal (md5 item.bytes) ∷ [])
