-- The plain data of hits, one hit after another.
use Rattle.std.proofs.Common.{◌≡◌, ℕ, List, [], ◌∷◌, ◌++◌, sym, ap, ◌∙◌, append_assoc}
use Rattle.std.specs.Prelude.{nat_abs}
use Rattle.std.proofs.lemmas.List.{append-nil}
use Rattle.br_model.specs.Meaning.{Hit}
use Rattle.br_join.specs.Plain.{plain_bytes, plain_of}
use Rattle.br_records.specs.Records.{fragments}

-- with the plain data of one hit more
pub plain_one_more : (hits : List Hit) (h : Hit) → plain_bytes (fragments (hits ++ h ∷ [])) ≡ plain_bytes (fragments hits) ++ plain_of (nat_abs h.fragment.stream) h.fragment.bytes
plain_one_more [] h = append-nil (plain_of (nat_abs h.fragment.stream) h.fragment.bytes)
plain_one_more (g ∷ gs) h =
    ap (λ (bytes : List ℕ). plain_of (nat_abs g.fragment.stream) g.fragment.bytes ++ bytes) (plain_one_more gs h)
    ∙ sym (append_assoc (plain_of (nat_abs g.fragment.stream) g.fragment.bytes) (plain_bytes (fragments gs)) (plain_of (nat_abs h.fragment.stream) h.fragment.bytes))
