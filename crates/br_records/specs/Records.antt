-- Hits of one file as fragments and as bytes.
use Rattle.std.specs.Prelude.{ℕ, List, ◌++◌, map, flat_map, Result, Ok, Err}
use Rattle.br_model.specs.Block.{Fragment}
use Rattle.br_model.specs.Meaning.{Hit}

-- the fragments of the hits
abbrev pub fragments : List Hit → List Fragment
fragments hits = map (λ (h : Hit). h.fragment) hits

-- the bytes of the fragments, one after another
abbrev pub bytes_in : List Hit → List ℕ
bytes_in hits = flat_map (λ (h : Hit). h.fragment.bytes) hits

-- a list that was read, appended to what was read before it
abbrev pub prefixed : {A E : Type 0} → List A → Result (List A) E → Result (List A) E
prefixed front (Ok more) = Ok (front ++ more)
prefixed front (Err e) = Err e
