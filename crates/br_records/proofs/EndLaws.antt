-- The end of a file, record by record.
use Rattle.std.proofs.Common.{◌≡◌, ℕ, ◌+◌, ◌<◌, ◌≤◌, length, get_or, drop, List, Option, Some, None, Result, Ok, Err, ap, sym, ◌∙◌}
use Rattle.std.proofs.lemmas.List.{at_drop_more, at_drop_all}
use Rattle.br_model.specs.Answer.{◌>>=◌, IsRefusal, refused_as}
use Rattle.br_model.specs.File.{Fault, fault}
use Rattle.br_model.specs.Record.{Record}
use Rattle.br_records.specs.Outline.{end_after, end_from}

-- the end after some records and those that follow
abbrev pub goes_on : Result ℕ ℕ → List Record → Result ℕ ℕ
goes_on end rest = end >>= λ next. end_from next rest

-- from one record on: it, and then the others
end_step : (end : ℕ) (records : List Record) (i : ℕ) (r : Record) → i < length records → r ≡ get_or records i r
    → end_from end (drop i records) ≡ goes_on (end_after end r) (drop (i + 1) records)
unfolding end_from
end_step end records i r inside is =
    at_drop_more (end_from end) records i r inside ∙ ap (λ (x : Record). goes_on (end_after end x) (drop (i + 1) records)) (sym is)

pub end_more : (end next : ℕ) (records : List Record) (i : ℕ) (r : Record) → i < length records → r ≡ get_or records i r → refused_as fault (end_after end r) ≡ Ok next
    → end_from 0 records ≡ end_from end (drop i records) → end_from 0 records ≡ end_from next (drop (i + 1) records)
end_more end next records i r inside is one so_far = so_far ∙ end_step end records i r inside is ∙ go (end_after end r) one
  where
    go : (s : Result ℕ ℕ) → refused_as fault s ≡ Ok next → goes_on s (drop (i + 1) records) ≡ end_from next (drop (i + 1) records)
    go (Ok x) e = ap (λ (n : ℕ). end_from n (drop (i + 1) records)) (cc)
    go (Err n) e = absurd cc

pub end_refused : (end : ℕ) (records : List Record) (i : ℕ) (r : Record) → i < length records → r ≡ get_or records i r → (why : Option Fault)
    → IsRefusal why (refused_as fault (end_after end r)) → end_from 0 records ≡ end_from end (drop i records) → IsRefusal why (refused_as fault (end_from 0 records))
end_refused end records i r inside is None one so_far = tt
end_refused end records i r inside is (Some f) one so_far = ap (refused_as fault) (so_far ∙ end_step end records i r inside is) ∙ go (end_after end r) one
  where
    go : (s : Result ℕ ℕ) → refused_as fault s ≡ Err f → refused_as fault (goes_on s (drop (i + 1) records)) ≡ Err f
    go (Ok x) e = absurd cc
    go (Err n) e = e

pub end_done : (end : ℕ) (records : List Record) (i : ℕ) → length records ≤ i → end_from 0 records ≡ end_from end (drop i records)
    → refused_as fault (end_from 0 records) ≡ Ok end
unfolding end_from
end_done end records i past so_far = ap (refused_as fault) (so_far ∙ at_drop_all (end_from end) records i past)
