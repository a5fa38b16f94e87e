-- The names of the volumes of spans, read from one on.
use Rattle.std.proofs.Common.{◌≡◌, ℕ, ◌+◌, ◌<◌, ◌≤◌, length, get_or, drop, List, ◌∷◌, ◌++◌, sym, ap, ◌∙◌, append_assoc, append-nil}
use Rattle.std.proofs.lemmas.List.{at_drop_more, at_drop_all}
use Rattle.br_model.specs.Job.{Span}
use Rattle.br_jobs.specs.ListingLine.{later_text, next_text}

-- one span more
pub later_more : (spans : List Span) (i : ℕ) (s : Span) (last name next before after all : List ℕ) → i < length spans → s ≡ get_or spans i s → name ≡ s.volume → next ≡ s.volume
    → after ≡ before ++ next_text last name → before ++ later_text last (drop i spans) ≡ all → after ++ later_text next (drop (i + 1) spans) ≡ all
unfolding later_text
later_more spans i s last name next before after all inside is named going pushed so_far =
    let rest = later_text s.volume (drop (i + 1) spans) in
    let step : later_text last (drop i spans) ≡ next_text last s.volume ++ rest =
    at_drop_more (later_text last) spans i s inside ∙ ap (λ (t : Span). later_text last (t ∷ drop (i + 1) spans)) (sym is) in
    let put : after ≡ before ++ next_text last s.volume = pushed ∙ ap (λ (v : List ℕ). before ++ next_text last v) named in
    ap (λ (v : List ℕ). after ++ later_text v (drop (i + 1) spans)) going
    ∙ ap (λ (text : List ℕ). text ++ rest) put ∙ append_assoc before (next_text last s.volume) rest ∙ ap (λ (text : List ℕ). before ++ text) (sym step) ∙ so_far

-- after the last span
pub later_done : (spans : List Span) (i : ℕ) (last before all : List ℕ) → length spans ≤ i → before ++ later_text last (drop i spans) ≡ all → before ≡ all
unfolding later_text
later_done spans i last before all past so_far =
    sym (append-nil before) ∙ ap (λ (text : List ℕ). before ++ text) (sym (at_drop_all (later_text last) spans i past)) ∙ so_far
