-- How far the volumes of jobs reach that hold on them.
use Rattle.std.proofs.Common.{◌≡◌, ℕ, ◌+◌, ◌≤◌, Bool, true, false, cond, List, [], ◌∷◌, length, drop, Option, Some, None, refl, sym, ap, subst, ◌∙◌, inl, inr, arith}
use Rattle.std.specs.Prelude.{bytes_eq, fold, max, unwrap_or}
use Rattle.std.specs.List.{AllByRecursion, AllZip}
use Rattle.std.proofs.lemmas.Bool.{cases_lt, ltb-true}
use Rattle.std.proofs.lemmas.List.{length-drop, nil_from_length}
use Rattle.std.proofs.lemmas.Slice.Eq.{bytes_eq-Decides}
use Rattle.br_model.specs.Volume.{Volume, LaidBlock, AreLaidFrom}
use Rattle.br_model.specs.Job.{Span, JobRows, Job}
use Rattle.br_model.specs.Stored.{IsSpanLaid, Holds}
use Rattle.br_model.specs.SessionHolds.{bytes_of_volume}
use Rattle.br_model.proofs.ListLaws.{all_map, all_weaker}
use Rattle.br_model.proofs.SpanLaws.{everywhere, span_is_whole}
use Rattle.br_keeper.specs.Holding.{AreBlocks, HeldVolumesAreWhole, rows_in}
use Rattle.br_keeper.specs.Vouching.{end_in, end_of_jobs, end_of_spans}

-- whole blocks up to the last byte are all the blocks
to_the_end : (address : ℕ) (left : List ℕ) (end : ℕ) (bs : List LaidBlock) → AreLaidFrom address left (Some end) everywhere bs → address + length left ≤ end + 1
    → AreLaidFrom address left None everywhere bs
to_the_end address left end [] laid le =
    elim laid [
      | inl e ↦ inl e
      | inr e ↦ let above = ltb-true end address e in inl (nil_from_length left (omega (arith, le, above)))
    ]
to_the_end address left end (b ∷ bs) laid le =
    let h = laid.2 in
    let whole : h.size ≤ length left = laid.4 refl in
    let rest = to_the_end (address + h.size) (drop h.size left) end bs laid.6 (omega (arith, le, whole, length-drop h.size left)) in
    (laid.0, refl, h, laid.3, laid.4, laid.5, rest)

-- the bytes reach to this end, and are whole blocks if they end there
abbrev pub Reaches : List ℕ → ℕ → Type 0
Reaches bytes end = (end ≤ length bytes) × (end ≡ length bytes → AreBlocks bytes)

reaches_0 : (bytes : List ℕ) → Reaches bytes 0
reaches_0 bytes = (omega arith, λ e. ([], inl (nil_from_length bytes (sym e))))

reaches_both : (bytes : List ℕ) (m n : ℕ) → Reaches bytes m → Reaches bytes n → Reaches bytes (max m n)
reaches_both bytes m n p q =
    elim (cases_lt m n) [
      | inl lt ↦ let e : n ≡ max m n = omega (arith, lt) in subst (λ k. Reaches bytes k) e q
      | inr le ↦ let e : m ≡ max m n = omega (arith, le) in subst (λ k. Reaches bytes k) e p
    ]

reaches_all : {X : Type 0} (bytes : List ℕ) (g : X → ℕ) (n : ℕ) (xs : List X) → Reaches bytes n → AllByRecursion (λ x. Reaches bytes (g x)) xs
    → Reaches bytes (fold (λ end x. max end (g x)) n xs)
reaches_all bytes g n [] p all = p
reaches_all bytes g n (x ∷ xs) p all = reaches_all bytes g (max n (g x)) xs (reaches_both bytes n (g x) p all.0) all.1

-- a volume reaches to the end of a span that is laid in it
span_reaches : (volumes : List Volume) (name : List ℕ) (s : Span) (blocks : List LaidBlock) → IsSpanLaid volumes s blocks
    → Reaches (bytes_of_volume volumes name) (end_in name s)
span_reaches volumes name s blocks is = go (bytes_eq s.volume name) refl
  where
    go : (b : Bool) → bytes_eq s.volume name ≡ b → Reaches (bytes_of_volume volumes name) (cond b (s.end + 1) 0)
    go false e = reaches_0 (bytes_of_volume volumes name)
    go true e =
        let w = span_is_whole volumes s blocks is in
        let same : is.bytes ≡ bytes_of_volume volumes name =
        sym (ap (λ (o : Option (List ℕ)). unwrap_or o []) is.found) ∙ ap (bytes_of_volume volumes) ((bytes_eq-Decides s.volume name).0 e) in
        subst (λ (bytes : List ℕ). Reaches bytes (s.end + 1)) same
        (omega (arith, w.within), λ f. (is.all, to_the_end 0 is.bytes s.end is.all w.laid (omega (arith, f))))

spans_reach : (volumes : List Volume) (name : List ℕ) (spans : List Span) (blocks : List (List LaidBlock)) → AllZip (IsSpanLaid volumes) spans blocks
    → AllByRecursion (λ (s : Span). Reaches (bytes_of_volume volumes name) (end_in name s)) spans
spans_reach volumes name [] blocks laid = tt
spans_reach volumes name (s ∷ ss) [] laid = absurd laid
spans_reach volumes name (s ∷ ss) (b ∷ bs) laid = (span_reaches volumes name s b laid.0, spans_reach volumes name ss bs laid.1)

job_reaches : (volumes : List Volume) (name : List ℕ) (j : Job) → Holds volumes j
    → Reaches (bytes_of_volume volumes name) (end_of_spans name j.rows.spans)
job_reaches volumes name j holds =
    reaches_all (bytes_of_volume volumes name) (end_in name) 0 j.rows.spans (reaches_0 (bytes_of_volume volumes name))
    (spans_reach volumes name j.rows.spans holds.blocks holds.laid)

-- A volume reaches to the end of the spans of jobs that hold on it. If it ends there, it consists of
-- whole blocks.
pub volumes_reach : (volumes : List Volume) (name : List ℕ) (jobs : List Job) → AllByRecursion (Holds volumes) jobs
    → Reaches (bytes_of_volume volumes name) (end_of_jobs name (rows_in jobs))
volumes_reach volumes name jobs hold =
    let bytes = bytes_of_volume volumes name in
    reaches_all bytes (λ (r : JobRows). end_of_spans name r.spans) 0 (rows_in jobs) (reaches_0 bytes)
    (all_map (λ (r : JobRows). Reaches bytes (end_of_spans name r.spans)) (λ (j : Job). j.rows) jobs
    (all_weaker (Holds volumes) (λ (j : Job). Reaches bytes (end_of_spans name j.rows.spans)) (job_reaches volumes name) jobs hold))

pub held_volumes_are_whole_lem : HeldVolumesAreWhole
held_volumes_are_whole_lem volumes jobs name hold ends = (volumes_reach volumes name jobs hold).1 ends
