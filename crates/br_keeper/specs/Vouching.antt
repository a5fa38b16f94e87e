-- The lengths of volumes that a keeper vouches for.
use Rattle.std.specs.Prelude.{ℕ, ◌+◌, ◌-◌, ◌^◌, Bool, true, false, not, if◌then◌else◌, List, [], ◌∷◌, map, filter, fold, find, max, min, bytes_eq, Option, is_some}
use Rattle.std.specs.Option.{option_map_or}
use Rattle.br_model.specs.Job.{JobRows, Span}
use Rattle.br_model.specs.Session.{Place}
use Rattle.br_keeper.specs.declared.vouched_lengths.Vouch.{Vouch}

-- the entry of a volume that a commit has begun to write to
abbrev pub entry_of : List Vouch → List ℕ → Option Vouch
entry_of vouches volume = find (λ (v : Vouch). bytes_eq v.vol volume) vouches

-- an append to the volume, or its sync, has failed
abbrev pub is_retired : List Vouch → List ℕ → Bool
is_retired vouches volume = option_map_or (λ (v : Vouch). v.is_retired) (entry_of vouches volume) false

-- the end of a span, exclusive, if it is on the volume; else 0
abbrev pub end_in : List ℕ → Span → ℕ
end_in volume s = if bytes_eq s.volume volume then s.end + 1 else 0

-- the end of a volume's spans, exclusive; 0 if there is none
abbrev pub end_of_spans : List ℕ → List Span → ℕ
end_of_spans volume spans = fold (λ end s. max end (end_in volume s)) 0 spans

-- the end of the spans of jobs on a volume, exclusive; 0 if there is none
abbrev pub end_of_jobs : List ℕ → List JobRows → ℕ
end_of_jobs volume jobs = fold (λ end (j : JobRows). max end (end_of_spans volume j.spans)) 0 jobs

-- the vouched length of a volume: that of its entry, or one past the greatest end of its spans in
-- the catalogue
abbrev pub vouched : List Vouch → List JobRows → List ℕ → ℕ
vouched vouches jobs volume = option_map_or (λ (v : Vouch). v.bytes) (entry_of vouches volume) (end_of_jobs volume jobs)

-- the vouched length of the volume of each place
abbrev pub starts_of : List Vouch → List JobRows → List Place → List (List ℕ × ℕ)
starts_of vouches jobs places = map (λ (p : Place). (p.volume, vouched vouches jobs p.volume)) places

-- the entry of a volume of which no append and no sync has failed
abbrev pub new_entry : List ℕ × ℕ → Vouch
new_entry start = record { vol = start.0; bytes = start.1; is_retired = false }

-- entries of the volumes that have none
abbrev pub new_entries : List Vouch → List (List ℕ × ℕ) → List Vouch
new_entries vouches starts = map new_entry (filter (λ (s : List ℕ × ℕ). not (is_some (entry_of vouches s.0))) starts)

-- the entries after the entry of a volume was changed
abbrev pub changed : (Vouch → Vouch) → List ℕ → List Vouch → List Vouch
changed f volume [] = []
changed f volume (v ∷ vs) = if bytes_eq v.vol volume then f v ∷ vs else v ∷ changed f volume vs

-- more bytes are vouched for, at most 2 ^ 64 - 1
abbrev pub longer : ℕ → Vouch → Vouch
longer by v = record v { bytes = min (v.bytes + by) (2 ^ 64 - 1) }

-- an append or a sync has failed
abbrev pub retired : Vouch → Vouch
retired v = record v { is_retired = true }
