-- What `extract` is asked to do besides a plain restore.
use Rattle.std.specs.Prelude.{◌≡◌, ℕ, Bool, List, [], length, map, Vec, Option, Some, None, ⊤}
use Rattle.std.specs.Global.{Global}
use Rattle.std.specs.List.{items_where_true}
use Rattle.br_model.specs.Bootstrap.{Group}
use Rattle.br_model.specs.Restored.{Restored}
use Rattle.br_types.specs.Newest.{newest}
use Rattle.br_sink.specs.ConflictsApart.{apart, conflicts}
use Rattle.br_piece.specs.MissingLines.{report}
use Rattle.br_engine.specs.declared.restore_order.CountedBootstrap.{CountedBootstrap}
use Rattle.br_types.specs.declared.wanted.Copies.{Copies}
use Rattle.br_types.specs.declared.wanted.Copies.TheVariants.{All, Newest}
use Rattle.br_types.specs.declared.wanted.Stops.{Stops}
use Rattle.br_types.specs.declared.wanted.Stops.TheVariants.{AtFirst, Never}
use Rattle.br_types.specs.declared.wanted.Wanted.{Wanted}
use Rattle.br_types.specs.declared.wanted.Gaps.{Gaps}
use Rattle.br_types.specs.declared.wanted.Gaps.TheVariants.{Unreported, Reported}

-- the wishes for a plain restore: all copies, no report, and a delivery that stops at the first
-- file that can't be put
abbrev pub plain : Wanted
plain = record { copies = All; gaps = Unreported; stops = AtFirst }

-- the outcomes of the wanted copies: all, or those without a newer copy among the outcomes
abbrev pub of_copies : Copies → List Restored → List Restored
of_copies All rs = rs
of_copies Newest rs = newest rs

-- those of them that are put: all, or without the files that conflict with one before
abbrev pub kept : Stops → List Restored → List Restored
kept AtFirst rs = rs
kept Never rs = apart rs

-- the paths of the files that conflict, if they are left out
abbrev pub conflicting : Stops → List Restored → List (List ℕ)
conflicting AtFirst rs = []
conflicting Never rs = conflicts rs

-- the outcomes that are delivered
abbrev pub delivered : Wanted → List Restored → List Restored
delivered wanted rs = kept wanted.stops (of_copies wanted.copies rs)

-- the paths of the files that are left out since they conflict with one that is delivered
abbrev pub left_out : Wanted → List Restored → List (List ℕ)
left_out wanted rs = conflicting wanted.stops (of_copies wanted.copies rs)

-- the lines of what is missing, if they are reported: of the indexes that the bootstrap asks for
-- without an outcome, and of the groups with fewer outcomes than they count
abbrev pub reported : Gaps → List Group → List (Option ℕ) → List Restored → List ℕ
reported Unreported groups counts rs = []
reported Reported groups counts rs = report groups counts (map (λ (r : Restored). r.key) rs)

-- the same for what is asked for
abbrev pub reported_for : Gaps → CountedBootstrap → List Restored → List ℕ
reported_for gaps asked rs = reported gaps asked.bootstrap.now asked.counts.now rs

-- the elements that are delivered, by flags; without flags all are
abbrev pub Flags : Type 0
Flags = Option (Vec Bool Global)

-- if there are flags, there is one for each of these elements
abbrev pub HaveFlags : {A : Type 0} → Flags → List A → Type 0
HaveFlags None xs = ⊤
HaveFlags (Some flags) xs = length flags.items ≡ length xs

-- the elements that are left by their flags
abbrev pub left_by : {A : Type 0} → Flags → List A → List A
left_by None xs = xs
left_by (Some flags) xs = items_where_true flags.items xs
