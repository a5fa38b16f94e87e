-- Blocks that are appended to volumes with vouched lengths.
use Rattle.std.specs.Prelude.{◌≡◌, ℕ, ◌≤◌, ◌⊎◌, Bool, true, false, List, ◌∷◌, ◌++◌, length, fold, bytes_eq, Option, Some, None, Result, Ok, Err, OnOk, Vec, ⊤}
use Rattle.std.specs.Global.{Global}
use Rattle.std.specs.List.{AllByRecursion, list_any}
use Rattle.br_model.specs.Job.{Span}
use Rattle.br_model.specs.Volume.{Volume}
use Rattle.br_model.specs.SessionHolds.{bytes_of_volume}
use Rattle.br_volume.specs.Store.{AppendsInPartTo, AreAppendedInTurn, Failures, FailsOn, IsDurableIn, IsLengthIn}
use Rattle.br_keeper.specs.declared.vouched_lengths.Vouch.{Vouch}
use Rattle.br_keeper.specs.declared.fault.KeeperFault.{KeeperFault}
use Rattle.br_keeper.specs.declared.fault.KeeperFault.TheVariants.{Memory, DuplicateJob, DuplicateSession, BadRow, RetiredVolume, Volume as VolumeFails, Store, StoredNotPublished, BadCatalogue}
use Rattle.br_keeper.specs.Vouching.{is_retired, changed, longer, retired, new_entries}

-- the volumes, if the store tells them, its failed calls, and the vouched lengths of the volumes
pub record Shelf : Type 0 where
  pub volumes : Option (List Volume)
  pub failures : Failures
  pub vouches : List Vouch

abbrev pub shelf : Option (List Volume) → Failures → List Vouch → Shelf
shelf volumes failures vouches = record { volumes = volumes; failures = failures; vouches = vouches }

-- a store of volumes with the vouched lengths
abbrev pub shelf_in : {W : Type 0} → (W → Option (List Volume)) → (W → Failures) → W → List Vouch → Shelf
shelf_in holds failures volumes vouches = shelf (holds volumes) (failures volumes) vouches

-- no volume and no vouched length was changed
pub record IsKept (old new : Shelf) : Type 0 where
  pub volumes_are : new.volumes ≡ old.volumes
  pub vouches_are : new.vouches ≡ old.vouches
  pub counted : old.failures.number ≤ new.failures.number

-- ---- before the first append

-- the volume is not retired, and has exactly this length, if it is told
pub record IsVouched (vouches : List Vouch) (volumes : Option (List Volume)) (start : List ℕ × ℕ) : Type 0 where
  pub serves : is_retired vouches start.0 ≡ false
  pub bytes_are : IsLengthIn volumes start.0 start.1

-- the volume has another length, if it is told
abbrev pub HasOtherLength : Option (List Volume) → List ℕ × ℕ → Type 0
HasOtherLength None start = ⊤
HasOtherLength (Some volumes) start = length (bytes_of_volume volumes start.0) ≡ start.1 → ⊥

-- The volume may be written to. Or it is retired, or has another length; or it is not retired, and
-- the store failed to return its length.
abbrev pub ChecksVolume : List Vouch → Option (List Volume) → Failures → Failures → List ℕ × ℕ → Result (Unit {0}) KeeperFault → Type 0
ChecksVolume vouches volumes before after start (Ok u) = IsVouched vouches volumes start
ChecksVolume vouches volumes before after start (Err why) =
    ((why ≡ RetiredVolume) × ((is_retired vouches start.0 ≡ true) ⊎ HasOtherLength volumes start))
    ⊎ ((why ≡ VolumeFails) × (is_retired vouches start.0 ≡ false) × FailsOn start.0 before after)

-- the first of the volumes that may not be written to
pub record IsFirstRefused (vouches : List Vouch) (volumes : Option (List Volume)) (starts : List (List ℕ × ℕ)) (P : List ℕ × ℕ → Type 0) : Type 0 where
  pub earlier : List (List ℕ × ℕ)
  pub start : List ℕ × ℕ
  pub rest : List (List ℕ × ℕ)
  pub split : earlier ++ start ∷ rest ≡ starts
  pub serve : AllByRecursion (IsVouched vouches volumes) earlier
  pub refused : P start

-- 43: the volume is retired, or has another length
abbrev pub IsRetired : List Vouch → Option (List Volume) → List (List ℕ × ℕ) → Type 0
IsRetired vouches volumes starts =
    IsFirstRefused vouches volumes starts (λ start. (is_retired vouches start.0 ≡ true) ⊎ HasOtherLength volumes start)

-- 44 before the first append: the volume is not retired, and the store failed to return its length
abbrev pub LacksLength : List Vouch → Option (List Volume) → Failures → Failures → List (List ℕ × ℕ) → Type 0
LacksLength vouches volumes before after starts =
    IsFirstRefused vouches volumes starts (λ start. (is_retired vouches start.0 ≡ false) × FailsOn start.0 before after)

-- All volumes may be written to; or one is retired, and those before it may be written to; or the
-- store failed to return the length of one, and those before it may be written to.
abbrev pub ChecksVolumes : List Vouch → Option (List Volume) → Failures → Failures → List (List ℕ × ℕ) → Result (Unit {0}) KeeperFault → Type 0
ChecksVolumes vouches volumes before after starts (Ok u) = AllByRecursion (IsVouched vouches volumes) starts
ChecksVolumes vouches volumes before after starts (Err why) =
    ((why ≡ RetiredVolume) × IsRetired vouches volumes starts)
    ⊎ ((why ≡ VolumeFails) × LacksLength vouches volumes before after starts)

-- ---- appends

-- A store tells its volumes always or never. If it tells them, the blocks are appended one after
-- another.
abbrev pub AppendInTurn : List (List ℕ × List ℕ) → Option (List Volume) → Option (List Volume) → Type 0
AppendInTurn blocks None None = ⊤
AppendInTurn blocks (Some earlier) (Some later) = AreAppendedInTurn blocks earlier later
AppendInTurn blocks None (Some later) = ⊥
AppendInTurn blocks (Some earlier) None = ⊥

-- the vouched lengths after blocks were appended
abbrev pub after_blocks : List (List ℕ × List ℕ) → List Vouch → List Vouch
after_blocks blocks vouches = fold (λ vs (b : List ℕ × List ℕ). changed (longer (length b.1)) b.0 vs) vouches blocks

-- all blocks are appended, and no call of the store has failed
pub record AreWritten (blocks : List (List ℕ × List ℕ)) (old new : Shelf) : Type 0 where
  pub appended : AppendInTurn blocks old.volumes new.volumes
  pub vouches_are : new.vouches ≡ after_blocks blocks old.vouches
  pub clean : new.failures ≡ old.failures

-- the append of a block failed: those before it are appended, and at most a part of it; its volume
-- is retired
pub record IsCutOff (blocks : List (List ℕ × List ℕ)) (old new : Shelf) : Type 0 where
  pub done : List (List ℕ × List ℕ)
  pub block : List ℕ × List ℕ
  pub rest : List (List ℕ × List ℕ)
  pub split : done ++ block ∷ rest ≡ blocks
  pub middle : Option (List Volume)
  pub appended : AppendInTurn done old.volumes middle
  pub in_part : AppendsInPartTo block.0 block.1 middle new.volumes
  pub vouches_are : new.vouches ≡ changed retired block.0 (after_blocks done old.vouches)
  pub failed : FailsOn block.0 old.failures new.failures

-- all blocks are appended, or the append of one failed
abbrev pub AppendsAll : List (List ℕ × List ℕ) → Shelf → Shelf → Result (Unit {0}) KeeperFault → Type 0
AppendsAll blocks old new (Ok u) = AreWritten blocks old new
AppendsAll blocks old new (Err why) = (why ≡ VolumeFails) × IsCutOff blocks old new

-- the same, for a store of volumes before and after
abbrev pub AppendsAllTo : {W : Type 0} → (W → Option (List Volume)) → (W → Failures) → List (List ℕ × List ℕ) → W → W → List Vouch → List Vouch → Result (Unit {0}) KeeperFault → Type 0
AppendsAllTo holds failures blocks old new before after result =
    AppendsAll blocks (shelf_in holds failures old before) (shelf_in holds failures new after) result

-- ---- syncs

-- the sync of a volume failed: it is retired, and all else is as before
pub record FailsSync (volume : List ℕ) (old new : Shelf) : Type 0 where
  pub volumes_are : new.volumes ≡ old.volumes
  pub vouches_are : new.vouches ≡ changed retired volume old.vouches
  pub failed : FailsOn volume old.failures new.failures

-- the volume is synced, and no call of the store has failed; or its sync failed
abbrev pub SyncsOne : List ℕ → Shelf → Shelf → Result (Unit {0}) KeeperFault → Type 0
SyncsOne volume old new (Ok u) = new ≡ old
SyncsOne volume old new (Err why) = (why ≡ VolumeFails) × FailsSync volume old new

-- the same, for a store of volumes before and after
abbrev pub SyncsOneTo : {W : Type 0} → (W → Option (List Volume)) → (W → Failures) → List ℕ → W → W → List Vouch → List Vouch → Result (Unit {0}) KeeperFault → Type 0
SyncsOneTo holds failures volume old new before after result =
    SyncsOne volume (shelf_in holds failures old before) (shelf_in holds failures new after) result

-- the sync of the volume of one of these spans failed
pub record IsUnsynced (spans : List Span) (old new : Shelf) : Type 0 where
  pub earlier : List Span
  pub span : Span
  pub rest : List Span
  pub split : earlier ++ span ∷ rest ≡ spans
  pub failed : FailsSync span.volume old new

-- all volumes of the spans are synced, and no call of the store has failed; or the sync of one failed
abbrev pub SyncsAll : List Span → Shelf → Shelf → Result (Unit {0}) KeeperFault → Type 0
SyncsAll spans old new (Ok u) = new ≡ old
SyncsAll spans old new (Err why) = (why ≡ VolumeFails) × IsUnsynced spans old new

-- the same, for a store of volumes before and after
abbrev pub SyncsAllTo : {W : Type 0} → (W → Option (List Volume)) → (W → Failures) → List Span → W → W → List Vouch → List Vouch → Result (Unit {0}) KeeperFault → Type 0
SyncsAllTo holds failures spans old new before after result =
    SyncsAll spans (shelf_in holds failures old before) (shelf_in holds failures new after) result

-- whether one of the spans is on the volume
abbrev pub is_on_any : List Span → List ℕ → Bool
is_on_any spans volume = list_any (λ (s : Span). bytes_eq s.volume volume) spans

-- if the store tells its volumes and what is durable, all bytes of the volume of each span are durable
abbrev pub AreDurable : List Span → Option (List Volume) → Option (List Volume) → Type 0
AreDurable spans told durable = AllByRecursion (λ (s : Span). IsDurableIn told durable s.volume) spans

-- if the volumes of the spans are durable, then after `Ok` this volume is durable too
abbrev pub SyncsAfter : {W : Type 0} → (W → Option (List Volume)) → (W → Option (List Volume)) → List Span → List ℕ → W → W → Result (Unit {0}) KeeperFault → Type 0
SyncsAfter holds durable spans volume old new result =
    AreDurable spans (holds old) (durable old) → OnOk result (IsDurableIn (holds new) (durable new) volume)

-- ---- all of it

-- the volumes with entries for these
abbrev pub with_entries : List (List ℕ × ℕ) → Shelf → Shelf
with_entries starts s = shelf s.volumes s.failures (s.vouches ++ new_entries s.vouches starts)

-- the blocks are appended to volumes that have exactly these lengths
pub record AreWrittenFrom (starts : List (List ℕ × ℕ)) (blocks : List (List ℕ × List ℕ)) (old new : Shelf) : Type 0 where
  pub serve : AllByRecursion (IsVouched old.vouches old.volumes) starts
  pub written : AreWritten blocks (with_entries starts old) new

-- an append to one of them failed
pub record IsCutOffFrom (starts : List (List ℕ × ℕ)) (blocks : List (List ℕ × List ℕ)) (old new : Shelf) : Type 0 where
  pub serve : AllByRecursion (IsVouched old.vouches old.volumes) starts
  pub cut_off : IsCutOff blocks (with_entries starts old) new

-- all blocks are appended to volumes that have exactly these lengths, and the sync of the volume of
-- one of these spans failed
pub record IsUnsyncedFrom (starts : List (List ℕ × ℕ)) (blocks : List (List ℕ × List ℕ)) (spans : List Span) (old new : Shelf) : Type 0 where
  pub serve : AllByRecursion (IsVouched old.vouches old.volumes) starts
  pub middle : Shelf
  pub written : AreWritten blocks (with_entries starts old) middle
  pub unsynced : IsUnsynced spans middle new

-- the store failed to return the length of one of them, and nothing is changed
pub record IsLengthRefused (starts : List (List ℕ × ℕ)) (old new : Shelf) : Type 0 where
  pub kept : IsKept old new
  pub first : LacksLength old.vouches old.volumes old.failures new.failures starts

-- 44: the store did not return a length, or an append failed, or a sync
abbrev pub FailsVolume : List (List ℕ × ℕ) → List (List ℕ × List ℕ) → List Span → Shelf → Shelf → Type 0
FailsVolume starts blocks spans old new =
    IsLengthRefused starts old new ⊎ (IsCutOffFrom starts blocks old new ⊎ IsUnsyncedFrom starts blocks spans old new)

-- Out of memory and 43 come before the first append.
abbrev pub WritesBlocks : List (List ℕ × ℕ) → List (List ℕ × List ℕ) → List Span → Shelf → Shelf → Result (Unit {0}) KeeperFault → Type 0
WritesBlocks starts blocks spans old new (Ok u) = AreWrittenFrom starts blocks old new
WritesBlocks starts blocks spans old new (Err Memory) = IsKept old new
WritesBlocks starts blocks spans old new (Err RetiredVolume) = IsKept old new × IsRetired old.vouches old.volumes starts
WritesBlocks starts blocks spans old new (Err VolumeFails) = FailsVolume starts blocks spans old new
WritesBlocks starts blocks spans old new (Err DuplicateJob) = ⊥
WritesBlocks starts blocks spans old new (Err DuplicateSession) = ⊥
WritesBlocks starts blocks spans old new (Err BadRow) = ⊥
WritesBlocks starts blocks spans old new (Err Store) = ⊥
WritesBlocks starts blocks spans old new (Err StoredNotPublished) = ⊥
WritesBlocks starts blocks spans old new (Err BadCatalogue) = ⊥

-- the same, for a store of volumes before and after
abbrev pub WritesBlocksTo : {W : Type 0} → (W → Option (List Volume)) → (W → Failures) → List (List ℕ × ℕ) → List (List ℕ × List ℕ) → List Span → W → W → Vec Vouch Global → Vec Vouch Global → Result (Unit {0}) KeeperFault → Type 0
WritesBlocksTo holds failures starts blocks spans old new before after result =
    WritesBlocks starts blocks spans (shelf_in holds failures old before.items) (shelf_in holds failures new after.items) result
