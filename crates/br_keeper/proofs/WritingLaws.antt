-- Blocks that are appended one after another, and the volumes that are tested before.
use Rattle.std.proofs.Common.{◌≡◌, ℕ, ◌+◌, ◌<◌, ◌≤◌, ◌⊎◌, Bool, true, false, ◌||◌, zero, suc, List, [], ◌∷◌, ◌++◌, length, take, drop, get_or, Option, Some, None, Result, Ok, Err, refl, sym, ap, subst, ◌∙◌, inl, inr, arith, append_assoc}
use Rattle.std.proofs.lemmas.List.{take_more, map-append}
use Rattle.std.proofs.lemmas.List.Sums.{fold-append}
use Rattle.std.proofs.lemmas.Slice.Eq.{bytes_eq-Decides}
use Rattle.std.specs.Global.{Vec}
use Rattle.std.specs.List.{AllByRecursion}
use Rattle.std.specs.Prelude.{bytes_eq}
use Rattle.br_model.specs.Job.{Span}
use Rattle.br_model.specs.Volume.{Volume}
use Rattle.br_model.proofs.ListLaws.{all_append}
use Rattle.br_volume.specs.Store.{AppendsTo, AppendsInPartTo, Failures, FailsOn, IsDurableIn, Lasts}
use Rattle.br_keeper.specs.declared.vouched_lengths.Vouch.{Vouch}
use Rattle.br_keeper.specs.declared.fault.KeeperFault.{KeeperFault}
use Rattle.br_history.specs.Preparing.{seen}
use Rattle.br_keeper.specs.Vouching.{changed, is_retired, longer, new_entries, retired}
use Rattle.br_keeper.specs.Writing.{Shelf, AppendInTurn, AppendsAll, AreDurable, AreWritten, ChecksVolume, ChecksVolumes, FailsSync, HasOtherLength, IsCutOff, IsKept, IsVouched, SyncsAll, SyncsOne, WritesBlocks}
use Rattle.br_keeper.specs.Writing.{after_blocks, is_on_any, shelf, with_entries}
use Rattle.br_volume.proofs.AppendLaws.{in_turn_more}

-- ---- lists up to a place

-- the part up to a place, the element there, and the rest
pub split_at : {X : Type 0} (xs : List X) (i : ℕ) (x : X) → i < length xs → x ≡ get_or xs i x → take i xs ++ x ∷ drop (suc i) xs ≡ xs
split_at [] i x lt is = absurd (omega (arith, lt))
split_at (y ∷ ys) zero x lt is = ap (λ z. z ∷ ys) is
split_at (y ∷ ys) (suc i) x lt is = ap (λ zs. y ∷ zs) (split_at ys i x (omega (arith, lt)) is)

-- a fact of one element more
pub all_next : {X : Type 0} (P : X → Type 0) (xs : List X) (i : ℕ) (x : X) → i < length xs → x ≡ get_or xs i x → AllByRecursion P (take i xs) → P x
    → AllByRecursion P (take (i + 1) xs)
all_next {X} P xs i x lt is all one =
    subst (λ (ys : List X). AllByRecursion P ys) (sym (take_more xs i x lt ∙ ap (λ (y : X). take i xs ++ y ∷ []) (sym is)))
    (all_append P (take i xs) (x ∷ []) all (one, tt))

-- ---- blocks in turn

turn_more : (blocks : List (List ℕ × List ℕ)) (block : List ℕ × List ℕ) (earlier middle later : Option (List Volume)) → AppendInTurn blocks earlier middle
    → AppendsTo block.0 block.1 middle later → AppendInTurn (blocks ++ block ∷ []) earlier later
turn_more blocks block None None None is one = tt
turn_more blocks block None None (Some c) is one = one
turn_more blocks block None (Some b) later is one = absurd is
turn_more blocks block (Some a) None later is one = absurd is
turn_more blocks block (Some a) (Some b) None is one = one
turn_more blocks block (Some a) (Some b) (Some c) is one = in_turn_more blocks block a b c is one

-- no block
turn_none : (volumes : Option (List Volume)) → AppendInTurn [] volumes volumes
turn_none None = tt
turn_none (Some vs) = refl

-- what is seen of one block more
seen_next : (blocks : List (List ℕ × Vec ℕ)) (i : ℕ) (block : List ℕ × Vec ℕ) → i < length blocks → block ≡ get_or blocks i block
    → seen (take (i + 1) blocks) ≡ seen (take i blocks) ++ (block.0, block.1.items) ∷ []
seen_next blocks i block lt is =
    ap seen (take_more blocks i block lt ∙ ap (λ (b : List ℕ × Vec ℕ). take i blocks ++ b ∷ []) (sym is))
    ∙ map-append (λ (b : List ℕ × Vec ℕ). (b.0, b.1.items)) (take i blocks) (block ∷ [])

after_next : (blocks : List (List ℕ × List ℕ)) (block : List ℕ × List ℕ) (vouches : List Vouch)
    → after_blocks (blocks ++ block ∷ []) vouches ≡ changed (longer (length block.1)) block.0 (after_blocks blocks vouches)
after_next blocks block vouches = fold-append (λ vs (b : List ℕ × List ℕ). changed (longer (length b.1)) b.0 vs) vouches blocks (block ∷ [])

-- no block was appended yet
pub written_none : (s : Shelf) → AreWritten [] s s
written_none s = record { appended = turn_none s.volumes; vouches_are = refl; clean = refl }

-- one more was
written_more : (blocks : List (List ℕ × List ℕ)) (block : List ℕ × List ℕ) (old middle new : Shelf) → AreWritten blocks old middle
    → AppendsTo block.0 block.1 middle.volumes new.volumes → new.vouches ≡ changed (longer (length block.1)) block.0 middle.vouches → new.failures ≡ middle.failures
    → AreWritten (blocks ++ block ∷ []) old new
written_more blocks block old middle new is one vouches clean = record {
  appended = turn_more blocks block old.volumes middle.volumes new.volumes is.appended one;
  vouches_are = vouches ∙ ap (changed (longer (length block.1)) block.0) is.vouches_are ∙ sym (after_next blocks block old.vouches);
  clean = clean ∙ is.clean;
}

pub written_next : (blocks : List (List ℕ × Vec ℕ)) (i : ℕ) (block : List ℕ × Vec ℕ) (old middle new : Shelf) → i < length blocks → block ≡ get_or blocks i block
    → AreWritten (seen (take i blocks)) old middle
    → AppendsTo block.0 block.1.items middle.volumes new.volumes → new.vouches ≡ changed (longer (length block.1.items)) block.0 middle.vouches
    → new.failures ≡ middle.failures → AreWritten (seen (take (i + 1) blocks)) old new
written_next blocks i block old middle new lt is before one vouches clean =
    subst (λ (bs : List (List ℕ × List ℕ)). AreWritten bs old new) (sym (seen_next blocks i block lt is))
    (written_more (seen (take i blocks)) (block.0, block.1.items) old middle new before one vouches clean)

-- the append of the next failed
pub cut_off : (blocks : List (List ℕ × Vec ℕ)) (i : ℕ) (block : List ℕ × Vec ℕ) (old middle new : Shelf) → i < length blocks → block ≡ get_or blocks i block
    → AreWritten (seen (take i blocks)) old middle
    → AppendsInPartTo block.0 block.1.items middle.volumes new.volumes → new.vouches ≡ changed retired block.0 middle.vouches
    → FailsOn block.0 middle.failures new.failures → IsCutOff (seen blocks) old new
cut_off blocks i block old middle new lt is before part vouches failed = record {
  done = seen (take i blocks);
  block = (block.0, block.1.items);
  rest = seen (drop (suc i) blocks);
  split =
      sym (map-append (λ (b : List ℕ × Vec ℕ). (b.0, b.1.items)) (take i blocks) (block ∷ drop (suc i) blocks))
      ∙ ap seen (split_at blocks i block lt is);
  middle = middle.volumes;
  appended = before.appended;
  in_part = part;
  vouches_are = vouches ∙ ap (changed retired block.0) before.vouches_are;
  failed = (omega (arith, ap (λ (f : Failures). f.number) before.clean, failed.0), failed.1);
}

-- ---- from an earlier count of failures on

pub written_since : (blocks : List (List ℕ × List ℕ)) (old middle new : Shelf) → middle.volumes ≡ old.volumes → middle.vouches ≡ old.vouches → middle.failures ≡ old.failures
    → AreWritten blocks middle new → AreWritten blocks old new
written_since blocks old middle new volumes vouches clean is = record {
  appended = subst (λ (vs : Option (List Volume)). AppendInTurn blocks vs new.volumes) volumes is.appended;
  vouches_are = is.vouches_are ∙ ap (after_blocks blocks) vouches;
  clean = is.clean ∙ clean;
}

pub cut_off_since : (blocks : List (List ℕ × List ℕ)) (old middle new : Shelf) → middle.volumes ≡ old.volumes → middle.vouches ≡ old.vouches → old.failures.number ≤ middle.failures.number
    → IsCutOff blocks middle new → IsCutOff blocks old new
cut_off_since blocks old middle new volumes vouches counted is = record {
  done = is.done;
  block = is.block;
  rest = is.rest;
  split = is.split;
  middle = is.middle;
  appended = subst (λ (vs : Option (List Volume)). AppendInTurn is.done vs is.middle) volumes is.appended;
  in_part = is.in_part;
  vouches_are = is.vouches_are ∙ ap (λ (vs : List Vouch). changed retired is.block.0 (after_blocks is.done vs)) vouches;
  failed = (omega (arith, counted, is.failed.0), is.failed.1);
}

-- ---- volumes that are tested one after another

-- the first that may not be written to
pub refused_at : (vouches : List Vouch) (volumes now : Option (List Volume)) (starts : List (List ℕ × ℕ)) (i : ℕ) (s : List ℕ × ℕ) (first before after : Failures) (why : KeeperFault)
    → i < length starts → s ≡ get_or starts i s → AllByRecursion (IsVouched vouches volumes) (take i starts) → now ≡ volumes → first.number ≤ before.number
    → ChecksVolume vouches now before after s (Err why) → ChecksVolumes vouches volumes first after starts (Err why)
refused_at vouches volumes now starts i s first before after why lt is all same le (inl h) =
    inl (
      h.0,
      record {
        earlier = take i starts;
        start = s;
        rest = drop (suc i) starts;
        split = split_at starts i s lt is;
        serve = all;
        refused = subst (λ (v : Option (List Volume)). (is_retired vouches s.0 ≡ true) ⊎ HasOtherLength v s) same h.1;
      },
    )
refused_at vouches volumes now starts i s first before after why lt is all same le (inr h) =
    inr (
      h.0,
      record {
        earlier = take i starts;
        start = s;
        rest = drop (suc i) starts;
        split = split_at starts i s lt is;
        serve = all;
        refused = (h.1, (omega (arith, le, h.2.0), h.2.1));
      },
    )

-- ---- both

-- a volume that may not be written to
pub not_vouched : (starts : List (List ℕ × ℕ)) (blocks : List (List ℕ × List ℕ)) (spans : List Span) (old new : Shelf) (why : KeeperFault) → IsKept old new
    → ChecksVolumes old.vouches old.volumes old.failures new.failures starts (Err why) → WritesBlocks starts blocks spans old new (Err why)
not_vouched starts blocks spans old new why kept (inl h) = subst (λ (w : KeeperFault). WritesBlocks starts blocks spans old new (Err w)) (sym h.0) (kept, h.1)
not_vouched starts blocks spans old new why kept (inr h) =
    subst (λ (w : KeeperFault). WritesBlocks starts blocks spans old new (Err w)) (sym h.0) (inl (record { kept = kept; first = h.1 }))

-- all of them may, and the append of a block failed
pub not_written : (starts : List (List ℕ × ℕ)) (blocks : List (List ℕ × List ℕ)) (spans : List Span) (old middle new : Shelf) (why : KeeperFault)
    → AllByRecursion (IsVouched old.vouches old.volumes) starts → middle.volumes ≡ old.volumes → middle.vouches ≡ old.vouches ++ new_entries old.vouches starts
    → old.failures.number ≤ middle.failures.number → AppendsAll blocks middle new (Err why) → WritesBlocks starts blocks spans old new (Err why)
not_written starts blocks spans old middle new why all volumes vouches counted is =
    subst (λ (w : KeeperFault). WritesBlocks starts blocks spans old new (Err w)) (sym is.0)
    (inr (inl (record { serve = all; cut_off = cut_off_since blocks (with_entries starts old) middle new volumes vouches counted is.1 })))

-- the blocks are appended, and then the volumes are synced
pub blocks_synced : (starts : List (List ℕ × ℕ)) (blocks : List (List ℕ × List ℕ)) (spans : List Span) (old middle written new : Shelf) (r : Result (Unit {0}) KeeperFault)
    → AllByRecursion (IsVouched old.vouches old.volumes) starts → middle.volumes ≡ old.volumes → middle.vouches ≡ old.vouches ++ new_entries old.vouches starts
    → middle.failures ≡ old.failures → AreWritten blocks middle written → SyncsAll spans written new r → WritesBlocks starts blocks spans old new r
blocks_synced starts blocks spans old middle written new (Ok u) all volumes vouches clean is synced = record {
  serve = all;
  written =
      subst (λ (s : Shelf). AreWritten blocks (with_entries starts old) s) (sym synced)
      (written_since blocks (with_entries starts old) middle written volumes vouches clean is);
}
blocks_synced starts blocks spans old middle written new (Err why) all volumes vouches clean is synced =
    subst (λ (w : KeeperFault). WritesBlocks starts blocks spans old new (Err w)) (sym synced.0)
    (inr (inr (record {
      serve = all;
      middle = written;
      written = written_since blocks (with_entries starts old) middle written volumes vouches clean is;
      unsynced = synced.1;
    })))

-- ---- volumes that are synced one after another

-- a shelf of which nothing is changed
pub shelf_same : (was is : Option (List Volume)) (before after : Failures) (vouches : List Vouch) → is ≡ was → after ≡ before
    → shelf is after vouches ≡ shelf was before vouches
shelf_same was is before after vouches same clean = rw (same, clean) refl

-- the sync of the next failed
pub unsynced_at : (spans : List Span) (i : ℕ) (s : Span) (old middle new : Shelf) (why : KeeperFault) → i < length spans → s ≡ get_or spans i s → middle ≡ old
    → SyncsOne s.volume middle new (Err why) → SyncsAll spans old new (Err why)
unsynced_at spans i s old middle new why lt is same one = (
  one.0,
  record {
    earlier = take i spans;
    span = s;
    rest = drop (suc i) spans;
    split = split_at spans i s lt is;
    failed = subst (λ (m : Shelf). FailsSync s.volume m new) same one.1;
  },
)

-- the volume of one of the spans before is durable, if those of all these are
pub durable_before : (spans : List Span) (volume : List ℕ) (told durable : Option (List Volume)) → is_on_any spans volume ≡ true → AreDurable spans told durable
    → IsDurableIn told durable volume
durable_before [] volume told durable any all = absurd cc
durable_before (s ∷ ss) volume told durable any all = go (bytes_eq s.volume volume) refl any (λ more. durable_before ss volume told durable more all.1)
  where
    go : (b : Bool) → bytes_eq s.volume volume ≡ b → (b || is_on_any ss volume) ≡ true → (is_on_any ss volume ≡ true → IsDurableIn told durable volume)
        → IsDurableIn told durable volume
    go true e any rest = subst (IsDurableIn told durable) ((bytes_eq-Decides s.volume volume).0 e) all.0
    go false e any rest = rest any

-- what is durable of a volume stays so
pub durable_on : (told before after : Option (List Volume)) (name : List ℕ) → Lasts before after → IsDurableIn told before name → IsDurableIn told after name
durable_on None before after name lasts is = tt
durable_on (Some volumes) None None name lasts is = tt
durable_on (Some volumes) None (Some b) name lasts is = absurd lasts
durable_on (Some volumes) (Some a) None name lasts is = absurd lasts
durable_on (Some volumes) (Some a) (Some b) name lasts is = λ bytes found.
    let d = is bytes found in
    let l = lasts name (bytes ++ d.0) d.1 in
    (d.0 ++ l.0, l.1 ∙ ap (λ (bs : List ℕ). Some bs) (append_assoc bytes d.0 l.0))

pub all_durable_on : (spans : List Span) (told before after : Option (List Volume)) → Lasts before after → AreDurable spans told before → AreDurable spans told after
all_durable_on [] told before after lasts all = tt
all_durable_on (s ∷ ss) told before after lasts all = (durable_on told before after s.volume lasts all.0, all_durable_on ss told before after lasts all.1)
