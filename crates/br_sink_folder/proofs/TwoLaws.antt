-- Two files that are put side by side.
use Rattle.std.proofs.Common.{◌≡◌, ℕ, ◌⊎◌, Bool, true, false, Option, Some, None, List, [], ◌∷◌, ◌++◌, inl, inr, refl, ap, sym, subst, ◌∙◌}
use Rattle.std.specs.Prelude.{bytes_eq, string_bytes, ⊤}
use Rattle.std.proofs.lemmas.Slice.Eq.{bytes_eq-Decides}
use Rattle.std.specs.Io.KnownBytes.{Appends}
use Rattle.br_model.specs.File.{Item, has_bytes}
use Rattle.br_fs.specs.Making.{Nodes, Bytes, Opened, AreSet, IsBelow, IsFinished, IsFree, MakesFile, node_at}
use Rattle.br_sink.specs.FileParts.{AreAlike, with_bytes}
use Rattle.br_sink.specs.TwoParts.{AreTwoAlike, AreTwoSame, WritesTwo}
use Rattle.br_sink.specs.declared.two_parts.TwoPut.{TwoPut}
use Rattle.br_sink.specs.declared.two_parts.TwoPut.TheVariants.{Both, One, Neither}
use Rattle.br_sink_folder.specs.Below.{AddsFolders, IsNewFolder}
use Rattle.br_sink_folder.specs.Held.{IsLeft, LeavesFiles, bytes_put}
use Rattle.br_sink_folder.specs.Removed.{ChangesOne, IsRemoved, MakesNoFile}
use Rattle.br_sink_folder.specs.TwoFiles.{AreBothRemoved, ClosesTwo, FinishesFirst, FinishesTwo, HavePathsBelow, IsNewBelow, IsRestRemoved, IsWholeAt}
use Rattle.br_sink_folder.specs.TwoFiles.{LeavesTwo, MakesFree, MakesTwo, PutsAtMost, first_of}
use Rattle.br_sink_folder.specs.declared.two_files.NewFile.{NewFile}
use Rattle.br_sink_folder.specs.declared.two_files.Paths.{Paths}
use Rattle.br_sink_folder.proofs.BelowLaws.{differs}
use Rattle.br_sink_folder.proofs.HeldLaws.{apart_if, folder_left, put_apart, put_own, set_apart, set_own, still_opened}
use Rattle.br_sink_folder.proofs.RemovalLaws.{no_file_still}

-- files that were made at paths where nothing was

pub makes_free : (root path : List ℕ) (contents : Option (List ℕ)) (a b c : Option Nodes) → AddsFolders root a b → IsFree b path
    → MakesFile path contents b c → MakesFree root path contents a c
makes_free root path contents a b c added free made = (b, added, free, made)

pub finishes_two : (one other : List ℕ) (first second : Option (List ℕ)) (a b c : Option Nodes) → IsFinished one first a b
    → IsFinished other second b c → FinishesTwo one other first second a c
finishes_two one other first second a b c done more = (b, done, more)

pub finishes_first : (root one other : List ℕ) (first : Option (List ℕ)) (a b c : Option Nodes) → IsFinished one first a b
    → ChangesOne root other b c → FinishesFirst root one other first a c
finishes_first root one other first a b c done changes = (b, done, changes)

-- files that are removed again

still_removed : (refused : List ℕ → Type 0) (path : List ℕ) (a b : Option Nodes) → IsRemoved refused a path → MakesNoFile a b
    → IsRemoved refused b path
still_removed refused path a b (inl none) kept = inl (no_file_still path a b none kept)
still_removed refused path a b (inr tried) kept = inr tried

pub both_removed : (refused : List ℕ → Type 0) (one other : List ℕ) (a b : Option Nodes) → IsRemoved refused a one
    → MakesNoFile a b → IsRemoved refused b other → AreBothRemoved refused one other b
both_removed refused one other a b removed kept more = (still_removed refused one a b removed kept, more)

-- what was written of two files, and what is put of them

first_alike : (one other : Item) (written : TwoPut) (x : List ℕ) → AreTwoAlike one other written → first_of written ≡ Some x → AreAlike x one.bytes
first_alike one other (Both z y) x alike is = let same : z ≡ x = cc in subst (λ (bytes : List ℕ). AreAlike bytes one.bytes) same alike.0
first_alike one other (One z why) x alike is = let same : z ≡ x = cc in subst (λ (bytes : List ℕ). AreAlike bytes one.bytes) same alike
first_alike one other (Neither why) x alike is = absurd cc

pub two_alike : (one other : Item) (written result : TwoPut) → AreTwoAlike one other written → PutsAtMost written result → AreTwoAlike one other result
two_alike one other written (Both x y) alike is = subst (AreTwoAlike one other) is alike
two_alike one other written (One x why) alike is = first_alike one other written x alike is
two_alike one other written (Neither why) alike is = tt

first_same : (one other : Item) (written : TwoPut) (x : List ℕ) → AreTwoSame one other written → first_of written ≡ Some x → x ≡ one.bytes
first_same one other (Both z y) x same is = let again : z ≡ x = cc in sym again ∙ same.0
first_same one other (One z why) x same is = let again : z ≡ x = cc in sym again ∙ same
first_same one other (Neither why) x same is = absurd cc

pub two_same : (one other : Item) (written result : TwoPut) → AreTwoSame one other written → PutsAtMost written result → AreTwoSame one other result
two_same one other written (Both x y) same is = subst (AreTwoSame one other) is same
two_same one other written (One x why) same is = first_same one other written x same is
two_same one other written (Neither why) same is = tt

-- Two files that are open at two paths, below a folder to which nothing else but folders was added.
record AreOpen (root one other : List ℕ) (n k : ℕ) (earlier later : Nodes) : Type 0 where
  pub rest : (path : List ℕ) → (one ≡ path → ⊥) → (other ≡ path → ⊥) → IsLeft root path None earlier later
  pub first : node_at later one ≡ Some (Opened n)
  pub second : node_at later other ≡ Some (Opened k)
  pub apart : one ≡ other → ⊥

-- If the nodes are known, the two files give the numbers of those that are open.
abbrev AreOpenAs : List ℕ → List ℕ → List ℕ → Option (List ℕ) → Option (List ℕ) → Option Nodes → Option Nodes → Type 0
AreOpenAs root one other first second None None = ⊤
AreOpenAs root one other first second (Some earlier) (Some later) =
    (n : ℕ) × (k : ℕ) × (first ≡ Some (n ∷ [])) × (second ≡ Some (k ∷ [])) × AreOpen root one other n k earlier later
AreOpenAs root one other first second None (Some later) = ⊥
AreOpenAs root one other first second (Some earlier) None = ⊥

abbrev Added : List ℕ → Nodes → Nodes → Type 0
Added root a b = (path : List ℕ) → (node_at b path ≡ node_at a path) ⊎ IsNewFolder root path a b

opened : (root one other : List ℕ) (n k : ℕ) (a b c d e : Nodes) → Added root a b → AreSet one (Some (Opened n)) b c → Added root c d
    → node_at d other ≡ None → AreSet other (Some (Opened k)) d e → AreOpen root one other n k a e
opened root one other n k a b c d e added made more free again =
    let there : node_at d one ≡ Some (Opened n) = still_opened root one n c d (set_own one (Some (Opened n)) b c made) (more one) in
    let differ : one ≡ other → ⊥ = λ is.
    let never : Some (Opened n) ≡ None = sym there ∙ ap (λ (path : List ℕ). node_at d path) is ∙ free in absurd cc in
    record {
      rest = λ path left right.
          let first : IsLeft root path None a b = folder_left root path None a a b (inl refl) (added path) in
          let second = folder_left root path None a b c first (inl (set_apart one path (Some (Opened n)) b c made left)) in
          let third = folder_left root path None a c d second (more path) in
          folder_left root path None a d e third (inl (set_apart other path (Some (Opened k)) d e again right));
      first = set_apart other one (Some (Opened k)) d e again (λ is. differ (sym is)) ∙ there;
      second = set_own other (Some (Opened k)) d e again;
      apart = differ;
    }

opened_as : (root one other : List ℕ) (first second : Option (List ℕ)) (a b c d e : Option Nodes) → AddsFolders root a b
    → MakesFile one first b c → AddsFolders root c d → IsFree d other → MakesFile other second d e
    → AreOpenAs root one other first second a e
opened_as root one other first second None None None None None added made more free again = tt
opened_as root one other first second None None None None (Some e) added made more free again = absurd again
opened_as root one other first second None None None (Some d) e added made more free again = absurd more
opened_as root one other first second None None (Some c) d e added made more free again = absurd made
opened_as root one other first second None (Some b) c d e added made more free again = absurd added
opened_as root one other first second (Some a) None c d e added made more free again = absurd added
opened_as root one other first second (Some a) (Some b) None d e added made more free again = absurd made
opened_as root one other first second (Some a) (Some b) (Some c) None e added made more free again = absurd more
opened_as root one other first second (Some a) (Some b) (Some c) (Some d) None added made more free again = absurd again
opened_as root one other first second (Some a) (Some b) (Some c) (Some d) (Some e) added made more free again =
    (made.0, again.0, made.1, again.1, opened root one other made.0 again.0 a b c d e added made.2 more free again.2)

two_open : (root one other : List ℕ) (first second : Option (List ℕ)) (a c : Option Nodes) → MakesTwo root one other first second a c
    → AreOpenAs root one other first second a c
two_open root one other first second a c (m, (b, added, clear, made), (d, more, free, again)) =
    opened_as root one other first second a b m d c added made more free again

-- both are finished

known : (n : ℕ) (bytes : List ℕ) (before later : Option (List ℕ)) → before ≡ Some (n ∷ []) → Appends before later bytes → later ≡ Some (n ∷ bytes)
known n bytes before None is more = let never : ⊥ = rw is at more in absurd never
known n bytes before (Some ys) is more = let whole : ys ≡ n ∷ bytes = rw is at more in ap (λ (l : List ℕ). Some l) whole

bytes_same : (n k : ℕ) (xs ys : List ℕ) → Some (n ∷ xs) ≡ Some (k ∷ ys) → xs ≡ ys
bytes_same n k xs ys is = cc

finish_set : (path bytes : List ℕ) (n : ℕ) (contents : Option (List ℕ)) (b c : Nodes) → contents ≡ Some (n ∷ bytes)
    → node_at b path ≡ Some (Opened n) → IsFinished path contents (Some b) (Some c) → AreSet path (Some (Bytes bytes)) b c
finish_set path bytes n contents b c is there done =
    let file = done (n, bytes, is, there) in
    subst (λ (l : List ℕ). AreSet path (Some (Bytes l)) b c) (bytes_same file.0 n file.1 bytes (sym file.2 ∙ is)) file.3

-- at a path that is not that of the second file
first_left : (root : List ℕ) (i j : Item) (n k : ℕ) (a c d : Nodes) → has_bytes i.kind ≡ true
    → AreOpen root (root ++ i.path) (root ++ j.path) n k a c → AreSet (root ++ i.path) (Some (Bytes i.bytes)) c d → (path : List ℕ)
    → (root ++ j.path ≡ path → ⊥) → (same : Bool) → bytes_eq (root ++ i.path) path ≡ same → IsLeft root path (bytes_put root (i ∷ []) path) a d
first_left root i j n k a c d has o set path away true same =
    let own : List ℕ = root ++ i.path in
    let is : own ≡ path = (bytes_eq-Decides own path).0 same in
    subst (λ (p : List ℕ). IsLeft root p (bytes_put root (i ∷ []) p) a d) is
    (subst (λ (was : Option (List ℕ)). IsLeft root own was a d) (sym (put_own root [] i has)) (set_own own (Some (Bytes i.bytes)) c d set))
first_left root i j n k a c d has o set path away false same =
    let own : List ℕ = root ++ i.path in
    let differ = apart_if own path same in
    subst (λ (was : Option (List ℕ)). IsLeft root path was a d) (sym (put_apart root path [] i differ))
    (folder_left root path None a c d (o.rest path differ away) (inl (set_apart own path (Some (Bytes i.bytes)) c d set differ)))

both_left : (root : List ℕ) (i j : Item) (n k : ℕ) (a c d e : Nodes) → has_bytes i.kind ≡ true → has_bytes j.kind ≡ true
    → AreOpen root (root ++ i.path) (root ++ j.path) n k a c → AreSet (root ++ i.path) (Some (Bytes i.bytes)) c d
    → AreSet (root ++ j.path) (Some (Bytes j.bytes)) d e → (path : List ℕ) → (same : Bool) → bytes_eq (root ++ j.path) path ≡ same
    → IsLeft root path (bytes_put root (i ∷ j ∷ []) path) a e
both_left root i j n k a c d e has also o set again path true same =
    let own : List ℕ = root ++ j.path in
    let is : own ≡ path = (bytes_eq-Decides own path).0 same in
    subst (λ (p : List ℕ). IsLeft root p (bytes_put root (i ∷ j ∷ []) p) a e) is
    (subst (λ (was : Option (List ℕ)). IsLeft root own was a e) (sym (put_own root (i ∷ []) j also)) (set_own own (Some (Bytes j.bytes)) d e again))
both_left root i j n k a c d e has also o set again path false same =
    let own : List ℕ = root ++ j.path in
    let differ = apart_if own path same in
    subst (λ (was : Option (List ℕ)). IsLeft root path was a e) (sym (put_apart root path (i ∷ []) j differ))
    (folder_left root path (bytes_put root (i ∷ []) path) a d e
    (first_left root i j n k a c d has o set path differ (bytes_eq (root ++ i.path) path) refl)
    (inl (set_apart own path (Some (Bytes j.bytes)) d e again differ)))

both_finished : (root : List ℕ) (i j : Item) (first first_now second second_now : Option (List ℕ)) (a c d e : Option Nodes)
    → has_bytes i.kind ≡ true → has_bytes j.kind ≡ true → AreOpenAs root (root ++ i.path) (root ++ j.path) first second a c
    → Appends first first_now i.bytes → Appends second second_now j.bytes → IsFinished (root ++ i.path) first_now c d
    → IsFinished (root ++ j.path) second_now d e → LeavesFiles root (i ∷ j ∷ []) a e
both_finished root i j first first_now second second_now None None None None has also o more again done over = tt
both_finished root i j first first_now second second_now None None None (Some e) has also o more again done over = absurd (over tt)
both_finished root i j first first_now second second_now None None (Some d) e has also o more again done over = absurd (done tt)
both_finished root i j first first_now second second_now None (Some c) d e has also o more again done over = absurd o
both_finished root i j first first_now second second_now (Some a) None d e has also o more again done over = absurd o
both_finished root i j first first_now second second_now (Some a) (Some c) None e has also (n, k, one, other, o) more again done over =
    absurd (done (n, i.bytes, known n i.bytes first first_now one more, o.first))
both_finished root i j first first_now second second_now (Some a) (Some c) (Some d) None has also (n, k, one, other, o) more again done over =
    let set = finish_set (root ++ i.path) i.bytes n first_now c d (known n i.bytes first first_now one more) o.first done in
    let still = set_apart (root ++ i.path) (root ++ j.path) (Some (Bytes i.bytes)) c d set o.apart ∙ o.second in
    absurd (over (k, j.bytes, known k j.bytes second second_now other again, still))
both_finished root i j first first_now second second_now (Some a) (Some c) (Some d) (Some e) has also (n, k, one, other, o) more again done over =
    let set = finish_set (root ++ i.path) i.bytes n first_now c d (known n i.bytes first first_now one more) o.first done in
    let still = set_apart (root ++ i.path) (root ++ j.path) (Some (Bytes i.bytes)) c d set o.apart ∙ o.second in
    let last = finish_set (root ++ j.path) j.bytes k second_now d e (known k j.bytes second second_now other again) still over in
    λ path. both_left root i j n k a c d e has also o set last path (bytes_eq (root ++ j.path) path) refl

-- the first is finished

first_written : (one other : Item) (first first_now second second_now : Option (List ℕ)) (written : TwoPut) (x : List ℕ)
    → WritesTwo one other (first, second) (first_now, second_now) written → first_of written ≡ Some x → Appends first first_now x
first_written one other first first_now second second_now (Both z y) x writes is =
    let same : z ≡ x = cc in subst (Appends first first_now) same writes.0
first_written one other first first_now second second_now (One z why) x writes is =
    let same : z ≡ x = cc in subst (Appends first first_now) same writes.0
first_written one other first first_now second second_now (Neither why) x writes is = absurd cc

still_whole : (root path : List ℕ) (bytes : List ℕ) (b c : Nodes) → node_at b path ≡ Some (Bytes bytes)
    → (node_at c path ≡ node_at b path) ⊎ IsNewFolder root path b c → node_at c path ≡ Some (Bytes bytes)
still_whole root path bytes b c is (inl same) = same ∙ is
still_whole root path bytes b c is (inr (below, free, folder)) = let never : None ≡ Some (Bytes bytes) = sym free ∙ is in absurd cc

first_finished : (root one other bytes : List ℕ) (first first_now second : Option (List ℕ)) (a c d e : Option Nodes)
    → AreOpenAs root one other first second a c → Appends first first_now bytes → IsFinished one first_now c d
    → ChangesOne root other d e → IsWholeAt one bytes e
first_finished root one other bytes first first_now second a c d None o more done changes = tt
first_finished root one other bytes first first_now second a c None (Some e) o more done changes = absurd changes
first_finished root one other bytes first first_now second a None (Some d) (Some e) o more done changes = absurd (done tt)
first_finished root one other bytes first first_now second None (Some c) (Some d) (Some e) o more done changes = absurd o
first_finished root one other bytes first first_now second (Some a) (Some c) (Some d) (Some e) (n, k, is, also, o) more done changes =
    let set = finish_set one bytes n first_now c d (known n bytes first first_now is more) o.first done in
    let away = differs other one (λ same. o.apart (sym same)) (bytes_eq other one) refl in
    still_whole root one bytes d e (set_own one (Some (Bytes bytes)) c d set) (changes one away)

whole_left : (root : List ℕ) (one other : Item) (first first_now second second_now : Option (List ℕ)) (c e : Option Nodes)
    (written result : TwoPut) → WritesTwo one other (first, second) (first_now, second_now) written → PutsAtMost written result
    → ClosesTwo root (root ++ one.path) (root ++ other.path) first_now second_now c e result → has_bytes one.kind ≡ true
    → has_bytes other.kind ≡ true → (a : Option Nodes) → MakesTwo root (root ++ one.path) (root ++ other.path) first second a c
    → LeavesTwo root one other a e result
whole_left root one other first first_now second second_now c e written (Both x y) writes is (d, done, over) has also a made =
    let more : WritesTwo one other (first, second) (first_now, second_now) (Both x y) =
    subst (WritesTwo one other (first, second) (first_now, second_now)) is writes in
    both_finished root (with_bytes one x) (with_bytes other y) first first_now second second_now a c d e has also
    (two_open root (root ++ one.path) (root ++ other.path) first second a c made) more.0 more.1 done over
whole_left root one other first first_now second second_now c e written (One x why) writes is (d, done, changes) has also a made =
    first_finished root (root ++ one.path) (root ++ other.path) x first first_now second a c d e
    (two_open root (root ++ one.path) (root ++ other.path) first second a c made)
    (first_written one other first first_now second second_now written x writes is) done changes
whole_left root one other first first_now second second_now c e written (Neither why) writes is finished has also a made = tt

pub two_left : {W : Type 0} (root : List ℕ) (one other : Item) (new also_new : NewFile W) (first first_now second second_now : Option (List ℕ))
    (c e : Option Nodes) (written result : TwoPut) → IsNewBelow root one.path new → IsNewBelow root other.path also_new
    → WritesTwo one other (first, second) (first_now, second_now) written → PutsAtMost written result
    → ClosesTwo root (string_bytes new.path) (string_bytes also_new.path) first_now second_now c e result → has_bytes one.kind ≡ true
    → has_bytes other.kind ≡ true → (a : Option Nodes)
    → MakesTwo root (string_bytes new.path) (string_bytes also_new.path) first second a c → LeavesTwo root one other a e result
two_left root one other new also_new first first_now second second_now c e written result at there writes is finished has also a made =
    whole_left root one other first first_now second second_now c e written result writes is
    (rw (at.whole, there.whole) at finished) has also a (rw (at.whole, there.whole) at made)

-- the paths of two new files

pub paths_below : {W : Type 0} (one other : List ℕ) (new also : NewFile W) (paths : Paths) → IsNewBelow paths.root.now one new
    → IsNewBelow paths.root.now other also → paths.one.now ≡ string_bytes new.path → paths.other.now ≡ string_bytes also.path
    → HavePathsBelow paths
paths_below one other new also paths at there is same =
    record {
      one = subst (IsBelow paths.root.now) (sym is) at.below;
      other = subst (IsBelow paths.root.now) (sym same) there.below;
    }

pub rest_removed : {W : Type 0} (refused : List ℕ → Type 0) (root one other : List ℕ) (new also : NewFile W) (nodes : Option Nodes)
    (result : TwoPut) → IsNewBelow root one new → IsNewBelow root other also
    → IsRestRemoved refused (string_bytes new.path) (string_bytes also.path) nodes result
    → IsRestRemoved refused (root ++ one) (root ++ other) nodes result
rest_removed refused root one other new also nodes result at there rest = rw (at.whole, there.whole) at rest
