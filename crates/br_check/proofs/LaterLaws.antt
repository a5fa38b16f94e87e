-- What holds of a volume that only grows.
use Rattle.std.proofs.Common.{◌≡◌, ◌∙◌, ℕ, ◌+◌, ◌<◌, ◌≤◌, length, take, drop, List, [], ◌++◌, Option, Some, None, Ok, true, false, refl, sym, ap, subst, arith, length-append}
use Rattle.std.proofs.lemmas.List.{drop-append-le, length-take, take-append-le}
use Rattle.br_model.specs.Block.{Header, read_header}
use Rattle.br_model.specs.Bootstrap.{Group}
use Rattle.br_model.specs.Meaning.{bound_of, is_covered, just_groups}
use Rattle.br_model.specs.Volume.{Volume, Extends, is_above, volume_bytes}
use Rattle.br_model.proofs.SpanLaws.{read_header_alone, read_header_more}
use Rattle.br_volume.specs.Drive.{OnlyGrows}
use Rattle.br_volume.proofs.ExtendLaws.{extends_itself, extends_more}
use Rattle.br_check.specs.ChecksumBlocks.{PassesTo, block_at, block_line, bytes_in, differing_line, lines_from, or_none}
use Rattle.br_check.specs.ChecksumWalk.{AreAt, ArePassed, HasSize, InLater, InShown}
use Rattle.br_check.proofs.BlockLaws.{block_compared, block_passed, lines_cut}

-- ---- facts of the bytes that a drive shows

pub shown_any : (shown : Option (List Volume)) (volume : List ℕ) (P : List ℕ → Type 0) → ((bytes : List ℕ) → P bytes) → InShown shown volume P
shown_any None volume P all = tt
shown_any (Some volumes) volume P all = all (bytes_in volumes volume)

pub shown_so : (shown : Option (List Volume)) (volume : List ℕ) (P Q : List ℕ → Type 0) → InShown shown volume P → ((bytes : List ℕ) → P bytes → Q bytes) → InShown shown volume Q
shown_so None volume P Q is so = tt
shown_so (Some volumes) volume P Q is so = so (bytes_in volumes volume) is

-- what holds later holds now
pub now : (shown : Option (List Volume)) (volume : List ℕ) (P : List ℕ → Type 0) → InLater shown volume P → InShown shown volume P
now None volume P is = tt
now (Some volumes) volume P is = is volumes (extends_itself volumes)

pub later_any : (shown : Option (List Volume)) (volume : List ℕ) (P : List ℕ → Type 0) → ((bytes : List ℕ) → P bytes) → InLater shown volume P
later_any None volume P all = tt
later_any (Some volumes) volume P all = λ later grows. all (bytes_in later volume)

pub later_so : (shown : Option (List Volume)) (volume : List ℕ) (P Q R : List ℕ → Type 0) → InLater shown volume P → InLater shown volume Q
    → ((bytes : List ℕ) → P bytes → Q bytes → R bytes) → InLater shown volume R
later_so None volume P Q R p q so = tt
later_so (Some volumes) volume P Q R p q so = λ later grows. so (bytes_in later volume) (p later grows) (q later grows)

-- it also holds of what the volumes have grown to
pub still : (earlier later : Option (List Volume)) (volume : List ℕ) (P : List ℕ → Type 0) → OnlyGrows earlier later → InLater earlier volume P → InLater later volume P
still None None volume P grew is = tt
still None (Some l) volume P grew is = absurd grew
still (Some e) None volume P grew is = absurd grew
still (Some e) (Some l) volume P grew is = λ last grows. is last (extends_more e l last grows grew)

-- ---- bytes that only grow

more_of : (volumes later : List Volume) (volume : List ℕ) → Extends later volumes → (more : List ℕ) × (bytes_in later volume ≡ bytes_in volumes volume ++ more)
more_of volumes later volume grows = go (volume_bytes volumes volume) refl
  where
    go : (o : Option (List ℕ)) → volume_bytes volumes volume ≡ o → (more : List ℕ) × (bytes_in later volume ≡ or_none (volume_bytes volumes volume) ++ more)
    go None is = (bytes_in later volume, ap (λ (o : Option (List ℕ)). or_none o ++ bytes_in later volume) (sym is))
    go (Some bytes) is =
        let p = grows volume bytes is in
        (p.0, ap or_none p.1 ∙ ap (λ (o : Option (List ℕ)). or_none o ++ p.0) (sym is))

size_more : (bytes more : List ℕ) (a : ℕ) (got : List ℕ) (h : Header) → AreAt bytes a 24 got → read_header got ≡ Ok h → HasSize (bytes ++ more) a h.size
size_more bytes more a got h at read =
    let within = at.within in
    let here : read_header (drop a bytes) ≡ Ok h = sym (read_header_alone (drop a bytes)) ∙ ap read_header at.taken ∙ read in
    record {
      within = omega (arith, within, length-append bytes more);
      head = h;
      read = ap read_header (drop-append-le a bytes more (omega (arith, within))) ∙ read_header_more (drop a bytes) more h here;
      is = refl;
    }

whole_more : (bytes more : List ℕ) (a size : ℕ) (got : List ℕ) → size ≤ length got → AreAt bytes a size got → AreAt (bytes ++ more) a size got
whole_more bytes more a size got whole at =
    let within = at.within in
    let left = drop a bytes in
    let fits : size ≤ length left = omega (arith, whole, ap length at.taken, length-take size left) in
    record {
      within = omega (arith, within, length-append bytes more);
      taken = ap (take size) (drop-append-le a bytes more (omega (arith, within))) ∙ take-append-le size left more fits ∙ at.taken;
    }

-- a header that was read stays
pub size_later : (shown : Option (List Volume)) (volume : List ℕ) (a : ℕ) (got : List ℕ) (h : Header) → InShown shown volume (λ bytes. AreAt bytes a 24 got) → read_header got ≡ Ok h
    → InLater shown volume (λ bytes. HasSize bytes a h.size)
size_later None volume a got h at read = tt
size_later (Some volumes) volume a got h at read =
    λ later grows. let p = more_of volumes later volume grows in
    subst (λ (xs : List ℕ). HasSize xs a h.size) (sym p.1) (size_more (bytes_in volumes volume) p.0 a got h at read)

-- and so does a whole block
pub whole_later : (shown : Option (List Volume)) (volume : List ℕ) (a size : ℕ) (got : List ℕ) → size ≤ length got → InShown shown volume (λ bytes. AreAt bytes a size got)
    → InLater shown volume (λ bytes. AreAt bytes a size got)
whole_later None volume a size got whole at = tt
whole_later (Some volumes) volume a size got whole at =
    λ later grows. let p = more_of volumes later volume grows in
    subst (λ (xs : List ℕ). AreAt xs a size got) (sym p.1) (whole_more (bytes_in volumes volume) p.0 a size got whole at)

-- ---- what a step says

-- a block that is not asked for is passed
pub passed_unasked : (shown : Option (List Volume)) (volume : List ℕ) (gs : List (ℕ × Group)) (a size : ℕ) → is_above (bound_of (just_groups gs)) a ≡ false
    → is_covered (just_groups gs) a ≡ false → InLater shown volume (λ bytes. HasSize bytes a size) → ArePassed shown volume gs a (a + size) []
passed_unasked shown volume gs a size near covered has =
    later_so shown volume (λ bytes. HasSize bytes a size) (λ bytes. HasSize bytes a size)
    (λ bytes. PassesTo (block_line volume gs) (block_at gs bytes a) (a + size) []) has has (λ bytes h _. block_passed volume gs bytes a size near covered h)

-- a whole one that is asked for is passed with its line
pub passed_asked : (shown : Option (List Volume)) (volume : List ℕ) (gs : List (ℕ × Group)) (a size : ℕ) (got : List ℕ) → is_above (bound_of (just_groups gs)) a ≡ false
    → is_covered (just_groups gs) a ≡ true → InLater shown volume (λ bytes. HasSize bytes a size) → size ≤ length got
    → InShown shown volume (λ bytes. AreAt bytes a size got) → ArePassed shown volume gs a (a + size) (differing_line volume a got)
passed_asked shown volume gs a size got near covered has whole at =
    later_so shown volume (λ bytes. HasSize bytes a size) (λ bytes. AreAt bytes a size got)
    (λ bytes. PassesTo (block_line volume gs) (block_at gs bytes a) (a + size) (differing_line volume a got)) has (whole_later shown volume a size got whole at)
    (λ bytes h t. block_compared volume gs bytes a size got near covered h t whole)

-- one that is not whole ends the walk
pub ended_cut : (shown : Option (List Volume)) (volume : List ℕ) (gs : List (ℕ × Group)) (a size : ℕ) (got : List ℕ) → is_above (bound_of (just_groups gs)) a ≡ false
    → is_covered (just_groups gs) a ≡ true → InLater shown volume (λ bytes. HasSize bytes a size) → length got < size
    → InShown shown volume (λ bytes. AreAt bytes a size got) → InShown shown volume (λ bytes. lines_from volume gs bytes a ≡ [])
ended_cut None volume gs a size got near covered has short at = tt
ended_cut (Some volumes) volume gs a size got near covered has short at =
    lines_cut volume gs (bytes_in volumes volume) a size got near covered (has volumes (extends_itself volumes)) at short
