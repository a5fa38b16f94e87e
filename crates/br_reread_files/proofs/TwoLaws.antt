-- What is put of two files, side by side or one after the other.
use Rattle.std.proofs.Common.{◌≡◌, List, [], ◌∷◌, ◌++◌, Option, Some, None, refl, ap, sym, subst, ◌∙◌, append-nil, append_assoc}
use Rattle.std.specs.Prelude.{IfSome, option_map}
use Rattle.br_model.specs.File.{Item}
use Rattle.br_model.specs.Meaning.{Hit}
use Rattle.br_model.specs.Name.{FileKey}
use Rattle.br_data.specs.StandingHits.{StandingStays}
use Rattle.br_data.specs.ManyDrives.{GoOn, RereadingMany}
use Rattle.br_sink.specs.FileParts.{with_bytes}
use Rattle.br_sink.specs.Sink.{HasMore}
use Rattle.br_sink.specs.TwoParts.{AreTwoAlike, AreTwoSame, FailsTwo, LosesTwo, NotChanged, two_put}
use Rattle.br_sink.specs.declared.two_parts.TwoPut.{TwoPut}
use Rattle.br_sink.specs.declared.two_parts.TwoPut.TheVariants as put
use Rattle.br_reread_parts.specs.FileParts.{PutsAlike}
use Rattle.br_reread_parts.proofs.GivenLaws.{hits_kept}
use Rattle.br_reread_files.specs.FileParts.{GivesItem}
use Rattle.br_reread_files.specs.TwoFiles.{ChangesAny, FailsAny, GivesBoth, LosesAny, PutsAny, PutsBoth, PutsTwo, done_as}
use Rattle.br_reread_files.specs.declared.two_files.TwoDone.{TwoDone}
use Rattle.br_reread_files.specs.declared.two_files.TwoDone.TheVariants.{Both, One, Neither}

-- a sink to which no file was added has what it had
pub none_more : (had has : Option (List Item)) → HasMore [] had has → has ≡ had
none_more None None more = refl
none_more None (Some later) more = absurd more
none_more (Some earlier) None more = absurd more
none_more (Some earlier) (Some later) more = ap Some (more ∙ append-nil earlier)

-- one file after another
pub both_more : (had between has : Option (List Item)) (x y : Item) → HasMore (x ∷ []) had between → HasMore (y ∷ []) between has → HasMore (x ∷ y ∷ []) had has
both_more None None None x y first second = tt
both_more None None (Some later) x y first second = absurd second
both_more None (Some between) has x y first second = absurd first
both_more (Some earlier) None has x y first second = absurd first
both_more (Some earlier) (Some between) None x y first second = absurd second
both_more (Some earlier) (Some between) (Some later) x y first second =
    second ∙ ap (λ (l : List Item). l ++ y ∷ []) first ∙ append_assoc earlier (x ∷ []) (y ∷ [])

-- what a sink put of two files
pub puts_done : (given : Type 0) (put : Option TwoPut) (one other : Item) (had has : Option (List Item)) → HasMore (two_put one other put) had has
    → IfSome put (AreTwoAlike one other) → (given → IfSome put (AreTwoSame one other)) → PutsAny (option_map done_as put) given (one, other) had has
puts_done given None one other had has more alike same = none_more had has more
puts_done given (Some (put.Both x y)) one other had has more alike same = record { first = x; second = y; alike = alike; same = same; more = more }
puts_done given (Some (put.One x why)) one other had has more alike same = record { bytes = x; alike = alike; same = same; more = more }
puts_done given (Some (put.Neither why)) one other had has more alike same = none_more had has more

-- the same of its outcome
pub outcome_done : (given : Type 0) (put : Option TwoPut) (outcome : Option TwoDone) (one other : Item) (had has : Option (List Item)) → outcome ≡ option_map done_as put
    → HasMore (two_put one other put) had has → IfSome put (AreTwoAlike one other) → (given → IfSome put (AreTwoSame one other)) → PutsAny outcome given (one, other) had has
outcome_done given put outcome one other had has is more alike same =
    subst (λ (o : Option TwoDone). PutsAny o given (one, other) had has) (sym is) (puts_done given put one other had has more alike same)

-- the sink failed
pub fails_done : (put : Option TwoPut) → FailsAny (option_map done_as put) → FailsTwo put
fails_done None failed = absurd failed
fails_done (Some (put.Both x y)) failed = absurd failed
fails_done (Some (put.One x why)) failed = ap Some failed
fails_done (Some (put.Neither why)) failed = ap Some failed

-- the data of a file are no longer those that were found
pub changes_done : (put : Option TwoPut) → ChangesAny (option_map done_as put) → IfSome put NotChanged → ⊥
changes_done None changed kept = changed
changes_done (Some (put.Both x y)) changed kept = changed
changes_done (Some (put.One x why)) changed kept = kept (ap Some changed)
changes_done (Some (put.Neither why)) changed kept = kept (ap Some changed)

-- no drive is left
pub loses_done : (put : Option TwoPut) → LosesAny (option_map done_as put) → LosesTwo put
loses_done None lost = absurd lost
loses_done (Some (put.Both x y)) lost = absurd lost
loses_done (Some (put.One x why)) lost = ap Some lost
loses_done (Some (put.Neither why)) lost = ap Some lost

-- the same, if more is given
pub puts_any_if : (given less : Type 0) (done : Option TwoDone) (one other : Item) (had has : Option (List Item)) → (given → less) → PutsAny done less (one, other) had has
    → PutsAny done given (one, other) had has
puts_any_if given less None one other had has so puts = puts
puts_any_if given less (Some Both) one other had has so puts =
    record { first = puts.first; second = puts.second; alike = puts.alike; same = λ g. puts.same (so g); more = puts.more }
puts_any_if given less (Some (One why)) one other had has so puts = record { bytes = puts.bytes; alike = puts.alike; same = λ g. puts.same (so g); more = puts.more }
puts_any_if given less (Some (Neither why)) one other had has so puts = puts

-- two files that were put after nothing was
pub puts_after : (given less : Type 0) (done : TwoDone) (one other : Item) (had between has : Option (List Item)) → (given → less) → between ≡ had
    → PutsTwo done less (one, other) between has → PutsTwo done given (one, other) had has
puts_after given less done one other had between has so is puts =
    puts_any_if given less (Some done) one other had has so (subst (λ (before : Option (List Item)). PutsTwo done less (one, other) before has) is puts)

-- what follows if the hits of one file are given, and what if those of another are
pub both_give : (first second : Type 0) (many : RereadingMany) (hits some more : List Hit) (key later : FileKey) (one other : Item) → some ≡ hits → more ≡ hits
    → (GivesItem many some key one → first) → (GivesItem many more later other → second) → GivesBoth many hits key later one other → first × second
both_give first second many hits some more key later one other is was so also given = (
  so (subst (λ (hs : List Hit). GivesItem many hs key one) (sym is) given.0),
  also (subst (λ (hs : List Hit). GivesItem many hs later other) (sym was) given.1),
)

-- a file that is made of hits that are given is made of them later
pub item_later : StandingStays → (m later : RereadingMany) (hits : List Hit) (key : FileKey) (item : Item) → GoOn m later → GivesItem m hits key item
    → GivesItem later hits key item
item_later stays m later hits key item on given = (hits_kept stays m later hits on given.0, given.1)

-- two files that are made of hits that are given are made of them later
pub both_later : StandingStays → (m after : RereadingMany) (hits : List Hit) (key later : FileKey) (one other : Item) → GoOn m after → GivesBoth m hits key later one other
    → GivesBoth after hits key later one other
both_later stays m after hits key later one other on given = (item_later stays m after hits key one on given.0, item_later stays m after hits later other on given.1)

-- two files that were put one after the other
pub both_put : (given first second : Type 0) (one other : Item) (had between has : Option (List Item)) → (given → first × second) → PutsAlike first one had between
    → PutsAlike second other between has → PutsBoth given one other had has
both_put given first second one other had between has so x y = record {
  first = x.bytes;
  second = y.bytes;
  alike = (x.alike, y.alike);
  same = λ g. (x.same (so g).0, y.same (so g).1);
  more = both_more had between has _ _ x.more y.more;
}

-- the first of two files, if the second was not put
pub one_put : (given first : Type 0) (one : Item) (had between has : Option (List Item)) → (given → first) → PutsAlike first one had between → has ≡ between
    → PutsAlike given one had has
one_put given first one had between has so x is = record {
  bytes = x.bytes;
  alike = x.alike;
  same = λ g. x.same (so g);
  more = subst (HasMore (with_bytes one x.bytes ∷ []) had) (sym is) x.more;
}
