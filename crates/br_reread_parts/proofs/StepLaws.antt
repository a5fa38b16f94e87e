-- A file that is read, digested and written one window after another.
use Rattle.std.proofs.Common.{◌≡◌, ◌<◌, ◌+◌, ℕ, List, [], ◌++◌, length, Option, refl, sym, ap, subst, ◌∙◌, append_assoc, append-nil, length-append, arith}
use Rattle.std.specs.Io.KnownBytes.{Appends}
use Rattle.std.proofs.KnownBytes.{Appends-nil, Appends-trans}
use Rattle.br_model.specs.File.{Item}
use Rattle.br_model.specs.Meaning.{Hit}
use Rattle.br_data.specs.StandingHits.{StandingStays}
use Rattle.br_join.specs.Plain.{plain_bytes}
use Rattle.br_records.specs.Records.{fragments}
use Rattle.br_data.specs.ManyDrives.{GoOn, RereadingMany}
use Rattle.br_sink.specs.FileParts.{WritesSome}
use Rattle.br_reread_parts.specs.FileParts.{GivesFile, WritesFew}
use Rattle.br_reread_parts.specs.Given.{GivesHits}
use Rattle.br_reread_parts.specs.Steps.{Fits, FitsAhead, OpensFile, PutsOn, Step, WritesOn, end_of, step_of}
use Rattle.br_reread_parts.specs.Windows.{data_bytes}
use Rattle.br_reread_parts.specs.declared.ahead.Ahead.{Ahead}
use Rattle.br_reread_parts.proofs.GivenLaws.{hits_kept}
use Rattle.br_reread_parts.proofs.PartLaws.{few_more, few_none, few_these, some_of_few}
use Rattle.br_reread_parts.proofs.WindowLaws.{given_both, opens}

-- nothing was written
pub none_put : (m : RereadingMany) (a : Option (List ℕ)) (x : Step) → PutsOn m a a x x
none_put m a x = record {
  bytes = [];
  read = sym (append-nil x.read);
  left = omega arith;
  written = Appends-nil a;
  given = λ later given. given;
  same = λ given. refl;
}

-- one part after another
pub more_put : (m : RereadingMany) (a b c : Option (List ℕ)) (x y z : Step) → PutsOn m a b x y → PutsOn m b c y z → PutsOn m a c x z
more_put m a b c x y z one two = record {
  bytes = one.bytes ++ two.bytes;
  read = two.read ∙ ap (λ (bytes : List ℕ). bytes ++ two.bytes) one.read ∙ append_assoc x.read one.bytes two.bytes;
  left = let all = length-append one.bytes two.bytes in let first = one.left in let second = two.left in omega (arith, all, first, second);
  written = Appends-trans a b c one.bytes two.bytes one.written two.written;
  given = λ later given. two.given later (one.given later given);
  same = λ given.
      append_assoc one.bytes two.bytes (z.next ++ plain_bytes (fragments z.rest))
      ∙ ap (λ (bytes : List ℕ). one.bytes ++ bytes) (two.same (one.given m given))
      ∙ one.same given;
}

-- what the drives gave before they give later
pub put_later : StandingStays → (m later : RereadingMany) (a b : Option (List ℕ)) (x y : Step) → GoOn m later → PutsOn later a b x y → PutsOn m a b x y
put_later stays m later a b x y on puts = record {
  bytes = puts.bytes;
  read = puts.read;
  left = puts.left;
  written = puts.written;
  given = puts.given;
  same = λ given. puts.same (hits_kept stays m later x.rest on given);
}

-- the same of the data that came next
pub writes_later : StandingStays → (m later : RereadingMany) (a b : Option (List ℕ)) (x y : Ahead) → GoOn m later → WritesOn later a b x y → WritesOn m a b x y
writes_later stays m later a b x y on writes = record {
  puts = λ read. put_later stays m later a b _ _ on (writes.puts read);
  fewer = writes.fewer;
}

-- the same of the first data
pub opens_later : StandingStays → (m later : RereadingMany) (hits : List Hit) (item : Item) (x : Ahead) → GoOn m later → OpensFile later hits item x → OpensFile m hits item x
opens_later stays m later hits item x on opened = record {
  left = opened.left;
  given = opened.given;
  same = λ given. opened.same (hits_kept stays m later hits on given);
}

-- the data that come next, if those of a window follow them
pub one_put : (m : RereadingMany) (a b : Option (List ℕ)) (x y : Step) (window : List Hit) → window ++ y.rest ≡ x.rest → y.read ≡ x.read ++ x.next
    → y.left + length x.next ≡ x.left → Appends a b x.next → (GivesHits m window → y.next ≡ plain_bytes (fragments window)) → PutsOn m a b x y
one_put m a b x y window joined read left written same = record {
  bytes = x.next;
  read = read;
  left = left;
  written = written;
  given = λ later given. (given_both later x.rest window y.rest joined given).1;
  same = λ given.
      ap (λ (bytes : List ℕ). x.next ++ bytes) (opens x.rest window y.rest y.next joined (same (given_both m x.rest window y.rest joined given).0));
}

-- the data that come last
pub last_put : (m : RereadingMany) (a b : Option (List ℕ)) (x : Step) (read : List ℕ) (left : ℕ) → x.rest ≡ [] → read ≡ x.read ++ x.next
    → left + length x.next ≡ x.left → Appends a b x.next → PutsOn m a b x (end_of read left)
last_put m a b x read left none is few written = record {
  bytes = x.next;
  read = is;
  left = few;
  written = written;
  given = λ later given. tt;
  same = λ given. sym (ap (λ (hs : List Hit). x.next ++ plain_bytes (fragments hs)) none);
}

-- the data that came next, after what was written before them
pub step_put : StandingStays → (m later : RereadingMany) (a b c : Option (List ℕ)) (x : Step) (read now : List ℕ) (old new : Ahead) → GoOn m later
    → PutsOn m a b x (step_of read old) → WritesOn later b c old new → now ≡ read ++ data_bytes old.window.items → PutsOn m a c x (step_of now new)
step_put stays m later a b c x read now old new on before writes is =
    subst (λ (bytes : List ℕ). PutsOn m a c x (step_of bytes new)) (sym is)
    (more_put m a b c x (step_of read old) (step_of (read ++ data_bytes old.window.items) new) before (put_later stays m later b c _ _ on (writes.puts read)))

-- some bytes after those that were written
pub few_on : (m : RereadingMany) (a b c : Option (List ℕ)) (x y : Step) → PutsOn m a b x y → WritesFew y.left b c → WritesFew x.left a c
few_on m a b c x y puts few = few_more a b c puts.bytes x.left y.left puts.left puts.written few

-- no more bytes were written than may follow
pub few_put : (m : RereadingMany) (a b : Option (List ℕ)) (x y : Step) → PutsOn m a b x y → WritesFew x.left a b
few_put m a b x y puts = few_these a b puts.bytes x.left y.left puts.left puts.written

-- ---- bytes that are not more than may follow

-- what fits still fits after some of it was written
pub fits_on : StandingStays → (m later : RereadingMany) (a b : Option (List ℕ)) (x y : Step) → GoOn m later → PutsOn m a b x y → Fits m x → Fits later y
fits_on stays m later a b x y on puts fits =
    let same = ap length (puts.same fits.0) in
    let all = length-append puts.bytes (y.next ++ plain_bytes (fragments y.rest)) in
    let few = fits.1 in
    let left = puts.left in
    (hits_kept stays m later y.rest on (puts.given m fits.0), omega (arith, same, all, few, left))

-- and after some calls
pub fits_kept : StandingStays → (m later : RereadingMany) (x : Step) → GoOn m later → Fits m x → Fits later x
fits_kept stays m later x on fits = (hits_kept stays m later x.rest on fits.0, fits.1)

-- the data that are next fit, too
pub next_fits : (m : RereadingMany) (x : Step) → Fits m x → x.left < length x.next → ⊥
next_fits m x fits more = let all = length-append x.next (plain_bytes (fragments x.rest)) in let few = fits.1 in omega (arith, all, few, more)

-- a file that is given as it was found fits after its first data were read
pub opened_fits : StandingStays → (m later : RereadingMany) (hits : List Hit) (item : Item) (ahead : Ahead) → GoOn m later → OpensFile m hits item ahead → GivesFile m hits item
    → FitsAhead later ahead
opened_fits stays m later hits item ahead on opened given =
    let same = ap length (opened.same given.0 ∙ sym given.1) in
    let left = opened.left in
    (hits_kept stays m later ahead.rest.now on (opened.given m given.0), omega (arith, same, left))

-- ---- a file that is read to its end

-- a file that is read to its end was written
pub whole_written : (m : RereadingMany) (a b : Option (List ℕ)) (x : Step) (read bytes : List ℕ) (left : ℕ) → x.read ≡ [] → PutsOn m a b x (end_of read left)
    → bytes ≡ read → Appends a b bytes
whole_written m a b x read bytes left new puts is =
    subst (Appends a b) (sym (is ∙ puts.read ∙ ap (λ (front : List ℕ). front ++ puts.bytes) new)) puts.written

-- a file of which the hits are given is the same after it is read to its end
pub whole_same : StandingStays → (m later : RereadingMany) (hits : List Hit) (item : Item) (a b : Option (List ℕ)) (ahead : Ahead) (old read : List ℕ) (left : ℕ) → GoOn m later
    → old ≡ [] → OpensFile m hits item ahead → PutsOn later a b (step_of old ahead) (end_of read left) → GivesFile m hits item → read ≡ item.bytes
whole_same stays m later hits item a b ahead old read left on new opened puts given =
    puts.read
    ∙ ap (λ (front : List ℕ). front ++ puts.bytes) new
    ∙ sym (append-nil puts.bytes)
    ∙ puts.same (hits_kept stays m later ahead.rest.now on (opened.given m given.0))
    ∙ opened.same given.0
    ∙ sym given.1

-- nothing was written of a file
pub none_of : (wanted : List ℕ) (a : Option (List ℕ)) → WritesSome wanted a a
none_of wanted a = some_of_few wanted (length wanted) a a refl (few_none a (length wanted))
