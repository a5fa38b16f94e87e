-- From what clap finds in words to the command that they ask for.
use Rattle.std.proofs.Common.{◌≡◌, ◌∙◌, ◌≤◌, ◌&&◌, if◌then◌else◌, nat_le, ℕ, Bool, List, [], Option, Some, None, Result, option_and_then, option_map, ap, refl, sym, subst, true, false, inl, inr}
use Rattle.std.specs.Prelude.{Box, Ok, Err}
use Rattle.std.specs.Borrow.{Bor}
use Rattle.std.specs.Box.{box_value}
use Rattle.std.specs.Str.Parse.{ExplainsUnsignedError, HasUnsignedDigitsIfOk, ParsesUnsigned}
use Rattle.std.proofs.lemmas.Bool.{le-leb, leb-true, true≢false}
use Rattle.clap.specs.Kinds.{FailsBy, HasKind}
use Rattle.clap.specs.Faults.{fault_of, is_simple_and_free}
use Rattle.clap.specs.Simple.{App, HasMatchesOf, subcommand_of, subcommand_rows, subcommand_rows_of}
use Rattle.clap.specs.Walk.{Text, one_of, rows_of}
use Rattle.clap.specs.Matches.{ReadsOne, found_of, one_text}
use Rattle.clap.specs.Values.{IsUnsignedIn, kind_of}
use Rattle.clap.specs.ValueTests.{is_unsigned_in}
use Rattle.clap.specs.declared.builder.value_parser.ValueParser.TheVariants.{Unsigned}
use Rattle.clap.specs.declared.parser.matches.Found.{Found}
use Rattle.clap.specs.declared.error.Error.{Error}
use Rattle.clap.specs.declared.parser.matches.ArgMatches.{ArgMatches}
use Rattle.clap.specs.declared.parser.matches.ArgMatches.TheViews.{out-SubCommand}
use Rattle.clap.specs.declared.parser.matches.SubCommand.{SubCommand}
use Rattle.clap.proofs.FaultLemmas.{first_fails}
use Rattle.clap.proofs.WalkLemmas.{both, one_text-rows}
use Rattle.clap.proofs.ValueTestLemmas.{Accepts-accepts, accepts-Accepts}
use Rattle.br_cli_args.specs.ClapCommands.{program_app}
use Rattle.br_cli_args.proofs.AppLaws.{program_is_free, program_is_simple}
use Rattle.br_cli_args.specs.Words.{CommandAsked, asked_by, kind_by, number_in, words_asked, words_fault, words_kind}

-- what clap finds in words is what the program's commands say of them
found_subcommand : (app : App) (words : List Text) (found : ArgMatches) → app ≡ program_app → HasMatchesOf app words found
    → subcommand_of program_app words ≡ subcommand_rows_of found
found_subcommand app words found is has =
    let m : HasMatchesOf program_app words found = subst (λ (a : App). HasMatchesOf a words found) is has in
    sym (m program_is_simple).1

-- so is what they ask for
pub parsed_asks : (app : App) (words : List Text) (found : ArgMatches) → app ≡ program_app → HasMatchesOf app words found
    → words_asked words ≡ asked_by (subcommand_rows_of found)
unfolding words_asked
parsed_asks app words found is has = ap asked_by (found_subcommand app words found is has)

-- and the kind of their fault if they ask for nothing
pub parsed_misses : (app : App) (words : List Text) (found : ArgMatches) → app ≡ program_app → HasMatchesOf app words found
    → words_kind words ≡ kind_by (subcommand_rows_of found)
unfolding words_kind
parsed_misses app words found is has = ap kind_by (found_subcommand app words found is has)

pub parsed_fails : (app : App) (words : List Text) (r : Result ArgMatches Error) → app ≡ program_app → (is_simple_and_free app ≡ true → FailsBy (fault_of app words) r)
    → FailsBy (fault_of program_app words) r
parsed_fails app words r is fails =
    let f : is_simple_and_free program_app ≡ true → FailsBy (fault_of program_app words) r =
    subst (λ (a : App). is_simple_and_free a ≡ true → FailsBy (fault_of a words) r) is fails in
    f program_is_free

-- an error of the parse is a fault of the words
pub of_parse : (words : List Text) (e : Error) → HasKind (fault_of program_app words) e → HasKind (words_fault words) e
unfolding words_fault
of_parse words e h = first_fails (fault_of program_app words) _ (kind_of e) h

pub no_fault : (words : List Text) (a : CommandAsked) → fault_of program_app words ≡ [] → words_asked words ≡ Some a → words_fault words ≡ []
unfolding words_fault
no_fault words a none is = rw (none, is) refl

pub nothing_asked : (words : List Text) (e : Error) → fault_of program_app words ≡ [] → words_asked words ≡ None → kind_of e ≡ words_kind words
    → HasKind (words_fault words) e
unfolding words_fault
nothing_asked words e none is kind = rw (none, is) (inr (inl kind))

-- the subcommand that was found, by its name and by its rows
module _ {Z : Type 0} where
  pub found_rows : (sub : Option (Box SubCommand Z)) (result : Option (Bor Text × Bor ArgMatches))
      → option_map (λ p. p.0.now) result ≡ option_map (λ b. (out-SubCommand (box_value b)).name.now) sub
      → option_map (λ p. rows_of (found_of p.1.now)) result ≡ option_map (λ p. p.1) (subcommand_rows sub)
      → subcommand_rows sub ≡ option_map (λ p. (p.0.now, rows_of (found_of p.1.now))) result
  found_rows None None name rows = refl
  found_rows None (Some p) name rows = absurd cc
  found_rows (Some b) None name rows = absurd cc
  found_rows (Some b) (Some p) name rows =
      let n : p.0.now ≡ (out-SubCommand (box_value b)).name.now = cc in
      let r : rows_of (found_of p.1.now) ≡ rows_of (found_of (out-SubCommand (box_value b)).matches) = cc in
      rw (n, r) refl

-- the number, if it is from `low` to `high`
abbrev pub in_bounds : ℕ → ℕ → ℕ → Option ℕ
in_bounds low high n = if nat_le low n && nat_le n high then Some n else None

pub bounds_kept : (low high n : ℕ) → low ≤ n → n ≤ high → in_bounds low high n ≡ Some n
bounds_kept low high n least most = rw (le-leb _ _ least, le-leb _ _ most) refl

pub bounds_missed : (low high n : ℕ) → (low ≤ n → n ≤ high → ⊥) → in_bounds low high n ≡ None
bounds_missed low high n out = go (nat_le low n && nat_le n high) refl
  where
    go : (b : Bool) → (nat_le low n && nat_le n high) ≡ b → in_bounds low high n ≡ None
    go false e = rw e refl
    go true e =
        let p = both _ _ e in
        absurd (out (leb-true _ _ p.0) (leb-true _ _ p.1))

-- a number that was read of a text is the number that the text is, if it is within the bounds
module _ {E : Type 0} (low high : ℕ) (G : Text → Result ℕ E → Type 0) (only : (u : Text) (r : Result ℕ E) → G u r → ParsesUnsigned 64 10 u r) where
  number_found : (text : Text) (r : Option ℕ) → ReadsOne G text r → number_in low high text ≡ option_and_then (in_bounds low high) r
  number_found text r h = go (is_unsigned_in low high text) refl r h
    where
      go : (b : Bool) → is_unsigned_in low high text ≡ b → (r : Option ℕ) → ReadsOne G text r → number_in low high text ≡ option_and_then (in_bounds low high) r
      go true e (Some n) h =
          let a : IsUnsignedIn low high text = accepts-Accepts false (Unsigned low high) text e in
          let p = only text (Ok n) h in
          rw (e, p.1) (sym (bounds_kept low high _ a.2 a.3))
      go true e None h =
          let a : IsUnsignedIn low high text = accepts-Accepts false (Unsigned low high) text e in
          absurd (only text (Err h.0) h.1 (a.0, a.1))
      go false e (Some n) h =
          let p = only text (Ok n) h in
          let never : low ≤ n → n ≤ high → ⊥ = λ least most.
          true≢false (sym (Accepts-accepts false (Unsigned low high) text (p.0.0, p.0.1, subst (λ m. low ≤ m) p.1 least, subst (λ m. m ≤ high) p.1 most)) ∙ e) in
          rw e (sym (bounds_missed low high n never))
      go false e None h = rw e refl

-- the same of what `get_one` reads
pub number_read : (low high : ℕ) (name : Text) (f : Found) (r : Option ℕ) → (one_text f name ≡ None → r ≡ None)
    → ((text : Text) → one_text f name ≡ Some text → ReadsOne (λ bs n. ParsesUnsigned 64 10 bs n × ExplainsUnsignedError 10 bs n × HasUnsignedDigitsIfOk bs n) text r)
    → option_and_then (number_in low high) (one_of name (rows_of f)) ≡ option_and_then (in_bounds low high) r
number_read low high name f r none value = ap (option_and_then (number_in low high)) (sym (one_text-rows f name)) ∙ go (one_text f name) refl
  where
    go : (o : Option Text) → one_text f name ≡ o → option_and_then (number_in low high) o ≡ option_and_then (in_bounds low high) r
    go None e = rw (none e) refl
    go (Some text) e =
        number_found low high (λ bs n. ParsesUnsigned 64 10 bs n × ExplainsUnsignedError 10 bs n × HasUnsignedDigitsIfOk bs n) (λ u n h. h.0) text r
        (value text e)
