-- A bootstrap's text states groups exactly if reading gives them.
use Rattle.std.proofs.Common.{◌≡◌, ℕ, ◌+◌, Bool, true, false, not, eqb, List, [], ◌∷◌, ◌++◌, length, fold, Result, Ok, refl, sym, ap, subst, ◌∙◌, arith, length-append}
use Rattle.std.proofs.lemmas.Bool.{ne_eqb}
use Rattle.std.specs.List.{AllZip}
use Rattle.std.specs.Str.Lines.{lines}
use Rattle.br_model.specs.Answer.{refused_as}
use Rattle.br_model.specs.Bootstrap.{Group, group_on, with_ranges}
use Rattle.br_model.specs.BootstrapText.{Statement, Nothing, OnVolume, Admits, change_last, with_statement, IsLine, IsVolumeFirst, IsBootstrapText, LineFault, read_line, read_lines, read_bootstrap, ReadingIsTheGrammar}
use Rattle.br_model.specs.Text.{is_empty}
use Rattle.br_model.proofs.AnswerLaws.{bind_ok, refused_as_ok, ok_is}
use Rattle.br_model.proofs.GrammarLineLaws.{MayStand, line_read}

-- no criterion comes before the first volume, unless one came before
abbrev IsVolumeBefore : Bool → List Statement → Type 0
IsVolumeBefore true statements = Unit {0}
IsVolumeBefore false statements = IsVolumeFirst statements

-- whether a volume comes before what follows the statement
abbrev volume_behind : Bool → Statement → Bool
volume_behind has_volume Nothing = has_volume
volume_behind has_volume (OnVolume name) = true
volume_behind has_volume (Admits c rs) = has_volume

none_before : (has_volume : Bool) → IsVolumeBefore has_volume []
none_before true = tt
none_before false = tt

before_more : (has_volume : Bool) (statement : Statement) (more : List Statement) → MayStand has_volume statement → IsVolumeBefore (volume_behind has_volume statement) more → IsVolumeBefore has_volume (statement ∷ more)
before_more true statement more m h = tt
before_more false Nothing more m h = h
before_more false (OnVolume name) more m h = tt
before_more false (Admits c rs) more m h = absurd cc

before_parts : (has_volume : Bool) (statement : Statement) (more : List Statement) → IsVolumeBefore has_volume (statement ∷ more) → MayStand has_volume statement × IsVolumeBefore (volume_behind has_volume statement) more
before_parts true Nothing more h = (tt, tt)
before_parts false Nothing more h = (tt, h)
before_parts true (OnVolume name) more h = (tt, tt)
before_parts false (OnVolume name) more h = (tt, tt)
before_parts true (Admits c rs) more h = (refl, tt)
before_parts false (Admits c rs) more h = absurd h

abbrev has_volume_in : List Group → Bool
has_volume_in groups = not (is_empty groups)

-- changing the last group keeps the number of groups
change_keeps : (f : Group → Group) (groups : List Group) → length (change_last f groups) ≡ length groups
change_keeps f [] = refl
change_keeps f (g ∷ []) = refl
change_keeps f (g ∷ h ∷ more) = let n = change_keeps f (h ∷ more) in omega (arith, n)

-- a statement of a volume adds a group, and no other does
volume_is : (groups : List Group) (statement : Statement) → has_volume_in (with_statement groups statement) ≡ volume_behind (has_volume_in groups) statement
volume_is groups Nothing = refl
volume_is groups (OnVolume name) = ap not (ne_eqb (length (groups ++ group_on name ∷ [])) 0 (λ e. omega (arith, e, length-append groups (group_on name ∷ []))))
volume_is groups (Admits c rs) = ap (λ n. not (eqb n 0)) (change_keeps (with_ranges c rs) groups)

-- lines that state groups after those so far
record StateGroups (groups : List Group) (texts : List (List ℕ)) (final : List Group) : Type 0 where
  statements : List Statement
  each : AllZip IsLine texts statements
  volume_before : IsVolumeBefore (has_volume_in groups) statements
  final_is : final ≡ fold with_statement groups statements

-- lines that are read are in the grammar
stated : (n : ℕ) (groups : List Group) (texts : List (List ℕ)) (final : List Group) → read_lines n groups texts ≡ Ok final → StateGroups groups texts final
unfolding read_lines
stated n groups [] final e = record { statements = []; each = tt; volume_before = none_before (has_volume_in groups); final_is = sym (ok_is groups final e) }
stated n groups (text ∷ more) final e =
    let at : ℕ → LineFault = λ number. record { number = number; line = n } in
    let go : Statement → Result (List Group) LineFault = λ statement. read_lines (n + 1) (with_statement groups statement) more in
    let b = bind_ok (refused_as at (read_line (has_volume_in groups) text)) go final e in
    let l = (line_read (has_volume_in groups) text b.0).0 (refused_as_ok at (read_line (has_volume_in groups) text) b.0 b.1) in
    let rest = stated (n + 1) (with_statement groups b.0) more final b.2 in
    record {
      statements = b.0 ∷ rest.statements;
      each = (l.0, rest.each);
      volume_before = before_more (has_volume_in groups) b.0 rest.statements l.1 (subst (λ h. IsVolumeBefore h rest.statements) (volume_is groups b.0) rest.volume_before);
      final_is = rest.final_is;
    }

-- lines of the grammar are read
reads_lines : (n : ℕ) (groups : List Group) (texts : List (List ℕ)) (statements : List Statement) → AllZip IsLine texts statements → IsVolumeBefore (has_volume_in groups) statements
    → read_lines n groups texts ≡ Ok (fold with_statement groups statements)
unfolding read_lines
reads_lines n groups [] [] each h = refl
reads_lines n groups [] (s ∷ more) each h = absurd each
reads_lines n groups (text ∷ texts) [] each h = absurd each
reads_lines n groups (text ∷ texts) (s ∷ more) each h =
    let p = before_parts (has_volume_in groups) s more h in
    let read = (line_read (has_volume_in groups) text s).1 (each.0, p.0) in
    let rest = reads_lines (n + 1) (with_statement groups s) texts more each.1 (subst (λ b. IsVolumeBefore b more) (sym (volume_is groups s)) p.1) in
    rw read rest

pub reading_is_the_grammar_lem : ReadingIsTheGrammar
unfolding read_bootstrap
reading_is_the_grammar_lem text groups = (λ e. there (stated 1 [] (lines text) groups e), λ b. reads_lines 1 [] (lines text) b.statements b.each b.volume_first ∙ ap (λ (gs : List Group). Ok gs) (sym b.groups_are))
  where
    there : StateGroups [] (lines text) groups → IsBootstrapText text groups
    there s = record { statements = s.statements; each = s.each; volume_first = s.volume_before; groups_are = s.final_is }
