-- What an INSERT of one row means, in any schema with its table.
use Rattle.std.proofs.Common.{append-nil, arith, ◌≡◌, ◌⊎◌, inl, inr, ◌+◌, ◌/◌, ◌++◌, ℕ, suc, Bool, true, false, cond, List, [], ◌∷◌, length, take, Option, None, Some, Ok, Err, slice_get, refl, sym, ap, ◌∙◌}
use Rattle.std.specs.List.{position_from}
use Rattle.std.proofs.lemmas.List.{append_assoc}
use Rattle.std.proofs.Math.Nat.{div_self}
use Rattle.sqlite_ast.specs.declared.Statement.TheVariants as written
use Rattle.sqlite_ast.specs.declared.Conflict.TheVariants as conflict
use Rattle.sqlite_ast.specs.declared.Rows.{Rows}
use Rattle.sqlite_syntax.specs.declared.statement.Parsed.{Parsed}
use Rattle.sqlite_schema.specs.Names.{same_name}
use Rattle.sqlite_schema.specs.declared.command.Source.{Source}
use Rattle.sqlite_schema.specs.declared.schema.Column.{Column}
use Rattle.sqlite.specs.Schema.{Schema}
use Rattle.sqlite.specs.Table.{Table}
use Rattle.sqlite.specs.Term.{Term}
use Rattle.sqlite.specs.Order.{Row}
use Rattle.sqlite.specs.Source.TheVariants.{Values}
use Rattle.sqlite.specs.Command.TheVariants.{Insert}
use Rattle.sqlite.specs.Effect.{value_rows}
use Rattle.sqlite.specs.Listing.{understood}
use Rattle.sqlite.proofs.Callers.{IsPlain, command_of}
use Rattle.sqlite_sql.specs.Term.{eval_all}
use Rattle.sqlite_typing.specs.Types.{accepts_terms}
use Rattle.sqlite_resolve.specs.declared.error.CompileError.{CompileError}
use Rattle.sqlite_resolve.specs.declared.error.CompileError.TheVariants.{Mismatch}
use Rattle.sqlite_resolve.specs.Lowering.{Checked, and_then}
use Rattle.sqlite_resolve.specs.Compile.{compiled, first, planned, timed, meaning, returning, shows, command, insert_or_abort, insert, new_rows, small}
use Rattle.sqlite_resolve.specs.Write.{cell, cells_from}
use Rattle.br_catalog_tables.specs.KnownSchemas.{Stands}

-- the text means to insert rows of these terms
pub record Inserts (schema : Schema) (text : List ℕ) (place : ℕ) (terms : List Term) (width : ℕ) : Type 0 where
  pub command : command_of (understood schema text) ≡ Insert place (Values terms width)
  pub plain : IsPlain (understood schema text)

-- that, or the text is refused
abbrev pub MayInsert : Schema → List ℕ → ℕ → List Term → ℕ → Type 0
MayInsert schema text place terms width = Inserts schema text place terms width ⊎ ((e : CompileError) × (understood schema text ≡ Err e))

abbrev pub source_if : Bool → Source → Checked Source
source_if typed source = cond typed (Ok source) (Err Mismatch)

insert_plan : (schema : Schema) (p : Parsed) (name : List ℕ) (columns : List (List ℕ)) (rows : Rows) (at : ℕ) (t : Table) (r : Checked Source)
    → p.statement ≡ written.Insert conflict.Abort name columns rows [] [] → p.formats ≡ [] → t.stamps.formats ≡ []
    → position_from (λ (u : Table). same_name u.name name) 0 schema.tables ≡ Some at → slice_get schema.tables at ≡ Some t
    → new_rows schema t (small p.names + small t.stamps.formats) columns rows ≡ r → planned schema p ≡ and_then r (λ source. Ok ([], (Insert at source, None)))
unfolding planned timed meaning returning shows command insert_or_abort insert
insert_plan schema p name columns rows at t (Ok source) is none bare named got given = rw (is, none, named, got, given, bare) refl
insert_plan schema p name columns rows at t (Err e) is none bare named got given = rw (is, none, named, got, given) refl

means_ok : (schema : Schema) (text : List ℕ) (p : Parsed) (place : ℕ) (terms : List Term) (width : ℕ) → first text ≡ Ok p
    → planned schema p ≡ Ok ([], (Insert place (Values terms width), None)) → Inserts schema text place terms width
unfolding understood compiled
means_ok schema text p place terms width read plan = record { command = rw (read, plan) refl; plain = rw (read, plan) (refl, refl) }

means_err : (schema : Schema) (text : List ℕ) (p : Parsed) → first text ≡ Ok p → planned schema p ≡ Err Mismatch → understood schema text ≡ Err Mismatch
unfolding understood compiled
means_err schema text p read plan = rw (read, plan) refl

pub may_insert : (schema : Schema) (t : Table) (s : Stands schema t) (text : List ℕ) (p : Parsed) (columns : List (List ℕ)) (rows : Rows) (terms : List Term) (width : ℕ)
    → first text ≡ Ok p → p.statement ≡ written.Insert conflict.Abort t.name columns rows [] [] → p.formats ≡ [] → t.stamps.formats ≡ []
    → new_rows schema t (small p.names + small t.stamps.formats) columns rows ≡ source_if (accepts_terms terms []) (Values terms width)
    → MayInsert schema text s.place terms width
may_insert schema t s text p columns rows terms width read is none bare given = go (accepts_terms terms []) (insert_plan schema p t.name columns rows s.place t _ is none bare s.named s.is given)
  where
    go : (typed : Bool) → planned schema p ≡ and_then (source_if typed (Values terms width)) (λ source. Ok ([], (Insert s.place source, None))) → MayInsert schema text s.place terms width
    go true plan = inl (means_ok schema text p s.place terms width read plan)
    go false plan = inr (Mismatch, means_err schema text p read plan)

-- the terms of columns that a text does not name come last
pub cells_split : (t : Table) (fill : Option ℕ) (at : List ℕ) (values : List Term) (k : ℕ) (done : List Term) (cs : List Column)
    → cells_from t fill at values k done cs ≡ done ++ cells_from t fill at values k [] cs
cells_split t fill at values k done [] = sym (append-nil done)
cells_split t fill at values k done (c ∷ cs) =
    let x = cell t fill at values k c in
    cells_split t fill at values (k + 1) (done ++ x ∷ []) cs ∙ append_assoc done (x ∷ []) _
    ∙ ap (λ (l : List Term). done ++ l) (sym (cells_split t fill at values (k + 1) (x ∷ []) cs))

pub cells_length : (t : Table) (fill : Option ℕ) (at : List ℕ) (values : List Term) (k : ℕ) (cs : List Column)
    → length (cells_from t fill at values k [] cs) ≡ length cs
cells_length t fill at values k [] = refl
cells_length t fill at values k (c ∷ cs) =
    ap length (cells_split t fill at values (k + 1) (cell t fill at values k c ∷ []) cs) ∙ ap suc (cells_length t fill at values (k + 1) cs)

take_all : {X : Type 0} (xs : List X) → take (length xs) xs ≡ xs
take_all [] = refl
take_all (x ∷ xs) = ap (λ l. x ∷ l) (take_all xs)

-- terms of the width of a row are one row
pub one_value_row : (params : Row) (terms : List Term) (width : ℕ) → length terms ≡ width + 1 → value_rows params (width + 1) (length terms / (width + 1)) terms ≡ eval_all terms (params ∷ []) ∷ []
one_value_row params terms width is =
    let once : length terms / (width + 1) ≡ 1 = ap (λ n. n / (width + 1)) is ∙ div_self {n = width + 1} (omega arith) in
    ap (λ n. value_rows params (width + 1) n terms) once ∙ ap (λ l. eval_all l (params ∷ []) ∷ []) (ap (λ n. take n terms) (sym is) ∙ take_all terms)
