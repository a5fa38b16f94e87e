-- The statement of a line, as the model has it.
use Rattle.std.specs.Prelude.{ℕ, ◌-◌, Bool, not, ◌&&◌, ◌==◌, nat_le, List, length, slice_index, Result, Ok}
use Rattle.br_model.specs.Answer.{◌>>=◌, refuse_if, some_or}
use Rattle.br_model.specs.BootstrapText as model
use Rattle.br_bsr.specs.declared.statement.Statement.{Statement}
use Rattle.br_bsr.specs.declared.statement.Statement.TheVariants.{Nothing, OnVolume, Admits}
use Rattle.br_bsr.specs.Statement.{criterion_of}

abbrev pub statement_view : Statement → model.Statement
statement_view Nothing = model.Nothing
statement_view (OnVolume name) = model.OnVolume name
statement_view (Admits c ranges) = model.Admits (criterion_of c) ranges.items

-- the keyword with this name, before its value is read
unfoldable pub check_keyword : Bool → List ℕ → Result model.Keyword ℕ
check_keyword has_volume word = do
  keyword ← some_or (model.keyword_of (model.trimmed word)) 31
  _ ← refuse_if (model.is_unsupported keyword) 32
  _ ← refuse_if (model.needs_volume keyword && not has_volume) 30
  Ok keyword

-- the text begins and ends with a quote
abbrev pub has_quotes : List ℕ → Bool
has_quotes text = nat_le 2 (length text) && (slice_index text 0 == 34 && slice_index text (length text - 1) == 34)
