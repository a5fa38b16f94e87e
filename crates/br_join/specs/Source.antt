-- The file that its records make, with its bytes from one of the sources.
use Rattle.std.specs.Prelude.{ℕ, not, ◌&&◌, List, filter, count_by, Result, Ok}
use Rattle.br_model.specs.Answer.{◌>>=◌, refuse_if, refused_as}
use Rattle.br_model.specs.File as model
use Rattle.br_model.specs.Record.{Record}
use Rattle.br_join.specs.Plain.{bytes_of}
use Rattle.br_join.specs.declared.file_source.BytesSource.{BytesSource}
use Rattle.br_join.specs.declared.file_source.BytesSource.TheVariants.{Records, Read}

-- the bytes of a file of this type
unfoldable pub bytes_by : BytesSource → ℕ → List Record → Result (List ℕ) model.Fault
bytes_by Records kind records = refused_as model.fault (model.file_bytes kind records)
bytes_by (Read plain) kind records = refused_as model.fault (bytes_of kind plain)

-- what the records make, as the model says, with their bytes from this source
unfoldable pub content_by : ℕ → List Record → BytesSource → model.Outcome
content_by index records source = do
  a ← refused_as model.fault (model.attributes_of index (filter (model.is_stream 1) records))
  _ ← model.unsupported records
  bytes ← bytes_by source a.kind records
  _ ← refuse_if (model.checks_digest a.kind records && not (model.digest_fits (filter (model.is_stream 3) records) bytes)) (model.fault 66)
  Ok (record {
    path = a.path;
    kind = a.kind;
    stat = a.stat;
    link = a.link;
    bytes = bytes;
    skipped = count_by (model.is_skipped a.kind (model.checks_digest a.kind records)) records;
  })
