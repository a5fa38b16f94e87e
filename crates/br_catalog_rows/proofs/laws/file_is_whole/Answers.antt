use Rattle.std.proofs.Common.{subst}
use Rattle.std.proofs.lemmas.Str.{IsUtf8-string_bytes, is_utf8-from_IsUtf8}
use Rattle.br_catalog_rows.specs.Inserted.{IsFileRow}
use Rattle.br_catalog_rows.proofs.laws.file_is_whole.Goals as goal

pub returns : goal.returns
returns c =
    subst IsFileRow c.file.view_is (record {
      path = c.bytes-path.ensures.valid;
      index = c.fits_32.ensures;
      lstat = is_utf8-from_IsUtf8 _ (IsUtf8-string_bytes c.file.inside.lstat);
      digest = c.may_be_digest.ensures;
    })
