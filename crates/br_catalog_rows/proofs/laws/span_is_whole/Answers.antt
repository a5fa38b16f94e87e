use Rattle.std.proofs.Common.{subst}
use Rattle.br_catalog_rows.specs.Inserted.{IsSpan}
use Rattle.br_catalog_rows.proofs.laws.span_is_whole.Goals as goal

pub returns : goal.returns
returns c =
    subst IsSpan c.span.view_is (record {
      volume = c.bytes-volume.ensures.valid;
      first = c.fits_32.ensures;
      last = c.fits_32-2.ensures;
      start = c.fits_64.ensures;
      end = c.fits_64-2.ensures;
      vol_index = c.fits_32-3.ensures;
    })
