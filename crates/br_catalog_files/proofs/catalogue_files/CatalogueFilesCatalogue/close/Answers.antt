use Rattle.std.proofs.Common.{subst, ◌∙◌}
use Rattle.std.specs.Prelude.{OnOk}
use Rattle.br_catalog_files.specs.FileCatalogue.{IsClosed}
use Rattle.br_catalog_files.proofs.catalogue_files.CatalogueFilesCatalogue.close.Goals as goal

pub returns : goal.returns
returns c = record {
  closed = subst (λ held. OnOk c.close.result (IsClosed held)) (c.into_connection.ensures.same ∙ c.into_store.ensures) c.close.ensures;
}
