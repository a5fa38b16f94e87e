-- What the texts over names mean, in any schema with the catalogue's tables.
use Rattle.std.proofs.Common.{◌≡◌, ℕ, pos, negsuc, List, [], ◌∷◌, codes, true, false, None, Ok, refl}
use Rattle.sqlite.specs.declared.types.Value.TheVariants.{Int}
use Rattle.sqlite.specs.Collation.TheVariants.{Binary}
use Rattle.sqlite.specs.Kind.TheVariants.{Text, Any}
use Rattle.sqlite.specs.Schema.{Schema}
use Rattle.sqlite.specs.Term.{lit, col, op2}
use Rattle.sqlite_sql.specs.declared.ops.BinaryOp.TheVariants.{Compare}
use Rattle.sqlite_sql.specs.declared.ops.CompareOp.TheVariants.{Eq}
use Rattle.sqlite.specs.Query.{Query, inner, end}
use Rattle.sqlite_resolve.specs.Lowering.{chosen, first_found, nothing}
use Rattle.sqlite_resolve.specs.Compare.{compared, affinity_of, of_column, converted, spelled}
use Rattle.sqlite_resolve.specs.Program.{program}
use Rattle.sqlite_tied.specs.Compute.{everything}
use Rattle.br_store.specs.declared.name_numbers.Dictionary.{Dictionary}
use Rattle.br_store.specs.declared.name_numbers.Dictionary.TheVariants.{Client, FileSet, Media, Path}
use Rattle.br_catalog_tables.specs.TreePlaces.{Layout}
use Rattle.br_catalog_tables.specs.Tables.{column, key_column, client, fileset, media, path}
use Rattle.br_catalog_tables.specs.KnownSchemas.{HasAll, Owns, with_own}
use Rattle.br_store.specs.Names.{tree_of, select_text}
use Rattle.br_store.proofs.Asks.{Shows}
use Rattle.br_store.proofs.NameQueries.{CanAsk, asked_of, asks_is, bound_of, draft_of}
use Rattle.br_store.proofs.Found.{over}
use Rattle.br_store.proofs.Columns.{carried}
use Rattle.sqlite_resolve.specs.declared.scope.Output.{Output}
use Rattle.br_store.proofs.Lookups.{by_tree}

abbrev pub name_query : ℕ → Query
name_query tree = record {
  from = inner tree end;
  filter = op2 (Compare Eq Binary) (col 1 2) (col 0 0) ∷ [];
  group = None;
  project = col 1 0 ∷ [];
  distinct = false;
  collations = [];
  order = [];
  limit = lit (Int (negsuc 0));
  offset = lit (Int (pos 0));
}

abbrev pub key_name : Dictionary → List ℕ
key_name Client = codes "ClientId"
key_name FileSet = codes "FileSetId"
key_name Media = codes "MediaId"
key_name Path = codes "PathId"

module _ (schema : Schema) (l : Layout) (o : Owns) (has : HasAll schema l o) where
  compared_client : (shown : List Output) → compared (over schema (bound_of (with_own (client l.client) o.client) has.client.place) shown false true) (Compare Eq (chosen (carried (asked_of (with_own (client l.client) o.client) has.client.place (codes "Name") 1 (column (codes "Name") Text))) nothing)) (col 1 2) (col 0 0) ≡ op2 (Compare Eq Binary) (col 1 2) (col 0 0)
  unfolding compared affinity_of of_column converted chosen first_found spelled
  compared_client shown = rw has.client.is refl

  typed_client : program schema [] (draft_of (with_own (client l.client) o.client)) ≡ Ok (record { lets = []; body = name_query l.client })
  unfolding program
  typed_client = rw (has.client.stored, by_tree schema (with_own (client l.client) o.client) has.client) refl

  compared_fileset : (shown : List Output) → compared (over schema (bound_of (with_own (fileset l.fileset) o.fileset) has.fileset.place) shown false true) (Compare Eq (chosen (carried (asked_of (with_own (fileset l.fileset) o.fileset) has.fileset.place (codes "FileSet") 1 (column (codes "FileSet") Text))) nothing)) (col 1 2) (col 0 0) ≡ op2 (Compare Eq Binary) (col 1 2) (col 0 0)
  unfolding compared affinity_of of_column converted chosen first_found spelled
  compared_fileset shown = rw has.fileset.is refl

  typed_fileset : program schema [] (draft_of (with_own (fileset l.fileset) o.fileset)) ≡ Ok (record { lets = []; body = name_query l.fileset })
  unfolding program
  typed_fileset = rw (has.fileset.stored, by_tree schema (with_own (fileset l.fileset) o.fileset) has.fileset) refl

  compared_media : (shown : List Output) → compared (over schema (bound_of (with_own (media l.media) o.media) has.media.place) shown false true) (Compare Eq (chosen (carried (asked_of (with_own (media l.media) o.media) has.media.place (codes "VolumeName") 1 (column (codes "VolumeName") Text))) nothing)) (col 1 2) (col 0 0) ≡ op2 (Compare Eq Binary) (col 1 2) (col 0 0)
  unfolding compared affinity_of of_column converted chosen first_found spelled
  compared_media shown = rw has.media.is refl

  typed_media : program schema [] (draft_of (with_own (media l.media) o.media)) ≡ Ok (record { lets = []; body = name_query l.media })
  unfolding program
  typed_media = rw (has.media.stored, by_tree schema (with_own (media l.media) o.media) has.media) refl

  compared_path : (shown : List Output) → compared (over schema (bound_of (with_own (path l.path) o.path) has.path.place) shown false true) (Compare Eq (chosen (carried (asked_of (with_own (path l.path) o.path) has.path.place (codes "Path") 1 (column (codes "Path") Any))) nothing)) (col 1 2) (col 0 0) ≡ op2 (Compare Eq Binary) (col 1 2) (col 0 0)
  unfolding compared affinity_of of_column converted chosen first_found spelled
  compared_path shown = rw has.path.is refl

  typed_path : program schema [] (draft_of (with_own (path l.path) o.path)) ≡ Ok (record { lets = []; body = name_query l.path })
  unfolding program
  typed_path = rw (has.path.stored, by_tree schema (with_own (path l.path) o.path) has.path) refl

  asks_client : CanAsk schema (with_own (client l.client) o.client) has.client.place (codes "ClientId") (codes "Name") (select_text Client) (key_column (codes "ClientId")) (column (codes "Name") Text)
  unfolding everything
  asks_client = record {
    sees_key = record { only = refl; got = has.client.is; has = refl };
    sees_name = record { only = refl; got = has.client.is; has = refl };
    test = λ shown. compared_client shown;
    typed = typed_client;
    read = refl;
    parsed = refl;
    timeless = refl;
  }

  asks_fileset : CanAsk schema (with_own (fileset l.fileset) o.fileset) has.fileset.place (codes "FileSetId") (codes "FileSet") (select_text FileSet) (key_column (codes "FileSetId")) (column (codes "FileSet") Text)
  unfolding everything
  asks_fileset = record {
    sees_key = record { only = refl; got = has.fileset.is; has = refl };
    sees_name = record { only = refl; got = has.fileset.is; has = refl };
    test = λ shown. compared_fileset shown;
    typed = typed_fileset;
    read = refl;
    parsed = refl;
    timeless = refl;
  }

  asks_media : CanAsk schema (with_own (media l.media) o.media) has.media.place (codes "MediaId") (codes "VolumeName") (select_text Media) (key_column (codes "MediaId")) (column (codes "VolumeName") Text)
  unfolding everything
  asks_media = record {
    sees_key = record { only = refl; got = has.media.is; has = refl };
    sees_name = record { only = refl; got = has.media.is; has = refl };
    test = λ shown. compared_media shown;
    typed = typed_media;
    read = refl;
    parsed = refl;
    timeless = refl;
  }

  asks_path : CanAsk schema (with_own (path l.path) o.path) has.path.place (codes "PathId") (codes "Path") (select_text Path) (key_column (codes "PathId")) (column (codes "Path") Any)
  unfolding everything
  asks_path = record {
    sees_key = record { only = refl; got = has.path.is; has = refl };
    sees_name = record { only = refl; got = has.path.is; has = refl };
    test = λ shown. compared_path shown;
    typed = typed_path;
    read = refl;
    parsed = refl;
    timeless = refl;
  }

  pub select_is : (d : Dictionary) → Shows schema (select_text d) (name_query (tree_of l d)) (key_name d ∷ [])
  select_is Client = asks_is schema (with_own (client l.client) o.client) has.client (codes "ClientId") (codes "Name") (select_text Client) _ _ asks_client
  select_is FileSet = asks_is schema (with_own (fileset l.fileset) o.fileset) has.fileset (codes "FileSetId") (codes "FileSet") (select_text FileSet) _ _ asks_fileset
  select_is Media = asks_is schema (with_own (media l.media) o.media) has.media (codes "MediaId") (codes "VolumeName") (select_text Media) _ _ asks_media
  select_is Path = asks_is schema (with_own (path l.path) o.path) has.path (codes "PathId") (codes "Path") (select_text Path) _ _ asks_path
