-- What the query over jobs means, in any schema with the catalogue's tables.
use Rattle.std.proofs.Common.{◌≡◌, ◌-◌, ℕ, true, false, pos, negsuc, List, [], ◌∷◌, map, codes, Option, None, Some, Ok, refl, ◌∙◌}
use Rattle.std.specs.List.{AllByRecursion}
use Rattle.sqlite.specs.declared.types.Value.TheVariants.{Int}
use Rattle.sqlite.specs.Collation.TheVariants.{Binary}
use Rattle.sqlite.specs.Schema.{Schema}
use Rattle.sqlite.specs.Table.{Table}
use Rattle.sqlite.specs.Kind.TheVariants.{Integer, Text}
use Rattle.sqlite.specs.Query.{inner, end}
use Rattle.sqlite.specs.Term.{Term, lit, col, op2}
use Rattle.sqlite_ast.specs.declared.Binary.TheVariants as binary
use Rattle.sqlite_ast.specs.declared.Expr.TheVariants as e
use Rattle.sqlite_ast.specs.declared.Core.{Core}
use Rattle.sqlite_ast.specs.declared.Select.{Select as Written}
use Rattle.sqlite_ast.specs.declared.Sort.{Sort}
use Rattle.sqlite_ast.specs.declared.Source.{Source}
use Rattle.sqlite_ast.specs.declared.Shown.{Shown}
use Rattle.sqlite_ast.specs.declared.Statement.TheVariants as written
use Rattle.sqlite_draft.specs.declared.join.Step.TheVariants.{Inner}
use Rattle.sqlite_draft.specs.declared.query.Draft.{Draft}
use Rattle.sqlite_schema.specs.Names.{same_name}
use Rattle.sqlite_sql.specs.declared.ops.BinaryOp.TheVariants.{Compare}
use Rattle.sqlite_sql.specs.declared.ops.CompareOp.TheVariants.{Eq}
use Rattle.sqlite_value.specs.Keys.{ascending}
use Rattle.sqlite_value.specs.declared.keys.Collation.{Collation}
use Rattle.sqlite_resolve.specs.declared.scope.Bound.{Bound}
use Rattle.sqlite_resolve.specs.declared.scope.Output.{Output}
use Rattle.sqlite_resolve.specs.declared.state.Carried.{Carried}
use Rattle.sqlite_resolve.specs.Lowering.{max_budget, nothing, chosen, first_found, alone}
use Rattle.sqlite_resolve.specs.Compare.{compared, affinity_of, of_column, converted}
use Rattle.sqlite_resolve.specs.Compile.{first}
use Rattle.sqlite_resolve.specs.Program.{program, query, sources, Building}
use Rattle.sqlite_resolve.specs.Body.{bounds, joins, tests}
use Rattle.sqlite_resolve.specs.Order.{sorts}
use Rattle.sqlite_resolve.specs.Expr.{lower}
use Rattle.sqlite_resolve.specs.Select.{ungrouped}
use Rattle.sqlite_tied.specs.Compute.{everything}
use Rattle.br_catalog_tables.specs.TreePlaces.{Layout}
use Rattle.br_catalog_tables.specs.Tables.{column, key_column, job, client, fileset}
use Rattle.br_catalog_tables.specs.KnownSchemas.{HasAll, Owns, with_own}
use Rattle.br_store.proofs.Asks.{Shows, shows_from, jobs_query, select_jobs, job_names}
use Rattle.br_store.proofs.Compiled.{pick}
use Rattle.br_store.proofs.Syntax.{core_of, select_of, order_by, from_table, out_from}
use Rattle.br_store.proofs.Found.{over, st}
use Rattle.br_store.proofs.Parts.{bound_is, joined_is, inner_is, inner_on_is, sorted_is}
use Rattle.br_store.proofs.Columns.{AreAt, Asked, Sees, ask, asks, bind, carried, output, only_is, last_after}
use Rattle.br_store.proofs.Tests.{on_is, column_of}
use Rattle.br_store.proofs.Whole.{OutCore, OutSelect, answer_is, select_planned}
use Rattle.br_store.proofs.Lookups.{by_tree}

module _ (schema : Schema) (l : Layout) (o : Owns) (has : HasAll schema l o) where
  abbrev job_here : Table
  job_here = with_own (job l.job) o.job

  abbrev job_bound : Bound
  job_bound = bind (codes "Job") has.job.place 1

  abbrev client_here : Table
  client_here = with_own (client l.client) o.client

  abbrev client_bound : Bound
  client_bound = bind (codes "Client") has.client.place 2

  abbrev fileset_here : Table
  fileset_here = with_own (fileset l.fileset) o.fileset

  abbrev fileset_bound : Bound
  fileset_bound = bind (codes "FileSet") has.fileset.place 3

  abbrev bound_all : List Bound
  bound_all = job_bound ∷ client_bound ∷ fileset_bound ∷ []

  abbrev all_here : List Table
  all_here = job_here ∷ client_here ∷ fileset_here ∷ []

  abbrev asked : List Asked
  asked =
      ask job_bound job_here (codes "JobId") (codes "Job.JobId") 0 (key_column (codes "JobId"))
      ∷ ask job_bound job_here (codes "Type") (codes "Job.Type") 1 (column (codes "Type") Text)
      ∷ ask job_bound job_here (codes "Level") (codes "Job.Level") 2 (column (codes "Level") Text)
      ∷ ask client_bound client_here (codes "Name") (codes "Client.Name") 1 (column (codes "Name") Text)
      ∷ ask job_bound job_here (codes "JobStatus") (codes "Job.JobStatus") 4 (column (codes "JobStatus") Text)
      ∷ ask job_bound job_here (codes "StartTime") (codes "Job.StartTime") 5 (column (codes "StartTime") Integer)
      ∷ ask fileset_bound fileset_here (codes "FileSet") (codes "FileSet.FileSet") 1 (column (codes "FileSet") Text)
      ∷ ask job_bound job_here (codes "VolSessionId") (codes "Job.VolSessionId") 7 (column (codes "VolSessionId") Integer)
      ∷ ask job_bound job_here (codes "VolSessionTime") (codes "Job.VolSessionTime") 8 (column (codes "VolSessionTime") Integer) ∷ []

  abbrev left_0 : Asked
  left_0 = ask client_bound client_here (codes "ClientId") [] 0 (key_column (codes "ClientId"))

  abbrev right_0 : Asked
  right_0 = ask job_bound job_here (codes "ClientId") [] 3 (column (codes "ClientId") Integer)

  sees_left_0 : Sees schema bound_all all_here left_0
  unfolding same_name
  sees_left_0 = record { only = refl; got = has.client.is; has = refl }

  sees_right_0 : Sees schema bound_all all_here right_0
  unfolding same_name
  sees_right_0 = record { only = refl; got = has.job.is; has = refl }

  abbrev test_0 : Term
  test_0 = op2 (Compare Eq Binary) (col 2 0) (col 1 4)

  compared_0 : (shown : List Output) → compared (over schema bound_all shown false true) (Compare Eq (chosen (carried left_0) (carried right_0))) (col 2 0) (col 1 4) ≡ test_0
  unfolding compared affinity_of of_column converted chosen first_found
  compared_0 shown = rw has.job.is refl

  abbrev left_1 : Asked
  left_1 = ask fileset_bound fileset_here (codes "FileSetId") [] 0 (key_column (codes "FileSetId"))

  abbrev right_1 : Asked
  right_1 = ask job_bound job_here (codes "FileSetId") [] 6 (column (codes "FileSetId") Integer)

  sees_left_1 : Sees schema bound_all all_here left_1
  unfolding same_name
  sees_left_1 = record { only = refl; got = has.fileset.is; has = refl }

  sees_right_1 : Sees schema bound_all all_here right_1
  unfolding same_name
  sees_right_1 = record { only = refl; got = has.job.is; has = refl }

  abbrev test_1 : Term
  test_1 = op2 (Compare Eq Binary) (col 3 0) (col 1 7)

  compared_1 : (shown : List Output) → compared (over schema bound_all shown false true) (Compare Eq (chosen (carried left_1) (carried right_1))) (col 3 0) (col 1 7) ≡ test_1
  unfolding compared affinity_of of_column converted chosen first_found
  compared_1 shown = rw has.job.is refl

  abbrev sorted_by : Asked
  sorted_by = ask job_bound job_here (codes "JobId") [] 0 (key_column (codes "JobId"))

  sees_sorted_by : Sees schema bound_all all_here sorted_by
  unfolding same_name
  sees_sorted_by = record { only = refl; got = has.job.is; has = refl }

  here : AreAt schema bound_all all_here
  here = (has.job.is, (has.client.is, (has.fileset.is, tt)))

  sees_all : AllByRecursion (Sees schema bound_all all_here) asked
  unfolding same_name
  sees_all =
      (record { only = refl; got = has.job.is; has = refl }, (record { only = refl; got = has.job.is; has = refl }, (record { only = refl; got = has.job.is; has = refl }, (record { only = refl; got = has.client.is; has = refl }, (record { only = refl; got = has.job.is; has = refl }, (record { only = refl; got = has.job.is; has = refl }, (record { only = refl; got = has.fileset.is; has = refl }, (record { only = refl; got = has.job.is; has = refl }, (record { only = refl; got = has.job.is; has = refl }, tt)))))))))

  abbrev shown_all : List Shown
  shown_all = map asks asked

  abbrev from_all : List Source
  from_all =
      from_table (codes "Job") None
      ∷ from_table (codes "Client") (Some (e.Binary binary.Eq (column_of left_0) (column_of right_0)))
      ∷ from_table (codes "FileSet") (Some (e.Binary binary.Eq (column_of left_1) (column_of right_1))) ∷ []

  abbrev order : List Sort
  order = order_by (column_of sorted_by) ∷ []

  abbrev core : Core
  core = core_of shown_all from_all None

  abbrev select : Written
  select = select_of core order

  select_opens : OutSelect select core order
  unfolding everything
  select_opens = refl

  core_opens : OutCore core shown_all from_all None
  unfolding everything
  core_opens = refl

  is_read : (pick (first select_jobs)).statement ≡ written.Select select
  unfolding everything
  is_read = refl

  is_first : first select_jobs ≡ Ok (pick (first select_jobs))
  unfolding everything
  is_first = refl

  is_timeless : (pick (first select_jobs)).formats ≡ []
  unfolding everything
  is_timeless = refl

  are_stored : (g : Schema → Written → Building (Draft × List (List ℕ) × List (Option Collation))) → sources g schema from_all [] ≡ Ok (schema, [])
  unfolding everything
  are_stored g = refl

  binds_all : bounds schema from_all (st 1 max_budget nothing) ≡ Ok (bound_all, st 4 max_budget nothing)
  unfolding bounds
  binds_all =
      rw (
        bound_is schema (codes "Job") has.job.place 1 max_budget nothing has.job.named refl,
        joined_is schema (codes "Client") _ has.client.place 2 max_budget nothing has.client.named refl,
        joined_is schema (codes "FileSet") _ has.fileset.place 3 max_budget nothing has.fileset.named refl,
      ) refl

  joins_all : (shown : List Output) (k : Carried) → joins lower (over schema bound_all shown false true) bound_all from_all (st 4 (max_budget - 9) k)
      ≡ Ok (record { steps = Inner l.job ∷ Inner l.client ∷ Inner l.fileset ∷ []; filter = test_0 ∷ test_1 ∷ [] }, st 4 (max_budget - 15) nothing)
  unfolding joins
  joins_all shown k =
      let cx = over schema bound_all shown false true in
      rw (
        out_from (codes "Job"),
        inner_is cx bound_all (record { steps = []; filter = [] }) (codes "Job") (codes "Job") has.job.place 1 job_here (st 4 (max_budget - 9) k) has.job.is,
        inner_on_is cx bound_all (record { steps = Inner l.job ∷ []; filter = [] }) (codes "Client") (codes "Client") has.client.place 2 client_here _ test_0 _ _ has.client.is
            (on_is schema bound_all all_here shown false true left_0 right_0 test_0 4 (max_budget - 9) k here sees_left_0 sees_right_0 refl refl refl (compared_0 shown)),
        inner_on_is cx bound_all (record { steps = Inner l.job ∷ Inner l.client ∷ []; filter = test_0 ∷ [] }) (codes "FileSet") (codes "FileSet") has.fileset.place 3 fileset_here _ test_1 _ _ has.fileset.is
            (on_is schema bound_all all_here shown false true left_1 right_1 test_1 4 (max_budget - 12) nothing here sees_left_1 sees_right_1 refl refl refl (compared_1 shown)),
      ) refl

  sorts_all : (shown : List Output) → sorts lower (over schema bound_all shown false true) shown order (st 4 (max_budget - 15) nothing) ≡ Ok ((col 1 0, ascending Binary) ∷ [], st 4 (max_budget - 16) (carried sorted_by))
  unfolding sorts alone
  sorts_all shown =
      rw (sorted_is schema bound_all shown false [] (Some (codes "Job")) (codes "JobId") 1 has.job.place 0 job_here (key_column (codes "JobId")) 4 (max_budget - 15) nothing
      (only_is schema (Some (codes "Job")) (codes "JobId") bound_all all_here here ∙ sees_sorted_by.only) has.job.is refl refl refl refl) refl

  tests_all : (shown : List Output) → tests lower (over schema bound_all shown false true) (test_0 ∷ test_1 ∷ []) None (st 4 (max_budget - 15) nothing) ≡ Ok (test_0 ∷ test_1 ∷ [], st 4 (max_budget - 15) nothing)
  unfolding tests
  tests_all shown = refl

  abbrev draft : Draft
  draft = record {
    from = inner l.job (inner l.client (inner l.fileset end));
    filter = test_0 ∷ test_1 ∷ [];
    group = None;
    project = col 1 0 ∷ col 1 2 ∷ col 1 3 ∷ col 2 2 ∷ col 1 5 ∷ col 1 6 ∷ col 3 2 ∷ col 1 8 ∷ col 1 9 ∷ [];
    distinct = false;
    collations = [];
    order = (col 1 0, ascending Binary) ∷ [];
    limit = lit (Int (negsuc 0));
    offset = lit (Int (pos 0));
  }

  abbrev answer : Draft × List (List ℕ) × List (Option Collation)
  answer = (draft, job_names, None ∷ Some Binary ∷ Some Binary ∷ Some Binary ∷ Some Binary ∷ Some Binary ∷ Some Binary ∷ Some Binary ∷ Some Binary ∷ [])

  means : query schema select ≡ Ok (answer, [])
  unfolding ungrouped
  means =
      let columns = map output asked in
      let last = last_after nothing asked in
      answer_is schema select core from_all None order bound_all all_here asked (Inner l.job ∷ Inner l.client ∷ Inner l.fileset ∷ []) (test_0 ∷ test_1 ∷ []) (test_0 ∷ test_1 ∷ []) ((col 1 0, ascending Binary) ∷ [])
      4 (max_budget - 15) (max_budget - 15) (max_budget - 16) nothing nothing (carried sorted_by) select_opens core_opens are_stored binds_all here sees_all
      (refl, (refl, (refl, (refl, (refl, (refl, (refl, (refl, (refl, tt))))))))) (joins_all columns last) (tests_all columns) (sorts_all columns)

  is_typed : program schema [] draft ≡ Ok (record { lets = []; body = jobs_query l })
  unfolding program
  is_typed = rw (has.job.stored, by_tree schema job_here has.job, has.client.stored, by_tree schema client_here has.client, has.fileset.stored, by_tree schema fileset_here has.fileset) refl

  pub select_jobs_is : Shows schema select_jobs (jobs_query l) job_names
  select_jobs_is = shows_from schema select_jobs (pick (first select_jobs)) (jobs_query l) job_names is_first
      (select_planned schema (pick (first select_jobs)) select answer (record { lets = []; body = jobs_query l }) is_read is_timeless means is_typed)
