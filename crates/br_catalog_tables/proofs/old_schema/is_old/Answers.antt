use Rattle.br_catalog_tables.proofs.old_schema.is_old.Goals as goal

pub returns-then-fit_indexes : goal.returns-then-fit_indexes
returns-then-fit_indexes c apart =
    let a = rw c.tables-trees.ensures at (c.all_stand.ensures c.if-not-all_stand.false) in
    record {
      has = record {
        version = a.0;
        client = a.1.0;
        fileset = a.1.1.0;
        media = a.1.1.1.0;
        path = a.1.1.1.1.0;
        filename = a.1.1.1.1.1.0;
        job = a.1.1.1.1.1.1.0;
        job_media = a.1.1.1.1.1.1.1.0;
        file = a.1.1.1.1.1.1.1.1.0;
      };
      tables = rw (c.tables-trees.ensures, c.as_slice.ensures) at (c.may_all_stay.ensures c.if-not-may_all_stay.false);
      indexes = rw c.as_slice-2.ensures at (c.fit_indexes.ensures c.if-fit_indexes.true);
      apart = c.is_apart.ensures apart;
    }
