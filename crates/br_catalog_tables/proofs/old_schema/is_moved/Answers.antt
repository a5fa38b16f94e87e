use Rattle.br_catalog_tables.proofs.old_schema.is_moved.Goals as goal

pub returns : goal.returns
returns c kept =
    let a = rw c.moved-trees.ensures at (c.all_stand.ensures c.if-not-all_stand.false) in
    record {
      has = record {
        version = a.0;
        client = a.1.0;
        fileset = a.1.1.0;
        media = a.1.1.1.0;
        path = a.1.1.1.1.0;
        job = a.1.1.1.1.1.0;
        job_media = a.1.1.1.1.1.1.0;
        file = a.1.1.1.1.1.1.1.0;
      };
      tables = rw (c.moved-trees.ensures, c.as_slice.ensures) at (c.may_all_stay.ensures c.if-not-may_all_stay.false);
      kept = rw (c.as_slice-2.ensures, c.as_slice-3.ensures) at (c.are_kept.ensures kept);
    }
