use Rattle.br_catalog_tables.proofs.schema.is_ours.Goals as goal

pub returns-clause-ours : goal.returns-clause-ours
returns-clause-ours c holds =
    let a = c.have_shapes.ensures.0 holds in
    let b = a.1 in
    let d = b.1 in
    let e = d.1 in
    let f = e.1 in
    let g = f.1 in
    let h = g.1 in
    let i = h.1 in (
      record {
        version = a.0.0;
        client = b.0.0;
        fileset = d.0.0;
        media = e.0.0;
        path = f.0.0;
        job = g.0.0;
        job_media = h.0.0;
        file = i.0.0;
      },
      record {
        version = a.0.1;
        client = b.0.1;
        fileset = d.0.1;
        media = e.0.1;
        path = f.0.1;
        job = g.0.1;
        job_media = h.0.1;
        file = i.0.1;
      },
      record {
        version = a.0.2;
        client = b.0.2;
        fileset = d.0.2;
        media = e.0.2;
        path = f.0.2;
        job = g.0.2;
        job_media = h.0.2;
        file = i.0.2;
      },
    )

pub returns-clause-known : goal.returns-clause-known
returns-clause-known c l o has =
    c.have_shapes.ensures.1 ((l.version, o.version, has.version), ((l.client, o.client, has.client), ((l.fileset, o.fileset, has.fileset), ((l.media, o.media, has.media), ((l.path, o.path, has.path), ((l.job, o.job, has.job), ((l.job_media, o.job_media, has.job_media), ((l.file, o.file, has.file), tt))))))))
