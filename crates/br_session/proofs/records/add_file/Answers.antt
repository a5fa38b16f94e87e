use Rattle.br_session.proofs.RecordLaws.{file_is_added, on_ok_more}
use Rattle.br_session.proofs.records.add_file.Goals as goal

pub returns-clause-records : goal.returns-clause-records
returns-clause-records c =
    let bytes = rw c.bytes.ensures at c.in_ok-add_data.ensures in
    on_ok_more c.add_digest.result _ _ (λ digest. file_is_added _ _ _ _ c.args.index c.args.file.now c.in_ok-add_attributes.ensures.records bytes digest) c.add_digest.ensures
