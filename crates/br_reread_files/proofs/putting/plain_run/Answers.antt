use Rattle.std.proofs.Common.{◌≡◌, true, List, ap, refl, subst, sym, ◌∙◌}
use Rattle.br_model.specs.Block.{Fragment}
use Rattle.br_model.specs.File.{Item, has_bytes}
use Rattle.br_model.specs.Restored.{fragments_for, outcome_of}
use Rattle.br_records.specs.Records.{fragments}
use Rattle.br_records.specs.Runs.{listed}
use Rattle.br_records.proofs.FilesLaws.{fragments_in_run}
use Rattle.br_join.proofs.PlainLaws.{plain_file}
use Rattle.br_reread_files.proofs.GivenLaws.{given_run}
use Rattle.br_reread_files.proofs.PlainFileLaws.{sparse_hits}
use Rattle.br_reread_files.proofs.putting.plain_run.Goals as goal

pub returns : goal.returns
returns c =
    let key = c.args.key in
    let hits = c.args.hits.now in
    let item = c.args.item.now in
    let before = c.around.result.0.now in
    let run = c.around.result.1.now in
    let behind = c.around.result.2.now in
    let around = c.around.ensures in
    let plain = c.if-not-is_plain.ensures in
    let of_run : fragments_for key (listed hits) ≡ fragments run = fragments_in_run key hits before run behind around.joined around.before around.of_key around.after in
    λ many given. (
      given_run many hits before run behind around.joined given.0,
      plain_file key (fragments run) item (sparse_hits run ∙ plain.none refl) (ap (λ (fs : List Fragment). outcome_of key fs) (sym of_run) ∙ given.1)
          (subst (λ (i : Item). has_bytes i.kind ≡ true) c.item.view_is (plain.kind refl)),
    )
