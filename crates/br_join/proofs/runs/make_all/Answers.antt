use Rattle.std.proofs.Common.{◌≡◌, ap, ◌∙◌, IfOk}
use Rattle.rayon.proofs.ToStd.{slice-AllZip}
use Rattle.br_join.specs.Outcome.{restored}
use Rattle.br_join.specs.Runs.{file_of}
use Rattle.br_join.proofs.FilesLaws.{answer_made}
use Rattle.br_join.proofs.runs.make_all.Goals as goal

pub returns : goal.returns
returns g c =
    let chain = c.in_ok-collect.ensures in
    let base = ap (λ it. it.base) c.map.ensures.base ∙ c.with_min_len.ensures.base in
    let slice = ap (λ it. it.slice.now) base ∙ c.par_iter.ensures in
    let pairs = chain.1 in
    answer_made _ _ (λ v. v.items) c.args.runs.now chain.0 c.in_ok-collect.field-0 _
    (slice-AllZip pairs.0 c.args.runs.now (pairs.1 ∙ slice) (λ run file. IfOk file (λ f. restored f ≡ file_of run)) chain.0 pairs.2) chain.2
