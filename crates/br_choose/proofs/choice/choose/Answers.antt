use Rattle.std.proofs.Common.{◌≡◌, ◌∷◌, ◌++◌, List, Bor, Some, Ok, true, map, filter, sym, ap, ◌∙◌}
use Rattle.std.specs.Prelude.{option_to_list}
use Rattle.std.specs.Option.{option_copied}
use Rattle.br_model.specs.Order.{in_order}
use Rattle.br_model.specs.Job.{JobRows, is_history}
use Rattle.br_model.specs.Choice as model
use Rattle.br_choose.specs.Wanted.{is_wanted}
use Rattle.br_choose.proofs.ChoiceLaws.{unknown_client, unknown_fileset, no_full, chosen_is, chosen_once, last_by_reference}
use Rattle.br_choose.proofs.choice.choose.Goals as goal

pub returns-then-not-has_client-clause-answers : goal.returns-then-not-has_client-clause-answers
returns-then-not-has_client-clause-answers c =
    let q : model.Request = record { client = c.args.client.now; fileset = c.args.fileset.now; moment = c.args.moment } in
    ap (λ h. model.choose h q) (sym c.jobs-jobs.ensures.same) ∙ unknown_client c.jobs-jobs.result.now q (sym c.has_client.ensures ∙ c.if-not-has_client.true)

pub returns-then-not-has_fileset-clause-answers : goal.returns-then-not-has_fileset-clause-answers
returns-then-not-has_fileset-clause-answers c =
    let q : model.Request = record { client = c.args.client.now; fileset = c.args.fileset.now; moment = c.args.moment } in
    ap (λ h. model.choose h q) (sym c.jobs-jobs.ensures.same)
    ∙ unknown_fileset c.jobs-jobs.result.now q (sym c.has_client.ensures ∙ c.if-not-has_client.false) (sym c.has_fileset.ensures ∙ c.if-not-has_fileset.true)

pub returns-in_default-clause-answers : goal.returns-in_default-clause-answers
returns-in_default-clause-answers c =
    let q : model.Request = record { client = c.args.client.now; fileset = c.args.fileset.now; moment = c.args.moment } in
    let is : is_history c.jobs-jobs.result.now ≡ true = ap is_history c.jobs-jobs.ensures.same ∙ c.jobs-jobs.ensures.valid in
    ap (λ h. model.choose h q) (sym c.jobs-jobs.ensures.same)
    ∙ no_full c.jobs-jobs.result.now q is (sym c.has_client.ensures ∙ c.if-not-has_client.false) (sym c.has_fileset.ensures ∙ c.if-not-has_fileset.false)
    (sym c.last_wanted.ensures ∙ ap option_copied c.in_default.is)

pub returns-clause-answers : goal.returns-clause-answers
returns-clause-answers c =
    let q : model.Request = record { client = c.args.client.now; fileset = c.args.fileset.now; moment = c.args.moment } in
    let jobs = c.jobs-jobs.result.now in
    let is : is_history jobs ≡ true = ap is_history c.jobs-jobs.ensures.same ∙ c.jobs-jobs.ensures.valid in
    let full = c.in-Some.full.now in
    let differential = option_copied c.last_wanted-differential.result in
    let of_full = sym c.last_wanted.ensures ∙ ap option_copied c.in-Some.is in
    let last = last_by_reference c.last_wanted-differential.result c.in-Some.full c.unwrap_or-last.result c.unwrap_or-last.ensures in
    let later = c.in_ok-incrementals.ensures ∙ ap (λ k. in_order model.job_rank (filter (is_wanted q 73 (Some k)) jobs)) last in
    let incrementals : List JobRows = map (λ (b : Bor JobRows). b.now) c.in_ok-incrementals.incrementals.items in
    let together =
    c.in_ok-joined.ensures ∙ ap (λ (bs : List (Bor JobRows)). full ∷ option_to_list differential ++ map (λ (b : Bor JobRows). b.now) bs) c.deref.ensures.value in
    ap (λ h. model.choose h q) (sym c.jobs-jobs.ensures.same)
    ∙ chosen_is jobs q full differential incrementals is (sym c.has_client.ensures ∙ c.if-not-has_client.false) (sym c.has_fileset.ensures ∙ c.if-not-has_fileset.false) of_full
    (sym c.last_wanted-differential.ensures) later
    ∙ ap (λ (js : List JobRows). Ok js) (sym together)

pub returns-clause-distinct : goal.returns-clause-distinct
returns-clause-distinct c =
    let q : model.Request = record { client = c.args.client.now; fileset = c.args.fileset.now; moment = c.args.moment } in
    chosen_once c.args.history.now (map (λ (b : Bor JobRows). b.now) c.in_ok-joined.field-0.items) q c.jobs-jobs.ensures.valid (returns-clause-answers c)
