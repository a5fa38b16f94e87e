use Rattle.std.proofs.Common.{◌≡◌, ℕ, Ok, not, ◌&&◌, false, true, Bool, sym, ap, subst, ◌∙◌}
use Rattle.std.specs.Prelude.{count_by, filter}
use Rattle.br_model.specs.File.{checks_digest, digest_fits, is_skipped, is_stream}
use Rattle.br_join.specs.Source.{bytes_by}
use Rattle.br_join.proofs.PlainLaws.{content_made, fits_is_fine, same_item}
use Rattle.br_join.proofs.making.content.Goals as goal
use Rattle.br_join.proofs.making.content.Goals.{else-checked-via-then-checked+in_ok-digest_fits+else-not-branch, else-checked-via-else-checked}

-- a digest that is not found to differ fits
fitting : (found fits : Bool) → found ≡ fits → found ≡ true → fits ≡ true
fitting found fits is so = sym is ∙ so

pub returns : goal.returns
returns c =
    let attr = c.in_ok-attr.attr in
    let rs = c.args.records.now in
    let bytes = c.in_ok-bytes.bytes in
    let parts = c.into_parts-kind.result in
    let are = c.into_parts-kind.ensures in
    let read : bytes_by c.args.source attr.kind rs ≡ Ok bytes = subst (λ (k : ℕ). bytes_by c.args.source k rs ≡ Ok bytes) are.kind c.in_ok-bytes.ensures in
    let checked : c.checks_digest-checked.result ≡ checks_digest attr.kind rs = c.checks_digest-checked.ensures ∙ ap (λ (k : ℕ). checks_digest k rs) are.kind in
    let fine : (checks_digest attr.kind rs && not (digest_fits (filter (is_stream 3) rs) bytes)) ≡ false =
    elim c.else-checked.branch [
      | else-checked-via-then-checked+in_ok-digest_fits+else-not-branch w ↦ fits_is_fine (checks_digest attr.kind rs) (digest_fits (filter (is_stream 3) rs) bytes) (fitting _ _ w.in_ok-digest_fits.ensures w.if-not-branch.false)
      | else-checked-via-else-checked w ↦ ap (λ (b : Bool). b && not (digest_fits (filter (is_stream 3) rs) bytes)) (sym checked ∙ w.if-checked.false)
    ] in
    let skipped : c.skipped_in.result ≡ count_by (is_skipped attr.kind (checks_digest attr.kind rs)) rs =
    c.skipped_in.ensures ∙ (λ i. count_by (is_skipped (are.kind i) (checked i)) rs) in
    content_made c.args.index rs c.args.source attr bytes c.in_ok-attr.ensures c.in_ok-refuse_unsupported.ensures read fine
    ∙ same_item attr rs parts.1 parts.0 parts.2 parts.3.items bytes c.skipped_in.result are.path are.kind are.stat are.link skipped
