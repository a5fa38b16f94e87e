use Rattle.std.proofs.Common.{◌∙◌}
use Rattle.std.proofs.lemmas.Result.{on_ok_weaker}
use Rattle.br_engine.proofs.OlderLaws.{counted_first}
use Rattle.br_engine.proofs.older_counts.note_copy.Goals as goal

pub returns : goal.returns
returns c =
    on_ok_weaker c.note.result
    (λ notes test cs passes was. record {
      noted = notes cs was.noted;
      counted = c.and_one-last.ensures ∙ counted_first test (record { key = c.args.key; path = c.args.path.now }) cs _ _ _ passes (c.is_counted-is_more.ensures cs was.noted) was.counted;
    })
    c.note.ensures
