use Rattle.br_model.proofs.CanonicalLaws.{canonical_reads_back}
use Rattle.br_model.proofs.GrammarLaws.{reading_is_the_grammar_lem}
use Rattle.br_model.proofs.canonical_reads_back.Goals as goal

pub returns : goal.returns
returns c = canonical_reads_back reading_is_the_grammar_lem
