use Rattle.br_model.proofs.GrammarLaws.{reading_is_the_grammar_lem}
use Rattle.br_model.proofs.reading_is_the_grammar.Goals as goal

pub returns : goal.returns
returns c = reading_is_the_grammar_lem
