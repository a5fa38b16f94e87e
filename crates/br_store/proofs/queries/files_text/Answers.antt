use Rattle.std.proofs.Common.{refl}
use Rattle.br_store.proofs.queries.files_text.Goals as goal

pub returns : goal.returns
returns c = refl
