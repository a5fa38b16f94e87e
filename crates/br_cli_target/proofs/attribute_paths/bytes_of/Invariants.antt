use Rattle.std.proofs.Common.{◌≡◌, take, flat_map}
use Rattle.br_model.specs.Meaning.{Hit}
use Rattle.br_cli_target.proofs.attribute_paths.bytes_of.Given as goal

abbrev pub invariant-loop-hit : goal.invariant-loop-hit
invariant-loop-hit l = l.bytes.items ≡ flat_map (λ (h : Hit). h.fragment.bytes) (take l.hit-index l.hits)
