use Rattle.std.proofs.Common.{◌≡◌, ◌++◌, length, map}
use Rattle.br_model.specs.Block.{Fragment}
use Rattle.br_match.specs.Groups.{first_for, hits_of_fragments}
use Rattle.br_match.proofs.block_hits.push_hits_of.Given as goal

-- the hits of the fragments so far, and their number
abbrev pub invariant-loop-fragment : goal.invariant-loop-fragment
invariant-loop-fragment l =
    (l.hits.items ≡ l.initial.hits.items ++ hits_of_fragments (first_for l.session (map (λ m. m.now) l.near)) l.addr 0 l.yielded)
    × (l.ordinal ≡ length l.yielded) × (l.yielded ++ l.fragment-iterator ≡ l.fn.fragments)
