use Rattle.std.proofs.Common.{◌≡◌, ◌∷◌, ℕ, List, rules, subst, sym}
use Rattle.std.proofs.lemmas.Result.{on_ok_weaker}
use Rattle.br_join.specs.Outcome.{restored}
use Rattle.br_join.specs.declared.item.Outcome.{Outcome}
use Rattle.br_join.specs.declared.item.Outcome.TheVariants.{File}
use Rattle.br_types.specs.Newest.{AreNoted, copies_of}
use Rattle.br_engine.proofs.newest_flags.note.Goals as goal

pub returns-in-File : goal.returns-in-File
returns-in-File c =
    let is : c.args.outcome.now ≡ File c.in-File.item = search rules in
    let path_is : c.bytes.result.now ≡ c.in-File.item.path = search rules in
    on_ok_weaker c.note.result
    (λ notes rs was.
    subst (λ (o : Outcome). AreNoted c.note.new.self (copies_of (restored (c.args.key, o) ∷ rs))) (sym is)
    (subst (λ (path : List ℕ). AreNoted c.note.new.self (record { key = c.args.key; path = path } ∷ copies_of rs)) path_is (notes (copies_of rs) was)))
    c.note.ensures
