use Rattle.std.proofs.Common.{subst, arith}
use Rattle.sqlite.specs.Held.{state}
use Rattle.sqlite.specs.State.{HasCleanDisk}
use Rattle.br_catalog_files.proofs.catalogue_files.wrong_in.Goals as goal

pub returns : goal.returns
returns g c clean =
    let after : HasCleanDisk (state g.S.Store c.find_wrong.new.self) = subst (λ h. HasCleanDisk (state g.S.Store h)) c.into_connection.ensures.same clean in
    let before : HasCleanDisk (state g.S.Store c.in_ok-store.store) = omega (arith, after, c.find_wrong.ensures.survives.clean) in
    ((state g.S.Store c.in_ok-store.store).now, c.in_ok-store.ensures.finds before, (c.in_ok-told.told, c.in_ok-told.ensures.wrong after, c.in_ok-line.ensures))
