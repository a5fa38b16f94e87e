use Rattle.std.proofs.Common.{List, sym, subst, arith}
use Rattle.std.specs.List.{AllZip}
use Rattle.br_reread_files.specs.Sharing.{HasMade}
use Rattle.br_reread_files.specs.declared.sharing.FileShare.{FileShare}
use Rattle.br_reread_files.proofs.TurnLaws.{written, zip_at}
use Rattle.br_reread_files.proofs.sharing.run_all.Goals as goal

pub returns : goal.returns
returns g c =
    let R : FileShare g.row.D.Denot → FileShare g.row.D.Denot → Type 0 = HasMade g.D.Drive.shows g.D.Drive.failures c.args.groups.now in
    let same = c.run_shares.auto.shares in
    subst (λ (l : List (FileShare g.row.D.Denot)). AllZip R c.args.shares.items l)
    (sym (written c.args.shares.len c.run_shares.new.shares c.args.shares.items (let l = c.as_mut_slice.ensures.len in omega (arith, same, l))))
    (subst (λ (l : List (FileShare g.row.D.Denot)). AllZip R l c.run_shares.new.shares) c.as_mut_slice.ensures.value
    (zip_at R c.as_mut_slice.result.now c.run_shares.new.shares (omega (arith, same)) c.run_shares.ensures))
