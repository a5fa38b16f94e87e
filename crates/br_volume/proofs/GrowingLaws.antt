-- A drive that appends tails shows volumes that only grow.
use Rattle.std.proofs.Common.{◌≡◌, Bool, true, false, cond, List, [], ◌∷◌, subst, sym}
use Rattle.br_model.specs.Volume.{Volume, Extends}
use Rattle.br_volume.specs.Memory.{Held, grown, grown_by}
use Rattle.br_fs.proofs.AppendLaws.{appended_is}
use Rattle.br_volume.proofs.AppendLaws.{appended_extends}
use Rattle.br_volume.proofs.ExtendLaws.{extends_itself}

-- the volumes that a call reads extend those before it
pub grown_extends : (drive : Held) (later : List Volume) → later ≡ (grown drive).volumes → Extends later drive.volumes
grown_extends drive later is = go drive.has_begun drive.tails is
  where
    go : (b : Bool) (tails : List Volume) → later ≡ cond b (grown_by tails drive.volumes) drive.volumes → Extends later drive.volumes
    go true [] same = subst (λ (vs : List Volume). Extends vs drive.volumes) (sym same) (extends_itself drive.volumes)
    go true (tail ∷ tails) longer = appended_extends tail.name tail.bytes drive.volumes later (appended_is tail.name tail.bytes drive.volumes later longer)
    go false tails same = subst (λ (vs : List Volume). Extends vs drive.volumes) (sym same) (extends_itself drive.volumes)
