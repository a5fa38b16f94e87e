-- Volumes that only grow, over calls one after the other.
use Rattle.std.proofs.Common.{List, [], ◌++◌, Option, Some, None, ap, sym, ◌∙◌, append_assoc}
use Rattle.std.proofs.lemmas.List.{append-nil}
use Rattle.br_model.specs.Volume.{Volume, Extends}
use Rattle.br_volume.specs.Drive.{OnlyGrows}

pub extends_itself : (volumes : List Volume) → Extends volumes volumes
extends_itself volumes name bytes found = ([], found ∙ ap Some (sym (append-nil bytes)))

pub extends_more : (earlier later last : List Volume) → Extends last later → Extends later earlier → Extends last earlier
extends_more earlier later last more some name bytes found =
    let p = some name bytes found in
    let q = more name (bytes ++ p.0) p.1 in
    (p.0 ++ q.0, q.1 ∙ ap Some (append_assoc bytes p.0 q.0))

pub grows_itself : (shown : Option (List Volume)) → OnlyGrows shown shown
grows_itself None = tt
grows_itself (Some volumes) = extends_itself volumes

pub grows_more : (earlier later last : Option (List Volume)) → OnlyGrows earlier later → OnlyGrows later last → OnlyGrows earlier last
grows_more None None None p q = tt
grows_more None None (Some l) p q = q
grows_more None (Some t) last p q = absurd p
grows_more (Some e) None last p q = absurd p
grows_more (Some e) (Some t) None p q = q
grows_more (Some e) (Some t) (Some l) p q = extends_more e t l q p
