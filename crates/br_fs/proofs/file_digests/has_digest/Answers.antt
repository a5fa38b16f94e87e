use Rattle.std.proofs.Common.{◌≡◌, true, false}
use Rattle.br_fs.proofs.AlikeLaws.{alike_front, lacks_front}
use Rattle.br_fs.proofs.file_digests.has_digest.Goals as goal

pub returns-clause-alike : goal.returns-clause-alike
returns-clause-alike g c = λ ok.
    let is : c.are_equal.result ≡ true = cc in
    alike_front _ _ _ c.args.path.now _ _ _ _ c.requires.file c.open.ensures.same c.in_ok-file.ensures.opened c.in_ok-found.ensures.digest
    c.digest_front.ensures.same (c.are_equal.ensures.equal is)

pub returns-clause-lacks : goal.returns-clause-lacks
returns-clause-lacks g c = λ ok.
    let is : c.are_equal.result ≡ false = cc in
    lacks_front _ _ _ c.args.path.now _ _ _ _ c.requires.file c.open.ensures.same c.in_ok-file.ensures.opened c.in_ok-found.ensures.digest
    c.digest_front.ensures.same (c.are_equal.ensures.differ is)
