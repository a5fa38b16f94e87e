use Rattle.std.proofs.Common.{rules, w64, SFits}
use Rattle.br_attr.proofs.WritingLaws.{bits_of}
use Rattle.br_attr.proofs.stat.Stat.has_64_bits.Goals as goal

pub returns : goal.returns
returns c =
    let s = c.args.self.now in
    let dev : SFits w64 s.dev = search rules in
    let ino : SFits w64 s.ino = search rules in
    let mode : SFits w64 s.mode = search rules in
    let nlink : SFits w64 s.nlink = search rules in
    let uid : SFits w64 s.uid = search rules in
    let gid : SFits w64 s.gid = search rules in
    let rdev : SFits w64 s.rdev = search rules in
    let size : SFits w64 s.size = search rules in
    let blksize : SFits w64 s.blksize = search rules in
    let blocks : SFits w64 s.blocks = search rules in
    let atime : SFits w64 s.atime = search rules in
    let mtime : SFits w64 s.mtime = search rules in
    let ctime : SFits w64 s.ctime = search rules in
    let link_index : SFits w64 s.link_index = search rules in
    (bits_of s.dev dev, (bits_of s.ino ino, (bits_of s.mode mode, (bits_of s.nlink nlink, (bits_of s.uid uid, (bits_of s.gid gid, (bits_of s.rdev rdev, (bits_of s.size size, (bits_of s.blksize blksize, (bits_of s.blocks blocks, (bits_of s.atime atime, (bits_of s.mtime mtime, (bits_of s.ctime ctime, (bits_of s.link_index link_index, tt))))))))))))))
