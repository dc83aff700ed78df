use Rattle.std.proofs.Common.{arith}
use Rattle.sub_disk.proofs.Folder.{moment_is}
use Rattle.sub_disk.proofs.sub.SubDiskDisk.moment.Goals as goal

pub returns : goal.returns
returns g c = λ told.
    let self = c.args.self.now in
    let is = moment_is g.K.Start.prefix self.made self.is_spent g.K.Start.start (g.D.Disk.story self.disk) (self.kept told) in
    let fits = self.made in
    omega (arith, is)
