use Rattle.sub_disk.proofs.Folder.{goes_on}
use Rattle.sub_disk.proofs.sub.SubDisk.into_disk.Goals as goal

pub returns-clause-goes_on : goal.returns-clause-goes_on
returns-clause-goes_on g c = λ told.
    let self = c.args.self in
    goes_on g.K.Start.prefix self.place self.made self.is_spent g.K.Start.start (g.D.Disk.story self.disk) (self.kept told) (g.met.D.Disk.sound self.disk told)
