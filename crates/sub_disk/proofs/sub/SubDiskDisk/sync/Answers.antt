use Rattle.sub_disk.proofs.Faults.{counts_more}
use Rattle.sub_disk.proofs.Steps.{syncs}
use Rattle.sub_disk.proofs.sub.SubDiskDisk.sync.Goals as goal

pub invariant_of-self : goal.invariant_of-self
invariant_of-self g c =
    let self = c.args.self.now in
    record {
      named = self.named;
      place = self.place;
      room = self.room;
      begun = self.begun;
      counts = counts_more g.K.Start.faults (g.D.Disk.faults self.disk) (g.D.Disk.faults c.sync-answer.new.self) self.faults c.faults_after-self.result _ self.counts c.sync-answer.ensures.cause c.faults_after-self.ensures;
      kept = λ told. (syncs g.K.Start.prefix self.place self.made c.calls_after-self.result self.is_spent g.K.Start.start (g.D.Disk.story self.disk) (g.D.Disk.story c.sync-answer.new.self)
          c.in_ok-room_for.ensures.open (self.kept told) (g.met.D.Disk.sound c.sync-answer.new.self told) c.sync-answer.result c.calls_after-self.ensures (c.sync-answer.ensures.told told)).kept;
    }

pub returns-clause-told : goal.returns-clause-told
returns-clause-told g c = λ told.
    let self = c.args.self.now in
    (syncs g.K.Start.prefix self.place self.made c.calls_after-self.result self.is_spent g.K.Start.start (g.D.Disk.story self.disk) (g.D.Disk.story c.sync-answer.new.self)
    c.in_ok-room_for.ensures.open (self.kept told) (g.met.D.Disk.sound c.sync-answer.new.self told) c.sync-answer.result c.calls_after-self.ensures (c.sync-answer.ensures.told told)).told
