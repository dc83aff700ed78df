use Rattle.std.proofs.Common.{◌^◌, ◌≤◌, subst, ℕ}
use Rattle.sub_disk.proofs.Faults.{counts_more}
use Rattle.sub_disk.proofs.Steps.{ends, there_is, there_past}
use Rattle.sub_disk.proofs.Folder.{moment_is, sub_of}
use Rattle.outside_traits.specs.Story.{moment}
use Rattle.sub_disk.proofs.sub.SubDiskDisk.end_sync.Goals as goal

pub invariant_of-self : goal.invariant_of-self
invariant_of-self g c =
    let self = c.args.self.now in
    record {
      named = self.named;
      place = self.place;
      room = self.room;
      begun = self.begun;
      counts = counts_more g.K.Start.faults (g.D.Disk.faults self.disk) (g.D.Disk.faults c.end_sync-answer.new.self) self.faults c.faults_after-self.result _ self.counts c.end_sync-answer.ensures.cause c.faults_after-self.ensures;
      kept = λ told. (ends g.K.Start.prefix self.place self.made c.calls_after-self.result self.is_spent g.K.Start.start (g.D.Disk.story self.disk) (g.D.Disk.story c.end_sync-answer.new.self)
          c.in_ok-room_for.ensures.open (self.kept told) (g.met.D.Disk.sound c.end_sync-answer.new.self told) c.args.moment c.in-Some.there c.end_sync-answer.result
          (there_is (2 ^ 64) (moment g.K.Start.start) self.begin c.args.moment c.in-Some.there (self.begun told) c.in-Some.ensures) c.calls_after-self.ensures (c.end_sync-answer.ensures.told told)).kept;
    }

pub returns-clause-told : goal.returns-clause-told
returns-clause-told g c = λ told.
    let self = c.args.self.now in
    (ends g.K.Start.prefix self.place self.made c.calls_after-self.result self.is_spent g.K.Start.start (g.D.Disk.story self.disk) (g.D.Disk.story c.end_sync-answer.new.self)
    c.in_ok-room_for.ensures.open (self.kept told) (g.met.D.Disk.sound c.end_sync-answer.new.self told) c.args.moment c.in-Some.there c.end_sync-answer.result
    (there_is (2 ^ 64) (moment g.K.Start.start) self.begin c.args.moment c.in-Some.there (self.begun told) c.in-Some.ensures) c.calls_after-self.ensures (c.end_sync-answer.ensures.told told)).told

pub end_sync-answer-requires : goal.end_sync-answer-requires
end_sync-answer-requires g c = record {
  past = λ told.
      let self = c.args.self.now in
      let story = g.D.Disk.story self.disk in
      let kept = self.kept told in
      let sub = sub_of g.K.Start.prefix self.made self.is_spent g.K.Start.start story c.in_ok-room_for.ensures.open kept in
      let past = subst (λ (n : ℕ). c.args.moment ≤ n) (moment_is g.K.Start.prefix self.made self.is_spent g.K.Start.start story kept) (c.requires.past told) in
      there_past (2 ^ 64) (moment g.K.Start.start) self.begin c.args.moment c.in-Some.there self.made (moment story) (self.begun told) c.in-Some.ensures past sub.counted;
}
