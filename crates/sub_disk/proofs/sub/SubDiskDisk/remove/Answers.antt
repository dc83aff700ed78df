use Rattle.std.proofs.Common.{◌∙◌, ap, ℕ, List, ◌++◌}
use Rattle.sub_disk.proofs.Faults.{counts_more}
use Rattle.sub_disk.proofs.Steps.{removes}
use Rattle.sub_disk.proofs.sub.SubDiskDisk.remove.Goals as goal

pub invariant_of-self : goal.invariant_of-self
invariant_of-self g c =
    let self = c.args.self.now in
    record {
      named = self.named;
      place = self.place;
      room = self.room;
      begun = self.begun;
      counts = counts_more g.K.Start.faults (g.D.Disk.faults self.disk) (g.D.Disk.faults c.remove-answer.new.self) self.faults c.faults_after-self.result _ self.counts c.remove-answer.ensures.cause c.faults_after-self.ensures;
      kept = λ told. (removes g.K.Start.prefix self.place self.made c.calls_after-self.result self.is_spent g.K.Start.start (g.D.Disk.story self.disk) (g.D.Disk.story c.remove-answer.new.self)
          c.in_ok-room_for.ensures.open (self.kept told) (g.met.D.Disk.sound c.remove-answer.new.self told) c.as_str-2.result.now c.args.path.now c.remove-answer.result
          (c.as_str-2.ensures ∙ c.in_ok-whole.ensures ∙ ap (λ (p : List ℕ). p ++ c.args.path.now) (c.as_str.ensures ∙ c.args.self.now.named)) c.calls_after-self.ensures (c.remove-answer.ensures.told told)).kept;
    }

pub returns-clause-told : goal.returns-clause-told
returns-clause-told g c = λ told.
    let self = c.args.self.now in
    (removes g.K.Start.prefix self.place self.made c.calls_after-self.result self.is_spent g.K.Start.start (g.D.Disk.story self.disk) (g.D.Disk.story c.remove-answer.new.self)
    c.in_ok-room_for.ensures.open (self.kept told) (g.met.D.Disk.sound c.remove-answer.new.self told) c.as_str-2.result.now c.args.path.now c.remove-answer.result
    (c.as_str-2.ensures ∙ c.in_ok-whole.ensures ∙ ap (λ (p : List ℕ). p ++ c.args.path.now) (c.as_str.ensures ∙ c.args.self.now.named)) c.calls_after-self.ensures (c.remove-answer.ensures.told told)).told
