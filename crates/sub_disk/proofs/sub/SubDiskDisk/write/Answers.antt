use Rattle.std.proofs.Common.{◌≤◌, ◌∙◌, ap, sym, subst, Bool, ℕ, List, ◌++◌, length}
use Rattle.sub_disk.proofs.Faults.{counts_more}
use Rattle.sub_disk.proofs.Steps.{writes}
use Rattle.tree_model.specs.Path.{IsClean}
use Rattle.outside_traits.specs.Store.{IsFree}
use Rattle.sub_disk.proofs.Folder.{clean_on, free_below, within_on, sub_of}
use Rattle.sub_disk.specs.Sub.{below, shown}
use Rattle.sub_disk.proofs.sub.SubDiskDisk.write.Goals as goal

pub invariant_of-self : goal.invariant_of-self
invariant_of-self g c =
    let self = c.args.self.now in
    record {
      named = self.named;
      place = self.place;
      room = self.room;
      begun = self.begun;
      counts = counts_more g.K.Start.faults (g.D.Disk.faults self.disk) (g.D.Disk.faults c.write-answer.new.self) self.faults c.faults_after-self.result _ self.counts c.write-answer.ensures.cause c.faults_after-self.ensures;
      kept = λ told. (writes g.K.Start.prefix self.place self.made c.calls_after-self.result self.is_spent g.K.Start.start (g.D.Disk.story self.disk) (g.D.Disk.story c.write-answer.new.self)
          c.in_ok-room_for.ensures.open (self.kept told) (g.met.D.Disk.sound c.write-answer.new.self told) c.as_str-2.result.now c.args.path.now c.args.entry.now c.write-answer.result
          (c.as_str-2.ensures ∙ c.in_ok-whole.ensures ∙ ap (λ (p : List ℕ). p ++ c.args.path.now) (c.as_str.ensures ∙ c.args.self.now.named)) c.calls_after-self.ensures (c.write-answer.ensures.told told)).kept;
    }

pub returns-clause-told : goal.returns-clause-told
returns-clause-told g c = λ told.
    let self = c.args.self.now in
    (writes g.K.Start.prefix self.place self.made c.calls_after-self.result self.is_spent g.K.Start.start (g.D.Disk.story self.disk) (g.D.Disk.story c.write-answer.new.self)
    c.in_ok-room_for.ensures.open (self.kept told) (g.met.D.Disk.sound c.write-answer.new.self told) c.as_str-2.result.now c.args.path.now c.args.entry.now c.write-answer.result
    (c.as_str-2.ensures ∙ c.in_ok-whole.ensures ∙ ap (λ (p : List ℕ). p ++ c.args.path.now) (c.as_str.ensures ∙ c.args.self.now.named)) c.calls_after-self.ensures (c.write-answer.ensures.told told)).told

pub write-answer-requires-clause-clean : goal.write-answer-requires-clause-clean
write-answer-requires-clause-clean g c =
    let self = c.args.self.now in
    subst IsClean (sym (c.as_str-2.ensures ∙ c.in_ok-whole.ensures ∙ ap (λ (p : List ℕ). p ++ c.args.path.now) (c.as_str.ensures ∙ c.args.self.now.named))) (clean_on g.K.Start.prefix self.place g.D.Disk.reach self.room c.args.path.now c.requires.clean c.requires.within_reach)

pub write-answer-requires-clause-within_reach : goal.write-answer-requires-clause-within_reach
write-answer-requires-clause-within_reach g c =
    let self = c.args.self.now in
    subst (λ (p : List ℕ). length p ≤ g.D.Disk.reach) (sym (c.as_str-2.ensures ∙ c.in_ok-whole.ensures ∙ ap (λ (p : List ℕ). p ++ c.args.path.now) (c.as_str.ensures ∙ c.args.self.now.named))) (within_on g.K.Start.prefix g.D.Disk.reach self.room c.args.path.now c.requires.within_reach)

pub write-answer-requires-clause-free : goal.write-answer-requires-clause-free
write-answer-requires-clause-free g c = λ told.
    let self = c.args.self.now in
    let sub = sub_of g.K.Start.prefix self.made self.is_spent g.K.Start.start (g.D.Disk.story self.disk) c.in_ok-room_for.ensures.open (self.kept told) in
    let open_free = subst (λ (b : Bool). IsFree (below g.K.Start.prefix (shown b (g.D.Disk.story self.disk)).held) c.args.path.now) c.in_ok-room_for.ensures.open (c.requires.free told) in
    subst (λ (p : List ℕ). IsFree (g.D.Disk.story self.disk).held p) (sym (c.as_str-2.ensures ∙ c.in_ok-whole.ensures ∙ ap (λ (p : List ℕ). p ++ c.args.path.now) (c.as_str.ensures ∙ c.args.self.now.named)))
    (free_below g.K.Start.prefix self.place self.made g.K.Start.start (g.D.Disk.story self.disk) sub (g.met.D.Disk.sound self.disk told) c.args.path.now open_free)
