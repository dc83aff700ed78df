use Rattle.std.proofs.Common.{◌≤◌, ◌∙◌, ap, sym, subst, Bool, ℕ, List, ◌++◌, length}
use Rattle.sub_disk.proofs.Faults.{counts_more}
use Rattle.sub_disk.proofs.Steps.{renames}
use Rattle.tree_model.specs.Path.{IsClean}
use Rattle.outside_traits.specs.Store.{IsFree}
use Rattle.sub_disk.proofs.Folder.{clean_on, free_below, settled_below, within_on, sub_of}
use Rattle.outside_traits.specs.Answers.{IsSettled}
use Rattle.outside_traits.specs.Story.{moment}
use Rattle.sub_disk.specs.Sub.{below, shown, sub_story}
use Rattle.sub_disk.proofs.sub.SubDiskDisk.rename.Goals as goal

pub invariant_of-self : goal.invariant_of-self
invariant_of-self g c =
    let self = c.args.self.now in
    record {
      named = self.named;
      place = self.place;
      room = self.room;
      begun = self.begun;
      counts = counts_more g.K.Start.faults (g.D.Disk.faults self.disk) (g.D.Disk.faults c.rename-answer.new.self) self.faults c.faults_after-self.result _ self.counts c.rename-answer.ensures.cause c.faults_after-self.ensures;
      kept = λ told. (renames g.K.Start.prefix self.place self.made c.calls_after-self.result self.is_spent g.K.Start.start (g.D.Disk.story self.disk) (g.D.Disk.story c.rename-answer.new.self)
          c.in_ok-room_for.ensures.open (self.kept told) (g.met.D.Disk.sound c.rename-answer.new.self told) c.as_str-3.result.now c.as_str-4.result.now c.args.from.now c.args.to.now c.rename-answer.result
          (c.as_str-3.ensures ∙ c.in_ok-source.ensures ∙ ap (λ (p : List ℕ). p ++ c.args.from.now) (c.as_str.ensures ∙ c.args.self.now.named))
          (c.as_str-4.ensures ∙ c.in_ok-target.ensures ∙ ap (λ (p : List ℕ). p ++ c.args.to.now) (c.as_str-2.ensures ∙ c.args.self.now.named))
          c.calls_after-self.ensures (c.rename-answer.ensures.told told)).kept;
    }

pub returns-clause-told : goal.returns-clause-told
returns-clause-told g c = λ told.
    let self = c.args.self.now in
    (renames g.K.Start.prefix self.place self.made c.calls_after-self.result self.is_spent g.K.Start.start (g.D.Disk.story self.disk) (g.D.Disk.story c.rename-answer.new.self)
    c.in_ok-room_for.ensures.open (self.kept told) (g.met.D.Disk.sound c.rename-answer.new.self told) c.as_str-3.result.now c.as_str-4.result.now c.args.from.now c.args.to.now c.rename-answer.result
    (c.as_str-3.ensures ∙ c.in_ok-source.ensures ∙ ap (λ (p : List ℕ). p ++ c.args.from.now) (c.as_str.ensures ∙ c.args.self.now.named))
    (c.as_str-4.ensures ∙ c.in_ok-target.ensures ∙ ap (λ (p : List ℕ). p ++ c.args.to.now) (c.as_str-2.ensures ∙ c.args.self.now.named))
    c.calls_after-self.ensures (c.rename-answer.ensures.told told)).told

pub rename-answer-requires-clause-clean : goal.rename-answer-requires-clause-clean
rename-answer-requires-clause-clean g c =
    let self = c.args.self.now in
    subst IsClean (sym (c.as_str-4.ensures ∙ c.in_ok-target.ensures ∙ ap (λ (p : List ℕ). p ++ c.args.to.now) (c.as_str-2.ensures ∙ c.args.self.now.named))) (clean_on g.K.Start.prefix self.place g.D.Disk.reach self.room c.args.to.now c.requires.clean c.requires.within_reach)

pub rename-answer-requires-clause-within_reach : goal.rename-answer-requires-clause-within_reach
rename-answer-requires-clause-within_reach g c =
    let self = c.args.self.now in
    subst (λ (p : List ℕ). length p ≤ g.D.Disk.reach) (sym (c.as_str-4.ensures ∙ c.in_ok-target.ensures ∙ ap (λ (p : List ℕ). p ++ c.args.to.now) (c.as_str-2.ensures ∙ c.args.self.now.named))) (within_on g.K.Start.prefix g.D.Disk.reach self.room c.args.to.now c.requires.within_reach)

pub rename-answer-requires-clause-free : goal.rename-answer-requires-clause-free
rename-answer-requires-clause-free g c = λ told.
    let self = c.args.self.now in
    let sub = sub_of g.K.Start.prefix self.made self.is_spent g.K.Start.start (g.D.Disk.story self.disk) c.in_ok-room_for.ensures.open (self.kept told) in
    let open_free = subst (λ (b : Bool). IsFree (below g.K.Start.prefix (shown b (g.D.Disk.story self.disk)).held) c.args.to.now) c.in_ok-room_for.ensures.open (c.requires.free told) in
    subst (λ (p : List ℕ). IsFree (g.D.Disk.story self.disk).held p) (sym (c.as_str-4.ensures ∙ c.in_ok-target.ensures ∙ ap (λ (p : List ℕ). p ++ c.args.to.now) (c.as_str-2.ensures ∙ c.args.self.now.named)))
    (free_below g.K.Start.prefix self.place self.made g.K.Start.start (g.D.Disk.story self.disk) sub (g.met.D.Disk.sound self.disk told) c.args.to.now open_free)

pub rename-answer-requires-clause-settled : goal.rename-answer-requires-clause-settled
rename-answer-requires-clause-settled g c = λ told.
    let self = c.args.self.now in
    let story = g.D.Disk.story self.disk in
    let sub = sub_of g.K.Start.prefix self.made self.is_spent g.K.Start.start story c.in_ok-room_for.ensures.open (self.kept told) in
    let open_settled = subst (λ (b : Bool). IsSettled c.args.from.now (sub_story g.K.Start.prefix (moment g.K.Start.start) self.made (shown b story))) c.in_ok-room_for.ensures.open (c.requires.settled told) in
    subst (λ (p : List ℕ). IsSettled p story) (sym (c.as_str-3.ensures ∙ c.in_ok-source.ensures ∙ ap (λ (p : List ℕ). p ++ c.args.from.now) (c.as_str.ensures ∙ c.args.self.now.named)))
    (settled_below g.K.Start.prefix self.place self.made g.K.Start.start story sub (g.met.D.Disk.sound self.disk told) c.args.from.now open_settled)
