use Rattle.std.proofs.Common.{◌∙◌, ap, subst, ℕ, Bool, All, List, ◌++◌}
use Rattle.std.specs.Prelude.{IfOk}
use Rattle.tree_model.specs.Path.{BeginsWith}
use Rattle.outside_traits.specs.Fault.{Counts}
use Rattle.sub_disk.specs.Sub.{Cuts}
use Rattle.sub_disk.proofs.Faults.{counts_more}
use Rattle.sub_disk.proofs.Steps.{lists}
use Rattle.sub_disk.proofs.sub.SubDiskDisk.list.Goals as goal

pub invariant_of-self : goal.invariant_of-self
invariant_of-self g c =
    let self = c.args.self.now in
    record {
      named = self.named;
      place = self.place;
      room = self.room;
      begun = self.begun;
      counts = counts_more g.K.Start.faults (g.D.Disk.faults self.disk) (g.D.Disk.faults c.list-listed.new.self) self.faults c.faults_after-self.result _ self.counts c.list-listed.ensures.cause
          (subst (λ (b : Bool). Counts self.faults c.faults_after-self.result b) c.cut_list-names.ensures.fault c.faults_after-self.ensures);
      kept = λ told. (lists g.K.Start.prefix self.place self.made c.calls_after-self.result self.is_spent g.K.Start.start (g.D.Disk.story self.disk) (g.D.Disk.story c.list-listed.new.self)
          c.in_ok-room_for.ensures.open (self.kept told) (g.met.D.Disk.sound c.list-listed.new.self told) c.as_str-2.result.now c.args.prefix.now c.is_list_lost-self.result c.list-listed.result c.cut_list-names.result
          (c.as_str-2.ensures ∙ c.in_ok-whole.ensures ∙ ap (λ (p : List ℕ). p ++ c.args.prefix.now) (c.as_str.ensures ∙ c.args.self.now.named))
          c.is_list_lost-self.ensures c.calls_after-self.ensures (c.list-listed.ensures.told told)
          (subst (λ (p : List ℕ). IfOk c.list-listed.result (λ paths. All (λ q. BeginsWith p q) paths) → Cuts p c.list-listed.result c.cut_list-names.result) (c.as_str-3.ensures ∙ self.named) c.cut_list-names.ensures.cuts)).kept;
    }

pub returns-clause-told : goal.returns-clause-told
returns-clause-told g c = λ told.
    let self = c.args.self.now in
    (lists g.K.Start.prefix self.place self.made c.calls_after-self.result self.is_spent g.K.Start.start (g.D.Disk.story self.disk) (g.D.Disk.story c.list-listed.new.self)
    c.in_ok-room_for.ensures.open (self.kept told) (g.met.D.Disk.sound c.list-listed.new.self told) c.as_str-2.result.now c.args.prefix.now c.is_list_lost-self.result c.list-listed.result c.cut_list-names.result
    (c.as_str-2.ensures ∙ c.in_ok-whole.ensures ∙ ap (λ (p : List ℕ). p ++ c.args.prefix.now) (c.as_str.ensures ∙ c.args.self.now.named))
    c.is_list_lost-self.ensures c.calls_after-self.ensures (c.list-listed.ensures.told told)
    (subst (λ (p : List ℕ). IfOk c.list-listed.result (λ paths. All (λ q. BeginsWith p q) paths) → Cuts p c.list-listed.result c.cut_list-names.result) (c.as_str-3.ensures ∙ self.named) c.cut_list-names.ensures.cuts)).told
