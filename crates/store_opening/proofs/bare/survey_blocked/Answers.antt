use Rattle.std.proofs.Common.{◌∙◌, ap, sym, subst}
use Rattle.std.specs.Prelude.{codes}
use Rattle.std.specs.Option.{is_some}
use Rattle.outside_traits.proofs.Calls.{then_same}
use Rattle.outside_traits.specs.Store.{Store}
use Rattle.store_opening.specs.Survey.{NotesBlocked}
use Rattle.store_opening.proofs.Doomed.{blocked_more}
use Rattle.store_opening.proofs.bare.survey_blocked.Goals as goal

pub doom_blocked-requires : goal.doom_blocked-requires
doom_blocked-requires g c told = c.in_ok-closed.ensures.found told ∙ ap (λ (h : Store). is_some (h (codes "work"))) (sym (c.loop-one.invariant.run told).held)

pub loop-one-preserved : goal.loop-one-preserved
loop-one-preserved g c = record {
  faults = c.in_ok-doom_blocked.ensures.cause.stayed ∙ c.loop-one.invariant.faults;
  run = λ told. then_same (c.loop-one.invariant.run told) (c.doom_blocked.ensures.others told);
  so_far = λ told.
      let held = (g.D.Disk.story c.args.disk.now).held in
      blocked_more held c.args.bare.now c.loop-one.one-index c.one-item.result c.args.doomed.now.items c.loop-one.doomed.items c.doom_blocked.new.doomed.items c.loop-one-test.true c.one-item.is (c.loop-one.invariant.so_far told)
      (subst (λ (h : Store). NotesBlocked h c.one-item.result c.loop-one.doomed.items c.doom_blocked.new.doomed.items) (c.loop-one.invariant.run told).held (c.in_ok-doom_blocked.ensures.notes told));
}
