use Rattle.std.proofs.Common.{◌≡◌, ◌∙◌, refl, sym, subst, List, ℕ, Some}
use Rattle.std.specs.Prelude.{codes}
use Rattle.outside_traits.specs.Store.{ChangesAt, IsFree, put}
use Rattle.outside_traits.proofs.Runs.{passes_again, passes_none}
use Rattle.stamp_store.specs.Stamp.{IsFolder, stamp_of, staged_path}
use Rattle.store_opening.proofs.Free.{free_staged}
use Rattle.store_upgrade.specs.Steps.{Within}
use Rattle.store_upgrade.proofs.Ended.{within_joins}
use Rattle.store_upgrade.proofs.Laid.{laid_changed, well_staged_stamp}
use Rattle.store_upgrade.proofs.Stamped.{stamp_in, stamp_within, staged_stamps_all, staged_stamps_more, staged_stamps_none}
use Rattle.store_upgrade.proofs.stamps.stage_stamps.Goals as goal

pub stage-requires-clause-folder : goal.stage-requires-clause-folder
stage-requires-clause-folder g c =
    subst IsFolder (sym c.as_str.ensures) (c.requires.folders c.stamp-item.result.0 c.stamp-item.result.1 (stamp_in c.args.stamps.now c.loop-stamp.stamp-index c.stamp-item.result c.loop-stamp-test.true c.stamp-item.is)).0

pub stage-requires-clause-free : goal.stage-requires-clause-free
stage-requires-clause-free g c told =
    subst (λ (f : List ℕ). IsFree (g.D.Disk.story c.loop-stamp.disk).held (staged_path f)) (sym c.as_str.ensures)
    (free_staged (g.D.Disk.story c.loop-stamp.disk).held c.stamp-item.result.0 (c.requires.folders c.stamp-item.result.0 c.stamp-item.result.1 (stamp_in c.args.stamps.now c.loop-stamp.stamp-index c.stamp-item.result c.loop-stamp-test.true c.stamp-item.is)).1 (c.loop-stamp.invariant.laid told))

pub loop-stamp-init : goal.loop-stamp-init
loop-stamp-init g c = record {
  faults = refl;
  run = λ told. passes_none (g.D.Disk.story c.args.disk.now) (Within (codes "tmp")) (λ i. record { others = λ q never. refl });
  laid = c.requires.laid;
  so_far = λ told. staged_stamps_none c.args.stamps.now (g.D.Disk.story c.args.disk.now).held;
}

pub returns-in_err-stage-clause-within : goal.returns-in_err-stage-clause-within
returns-in_err-stage-clause-within g c told =
    passes_again (within_joins (codes "tmp")) (c.loop-stamp.invariant.run told) (stamp_within c.as_str.result.now (g.D.Disk.story c.loop-stamp.disk) (g.D.Disk.story c.stage.new.disk) (c.in_err-stage.ensures.images told))

pub loop-stamp-preserved : goal.loop-stamp-preserved
loop-stamp-preserved g c = record {
  faults = c.in_ok-stage.ensures.cause.stayed ∙ c.loop-stamp.invariant.faults;
  run = λ told. passes_again (within_joins (codes "tmp")) (c.loop-stamp.invariant.run told) (stamp_within c.as_str.result.now (g.D.Disk.story c.loop-stamp.disk) (g.D.Disk.story c.stage.new.disk) (c.in_ok-stage.ensures.images told));
  laid = λ told.
      laid_changed (g.D.Disk.story c.loop-stamp.disk).held (g.D.Disk.story c.stage.new.disk).held (staged_path c.stamp-item.result.0)
      (well_staged_stamp c.stamp-item.result.0 (c.requires.folders c.stamp-item.result.0 c.stamp-item.result.1 (stamp_in c.args.stamps.now c.loop-stamp.stamp-index c.stamp-item.result c.loop-stamp-test.true c.stamp-item.is)).1)
      (subst (λ (f : List ℕ). ChangesAt (staged_path f) (g.D.Disk.story c.loop-stamp.disk).held (g.D.Disk.story c.stage.new.disk).held) c.as_str.ensures (c.in_ok-stage.ensures.images told).held)
      (c.loop-stamp.invariant.laid told);
  so_far = λ told.
      staged_stamps_more c.args.stamps.now c.loop-stamp.stamp-index c.stamp-item.result (g.D.Disk.story c.loop-stamp.disk).held (g.D.Disk.story c.stage.new.disk).held c.loop-stamp-test.true c.stamp-item.is (c.requires.names told) (c.loop-stamp.invariant.so_far told)
      (subst (λ (f : List ℕ). (g.D.Disk.story c.stage.new.disk).held ≡ put (g.D.Disk.story c.loop-stamp.disk).held (staged_path f) (Some (stamp_of c.stamp-item.result.1))) c.as_str.ensures (c.in_ok-stage.ensures.staged told));
}

pub returns-clause-staged : goal.returns-clause-staged
returns-clause-staged g c told = staged_stamps_all c.args.stamps.now c.loop-stamp.stamp-index (g.D.Disk.story c.loop-stamp.disk).held c.loop-stamp-test.false (c.loop-stamp.invariant.so_far told)
