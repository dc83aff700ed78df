use Rattle.std.proofs.Common.{◌∙◌, ◌+◌, refl, subst, sym, take, arith, ℕ}
use Rattle.outside_traits.specs.Passes.{Same}
use Rattle.outside_traits.specs.Store.{Store}
use Rattle.outside_traits.proofs.Calls.{then_same}
use Rattle.outside_traits.proofs.Runs.{passes_none}
use Rattle.store_upgrade.proofs.Called.{passes_start}
use Rattle.store_upgrade.proofs.Copied.{at_itself, at_place}
use Rattle.sstate_mirror.specs.Copying.{AreCopied, IsCopyOf, IsCopying}
use Rattle.sstate_mirror.proofs.Copied.{copied_all, copied_more, copied_start, copying_run, copying_start, count_few, count_none, way_stays}
use Rattle.sstate_mirror.proofs.objects.copy_objects.Goals as goal

pub loop-one-init : goal.loop-one-init
loop-one-init g c = record {
  faults = refl;
  mirror_faults = refl;
  few = omega arith;
  run = λ told. passes_start (g.D.Disk.story c.args.disk.now) (IsCopying c.args.rows.now (g.D.Disk.story c.args.disk.now).held) (g.met.D.Disk.sound c.args.disk.now told) (c.requires.durable told) (copying_start c.args.rows.now (g.D.Disk.story c.args.disk.now).held);
  way = c.requires.way;
  idle = λ told zero. passes_none (g.D.Disk.story c.args.disk.now) Same (λ i. refl);
  same = λ told. passes_none (g.M.Disk.story c.args.mirror.now) Same (λ i. refl);
  so_far = λ told tells one. copied_start c.args.rows.now c.args.records.now (g.M.Disk.story c.args.mirror.now).held (g.D.Disk.story c.args.disk.now).held;
}

pub counted-count-requires : goal.counted-count-requires
counted-count-requires g c = let few = c.loop-one.invariant.few in omega arith

pub loop-one-preserved : goal.loop-one-preserved
loop-one-preserved g c = record {
  faults = c.in_ok-copy_of.ensures.cause.stayed ∙ c.loop-one.invariant.faults;
  mirror_faults = c.in_ok-copy_of.ensures.mirror_cause.stayed ∙ c.loop-one.invariant.mirror_faults;
  few = count_few c.in_ok-copy_of.field-0 c.loop-one.count c.counted-count.result c.loop-one.one-index c.counted-count.ensures c.loop-one.invariant.few;
  run = λ told.
      copying_run c.args.rows.now (at_place c.args.records.now c.loop-one.one-index) (g.D.Disk.story c.args.disk.now).held (g.D.Disk.story c.args.disk.now) (g.D.Disk.story c.loop-one.disk) (g.D.Disk.story c.copy_of.new.disk)
      (c.loop-one.invariant.way told) (c.loop-one.invariant.run told) (c.in_ok-copy_of.ensures.puts told);
  way = λ told. way_stays c.args.rows.now (at_place c.args.records.now c.loop-one.one-index) (g.D.Disk.story c.loop-one.disk).held (g.D.Disk.story c.copy_of.new.disk).held (c.in_ok-copy_of.ensures.puts told).held (c.loop-one.invariant.way told);
  idle = λ told zero.
      let w = count_none c.in_ok-copy_of.field-0 c.loop-one.count c.counted-count.result c.counted-count.ensures zero in
      then_same (c.loop-one.invariant.idle told w.0) (c.in_ok-copy_of.ensures.idle told w.1);
  same = λ told. then_same (c.loop-one.invariant.same told) (c.in_ok-copy_of.ensures.same told);
  so_far = λ told tells one.
      let of =
      subst (λ (h : Store). IsCopyOf c.args.rows.now (at_place c.args.records.now c.loop-one.one-index) h (g.D.Disk.story c.loop-one.disk).held (g.D.Disk.story c.copy_of.new.disk).held c.in_ok-copy_of.field-0) (c.loop-one.invariant.same tells).held
      (c.in_ok-copy_of.ensures.copied told tells) in
      subst (λ (n : ℕ). AreCopied c.args.rows.now (take (c.loop-one.one-index + 1) c.args.records.now) (g.M.Disk.story c.args.mirror.now).held (g.D.Disk.story c.args.disk.now).held (g.D.Disk.story c.copy_of.new.disk).held n) (sym c.counted-count.ensures)
      (copied_more c.args.rows.now one c.args.records.now c.loop-one.one-index (at_place c.args.records.now c.loop-one.one-index) c.loop-one-test.true (at_itself c.args.records.now c.loop-one.one-index c.loop-one-test.true)
      (g.M.Disk.story c.args.mirror.now).held (g.D.Disk.story c.args.disk.now).held (g.D.Disk.story c.loop-one.disk).held (g.D.Disk.story c.copy_of.new.disk).held (c.loop-one.invariant.way told) (c.loop-one.invariant.run told).held c.loop-one.count
      (c.loop-one.invariant.so_far told tells one) c.in_ok-copy_of.field-0 of (c.in_ok-copy_of.ensures.puts told).held);
}

pub returns-in_err-copy_of-clause-images : goal.returns-in_err-copy_of-clause-images
returns-in_err-copy_of-clause-images g c told =
    copying_run c.args.rows.now (at_place c.args.records.now c.loop-one.one-index) (g.D.Disk.story c.args.disk.now).held (g.D.Disk.story c.args.disk.now) (g.D.Disk.story c.loop-one.disk) (g.D.Disk.story c.copy_of.new.disk)
    (c.loop-one.invariant.way told) (c.loop-one.invariant.run told) (c.in_err-copy_of.ensures.puts told)

pub returns-clause-copied : goal.returns-clause-copied
returns-clause-copied g c told tells one =
    copied_all c.args.rows.now c.args.records.now c.loop-one.one-index (g.M.Disk.story c.args.mirror.now).held (g.D.Disk.story c.args.disk.now).held (g.D.Disk.story c.loop-one.disk).held c.loop-one.count c.loop-one-test.false (c.loop-one.invariant.so_far told tells one)

pub returns-clause-idle : goal.returns-clause-idle
returns-clause-idle g c told zero = c.loop-one.invariant.idle told zero
