use Rattle.std.proofs.Common.{◌∙◌, inl, inr, refl, subst, sym, List}
use Rattle.std.specs.Prelude.{Contains}
use Rattle.std.proofs.lemmas.List.{take_all}
use Rattle.outside_traits.proofs.Runs.{passes_none}
use Rattle.sig_gen.specs.Stored.{IsInOrder}
use Rattle.store_model.specs.Spelling.{record_bytes}
use Rattle.store_model.specs.Stored.{SpellsStored}
use Rattle.record_move.specs.declared.records.AddedRecord.{AddedRecord}
use Rattle.store_upgrade.specs.Steps.{StagesRecords}
use Rattle.store_upgrade.proofs.Keyed.{among_all, last_of, none_first}
use Rattle.store_upgrade.proofs.Rounded.{staged_all, staged_more, staged_none, stages_none, stages_one}
use Rattle.store_upgrade.proofs.records.stage_records.Goals as goal

pub returns-in_err-stage_record-clause-stages : goal.returns-in_err-stage_record-clause-stages
returns-in_err-stage_record-clause-stages g c told =
    stages_one c.args.added.now c.one-item.result (g.D.Disk.story c.args.disk.now) (g.D.Disk.story c.loop-one.disk) (g.D.Disk.story c.stage_record.new.disk) (among_all c.args.added.now c.loop-one.one-index c.one-item.result c.loop-one-test.true c.one-item.is) (c.loop-one.invariant.run told) (c.in_err-stage_record.ensures.changes told)

pub loop-one-preserved : goal.loop-one-preserved
loop-one-preserved g c = record {
  faults = c.in_ok-stage_record.ensures.cause.stayed ∙ c.loop-one.invariant.faults;
  run = λ told. stages_one c.args.added.now c.one-item.result (g.D.Disk.story c.args.disk.now) (g.D.Disk.story c.loop-one.disk) (g.D.Disk.story c.stage_record.new.disk) (among_all c.args.added.now c.loop-one.one-index c.one-item.result c.loop-one-test.true c.one-item.is) (c.loop-one.invariant.run told) (c.in_ok-stage_record.ensures.changes told);
  laid = c.in_ok-stage_record.ensures.laid;
  spells = λ a has. elim (last_of c.args.added.now c.loop-one.one-index c.one-item.result a c.loop-one-test.true c.one-item.is has) [
    | inl earlier ↦ c.loop-one.invariant.spells a earlier
    | inr same ↦ subst (λ (x : AddedRecord). IsInOrder x.stored → SpellsStored (record_bytes x.stored) x.stored) same c.in_ok-stage_record.ensures.spells
  ];
  so_far = λ told differ.
      staged_more c.args.added.now c.loop-one.one-index c.one-item.result (g.D.Disk.story c.loop-one.disk).held (g.D.Disk.story c.stage_record.new.disk).held c.loop-one-test.true c.one-item.is differ (c.loop-one.invariant.so_far told differ)
      (c.in_ok-stage_record.ensures.changes told).held (c.in_ok-stage_record.ensures.staged told);
}

pub returns-clause-staged : goal.returns-clause-staged
returns-clause-staged g c told differ = staged_all c.args.added.now c.loop-one.one-index (g.D.Disk.story c.loop-one.disk).held c.loop-one-test.false (c.loop-one.invariant.so_far told differ)

pub returns-clause-spells : goal.returns-clause-spells
returns-clause-spells g c a has = c.loop-one.invariant.spells a (subst (λ (l : List AddedRecord). Contains l a) (sym (take_all c.loop-one.one-index c.args.added.now c.loop-one-test.false)) has)

pub loop-one-init : goal.loop-one-init
loop-one-init g c = record {
  faults = refl;
  run = λ told. passes_none (g.D.Disk.story c.args.disk.now) (StagesRecords c.args.added.now) (stages_none c.args.added.now);
  laid = c.requires.laid;
  spells = λ a has. absurd (none_first c.args.added.now a has);
  so_far = λ told differ. staged_none c.args.added.now (g.D.Disk.story c.args.disk.now).held;
}
