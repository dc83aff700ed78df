use Rattle.std.proofs.Common.{◌≡◌, ◌∙◌, ◌∷◌, [], ap, false, sym, subst, List, ℕ}
use Rattle.outside_traits.specs.Store.{Store}
use Rattle.record_move.specs.declared.records.AddedRecord.{AddedRecord}
use Rattle.record_move.specs.declared.records.MovedRecord.{MovedRecord}
use Rattle.store_opening.specs.Paths.{IsLaidOut}
use Rattle.store_upgrade.specs.Steps.{AreStaged, HoldsKeys, KeysDiffer, NamesDiffer}
use Rattle.sstate_mirror.specs.Copying.{AreCopied}
use Rattle.outside_traits.proofs.Calls.{then_same}
use Rattle.store_upgrade.proofs.Whole.{keys_stay, objects_keyed, objects_later, staged_temporary}
use Rattle.sstate_mirror.proofs.Counted.{counts_on, handed_on, none_handed}
use Rattle.std.proofs.lemmas.Bool.{false≢true}
use Rattle.sstate_mirror.proofs.Written.{copied_later, laid_copied, none_keyed, none_spelled, none_staged, open_same, run_copied, run_keys, run_staged}
use Rattle.sstate_mirror.proofs.Refused.{disk_none}
use Rattle.sstate_mirror.proofs.writing.prepare.Goals as goal

pub put_keys-requires-clause-laid : goal.put_keys-requires-clause-laid
put_keys-requires-clause-laid g c told = laid_copied c.args.moved.now.rows (g.D.Disk.story c.args.disk.now).held (g.D.Disk.story c.copy_objects.new.disk).held (c.in_ok-copied.ensures.images told).held (c.requires.ready told).laid

pub returns-in_err-copied-clause-early : goal.returns-in_err-copied-clause-early
returns-in_err-copied-clause-early g c told = (run_copied c.args.moved.now (g.D.Disk.story c.args.disk.now) (g.D.Disk.story c.copy_objects.new.disk) (c.in_err-copied.ensures.images told))

pub returns-in_err-put_keys-clause-early : goal.returns-in_err-put_keys-clause-early
returns-in_err-put_keys-clause-early g c told = (run_keys c.args.moved.now c.deref-2.result.now (g.D.Disk.story c.args.disk.now) (g.D.Disk.story c.copy_objects.new.disk) (g.D.Disk.story c.put_keys.new.disk) c.deref-2.ensures.value (run_copied c.args.moved.now (g.D.Disk.story c.args.disk.now)
    (g.D.Disk.story c.copy_objects.new.disk) (c.in_ok-copied.ensures.images told)) (c.in_err-put_keys.ensures.puts told))

pub returns-in_err-stage_records-clause-early : goal.returns-in_err-stage_records-clause-early
returns-in_err-stage_records-clause-early g c told = (run_staged c.args.moved.now c.deref-3.result.now (g.D.Disk.story c.args.disk.now) (g.D.Disk.story c.put_keys.new.disk) (g.D.Disk.story c.stage_records.new.disk) c.deref-3.ensures.value (run_keys c.args.moved.now c.deref-2.result.now
    (g.D.Disk.story c.args.disk.now) (g.D.Disk.story c.copy_objects.new.disk) (g.D.Disk.story c.put_keys.new.disk) c.deref-2.ensures.value (run_copied c.args.moved.now (g.D.Disk.story c.args.disk.now) (g.D.Disk.story c.copy_objects.new.disk) (c.in_ok-copied.ensures.images told)) (c.in_ok-put_keys.ensures.puts told))
    (c.in_err-stage_records.ensures.stages told))

pub returns-in_err-sync-clause-early : goal.returns-in_err-sync-clause-early
returns-in_err-sync-clause-early g c told = (then_same (run_staged c.args.moved.now c.deref-3.result.now (g.D.Disk.story c.args.disk.now) (g.D.Disk.story c.put_keys.new.disk) (g.D.Disk.story c.stage_records.new.disk) c.deref-3.ensures.value (run_keys c.args.moved.now c.deref-2.result.now
    (g.D.Disk.story c.args.disk.now) (g.D.Disk.story c.copy_objects.new.disk) (g.D.Disk.story c.put_keys.new.disk) c.deref-2.ensures.value (run_copied c.args.moved.now (g.D.Disk.story c.args.disk.now) (g.D.Disk.story c.copy_objects.new.disk) (c.in_ok-copied.ensures.images told)) (c.in_ok-put_keys.ensures.puts told))
    (c.in_ok-stage_records.ensures.stages told)) (c.in_err-sync.ensures.same told))

pub returns-clause-early : goal.returns-clause-early
returns-clause-early g c told = (then_same (run_staged c.args.moved.now c.deref-3.result.now (g.D.Disk.story c.args.disk.now) (g.D.Disk.story c.put_keys.new.disk) (g.D.Disk.story c.stage_records.new.disk) c.deref-3.ensures.value (run_keys c.args.moved.now c.deref-2.result.now (g.D.Disk.story c.args.disk.now)
    (g.D.Disk.story c.copy_objects.new.disk) (g.D.Disk.story c.put_keys.new.disk) c.deref-2.ensures.value (run_copied c.args.moved.now (g.D.Disk.story c.args.disk.now) (g.D.Disk.story c.copy_objects.new.disk) (c.in_ok-copied.ensures.images told)) (c.in_ok-put_keys.ensures.puts told))
    (c.in_ok-stage_records.ensures.stages told)) (c.in_ok-sync.ensures.same told))

pub returns-in_err-put_keys-clause-cause : goal.returns-in_err-put_keys-clause-cause
returns-in_err-put_keys-clause-cause g c =
    handed_on (g.D.Disk.faults c.args.disk.now) (g.D.Disk.faults c.copy_objects.new.disk) (g.D.Disk.faults c.put_keys.new.disk) c.from_residual-in_err-put_keys.result c.in_err-put_keys.field-0.0 c.from_residual-in_err-put_keys.ensures.1
    c.in_ok-copied.ensures.cause c.in_err-put_keys.ensures.cause

pub returns-in_err-put_keys-clause-mirror_cause : goal.returns-in_err-put_keys-clause-mirror_cause
returns-in_err-put_keys-clause-mirror_cause g c =
    none_handed (g.M.Disk.faults c.args.mirror.now) (g.M.Disk.faults c.copy_objects.new.mirror) c.from_residual-in_err-put_keys.result c.in_err-put_keys.field-0.0 c.from_residual-in_err-put_keys.ensures.1 c.in_ok-copied.ensures.mirror_cause

pub returns-in_err-stage_records-clause-cause : goal.returns-in_err-stage_records-clause-cause
returns-in_err-stage_records-clause-cause g c =
    handed_on (g.D.Disk.faults c.args.disk.now) (g.D.Disk.faults c.put_keys.new.disk) (g.D.Disk.faults c.stage_records.new.disk) c.from_residual-in_err-stage_records.result c.in_err-stage_records.field-0.0 c.from_residual-in_err-stage_records.ensures.1
    (counts_on (g.D.Disk.faults c.args.disk.now) (g.D.Disk.faults c.copy_objects.new.disk) (g.D.Disk.faults c.put_keys.new.disk) false c.in_ok-copied.ensures.cause c.in_ok-put_keys.ensures.cause) c.in_err-stage_records.ensures.cause

pub returns-in_err-stage_records-clause-mirror_cause : goal.returns-in_err-stage_records-clause-mirror_cause
returns-in_err-stage_records-clause-mirror_cause g c =
    none_handed (g.M.Disk.faults c.args.mirror.now) (g.M.Disk.faults c.copy_objects.new.mirror) c.from_residual-in_err-stage_records.result c.in_err-stage_records.field-0.0 c.from_residual-in_err-stage_records.ensures.1 c.in_ok-copied.ensures.mirror_cause

pub returns-in_err-sync-clause-cause : goal.returns-in_err-sync-clause-cause
returns-in_err-sync-clause-cause g c =
    handed_on (g.D.Disk.faults c.args.disk.now) (g.D.Disk.faults c.stage_records.new.disk) (g.D.Disk.faults c.sync.new.disk) c.from_residual-in_err-sync.result c.in_err-sync.field-0.0 c.from_residual-in_err-sync.ensures.1
    (counts_on (g.D.Disk.faults c.args.disk.now) (g.D.Disk.faults c.put_keys.new.disk) (g.D.Disk.faults c.stage_records.new.disk) false (counts_on (g.D.Disk.faults c.args.disk.now) (g.D.Disk.faults c.copy_objects.new.disk) (g.D.Disk.faults c.put_keys.new.disk) false c.in_ok-copied.ensures.cause c.in_ok-put_keys.ensures.cause) c.in_ok-stage_records.ensures.cause) c.in_err-sync.ensures.cause

pub returns-in_err-sync-clause-mirror_cause : goal.returns-in_err-sync-clause-mirror_cause
returns-in_err-sync-clause-mirror_cause g c =
    none_handed (g.M.Disk.faults c.args.mirror.now) (g.M.Disk.faults c.copy_objects.new.mirror) c.from_residual-in_err-sync.result c.in_err-sync.field-0.0 c.from_residual-in_err-sync.ensures.1 c.in_ok-copied.ensures.mirror_cause

pub returns-clause-copied : goal.returns-clause-copied
returns-clause-copied g c told tells one =
    let same : (rest : List ℕ) → (g.D.Disk.story c.sync.new.disk).held (111 ∷ rest) ≡ (g.D.Disk.story c.copy_objects.new.disk).held (111 ∷ rest) = λ rest.
    ap (λ (h : Store). h (111 ∷ rest)) (c.in_ok-sync.ensures.same told).held
    ∙ objects_later (g.D.Disk.story c.put_keys.new.disk).held (g.D.Disk.story c.stage_records.new.disk).held (staged_temporary c.deref-3.result.now (g.D.Disk.story c.put_keys.new.disk).held (g.D.Disk.story c.stage_records.new.disk).held (c.in_ok-stage_records.ensures.stages told).held) rest
    ∙ objects_keyed c.deref-2.result.now (g.D.Disk.story c.copy_objects.new.disk).held (g.D.Disk.story c.copy_objects.new.disk).held (g.D.Disk.story c.put_keys.new.disk).held (c.in_ok-put_keys.ensures.puts told).held rest in
    copied_later c.args.moved.now.rows c.args.moved.now.records.items (g.M.Disk.story c.args.mirror.now).held (g.D.Disk.story c.args.disk.now).held (g.D.Disk.story c.copy_objects.new.disk).held (g.D.Disk.story c.sync.new.disk).held c.in_ok-copied.copied same
    (subst (λ (l : List MovedRecord). AreCopied c.args.moved.now.rows l (g.M.Disk.story c.args.mirror.now).held (g.D.Disk.story c.args.disk.now).held (g.D.Disk.story c.copy_objects.new.disk).held c.in_ok-copied.copied) c.deref.ensures.value (c.in_ok-copied.ensures.copied told tells one))

pub returns-clause-keyed : goal.returns-clause-keyed
returns-clause-keyed g c told differ =
    let keyed = subst (λ (l : List AddedRecord). KeysDiffer l → HoldsKeys l (g.D.Disk.story c.put_keys.new.disk).held) c.deref-2.ensures.value (c.in_ok-put_keys.ensures.held told) in
    subst (HoldsKeys c.args.moved.now.added.items) (sym (c.in_ok-sync.ensures.same told).held)
    (keys_stay c.args.moved.now.added.items (g.D.Disk.story c.put_keys.new.disk).held (g.D.Disk.story c.stage_records.new.disk).held (staged_temporary c.deref-3.result.now (g.D.Disk.story c.put_keys.new.disk).held (g.D.Disk.story c.stage_records.new.disk).held (c.in_ok-stage_records.ensures.stages told).held) (keyed differ))

pub returns-clause-staged : goal.returns-clause-staged
returns-clause-staged g c told differ =
    let staged = subst (λ (l : List AddedRecord). NamesDiffer l → AreStaged l (g.D.Disk.story c.stage_records.new.disk).held) c.deref-3.ensures.value (c.in_ok-stage_records.ensures.staged told) in
    subst (AreStaged c.args.moved.now.added.items) (sym (c.in_ok-sync.ensures.same told).held) (staged differ)

pub returns-clause-ready : goal.returns-clause-ready
returns-clause-ready g c told =
    let same : (rest : List ℕ) → (g.D.Disk.story c.sync.new.disk).held (111 ∷ rest) ≡ (g.D.Disk.story c.copy_objects.new.disk).held (111 ∷ rest) = λ rest.
    ap (λ (h : Store). h (111 ∷ rest)) (c.in_ok-sync.ensures.same told).held
    ∙ objects_later (g.D.Disk.story c.put_keys.new.disk).held (g.D.Disk.story c.stage_records.new.disk).held (staged_temporary c.deref-3.result.now (g.D.Disk.story c.put_keys.new.disk).held (g.D.Disk.story c.stage_records.new.disk).held (c.in_ok-stage_records.ensures.stages told).held) rest
    ∙ objects_keyed c.deref-2.result.now (g.D.Disk.story c.copy_objects.new.disk).held (g.D.Disk.story c.copy_objects.new.disk).held (g.D.Disk.story c.put_keys.new.disk).held (c.in_ok-put_keys.ensures.puts told).held rest in
    record {
      laid = subst IsLaidOut (sym (c.in_ok-sync.ensures.same told).held) (c.in_ok-stage_records.ensures.laid told);
      way = same (98 ∷ 106 ∷ []) ∙ c.in_ok-copied.ensures.way told;
      durable = c.in_ok-sync.ensures.durable told;
    }

pub returns-in_err-put_keys-clause-none : goal.returns-in_err-put_keys-clause-none
returns-in_err-put_keys-clause-none g c = disk_none c.from_residual-in_err-put_keys.result c.in_err-put_keys.field-0.0 c.from_residual-in_err-put_keys.ensures.1

pub returns-in_err-stage_records-clause-none : goal.returns-in_err-stage_records-clause-none
returns-in_err-stage_records-clause-none g c = disk_none c.from_residual-in_err-stage_records.result c.in_err-stage_records.field-0.0 c.from_residual-in_err-stage_records.ensures.1

pub returns-in_err-sync-clause-none : goal.returns-in_err-sync-clause-none
returns-in_err-sync-clause-none g c = disk_none c.from_residual-in_err-sync.result c.in_err-sync.field-0.0 c.from_residual-in_err-sync.ensures.1

pub returns-then-is_nothing-clause-keyed : goal.returns-then-is_nothing-clause-keyed
returns-then-is_nothing-clause-keyed g c told differ = none_keyed c.args.moved.now.added.items (g.D.Disk.story c.copy_objects.new.disk).held (c.is_nothing.ensures.0 c.if-is_nothing.true).1

pub returns-then-is_nothing-clause-staged : goal.returns-then-is_nothing-clause-staged
returns-then-is_nothing-clause-staged g c told differ = none_staged c.args.moved.now.added.items (g.D.Disk.story c.copy_objects.new.disk).held (c.is_nothing.ensures.0 c.if-is_nothing.true).1

pub returns-then-is_nothing-clause-spells : goal.returns-then-is_nothing-clause-spells
returns-then-is_nothing-clause-spells g c = none_spelled c.args.moved.now (c.is_nothing.ensures.0 c.if-is_nothing.true).1

pub returns-then-is_nothing-clause-ready : goal.returns-then-is_nothing-clause-ready
returns-then-is_nothing-clause-ready g c told = open_same (g.D.Disk.story c.args.disk.now) (g.D.Disk.story c.copy_objects.new.disk) (c.requires.ready told) (c.in_ok-copied.ensures.idle told (c.is_nothing.ensures.0 c.if-is_nothing.true).0)

pub returns-then-is_nothing-clause-idle : goal.returns-then-is_nothing-clause-idle
returns-then-is_nothing-clause-idle g c told zero none = c.in_ok-copied.ensures.idle told zero

pub returns-then-is_nothing-clause-early : goal.returns-then-is_nothing-clause-early
returns-then-is_nothing-clause-early g c told = run_copied c.args.moved.now (g.D.Disk.story c.args.disk.now) (g.D.Disk.story c.copy_objects.new.disk) (c.in_ok-copied.ensures.images told)

pub returns-then-is_nothing-clause-copied : goal.returns-then-is_nothing-clause-copied
returns-then-is_nothing-clause-copied g c told tells one =
    subst (λ (l : List MovedRecord). AreCopied c.args.moved.now.rows l (g.M.Disk.story c.args.mirror.now).held (g.D.Disk.story c.args.disk.now).held (g.D.Disk.story c.copy_objects.new.disk).held c.in_ok-copied.copied) c.deref.ensures.value
    (c.in_ok-copied.ensures.copied told tells one)

pub returns-clause-idle : goal.returns-clause-idle
returns-clause-idle g c told zero none = absurd (false≢true (sym c.if-is_nothing.false ∙ c.is_nothing.ensures.1 (zero, none)))
