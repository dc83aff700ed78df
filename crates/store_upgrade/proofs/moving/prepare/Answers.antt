use Rattle.std.proofs.Common.{◌∙◌, ◌∷◌, ap, sym, subst, List, ℕ}
use Rattle.std.specs.Prelude.{Contains}
use Rattle.tree_model.specs.declared.hash.Hash.{Hash}
use Rattle.outside_traits.specs.Store.{Store}
use Rattle.outside_traits.proofs.Calls.{then_same}
use Rattle.record_move.specs.declared.records.AddedRecord.{AddedRecord}
use Rattle.record_move.specs.declared.records.MovedRecord.{MovedRecord}
use Rattle.store_upgrade.specs.Stamps.{AreRenewed}
use Rattle.store_upgrade.specs.Steps.{AreFolders, AreNoneInTheWay, AreStaged, AreStagedStamps, HaveOneName, HoldsKeys, IsCopied, KeysDiffer, NamesDiffer, StagesRecords}
use Rattle.store_upgrade.proofs.Stamped.{renewed_held, renewed_names}
use Rattle.store_upgrade.proofs.Whole.{copied_later, keys_stay, laid_objects, objects_keyed, objects_later, renewed_at, run_keys, run_objects, run_staged, run_temporary, staged_stamps_stay, staged_temporary, stamps_early}
use Rattle.store_upgrade.proofs.moving.prepare.Goals as goal

pub returns-in_err-copy_objects-clause-early : goal.returns-in_err-copy_objects-clause-early
returns-in_err-copy_objects-clause-early g c told = (run_objects c.args.moved.now.added.items (g.D.Disk.story c.args.disk.now) (g.D.Disk.story c.copy_objects.new.disk) (g.met.D.Disk.sound c.args.disk.now told) (c.requires.durable told) (c.in_err-copy_objects.ensures.within told))

pub put_keys-requires-clause-laid : goal.put_keys-requires-clause-laid
put_keys-requires-clause-laid g c told = laid_objects (g.D.Disk.story c.args.disk.now).held (g.D.Disk.story c.copy_objects.new.disk).held (c.in_ok-copy_objects.ensures.within told).held (c.requires.laid told)

pub returns-in_err-put_keys-clause-early : goal.returns-in_err-put_keys-clause-early
returns-in_err-put_keys-clause-early g c told =
    run_keys c.args.moved.now.added.items c.deref-2.result.now (g.D.Disk.story c.args.disk.now).held (g.D.Disk.story c.args.disk.now) (g.D.Disk.story c.copy_objects.new.disk)
    (g.D.Disk.story c.put_keys.new.disk) c.deref-2.ensures.value
    (run_objects c.args.moved.now.added.items (g.D.Disk.story c.args.disk.now) (g.D.Disk.story c.copy_objects.new.disk) (g.met.D.Disk.sound c.args.disk.now told)
    (c.requires.durable told) (c.in_ok-copy_objects.ensures.within told))
    (c.in_err-put_keys.ensures.puts told)

pub returns-in_err-stamps-clause-early : goal.returns-in_err-stamps-clause-early
returns-in_err-stamps-clause-early g c told =
    then_same
    (run_keys c.args.moved.now.added.items c.deref-2.result.now (g.D.Disk.story c.args.disk.now).held (g.D.Disk.story c.args.disk.now) (g.D.Disk.story c.copy_objects.new.disk)
    (g.D.Disk.story c.put_keys.new.disk) c.deref-2.ensures.value
    (run_objects c.args.moved.now.added.items (g.D.Disk.story c.args.disk.now) (g.D.Disk.story c.copy_objects.new.disk) (g.met.D.Disk.sound c.args.disk.now told)
    (c.requires.durable told) (c.in_ok-copy_objects.ensures.within told))
    (c.in_ok-put_keys.ensures.puts told))
    (c.in_err-stamps.ensures.others told)

pub stage_stamps-requires-clause-folders : goal.stage_stamps-requires-clause-folders
stage_stamps-requires-clause-folders g c = subst AreFolders (sym c.deref-4.ensures.value) c.in_ok-stamps.ensures.folders

pub stage_stamps-requires-clause-names : goal.stage_stamps-requires-clause-names
stage_stamps-requires-clause-names g c told = subst HaveOneName (sym c.deref-4.ensures.value) (renewed_names (g.D.Disk.story c.put_keys.new.disk).held c.deref-3.result.now c.in_ok-stamps.stamps.items (c.in_ok-stamps.ensures.renewed told))

pub returns-in_err-stage_stamps-clause-early : goal.returns-in_err-stage_stamps-clause-early
returns-in_err-stage_stamps-clause-early g c told =
    run_temporary c.args.moved.now.added.items (g.D.Disk.story c.args.disk.now).held (g.D.Disk.story c.args.disk.now) (g.D.Disk.story c.find_renewed.new.disk)
    (g.D.Disk.story c.stage_stamps.new.disk)
    (then_same
    (run_keys c.args.moved.now.added.items c.deref-2.result.now (g.D.Disk.story c.args.disk.now).held (g.D.Disk.story c.args.disk.now)
    (g.D.Disk.story c.copy_objects.new.disk) (g.D.Disk.story c.put_keys.new.disk) c.deref-2.ensures.value
    (run_objects c.args.moved.now.added.items (g.D.Disk.story c.args.disk.now) (g.D.Disk.story c.copy_objects.new.disk) (g.met.D.Disk.sound c.args.disk.now told)
    (c.requires.durable told) (c.in_ok-copy_objects.ensures.within told))
    (c.in_ok-put_keys.ensures.puts told))
    (c.in_ok-stamps.ensures.others told))
    (c.in_err-stage_stamps.ensures.within told)

pub returns-in_err-stage_records-clause-early : goal.returns-in_err-stage_records-clause-early
returns-in_err-stage_records-clause-early g c told =
    run_staged c.args.moved.now.added.items c.deref-5.result.now (g.D.Disk.story c.args.disk.now).held (g.D.Disk.story c.args.disk.now) (g.D.Disk.story c.stage_stamps.new.disk)
    (g.D.Disk.story c.stage_records.new.disk) c.deref-5.ensures.value
    (run_temporary c.args.moved.now.added.items (g.D.Disk.story c.args.disk.now).held (g.D.Disk.story c.args.disk.now) (g.D.Disk.story c.find_renewed.new.disk)
    (g.D.Disk.story c.stage_stamps.new.disk)
    (then_same
    (run_keys c.args.moved.now.added.items c.deref-2.result.now (g.D.Disk.story c.args.disk.now).held (g.D.Disk.story c.args.disk.now)
    (g.D.Disk.story c.copy_objects.new.disk) (g.D.Disk.story c.put_keys.new.disk) c.deref-2.ensures.value
    (run_objects c.args.moved.now.added.items (g.D.Disk.story c.args.disk.now) (g.D.Disk.story c.copy_objects.new.disk) (g.met.D.Disk.sound c.args.disk.now told)
    (c.requires.durable told) (c.in_ok-copy_objects.ensures.within told))
    (c.in_ok-put_keys.ensures.puts told))
    (c.in_ok-stamps.ensures.others told))
    (c.in_ok-stage_stamps.ensures.within told))
    (c.in_err-stage_records.ensures.stages told)

pub returns-in_err-sync-clause-early : goal.returns-in_err-sync-clause-early
returns-in_err-sync-clause-early g c told =
    then_same
    (run_staged c.args.moved.now.added.items c.deref-5.result.now (g.D.Disk.story c.args.disk.now).held (g.D.Disk.story c.args.disk.now)
    (g.D.Disk.story c.stage_stamps.new.disk) (g.D.Disk.story c.stage_records.new.disk) c.deref-5.ensures.value
    (run_temporary c.args.moved.now.added.items (g.D.Disk.story c.args.disk.now).held (g.D.Disk.story c.args.disk.now) (g.D.Disk.story c.find_renewed.new.disk)
    (g.D.Disk.story c.stage_stamps.new.disk)
    (then_same
    (run_keys c.args.moved.now.added.items c.deref-2.result.now (g.D.Disk.story c.args.disk.now).held (g.D.Disk.story c.args.disk.now)
    (g.D.Disk.story c.copy_objects.new.disk) (g.D.Disk.story c.put_keys.new.disk) c.deref-2.ensures.value
    (run_objects c.args.moved.now.added.items (g.D.Disk.story c.args.disk.now) (g.D.Disk.story c.copy_objects.new.disk)
    (g.met.D.Disk.sound c.args.disk.now told) (c.requires.durable told) (c.in_ok-copy_objects.ensures.within told))
    (c.in_ok-put_keys.ensures.puts told))
    (c.in_ok-stamps.ensures.others told))
    (c.in_ok-stage_stamps.ensures.within told))
    (c.in_ok-stage_records.ensures.stages told))
    (c.in_err-sync.ensures.same told)

pub returns-clause-early : goal.returns-clause-early
returns-clause-early g c told =
    then_same
    (run_staged c.args.moved.now.added.items c.deref-5.result.now (g.D.Disk.story c.args.disk.now).held (g.D.Disk.story c.args.disk.now)
    (g.D.Disk.story c.stage_stamps.new.disk) (g.D.Disk.story c.stage_records.new.disk) c.deref-5.ensures.value
    (run_temporary c.args.moved.now.added.items (g.D.Disk.story c.args.disk.now).held (g.D.Disk.story c.args.disk.now) (g.D.Disk.story c.find_renewed.new.disk)
    (g.D.Disk.story c.stage_stamps.new.disk)
    (then_same
    (run_keys c.args.moved.now.added.items c.deref-2.result.now (g.D.Disk.story c.args.disk.now).held (g.D.Disk.story c.args.disk.now)
    (g.D.Disk.story c.copy_objects.new.disk) (g.D.Disk.story c.put_keys.new.disk) c.deref-2.ensures.value
    (run_objects c.args.moved.now.added.items (g.D.Disk.story c.args.disk.now) (g.D.Disk.story c.copy_objects.new.disk)
    (g.met.D.Disk.sound c.args.disk.now told) (c.requires.durable told) (c.in_ok-copy_objects.ensures.within told))
    (c.in_ok-put_keys.ensures.puts told))
    (c.in_ok-stamps.ensures.others told))
    (c.in_ok-stage_stamps.ensures.within told))
    (c.in_ok-stage_records.ensures.stages told))
    (c.in_ok-sync.ensures.same told)

pub returns-clause-keyed : goal.returns-clause-keyed
returns-clause-keyed g c told differ =
    let put = subst (λ (l : List AddedRecord). KeysDiffer l → HoldsKeys l (g.D.Disk.story c.put_keys.new.disk).held) c.deref-2.ensures.value (c.in_ok-put_keys.ensures.held told) differ in
    let one = subst (HoldsKeys c.args.moved.now.added.items) (sym (c.in_ok-stamps.ensures.others told).held) put in
    let two = keys_stay c.args.moved.now.added.items (g.D.Disk.story c.find_renewed.new.disk).held (g.D.Disk.story c.stage_stamps.new.disk).held (c.in_ok-stage_stamps.ensures.within told).held one in
    let three =
    keys_stay c.args.moved.now.added.items (g.D.Disk.story c.stage_stamps.new.disk).held (g.D.Disk.story c.stage_records.new.disk).held
    (staged_temporary c.args.moved.now.added.items (g.D.Disk.story c.stage_stamps.new.disk).held (g.D.Disk.story c.stage_records.new.disk).held
    (subst (λ (l : List AddedRecord). StagesRecords l (g.D.Disk.story c.stage_stamps.new.disk).held (g.D.Disk.story c.stage_records.new.disk).held)
    c.deref-5.ensures.value (c.in_ok-stage_records.ensures.stages told).held))
    two in
    subst (HoldsKeys c.args.moved.now.added.items) (sym (c.in_ok-sync.ensures.same told).held) three

pub returns-clause-staged : goal.returns-clause-staged
returns-clause-staged g c told names =
    subst (AreStaged c.args.moved.now.added.items) (sym (c.in_ok-sync.ensures.same told).held)
    (subst (λ (l : List AddedRecord). NamesDiffer l → AreStaged l (g.D.Disk.story c.stage_records.new.disk).held) c.deref-5.ensures.value (c.in_ok-stage_records.ensures.staged told) names)

pub returns-clause-objects : goal.returns-clause-objects
returns-clause-objects g c told =
    copied_later c.args.moved.now.rows c.args.moved.now.records.items (g.D.Disk.story c.args.disk.now).held (g.D.Disk.story c.copy_objects.new.disk).held (g.D.Disk.story c.sync.new.disk).held
    (λ rest.
    ap (λ (s : Store). s (111 ∷ rest)) (c.in_ok-sync.ensures.same told).held
    ∙ objects_later (g.D.Disk.story c.stage_stamps.new.disk).held (g.D.Disk.story c.stage_records.new.disk).held (staged_temporary c.deref-5.result.now (g.D.Disk.story c.stage_stamps.new.disk).held (g.D.Disk.story c.stage_records.new.disk).held (c.in_ok-stage_records.ensures.stages told).held) rest
    ∙ objects_later (g.D.Disk.story c.find_renewed.new.disk).held (g.D.Disk.story c.stage_stamps.new.disk).held (c.in_ok-stage_stamps.ensures.within told).held rest
    ∙ ap (λ (s : Store). s (111 ∷ rest)) (c.in_ok-stamps.ensures.others told).held
    ∙ objects_keyed c.deref-2.result.now (g.D.Disk.story c.copy_objects.new.disk).held (g.D.Disk.story c.copy_objects.new.disk).held (g.D.Disk.story c.put_keys.new.disk).held (c.in_ok-put_keys.ensures.puts told).held rest)
    (subst (λ (l : List MovedRecord). AreNoneInTheWay c.args.moved.now.rows l → (m : MovedRecord) → Contains l m → IsCopied c.args.moved.now.rows m (g.D.Disk.story c.args.disk.now).held (g.D.Disk.story c.copy_objects.new.disk).held) c.deref.ensures.value (c.in_ok-copy_objects.ensures.copied told))

pub returns-clause-stamps : goal.returns-clause-stamps
returns-clause-stamps g c told =
    let early =
    then_same
    (run_staged c.args.moved.now.added.items c.deref-5.result.now (g.D.Disk.story c.args.disk.now).held (g.D.Disk.story c.args.disk.now)
    (g.D.Disk.story c.stage_stamps.new.disk) (g.D.Disk.story c.stage_records.new.disk) c.deref-5.ensures.value
    (run_temporary c.args.moved.now.added.items (g.D.Disk.story c.args.disk.now).held (g.D.Disk.story c.args.disk.now) (g.D.Disk.story c.find_renewed.new.disk)
    (g.D.Disk.story c.stage_stamps.new.disk)
    (then_same
    (run_keys c.args.moved.now.added.items c.deref-2.result.now (g.D.Disk.story c.args.disk.now).held (g.D.Disk.story c.args.disk.now)
    (g.D.Disk.story c.copy_objects.new.disk) (g.D.Disk.story c.put_keys.new.disk) c.deref-2.ensures.value
    (run_objects c.args.moved.now.added.items (g.D.Disk.story c.args.disk.now) (g.D.Disk.story c.copy_objects.new.disk)
    (g.met.D.Disk.sound c.args.disk.now told) (c.requires.durable told) (c.in_ok-copy_objects.ensures.within told))
    (c.in_ok-put_keys.ensures.puts told))
    (c.in_ok-stamps.ensures.others told))
    (c.in_ok-stage_stamps.ensures.within told))
    (c.in_ok-stage_records.ensures.stages told))
    (c.in_ok-sync.ensures.same told) in
    let two =
    run_keys c.args.moved.now.added.items c.deref-2.result.now (g.D.Disk.story c.args.disk.now).held (g.D.Disk.story c.args.disk.now) (g.D.Disk.story c.copy_objects.new.disk)
    (g.D.Disk.story c.put_keys.new.disk) c.deref-2.ensures.value
    (run_objects c.args.moved.now.added.items (g.D.Disk.story c.args.disk.now) (g.D.Disk.story c.copy_objects.new.disk) (g.met.D.Disk.sound c.args.disk.now told)
    (c.requires.durable told) (c.in_ok-copy_objects.ensures.within told))
    (c.in_ok-put_keys.ensures.puts told) in
    let are = subst (λ (l : List MovedRecord). AreRenewed (g.D.Disk.story c.put_keys.new.disk).held l c.in_ok-stamps.stamps.items) c.deref-3.ensures.value (c.in_ok-stamps.ensures.renewed told) in
    let renewed =
    renewed_at (g.D.Disk.story c.args.disk.now).held (g.D.Disk.story c.put_keys.new.disk).held c.args.moved.now.records.items c.in_ok-stamps.stamps.items
    (stamps_early c.args.moved.now.added.items (g.D.Disk.story c.args.disk.now).held (g.D.Disk.story c.put_keys.new.disk).held two.held) are in
    record {
      renewed = renewed;
      held_still =
          renewed_held (g.D.Disk.story c.args.disk.now).held (g.D.Disk.story c.sync.new.disk).held c.args.moved.now.records.items c.in_ok-stamps.stamps.items renewed
          (stamps_early c.args.moved.now.added.items (g.D.Disk.story c.args.disk.now).held (g.D.Disk.story c.sync.new.disk).held early.held);
      staged = subst (AreStagedStamps c.in_ok-stamps.stamps.items) (sym (c.in_ok-sync.ensures.same told).held)
          (staged_stamps_stay c.deref-5.result.now c.in_ok-stamps.stamps.items (g.D.Disk.story c.stage_stamps.new.disk).held (g.D.Disk.story c.stage_records.new.disk).held (c.in_ok-stage_records.ensures.stages told).held
          (subst (λ (l : List (List ℕ × Hash)). AreStagedStamps l (g.D.Disk.story c.stage_stamps.new.disk).held) c.deref-4.ensures.value (c.in_ok-stage_stamps.ensures.staged told)));
    }
