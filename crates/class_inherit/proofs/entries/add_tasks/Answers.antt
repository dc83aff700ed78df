use Rattle.std.proofs.Common.{arith}
use Rattle.meta_model.specs.declared.entry.EntryLine.TheVariants as entry
use Rattle.class_inherit.proofs.Adding.{none_added, one_more, all_more}
use Rattle.class_inherit.proofs.entries.add_tasks.Goals as goal

pub loop-name-init : goal.loop-name-init
loop-name-init c = none_added c.args.reading.now

pub loop-name-preserved : goal.loop-name-preserved
loop-name-preserved c = one_more (λ name. entry.Task name c.args.after.now c.args.before.now) c.as_slice-name-items.result.now c.loop-name.name-index c.name-item.result c.args.reading.now c.loop-name.reading c.add_task.new.reading c.loop-name.invariant c.in_ok-add_task.ensures c.name-item.is c.loop-name-test.true

pub returns : goal.returns
returns c = all_more (λ name. entry.Task name c.args.after.now c.args.before.now) c.as_slice-name-items.result.now c.args.names.now c.loop-name.name-index c.args.reading.now c.loop-name.reading c.loop-name.invariant (omega arith) c.as_slice-name-items.ensures
