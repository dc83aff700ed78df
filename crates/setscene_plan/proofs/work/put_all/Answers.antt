use Rattle.std.proofs.Common.{ℕ, List, subst, sym, refl, [], ◌∷◌, get_or, arith}
use Rattle.setscene_plan.specs.Reworks.{PutsAll}
use Rattle.setscene_plan.proofs.Keys.{puts_more, puts_none, puts_one}
use Rattle.setscene_plan.proofs.work.put_all.Goals as goal

pub loop-task-init : goal.loop-task-init
loop-task-init c = puts_none c.args.dirty.now.keys

pub loop-task-preserved : goal.loop-task-preserved
loop-task-preserved c =
    let task = get_or c.args.tasks.now c.loop-task.task-index 0 in
    puts_more c.args.tasks.now c.args.dirty.now.keys c.loop-task.dirty.keys c.insert.new.self.keys c.loop-task.task-index task (omega arith) refl c.loop-task.invariant
    (subst (λ (ks : List ℕ). PutsAll (task ∷ []) c.loop-task.dirty.keys ks) (sym c.in_ok-insert.ensures.keys) (puts_one c.loop-task.dirty.keys task))
