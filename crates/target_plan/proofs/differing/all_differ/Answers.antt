use Rattle.std.proofs.Common.{◌≡◌, refl, true, false}
use Rattle.target_plan.proofs.Pairs.{none_seen, one_more, seen_before, all_seen}
use Rattle.target_plan.proofs.differing.all_differ.Goals as goal

pub loop-task-init : goal.loop-task-init
loop-task-init c = none_seen c.args.tasks.now c.new-seen.result.keys c.new-seen.ensures.empty

pub loop-task-preserved : goal.loop-task-preserved
loop-task-preserved c =
    one_more c.args.tasks.now c.loop-task.task-index c.task-item.result c.loop-task-test.true c.task-item.is (c.as_str.result, c.as_str-in-loop-task.result) c.as_str.ensures c.as_str-in-loop-task.ensures
    c.loop-task.seen.keys c.insert.new.self.keys c.in_ok-insert.field-0 c.in_ok-insert.ensures.added c.if-not-branch.false c.in_ok-insert.ensures.keys c.in_ok-insert.ensures.updates.1 c.loop-task.invariant

pub returns : goal.returns
returns c = (λ t. all_seen c.args.tasks.now c.loop-task.task-index c.loop-task.seen.keys c.loop-task-test.false c.loop-task.invariant, λ all. refl)

pub returns-then-not-branch : goal.returns-then-not-branch
returns-then-not-branch c = (
  λ t. absurd (let wrong : false ≡ true = t in cc),
  λ all.
      absurd (seen_before c.args.tasks.now c.loop-task.task-index c.task-item.result c.loop-task-test.true c.task-item.is (c.as_str.result, c.as_str-in-loop-task.result) c.as_str.ensures c.as_str-in-loop-task.ensures c.loop-task.seen.keys c.in_ok-insert.field-0
      c.in_ok-insert.ensures.added c.if-not-branch.true c.loop-task.invariant all),
)
