use Rattle.std.proofs.Common.{◌≡◌, rules}
use Rattle.std.specs.Ordering.{is_lt}
use Rattle.std.proofs.lemmas.Fn.{always_returns_same}
use Rattle.run_model.specs.Layouts.{needed_among}
use Rattle.task_worker.specs.Work.{depth_cmp, part_needed}
use Rattle.task_worker.proofs.Orders.{is_before, part_order, depth_total, own_order}
use Rattle.task_worker.proofs.parts.own_parts.Goals as goal

pub returns : goal.returns
returns c =
    let compares = always_returns_same _ (λ a r. is_lt r ≡ is_lt (depth_cmp (part_needed a.0.now) (part_needed a.1.0.now))) _ (λ a r f' q. (search rules, search rules)) in
    own_order c.args.pn.now c.in_ok-made.made.items c.sort_by.new.self.items (needed_among c.args.tasks.now c.args.outputs.now) c.in_ok-made.ensures
    (c.in_ok-sort_by.ensures.sorted (is_before depth_cmp depth_total) (part_order depth_cmp depth_total) compares)
    (c.in_ok-sort_by.ensures.stable (is_before depth_cmp depth_total) (part_order depth_cmp depth_total) compares)
