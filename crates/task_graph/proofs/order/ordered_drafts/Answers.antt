use Rattle.std.proofs.Common.{rules, ◌≡◌}
use Rattle.std.specs.Ordering.{is_lt}
use Rattle.std.proofs.lemmas.Fn.{always_returns_same}
use Rattle.std.proofs.lemmas.List.Sorted.{ranks_by}
use Rattle.task_graph.specs.declared.order.Draft.{Draft}
use Rattle.task_graph.specs.Order.{draft_cmp}
use Rattle.task_graph.proofs.Drafted.{drafts_total, drafts_ordered}
use Rattle.task_graph.proofs.order.ordered_drafts.Goals as goal

pub returns : goal.returns
returns c =
    drafts_ordered c.args.facts.now c.args.table.now c.args.tasks.now c.args.depths.now c.in_ok-drafts.drafts.items c.sort_unstable_by.new.self.items c.in_ok-drafts.ensures.drafts c.in_ok-drafts.ensures.places c.sort_unstable_by.ensures.permutation
    (c.sort_unstable_by.ensures.sorted (λ a b. is_lt (draft_cmp a b)) (ranks_by drafts_total (λ (x : Draft). x))
    (always_returns_same _ (λ a r. is_lt r ≡ is_lt (draft_cmp a.0.now a.1.0.now)) _ (λ a r f' q. (search rules, search rules))))
