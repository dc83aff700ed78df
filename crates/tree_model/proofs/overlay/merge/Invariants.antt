use Rattle.std.proofs.Common.{◌+◌, ◌≤◌, ◌++◌, vec_len, vec_capacity}
use Rattle.tree_model.proofs.MergeLemmas.{IsMerging}
use Rattle.tree_model.proofs.overlay.merge.Given as goal

abbrev pub invariant-merging : goal.invariant-merging
invariant-merging l = (vec_len l.made + (vec_len l.one + vec_len l.other) ≤ vec_capacity l.made) × IsMerging (l.fn.one.items ++ l.fn.other.items) l.one.items l.other.items l.made.items

abbrev pub decreases-merging : goal.decreases-merging
decreases-merging l = vec_len l.one + vec_len l.other
