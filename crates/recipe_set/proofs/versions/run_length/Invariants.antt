use Rattle.std.proofs.Common.{◌≡◌, ◌≤◌, ◌+◌, ◌-◌, length, drop}
use Rattle.std.specs.List.{prefix_len}
use Rattle.recipe_set.specs.Kinds.{is_of_kind}
use Rattle.recipe_set.proofs.versions.run_length.Given as goal

abbrev pub invariant-loop-n : goal.invariant-loop-n
invariant-loop-n l = record {
  within : l.n ≤ length l.text;
  rest : prefix_len (is_of_kind l.kind) l.text ≡ l.n + prefix_len (is_of_kind l.kind) (drop l.n l.text);
}

abbrev pub decreases-loop-n : goal.decreases-loop-n
decreases-loop-n l = length l.text - l.n
