-- What a script leaves.
use Rattle.std.specs.Prelude.{◌≡◌, ◌≢◌, false, Result, Ok, Err}
use Rattle.tree_model.specs.Tree.{IsTree}
use Rattle.meta_model.specs.declared.event.Why.{Why}
use Rattle.meta_model.specs.declared.event.Why.TheVariants as why
use Rattle.meta_model.specs.CleanBuild.{Entries, is_beyond}
use Rattle.task_worker.specs.declared.running.Left.{Left}
use Rattle.task_worker.specs.declared.running.Left.TheVariants as left

-- what was left, as the clean build says it
abbrev pub left_outcome : Left → Result Entries Why
left_outcome (left.Tree tree) = Ok tree
left_outcome (left.Fails status) = Err (why.Status status)
left_outcome left.TooLarge = Err why.TooLarge

-- a tree that is left is within the limits of an output, and a status is a failing one
abbrev pub IsLeft : Left → Type 0
IsLeft (left.Tree tree) = IsTree tree × (is_beyond tree ≡ false)
IsLeft (left.Fails status) = status ≢ 0
IsLeft left.TooLarge = Unit {0}
