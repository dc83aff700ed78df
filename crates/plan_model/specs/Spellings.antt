-- Plans whose tasks have signatures that a program can hold.
use Rattle.std.specs.Prelude.{◌≡◌, ℕ, ◌+◌, ◌<◌, ◌^◌, List, length, Some}
use Rattle.std.specs.List.{AllByRecursion, slice_get}
use Rattle.tree_model.specs.Hash.{IsHash}
use Rattle.meta_model.specs.declared.plan.Plan.{Plan}
use Rattle.meta_model.specs.declared.plan.PlanTask.{PlanTask}
use Rattle.store_model.specs.declared.signature.EquivRow.{EquivRow}
use Rattle.store_model.specs.OneSpelling.{Fits, LineFits, SignatureFits}
use Rattle.store_model.specs.Signatures.{Signed, signatures}
use Rattle.plan_model.specs.Sound.{IsSound}

-- Whatever digests the rows have for unihashes, the signatures of a plan's tasks can be held by a program.
abbrev pub HasSpellings : Plan → Type 0
HasSpellings plan = (rows : List EquivRow) → AllByRecursion (λ r. IsHash r.unihash) rows → (t : ℕ) (s : Signed) → slice_get (signatures rows plan.tasks) t ≡ Some s → SignatureFits s.sig

-- A program can hold the lines of a task's key, and one more, and as many files as the task has. What else its signature is made of
-- is short in a sound plan.
pub record TaskFits (task : PlanTask) : Type 0 where
  pub room : length task.key.lines + 1 < 2 ^ 64
  pub lines : AllByRecursion LineFits task.key.lines
  pub files : Fits task.files

-- each task of the plan is such
abbrev pub TasksFit : Plan → Type 0
TasksFit plan = (n : ℕ) (task : PlanTask) → slice_get plan.tasks n ≡ Some task → TaskFits task

-- The signatures of a sound plan can be held by a program, where its tasks can.
abbrev pub SoundHasSpellings : Type 0
SoundHasSpellings = (plan : Plan) → IsSound plan → TasksFit plan → HasSpellings plan
