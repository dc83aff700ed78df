-- What a disk holds while it is opened and cleared by the names of a plan's tasks, and behind that.
use Rattle.std.specs.Prelude.{◌≤◌, ℕ, List, [], Option, None, Some, length}
use Rattle.tree_model.specs.declared.hash.Hash.{Hash}
use Rattle.outside_traits.specs.Store.{Store}
use Rattle.outside_traits.specs.Story.{Story}
use Rattle.meta_model.specs.declared.plan.Plan.{Plan}
use Rattle.store_model.specs.declared.signature.EquivRow.{EquivRow}
use Rattle.store_model.specs.Opened.{IsOpened}
use Rattle.run_core.specs.Need.{AreOrdered}
use Rattle.setscene_plan.specs.Names.{names_over}
use Rattle.setscene_plan.specs.View.{Says, View}
use Rattle.store_opening.specs.Opening.{Clears}
use Rattle.store_opening.specs.Survey.{AreJudged}
use Rattle.store_clean.specs.declared.clearing.Cleaned.{Cleaned}
use Rattle.store_clean.specs.Cleared.{IsDone, IsMoment}
use Rattle.store_clean.specs.Deciding.{IsNumbered}

-- The roots of a clearing: the names of all tasks of the plan over these rows; without a plan there are none (own rule).
abbrev pub roots_over : Option Plan → List EquivRow → List Hash
roots_over None rows = []
roots_over (Some plan) rows = names_over rows plan.tasks

-- The plan, if there is one, has at most 65,536 tasks, and each needs those before it alone.
abbrev pub IsOrdered : Option Plan → Type 0
IsOrdered None = Unit {0}
IsOrdered (Some plan) = (length plan.tasks ≤ 65536) × AreOrdered plan.tasks

-- What stands at a moment of a clearing, and what stood before: the store is being opened; or it was opened, with these rows, and what stands is what it held
-- then or what its clearing by the plan's roots makes of that.
pub data IsAlong (plan : Option Plan) (limit : ℕ) (held earlier image : Store) : Type 0 where
  opens : Clears held earlier image → IsAlong plan limit held earlier image
  clears : (opened : Store) (rows : List EquivRow) → IsOpened held opened rows → IsMoment rows (roots_over plan rows) limit opened image → IsAlong plan limit held earlier image

-- The store was opened and cleared: just what is decided by the rows as opened is left, and counted.
pub record IsClearedBy (plan : Option Plan) (limit : ℕ) (held : Store) (after : Story) (cleaned : Cleaned) : Type 0 where
  pub opened : Store
  pub rows : List EquivRow
  pub is_opened : IsOpened held opened rows
  pub done : IsDone rows (roots_over plan rows) limit opened after cleaned

-- The numbers are those of the clearing of what is held: decided by the rows of its believed records, which opening would give.
pub record IsCountedBy (plan : Option Plan) (limit : ℕ) (held : Store) (cleaned : Cleaned) : Type 0 where
  pub rows : List EquivRow
  pub judged : AreJudged held rows
  pub numbered : IsNumbered rows (roots_over plan rows) limit cleaned

-- ---- the rows, asked for names

abbrev pub on_rows : Plan → List EquivRow → View
on_rows plan rows = record { plan = plan; rows = rows }

-- an answer of an output means nothing
abbrev pub none_asked : Says
none_asked task sig there = Unit {0}
