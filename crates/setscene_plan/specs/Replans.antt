-- What is kept of a plan's tasks along a run, and when it is up to date.
use Rattle.std.specs.Prelude.{◌≡◌, ◌≢◌, ℕ, ◌<◌, ◌⊎◌, Bool, List, [], Some, None, length, Contains}
use Rattle.std.specs.List.{slice_get}
use Rattle.tree_model.specs.declared.hash.Hash.{Hash}
use Rattle.meta_model.specs.declared.event.Avail.{Avail}
use Rattle.meta_model.specs.declared.plan.PlanTask.{PlanTask}
use Rattle.run_core.specs.Above.{IsAbove}
use Rattle.tale_model.specs.Need.{IsIn, IsNeed}
use Rattle.store_model.specs.declared.signature.EquivRow.{EquivRow}
use Rattle.store_model.specs.Rows.{row_at}
use Rattle.setscene_plan.specs.declared.replan.Replan.{Replan}
use Rattle.setscene_plan.specs.View.{IsKnown, Says, View}
use Rattle.setscene_plan.specs.Names.{IsClearAt, IsHashed, IsNamed, unihashes_over}
use Rattle.setscene_plan.specs.Asked.{AreNeeds, SameAt}
use Rattle.setscene_plan.specs.Reworks.{Ascend, HaveOneName, IsFound, IsRightAt, IsTouched, IsUntouched}

-- the names that are kept
abbrev pub names_in : Replan → List Hash
names_in replan = replan.names.names.items

-- the unihashes that are kept
abbrev pub unihashes_in : Replan → List Hash
unihashes_in replan = replan.names.unihashes.items

-- which tasks are needed
abbrev pub need_in : Replan → List Bool
need_in replan = replan.needs.need.items

-- which outputs are there
abbrev pub avail_in : Replan → List Avail
avail_in replan = replan.needs.avail.items

-- the tasks whose names were worked out anew when the last task was settled
abbrev pub reworked_in : Replan → List ℕ
reworked_in replan = replan.changed.items

-- the tasks that are told to have changed then
abbrev pub told_in : Replan → List ℕ
told_in replan = replan.told.items

-- It was made for these tasks: each has the name of its signature by the unihashes that are kept, and what is kept beside, which
-- saves time alone, is right.
pub record IsMadeFor (tasks : List PlanTask) (replan : Replan) : Type 0 where
  pub long : length (names_in replan) ≡ length tasks
  pub wide : length (unihashes_in replan) ≡ length tasks
  pub named : (t : ℕ) → IsNamed tasks (names_in replan) (unihashes_in replan) t
  pub above : IsAbove tasks replan.above.items
  pub found : (t : ℕ) → IsFound replan.names t

-- It is up to date: each task has its unihash over the rows, no row of a task's name has another signature, and what is needed is
-- so by what is kept of outputs, of which the answers of needed tasks are so as answers mean.
pub record IsCurrent (says : Says) (view : View) (replan : Replan) : Type 0 where
  pub made : IsMadeFor view.plan.tasks replan
  pub hashed : (t : ℕ) → IsHashed view.rows (names_in replan) (unihashes_in replan) t
  pub clear : (t : ℕ) → IsClearAt view.rows view.plan.tasks (unihashes_in replan) t
  pub needs : AreNeeds says view (unihashes_in replan) (need_in replan) (avail_in replan)

-- After a task was settled: what is kept is right but for the unihash of its name, and for whether the row of that name, if
-- another task has it too, has that one's signature.
pub record IsSettled (says : Says) (view : View) (task : ℕ) (replan : Replan) : Type 0 where
  pub made : IsMadeFor view.plan.tasks replan
  pub hashed : (t : ℕ) → (HaveOneName (names_in replan) t task → ⊥) → IsHashed view.rows (names_in replan) (unihashes_in replan) t
  pub clear : (t : ℕ) → (t ≢ task → HaveOneName (names_in replan) t task → ⊥) → IsClearAt view.rows view.plan.tasks (unihashes_in replan) t
  pub needs : AreNeeds says view (unihashes_in replan) (need_in replan) (avail_in replan)

-- Rows that an index may have once a task was settled: none is gone, those of other names than the task's are as they were, and
-- where there is one of its name, it has the task's own signature.
pub record AreSettling (view : View) (rows : List EquivRow) (task : ℕ) (replan : Replan) : Type 0 where
  pub kept : (name : Hash) → row_at view.rows name ≢ None → row_at rows name ≢ None
  pub others : (name : Hash) → (slice_get (names_in replan) task ≡ Some name → ⊥) → row_at rows name ≡ row_at view.rows name
  pub own : IsClearAt rows view.plan.tasks (unihashes_in replan) task

-- The tasks that were worked out anew, each once: they have the settled task's name, or need one directly whose unihash changed.
pub record AreReworked (tasks : List PlanTask) (task : ℕ) (old new : Replan) : Type 0 where
  pub once : Ascend (reworked_in new)
  pub each : (t : ℕ) → Contains (reworked_in new) t → HaveOneName (names_in old) t task ⊎ IsTouched tasks (unihashes_in old) (unihashes_in new) t

-- Nothing was worked out anew, and nothing is changed.
pub record IsAsBefore (old new : Replan) : Type 0 where
  pub names : names_in new ≡ names_in old
  pub unihashes : unihashes_in new ≡ unihashes_in old
  pub need : need_in new ≡ need_in old
  pub avail : avail_in new ≡ avail_in old
  pub reworked : reworked_in new ≡ []
  pub told : told_in new ≡ []

-- The names are worked out anew, the settled task's among them, and nothing else is changed.
pub record ReworksNames (view : View) (task : ℕ) (old new : Replan) : Type 0 where
  pub long : length (names_in new) ≡ length view.plan.tasks
  pub wide : length (unihashes_in new) ≡ length view.plan.tasks
  pub right : (t : ℕ) → IsRightAt view.rows view.plan.tasks new.names t
  pub found : (t : ℕ) → IsFound new.names t
  pub within : (t : ℕ) → Contains new.changed.items t → t < length view.plan.tasks
  pub whole : (t : ℕ) → Contains new.changed.items t ⊎ IsUntouched view.plan.tasks (unihashes_in old) (unihashes_in new) t
  pub own : Contains new.changed.items task
  pub reworked : AreReworked view.plan.tasks task old new
  pub above : new.above ≡ old.above
  pub needs : new.needs ≡ old.needs

-- The unihashes are those over the rows, what is needed is so by what is kept, and of each needed task that was not worked out anew
-- the output is known.
pub record IsAskable (says : Says) (view : View) (replan : Replan) : Type 0 where
  pub wide : length (unihashes_in replan) ≡ length view.plan.tasks
  pub over : unihashes_in replan ≡ unihashes_over view.rows view.plan.tasks
  pub need : IsNeed view.plan (avail_in replan) (need_in replan)
  pub long : length (avail_in replan) ≡ length view.plan.tasks
  pub within : (t : ℕ) → Contains replan.changed.items t → t < length view.plan.tasks
  pub others : (t : ℕ) → IsIn (need_in replan) t → Contains replan.changed.items t ⊎ IsKnown says view (unihashes_in replan) t (slice_get (avail_in replan) t)

-- The outputs are asked for anew, and nothing else is changed; what changed by it is told.
pub record AsksNeeds (says : Says) (view : View) (old new : Replan) : Type 0 where
  pub needs : AreNeeds says view (unihashes_in new) (need_in new) (avail_in new)
  pub told : (t : ℕ) → Contains new.told.items t ⊎ SameAt (need_in old) (need_in new) (avail_in old) (avail_in new) t
  pub names : new.names ≡ old.names
  pub above : new.above ≡ old.above
  pub changed : new.changed ≡ old.changed
