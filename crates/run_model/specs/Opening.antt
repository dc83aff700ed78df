-- What a run begins with, where its disk tells.
use Rattle.std.specs.Prelude.{List}
use Rattle.outside_traits.specs.Store.{Store}
use Rattle.outside_traits.specs.Story.{Story}
use Rattle.meta_model.specs.CleanBuild.{Gives}
use Rattle.meta_model.specs.declared.plan.PlanTask.{PlanTask}
use Rattle.store_model.specs.Origins.{Book, Reading, rows_of}
use Rattle.store_model.specs.Premises.{HasNoCollision}
use Rattle.store_model.specs.Reuse.{MayReuse}

-- What scripts give, what the lines of a key say, the disk as the store was opened on it, and the book of its rows.
pub record Opening : Type 0 where
  pub gives : Gives
  pub reading : Reading
  pub story : Story
  pub book : Book

-- The tasks may reuse the book over what is held, where no line of it has the name of one of them and another signature. Whether one has, a run
-- finds itself.
abbrev pub MayTake : Gives → Reading → Store → Book → List PlanTask → Type 0
MayTake gives reading held book tasks = HasNoCollision book (rows_of book) tasks → MayReuse gives reading held book tasks
