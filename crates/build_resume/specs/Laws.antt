-- Where a run may begin.
use Rattle.std.specs.Prelude.{[], ◌++◌}
use Rattle.outside_traits.specs.Store.{Store}
use Rattle.meta_model.specs.declared.plan.Plan.{Plan}
use Rattle.meta_model.specs.CleanBuild.{Gives}
use Rattle.store_model.specs.Origins.{Book, Reading}
use Rattle.plan_model.specs.Sound.{IsSound}
use Rattle.plan_model.specs.Spellings.{HasSpellings}
use Rattle.run_model.specs.Build.{IsCrash}
use Rattle.run_model.specs.Headline.{nothing}
use Rattle.run_model.specs.Opening.{MayTake}
use Rattle.build_resume.specs.Build.{IsEntry}

-- What is asked of a plan whatever a disk holds: it is sound, and a program can hold the signatures of its tasks.
pub record IsPlanned (plan : Plan) : Type 0 where
  pub sound : IsSound plan
  pub spellings : HasSpellings plan

-- A run may begin on an empty disk.
abbrev pub FirstEntry : Type 0
FirstEntry = (gives : Gives) (reading : Reading) (plan : Plan) → IsPlanned plan → MayTake gives reading nothing [] plan.tasks → IsEntry gives reading [] nothing plan

-- A run of any plan may begin on what a crash of any run left, where the plan may take of the book that the crash left.
abbrev pub NextEntry : Type 0
NextEntry = (gives : Gives) (reading : Reading) (book : Book) (image : Store) (crash : IsCrash gives reading book image) (plan : Plan) → IsPlanned plan → MayTake gives reading image (crash.again ++ crash.lines) plan.tasks → IsEntry gives reading (crash.again ++ crash.lines) image plan
