-- What was available as a run began is available in whatever a crash leaves.
use Rattle.std.specs.Prelude.{◌≡◌, ◌⊎◌, ℕ, List, [], ◌∷◌, ◌++◌, Some}
use Rattle.std.specs.List.{slice_get}
use Rattle.outside_traits.specs.Store.{Store}
use Rattle.outside_traits.specs.Story.{IsImageSince, Story}
use Rattle.meta_model.specs.declared.event.Logged.{Logged}
use Rattle.meta_model.specs.declared.event.Status.{Status}
use Rattle.meta_model.specs.declared.plan.Options.{Options}
use Rattle.meta_model.specs.declared.plan.Plan.{Plan}
use Rattle.meta_model.specs.CleanBuild.{Gives}
use Rattle.store_model.specs.declared.signature.EquivRow.{EquivRow}
use Rattle.store_model.specs.Available.{IsInObject, IsInWork}
use Rattle.store_model.specs.Origins.{Book, Reading, rows_of}
use Rattle.store_model.specs.Reuse.{MayReuse}
use Rattle.store_model.specs.Signatures.{Signed, signatures}
use Rattle.plan_model.specs.Sound.{IsSound}
use Rattle.run_model.specs.Build.{IsCrash}
use Rattle.run_model.specs.Headline.{Keeps}
use Rattle.run_model.specs.Runs.{Runs}

-- the output of the task of a number is there, in its work folder or as an object, by its signature over these rows
abbrev pub IsThereNow : Store → List EquivRow → Plan → Options → ℕ → Type 0
IsThereNow held rows plan options t = (s : Signed) → slice_get (signatures rows plan.tasks) t ≡ Some s → IsInWork held rows s ⊎ IsInObject held rows options.setscene s

-- *What is available lasts*: where a run keeps its promises and its plan may reuse the book, each task that was available as the run began is
-- available in each image since, over the rows of that image's book. So the next run of the plan doesn't start it.
abbrev pub AvailableLasts : Type 0
AvailableLasts = (gives : Gives) (reading : Reading) (book : Book) (held : Store) (plan : Plan) (options : Options) (tale : List Logged) (s : Status) (story : Story) (before now : List Runs) →
    IsSound plan → MayReuse gives reading held book plan.tasks → Keeps gives reading book held plan options (tale ∷ []) s story before now →
    (t : ℕ) → IsThereNow held (rows_of book) plan options t →
    (image : Store) → IsImageSince story 0 image → (crash : IsCrash gives reading book image) → IsThereNow image (rows_of (crash.again ++ crash.lines)) plan options t
