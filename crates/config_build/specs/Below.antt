-- What a run leaves of the story of its folder.
use Rattle.std.specs.Prelude.{◌≡◌, ℕ, List, All}
use Rattle.outside_traits.specs.Bench.{Gives}
use Rattle.outside_traits.specs.Store.{Store}
use Rattle.outside_traits.specs.Story.{Story}
use Rattle.meta_model.specs.declared.event.Logged.{Logged}
use Rattle.meta_model.specs.declared.event.Status.{Status}
use Rattle.meta_model.specs.declared.plan.Options.{Options}
use Rattle.meta_model.specs.declared.plan.Plan.{Plan}
use Rattle.store_model.specs.Origins.{Book, Reading}
use Rattle.run_model.specs.Build.{TellsDifference}
use Rattle.run_model.specs.Runs.{Runs}
use Rattle.build_resume.specs.Build.{IsEntry, Leaves}
use Rattle.sub_disk.specs.Sub.{GoesOn}

-- what a run leaves where its benches tell and give the same, and what its status says of two that differ
pub record LeavesStory (disk bench : Type 0) (given : List Gives) (plan : Plan) (options : Options) (tale : List Logged) (s : Status) (held : Store) (before now : List Runs) (sub : Story) : Type 0 where
  pub leaves : bench → (gives : Gives) → All (λ g. g ≡ gives) given → (reading : Reading) (book : Book) → IsEntry gives reading book held plan
      → Leaves gives reading book held plan options tale s sub before now
  pub differs : TellsDifference disk plan sub s

-- the disk goes on from the start by the story of a folder, of which P holds
pub record WentOn (prefix : List ℕ) (start now : Story) (P : Story → Type 0) : Type 0 where
  pub sub : Story
  pub goes_on : GoesOn prefix start now sub
  pub kept : P sub
