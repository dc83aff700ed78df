-- What a run of a part's plan leaves, and the parts so far.
use Rattle.std.specs.Prelude.{◌≡◌, ◌≤◌, ◌⊎◌, ◌↔◌, ℕ, false, List, [], ◌∷◌, ◌++◌, All, length, map, flat_map, Ok}
use Rattle.outside_traits.specs.Bench.{Gives}
use Rattle.outside_traits.specs.Fault.{Rose}
use Rattle.outside_traits.specs.Store.{IsListing}
use Rattle.load_model.specs.Loading.{sources_of}
use Rattle.meta_model.specs.declared.event.Logged.{Logged}
use Rattle.meta_model.specs.declared.event.Status.{Status}
use Rattle.meta_model.specs.declared.event.Status.TheVariants as status
use Rattle.meta_model.specs.declared.plan.Options.{Options}
use Rattle.meta_model.specs.declared.plan.Plan.{Plan}
use Rattle.plan_model.specs.Inputs.{Files}
use Rattle.plan_model.specs.Sound.{AreWanted}
use Rattle.store_model.specs.Origins.{Book, Reading}
use Rattle.run_model.specs.Benches.{AtSeats, BreaksByFault, SomeRose}
use Rattle.run_model.specs.Build.{AllClean, MayEndSo}
use Rattle.run_model.specs.Headline.{MayBegin}
use Rattle.run_model.specs.Seated.{HaveBenches}
use Rattle.answer_model.specs.Devices.{AreUnchanged}
use Rattle.answer_model.specs.declared.asked.RunRequest.{RunRequest}
use Rattle.answer_model.specs.declared.asked.ShowMode.{ShowMode}
use Rattle.answer_model.specs.Run.{Concludes, IsCertain, RanPrintedCall, WritesCall}
use Rattle.sub_disk.specs.Sub.{below}
use Rattle.multi_config.specs.declared.parts.ConfigTargets.{ConfigTargets}
use Rattle.multi_config.specs.Configs.{behind_failed, status_of, store_prefix}
use Rattle.multi_config.specs.Parts.{AreParts, AreReached, DidFolder, PartEnd, Standing, StayBenches}
use Rattle.multi_config.specs.Project.{parts_asked}
use Rattle.multi_config.specs.Shown.{AreShown}
use Rattle.config_build.specs.Below.{LeavesStory}

-- where devices stood, but that this was written and the sink's count stood so
abbrev pub behind_text : List ℕ → ℕ → Standing → Standing
behind_text base count at = record at { written = base; sink = count }

-- What a run of the plan over the store of a configuration leaves, from where the devices stood as its text was to be printed.
pub record RanPlan (disk bench sink : Type 0) (options : Options) (mc : List ℕ) (plan : Plan) (before now : Standing) (plans : List Plan) (tales : List (List Logged)) (s : Status) : Type 0 where
  pub plans_are : (plans ≡ plan ∷ []) ⊎ ((plans ≡ []) × (s ≡ status.OutOfMemory))
  pub concludes : Concludes options plans tales s
  pub unbegun : tales ≡ [] → (s ≡ status.OutOfMemory) ⊎ (s ≡ status.WriteFault)
  pub folder : disk → (tale : List Logged) → tales ≡ tale ∷ []
      → DidFolder mc tale s before.story now.story (LeavesStory disk bench before.gives plan options tale s (below (store_prefix mc) before.story.held) before.runs now.runs)
  pub exactly : disk → bench → (gives : Gives) → All (λ g. g ≡ gives) before.gives → (reading : Reading) (book : Book) → MayBegin gives reading book (below (store_prefix mc) before.story.held) plan → AreWanted plan
      → (Rose before.disk now.disk → ⊥) → AreUnchanged before.benches now.benches → (Rose before.sink now.sink → ⊥) → IsCertain s → ((s ≡ status.Ok) ↔ AllClean gives plan)
  pub text : sink → WritesCall (Rose before.sink now.sink) before.written now.written plans tales s
  pub printed : sink → bench → RanPrintedCall plans tales before.runs now.runs before.written now.written
  pub same_disk : tales ≡ [] → (now.story ≡ before.story) × (now.disk ≡ before.disk)
  pub same_benches : tales ≡ [] → (now.runs ≡ before.runs) × (now.benches ≡ before.benches)
  pub benches : All (HaveBenches (length before.benches)) tales
  pub broke : All (λ tale. AtSeats (BreaksByFault tale) before.benches now.benches) tales
  pub causes : MayEndSo now.disk (SomeRose before.benches now.benches) (Rose before.sink now.sink) s
  pub disk_cause : s ≡ status.DiskFault → Rose before.disk now.disk
  pub later : (before.disk ≤ now.disk) × (before.sink ≤ now.sink)
  pub stay : StayBenches before now

-- the status of parts of which the first one ended so, and the run went on behind it
abbrev pub behind_status : Status → Status → Status
behind_status status.TaskFailed rest = behind_failed rest
behind_status _ rest = rest

-- The parts from here on, behind plans and tales of others.
pub record RanParts (layers disk bench sink : Type 0) (files : Files) (request : RunRequest) (parts : List ConfigTargets) (before now : Standing) (first_plans plans : List Plan) (first_tales tales : List (List Logged)) (s : Status) : Type 0 where
  pub ends : List PartEnd
  pub reached : AreReached request.options.keep_going parts ends
  pub plans_are : plans ≡ first_plans ++ flat_map (λ e. e.plans) ends
  pub tales_are : tales ≡ first_tales ++ flat_map (λ e. e.tales) ends
  pub status_is : s ≡ status_of request.options.keep_going (map (λ e. e.status) ends)
  pub each : AreParts layers disk bench sink files request ends before now

-- The parts from here on that are shown.
pub record ShownParts (layers sink : Type 0) (what : ShowMode) (files : Files) (parts : List ConfigTargets) (before now : Standing) (s : Status) : Type 0 where
  pub ends : List PartEnd
  pub reached : AreReached false parts ends
  pub no_plans : [] ≡ flat_map (λ e. e.plans) ends
  pub no_tales : [] ≡ flat_map (λ e. e.tales) ends
  pub status_is : s ≡ status_of false (map (λ e. e.status) ends)
  pub each : AreShown layers sink what files ends before now

-- the parts are those of the request's words
abbrev pub ArePartsOf : Type 0 → Files → RunRequest → List ConfigTargets → Type 0
ArePartsOf layers files request parts = layers → (paths : List (List ℕ)) → IsListing [] files paths → parts_asked (sources_of files) paths request.targets request.task ≡ Ok parts
