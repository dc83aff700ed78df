-- What is promised of a run of several configurations: of each part, and how the parts are one run (own rules).
use Rattle.std.specs.Prelude.{◌≡◌, ◌≢◌, ◌≤◌, ◌↔◌, ◌⊎◌, ℕ, Bool, true, false, List, [], ◌∷◌, ◌++◌, All, length, map, flat_map, Some, Ok, codes}
use Rattle.std.specs.Bool.{OnFalse, OnTrue}
use Rattle.std.specs.List.{slice_get}
use Rattle.outside_traits.specs.Bench.{Gives, Workplace}
use Rattle.outside_traits.specs.Fault.{Rose}
use Rattle.outside_traits.specs.Passes.{Passes}
use Rattle.outside_traits.specs.Store.{IsListing, MakesWay, Store}
use Rattle.outside_traits.specs.Story.{Story}
use Rattle.meta_model.specs.declared.event.Logged.{Logged}
use Rattle.meta_model.specs.declared.event.Status.{Status}
use Rattle.meta_model.specs.declared.event.Status.TheVariants as status
use Rattle.meta_model.specs.declared.plan.Plan.{Plan}
use Rattle.load_model.specs.Loading.{sources_of}
use Rattle.store_model.specs.Origins.{Book, Reading}
use Rattle.plan_model.specs.Inputs.{Files}
use Rattle.run_model.specs.Benches.{AtSeats, BreaksByFault, SomeRose}
use Rattle.run_model.specs.Build.{AllClean, TellsDifference}
use Rattle.run_model.specs.Headline.{Keeps, MayBegin}
use Rattle.run_model.specs.Runs.{Runs}
use Rattle.run_model.specs.Seated.{HaveBenches}
use Rattle.run_model.specs.Texts.{fault_text}
use Rattle.run_model.specs.Written.{WritesFront}
use Rattle.answer_model.specs.Answers.{IsRefusal, Says, is_refusal}
use Rattle.answer_model.specs.Devices.{AreUnchanged, IsUnchanged}
use Rattle.answer_model.specs.declared.asked.RunRequest.{RunRequest}
use Rattle.answer_model.specs.Run.{Concludes, HasCause, IsCertain, RanPrintedCall, WritesCall, is_run_status}
use Rattle.sub_disk.specs.Sub.{GoesOn, IsSettledWhole, below}
use Rattle.multi_config.specs.declared.parts.ConfigTargets.{ConfigTargets}
use Rattle.multi_config.specs.Configs.{config_line, goes_on, status_of, store_prefix}
use Rattle.multi_config.specs.Plans.{HasPartPlan, IsPartRefused}
use Rattle.multi_config.specs.Project.{parts_asked}

-- ---- the folder of a configuration

-- the folder in which the store of a configuration that has a name stands
abbrev pub store_folder : List ℕ → List ℕ
store_folder mc = codes "mc/" ++ mc

-- What is made of the disk before a part's store is opened: what is in the way of its folder goes. The default configuration has no folder.
abbrev pub MakesReady : List ℕ → Store → Store → Store → Type 0
MakesReady [] held old new = new ≡ old
MakesReady (c ∷ mc) held old new = MakesWay (store_folder (c ∷ mc)) held old new

-- What a run in the folder of a configuration did to the disk. Where the folder couldn't be made ready, nothing was told. Else the run had a disk of its
-- own over the folder, which began with what was held there: of its story P is kept, and of the whole disk that it goes on so, with nothing changed
-- outside of the folder, and with the own disk's images in it.
pub data DidFolder (mc : List ℕ) (tale : List Logged) (s : Status) (before now : Story) (P : Story → Type 0) : Type 0 where
  unready : Passes before now (MakesReady mc before.held) → tale ≡ [] → s ≢ status.Ok → s ≢ status.TaskFailed → DidFolder mc tale s before now P
  ready : (start sub : Story) → Passes before start (MakesReady mc before.held) → IsSettledWhole start → below (store_prefix mc) start.held ≡ below (store_prefix mc) before.held → GoesOn (store_prefix mc) start now sub → P sub → DidFolder mc tale s before now P

-- ---- one part

-- where the devices of a call stand: how often the layers failed; the disk's story and count; what scripts give on the benches, what these ran, and their
-- counts; what was written, and the sink's count
pub record Standing : Type 0 where
  pub layers : ℕ
  pub story : Story
  pub disk : ℕ
  pub gives : List Gives
  pub runs : List Runs
  pub benches : List ℕ
  pub written : List ℕ
  pub sink : ℕ

-- where devices stand, by what they tell
abbrev pub stands : {D B W : Type 0} → (D → Story) → (D → ℕ) → (B → Gives) → (B → Workplace) → (B → ℕ) → (W → List ℕ) → (W → ℕ) → ℕ → D → List B → W → Standing
stands story disk_faults gives place bench_faults written sink_faults layers disk benches sink = record {
  layers = layers;
  story = story disk;
  disk = disk_faults disk;
  gives = map gives benches;
  runs = map (λ b. (place b).runs) benches;
  benches = map bench_faults benches;
  written = written sink;
  sink = sink_faults sink;
}

-- how a part that was reached ended: its plan and its tale, as far as there are such, and its status
pub record PartEnd : Type 0 where
  pub part : ConfigTargets
  pub plans : List Plan
  pub tales : List (List Logged)
  pub status : Status

-- the part has a plan, and the clean build of each of its tasks succeeds
pub record HasPartBuild (files : Files) (paths : List (List ℕ)) (part : ConfigTargets) (force : Bool) (gives : Gives) : Type 0 where
  pub plan : Plan
  pub planned : HasPartPlan files paths part force plan
  pub clean : AllClean gives plan

-- why a part isn't run: memory ran out, the layers failed, or it has no plan
abbrev pub IsPartUnrun : Files → List (List ℕ) → ConfigTargets → Bool → Status → Type 0
IsPartUnrun files paths part force s = (s ≡ status.OutOfMemory) ⊎ ((s ≡ status.ReadFault) ⊎ IsPartRefused files paths part force s)

-- The text of a part was written behind the base: the line of its configuration, and behind that what a call writes of its plan, tale and status; or where
-- the sink failed at that line a front of it.
abbrev pub WritesPart : Type 0 → List ℕ → List ℕ → List ℕ → List Plan → List (List Logged) → Status → Type 0
WritesPart failed line base now plans tales s =
    WritesCall failed (base ++ line) now plans tales s ⊎ (failed × (plans ≡ []) × (tales ≡ []) × (s ≡ status.WriteFault) × WritesFront base now line)

-- no count of the benches fell, and scripts give what they gave
pub record StayBenches (before now : Standing) : Type 0 where
  pub gives : now.gives ≡ before.gives
  pub long : length now.benches ≡ length before.benches
  pub later : (k m n : ℕ) → slice_get before.benches k ≡ Some m → slice_get now.benches k ≡ Some n → m ≤ n

-- What is promised of a part, from where the devices stood as it was reached to where they stand as it ended. The first four say which devices tell what
-- they do.
module _ (layers disk bench sink : Type 0) (files : Files) (request : RunRequest) where
  -- what is kept of the story of the part's folder: the headline, and what a collision or an unsteady output tells of two that differ
  pub record KeepsFolder (plan : Plan) (tales : List (List Logged)) (s : Status) (held : Store) (before now : Standing) (sub : Story) : Type 0 where
    pub keeps : bench → (gives : Gives) → All (λ g. g ≡ gives) before.gives → (reading : Reading) (book : Book) → MayBegin gives reading book held plan
        → Keeps gives reading book held plan request.options tales s sub before.runs now.runs
    pub differs : TellsDifference disk plan sub s

  pub record IsPart (one : PartEnd) (before now : Standing) : Type 0 where
    -- the plan that is handed back is that of the part, and each answer but a refusal and a failed line hands one back
    pub plans : layers → (paths : List (List ℕ)) → IsListing [] files paths → All (HasPartPlan files paths one.part request.force) one.plans
    pub found : is_refusal one.status ≡ false → ((plan : Plan) × (one.plans ≡ plan ∷ [])) ⊎ ((one.status ≡ status.WriteFault) × (one.tales ≡ []))
    -- the status fits the tale
    pub concludes : Concludes request.options one.plans one.tales one.status
    pub begun : one.tales ≢ [] → is_run_status one.status ≡ true
    -- why a part isn't begun
    pub unrun : one.tales ≡ [] → one.status ≢ status.WriteFault → layers → (paths : List (List ℕ)) → IsListing [] files paths → IsPartUnrun files paths one.part request.force one.status
    -- without a tale neither the disk nor a bench was touched; else the run was in the folder of the configuration
    pub same_disk : one.tales ≡ [] → (now.story ≡ before.story) × (now.disk ≡ before.disk)
    pub same_benches : one.tales ≡ [] → (now.runs ≡ before.runs) × (now.benches ≡ before.benches)
    pub folder : disk → (plan : Plan) (tale : List Logged) → one.plans ≡ plan ∷ [] → one.tales ≡ tale ∷ []
        → DidFolder one.part.mc tale one.status before.story now.story (KeepsFolder plan one.tales one.status (below (store_prefix one.part.mc) before.story.held) before now)
    -- Ok exactly where the part has a plan and the clean build of all its tasks succeeds, where no device failed, memory wasn't wanting and no two
    -- signatures have one digest
    pub exactly : layers → disk → bench → (paths : List (List ℕ)) → IsListing [] files paths → (gives : Gives) → All (λ g. g ≡ gives) before.gives → (reading : Reading) (book : Book)
        → ((plan : Plan) → HasPartPlan files paths one.part request.force plan → MayBegin gives reading book (below (store_prefix one.part.mc) before.story.held) plan)
        → IsUnchanged before.layers now.layers → IsUnchanged before.disk now.disk → AreUnchanged before.benches now.benches → IsUnchanged before.sink now.sink → IsCertain one.status
        → ((one.status ≡ status.Ok) ↔ HasPartBuild files paths one.part request.force gives)
    -- what was written is the line of the configuration, and then the report of the plan, the tale and the status; and no script ran before the line of its
    -- start was printed
    pub text : sink → WritesPart (Rose before.sink now.sink) (config_line one.part.mc) before.written now.written one.plans one.tales one.status
    pub printed : sink → bench → RanPrintedCall one.plans one.tales before.runs now.runs (before.written ++ config_line one.part.mc) now.written
    -- each entry is of a seat that has a bench, and each fault has its cause
    pub benches : All (HaveBenches (length before.benches)) one.tales
    pub broke : All (λ tale. AtSeats (BreaksByFault tale) before.benches now.benches) one.tales
    pub causes : HasCause (Rose before.layers now.layers) now.disk (SomeRose before.benches now.benches) (Rose before.sink now.sink) one.status
    pub disk_cause : one.status ≡ status.DiskFault → Rose before.disk now.disk
    -- no count fell, and scripts give what they gave
    pub later : (before.layers ≤ now.layers) × (before.disk ≤ now.disk) × (before.sink ≤ now.sink)
    pub stay : StayBenches before now

  -- ---- all parts

  -- parts one after another, each from where the devices stood behind the one before
  abbrev pub AreParts : List PartEnd → Standing → Standing → Type 0
  AreParts [] before now = now ≡ before
  AreParts (one ∷ more) before now = (mid : Standing) × IsPart one before mid × AreParts more mid now

-- The parts that were reached: the first ones in their order, up to the first behind which the run doesn't go on.
abbrev pub AreReached : Bool → List ConfigTargets → List PartEnd → Type 0
AreReached keep_going parts [] = parts ≡ []
AreReached keep_going [] (one ∷ more) = ⊥
AreReached keep_going (part ∷ parts) (one ∷ more) = (one.part ≡ part) × OnTrue (goes_on keep_going one.status) (AreReached keep_going parts more) × OnFalse (goes_on keep_going one.status) (more ≡ [])

-- the plans, the tales and the status of the parts that were reached are those of the run
pub record AreEnds (keep_going : Bool) (parts : List ConfigTargets) (ends : List PartEnd) (plans : List Plan) (tales : List (List Logged)) (s : Status) : Type 0 where
  pub reached : AreReached keep_going parts ends
  pub plans_are : plans ≡ flat_map (λ e. e.plans) ends
  pub tales_are : tales ≡ flat_map (λ e. e.tales) ends
  pub status_is : s ≡ status_of keep_going (map (λ e. e.status) ends)

-- The words have no parts, for which the run is refused: nothing is handed back, and no device but the layers and the sink was used. It may be refused
-- besides since the layers failed or memory was wanting.
pub record IsUnsplit (layers sink : Type 0) (files : Files) (request : RunRequest) (before now : Standing) (plans : List Plan) (tales : List (List Logged)) (s : Status) : Type 0 where
  pub no_plans : plans ≡ []
  pub no_tales : tales ≡ []
  pub refusal : is_refusal s ≡ true
  pub told : layers → (paths : List (List ℕ)) → IsListing [] files paths → (s ≡ status.ReadFault) ⊎ IsRefusal (parts_asked (sources_of files) paths request.targets request.task) s
  pub cause : s ≡ status.ReadFault → Rose before.layers now.layers
  pub said : sink → Says (fault_text s) before.written now.written before.sink now.sink

-- *A run of several configurations*: its words have no parts, or the parts that it reached are those of its words, one after another.
pub data RanConfigs (layers disk bench sink : Type 0) (files : Files) (request : RunRequest) (before now : Standing) (plans : List Plan) (tales : List (List Logged)) (s : Status) : Type 0 where
  unsplit : IsUnsplit layers sink files request before now plans tales s → RanConfigs layers disk bench sink files request before now plans tales s
  ran : (parts : List ConfigTargets) (ends : List PartEnd) → (layers → (paths : List (List ℕ)) → IsListing [] files paths → parts_asked (sources_of files) paths request.targets request.task ≡ Ok parts)
      → AreEnds request.options.keep_going parts ends plans tales s → AreParts layers disk bench sink files request ends before now → RanConfigs layers disk bench sink files request before now plans tales s
