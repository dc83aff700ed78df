-- What `-n` and `-e` show of several configurations (BitBake User Manual, "The BitBake Command"; the texts and the order are own rules).
use Rattle.std.specs.Prelude.{◌≡◌, ◌≤◌, ◌⊎◌, ℕ, true, false, List, [], ◌∷◌, ◌++◌, map, Result, Ok, Err}
use Rattle.outside_traits.specs.Fault.{Rose}
use Rattle.outside_traits.specs.Store.{IsListing}
use Rattle.meta_model.specs.declared.event.Status.{Status}
use Rattle.meta_model.specs.declared.event.Status.TheVariants as status
use Rattle.meta_model.specs.declared.facts.Target.{Target}
use Rattle.meta_model.specs.declared.plan.Plan.{Plan}
use Rattle.load_model.specs.LoadRefusal.{◌>>=◌}
use Rattle.load_model.specs.Loading.{Sources, sources_of}
use Rattle.load_model.specs.Layers.{Config}
use Rattle.plan_model.specs.Inputs.{Files}
use Rattle.run_model.specs.Texts.{dry_text, fault_text}
use Rattle.run_model.specs.Written.{WritesFront}
use Rattle.answer_model.specs.Answers.{Says, is_read_status, is_refusal}
use Rattle.answer_model.specs.Modes.{targets_over}
use Rattle.answer_model.specs.declared.asked.RunRequest.{RunRequest}
use Rattle.answer_model.specs.declared.asked.ShowMode.{ShowMode}
use Rattle.answer_model.specs.declared.asked.ShowMode.TheVariants as show
use Rattle.multi_config.specs.declared.parts.ConfigTargets.{ConfigTargets}
use Rattle.multi_config.specs.Configs.{config_line}
use Rattle.multi_config.specs.Parts.{AreEnds, IsUnsplit, PartEnd, Standing}
use Rattle.multi_config.specs.Plans.{HasPartPlan, IsPartRefused}
use Rattle.multi_config.specs.Project.{parts_asked, read_named}

-- the values of the recipes of targets in a configuration, each behind its own line; their tasks aren't looked at
abbrev pub values_under : Sources → List Target → Config → Result (List ℕ) Status
values_under sources targets made = targets_over sources made (map (λ t. t.name) targets)

-- the values of the recipes of a part's targets, or the status that they are refused with
abbrev pub part_values : Sources → List (List ℕ) → ConfigTargets → Result (List ℕ) Status
part_values sources paths part = read_named sources paths part.mc >>= values_under sources part.targets

-- the text that is shown of a part: that of its plan, whatever is asked of the run besides, or its values
abbrev pub HasShown : ShowMode → Files → List (List ℕ) → ConfigTargets → List ℕ → Type 0
HasShown show.Plan files paths part text = (plan : Plan) × HasPartPlan files paths part false plan × (text ≡ dry_text plan)
HasShown show.Values files paths part text = part_values (sources_of files) paths part ≡ Ok text

-- the part has no such text, for which it is refused with this status
abbrev pub IsShownRefused : ShowMode → Files → List (List ℕ) → ConfigTargets → Status → Type 0
IsShownRefused show.Plan files paths part s = IsPartRefused files paths part false s
IsShownRefused show.Values files paths part s = part_values (sources_of files) paths part ≡ Err s

-- why a part isn't shown: memory ran out, the layers failed, or it has no text
abbrev pub IsUnshown : ShowMode → Files → List (List ℕ) → ConfigTargets → Status → Type 0
IsUnshown what files paths part s = (s ≡ status.OutOfMemory) ⊎ ((s ≡ status.ReadFault) ⊎ IsShownRefused what files paths part s)

-- where devices stand once the layers' count, what was written and the sink's count are these
abbrev pub stands_at : ℕ → List ℕ → ℕ → Standing → Standing
stands_at layers written sink at = record at { layers = layers; written = written; sink = sink }

-- What is promised of a part that is shown, from where the devices stood as it was reached to where they stand behind it. The first two say which devices
-- tell what they do.
module _ (layers sink : Type 0) (what : ShowMode) (files : Files) where
  pub record IsShown (one : PartEnd) (before now : Standing) : Type 0 where
    -- nothing is run, and nothing but the layers and the sink is used
    pub no_plans : one.plans ≡ []
    pub no_tales : one.tales ≡ []
    pub same : now ≡ stands_at now.layers now.written now.sink before
    pub reading : is_read_status one.status ≡ true
    -- under Ok the line of the configuration was written, and the part's text
    pub shown : one.status ≡ status.Ok → layers → (paths : List (List ℕ)) → IsListing [] files paths
        → (text : List ℕ) × HasShown what files paths one.part text × (sink → now.written ≡ before.written ++ (config_line one.part.mc ++ text))
    -- where the sink failed, a front of these was
    pub front : one.status ≡ status.WriteFault → layers → (paths : List (List ℕ)) → IsListing [] files paths
        → (sink → WritesFront before.written now.written (config_line one.part.mc))
        ⊎ ((text : List ℕ) × HasShown what files paths one.part text × (sink → WritesFront before.written now.written (config_line one.part.mc ++ text)))
    -- a refusal is that of the part, and its line is written behind that of the configuration
    pub refused : is_refusal one.status ≡ true → layers → (paths : List (List ℕ)) → IsListing [] files paths → IsUnshown what files paths one.part one.status
    pub said : is_refusal one.status ≡ true → sink → Says (fault_text one.status) (before.written ++ config_line one.part.mc) now.written before.sink now.sink
    -- each fault has its cause, and no count fell
    pub read_cause : one.status ≡ status.ReadFault → Rose before.layers now.layers
    pub write_cause : one.status ≡ status.WriteFault → Rose before.sink now.sink
    pub later : (before.layers ≤ now.layers) × (before.sink ≤ now.sink)

  -- parts one after another, each from where the devices stood behind the one before
  abbrev pub AreShown : List PartEnd → Standing → Standing → Type 0
  AreShown [] before now = now ≡ before
  AreShown (one ∷ more) before now = (mid : Standing) × IsShown one before mid × AreShown more mid now

-- *What is shown of several configurations*: the words have no parts, or the parts that were reached are those of the words, one after another, up to the
-- first that isn't Ok.
pub data ShowsConfigs (layers sink : Type 0) (what : ShowMode) (files : Files) (request : RunRequest) (before now : Standing) (s : Status) : Type 0 where
  unsplit : IsUnsplit layers sink files request before now [] [] s → ShowsConfigs layers sink what files request before now s
  shown : (parts : List ConfigTargets) (ends : List PartEnd) → (layers → (paths : List (List ℕ)) → IsListing [] files paths → parts_asked (sources_of files) paths request.targets request.task ≡ Ok parts)
      → AreEnds false parts ends [] [] s → AreShown layers sink what files ends before now → ShowsConfigs layers sink what files request before now s
