-- The texts of runs: the lines of events, and the last line; the report of a whole run.
use Rattle.std.specs.Prelude.{ℕ, ◌==◌, ◌+◌, Bool, true, false, List, [], ◌∷◌, ◌++◌, codes, flat_map, slice_get, count_by, if◌then◌else◌}
use Rattle.std.specs.List.{list_any}
use Rattle.std.specs.Option.{option_map_or}
use Rattle.std.specs.Fmt.{decimal}
use Rattle.meta_model.specs.declared.event.Cut.{Cut}
use Rattle.meta_model.specs.declared.event.Cut.TheVariants as cut
use Rattle.meta_model.specs.declared.event.Why.{Why}
use Rattle.meta_model.specs.declared.event.Why.TheVariants as why
use Rattle.meta_model.specs.declared.event.Event.{Event}
use Rattle.meta_model.specs.declared.event.Event.TheVariants.{Found, Restored, Started, Ended, Failed, Broke}
use Rattle.meta_model.specs.declared.event.Logged.{Logged}
use Rattle.meta_model.specs.declared.event.Status.{Status}
use Rattle.meta_model.specs.declared.event.Status.TheVariants as status
use Rattle.meta_model.specs.declared.plan.Plan.{Plan}
use Rattle.meta_model.specs.declared.plan.PlanTask.{PlanTask}
use Rattle.run_model.specs.Texts.{fault_text, plan_text, task_label}

-- how the task of a number is written
abbrev pub label_at : List PlanTask → ℕ → List ℕ
label_at tasks n = option_map_or (λ task. task_label task.id) (slice_get tasks n) []

-- ---- events

-- a task's script ended with a status, or its layout or its output passed a limit
abbrev pub why_text : Why → List ℕ
why_text (why.Status code) = codes " status " ++ (decimal code ++ codes "\n")
why_text why.TooLarge = codes " too large\n"

-- why a task was broken off
abbrev pub cut_text : Cut → List ℕ
cut_text cut.Memory = codes " memory\n"
cut_text cut.Bench = codes " bench\n"
cut_text cut.Fault = codes " fault\n"

-- the line of an event of a task that is written so
abbrev pub line_of : List ℕ → Event → List ℕ
line_of label (Found n) = codes "found " ++ (label ++ codes "\n")
line_of label (Restored n) = codes "restored " ++ (label ++ codes "\n")
line_of label (Started n seat) = codes "started " ++ (label ++ codes "\n")
line_of label (Ended n) = codes "ended " ++ (label ++ codes "\n")
line_of label (Failed n why) = codes "failed " ++ (label ++ why_text why)
line_of label (Broke n cut) = codes "broke " ++ (label ++ cut_text cut)

-- the task of an event
abbrev pub task_of : Event → ℕ
task_of (Found n) = n
task_of (Restored n) = n
task_of (Started n seat) = n
task_of (Ended n) = n
task_of (Failed n why) = n
task_of (Broke n cut) = n

-- The line of an event (own rule).
abbrev pub event_line : List PlanTask → Event → List ℕ
event_line tasks event = line_of (label_at tasks (task_of event)) event

-- the line of each event of a tale, in order
abbrev pub tale_text : List PlanTask → List Logged → List ℕ
tale_text tasks tale = flat_map (λ l. event_line tasks l.event) tale

-- ---- the last line

abbrev pub is_found : Event → Bool
is_found (Found n) = true
is_found _ = false

abbrev pub is_restored : Event → Bool
is_restored (Restored n) = true
is_restored _ = false

abbrev pub is_started : Event → Bool
is_started (Started n seat) = true
is_started _ = false

-- the event is that a task failed
abbrev pub is_failure : Event → Bool
is_failure (Failed n why) = true
is_failure _ = false

-- the event is that this task failed
abbrev pub fails : ℕ → Event → Bool
fails n (Failed failed why) = failed == n
fails n _ = false

-- how many events of a tale pass a test
abbrev pub count_events : (Event → Bool) → List Logged → ℕ
count_events test tale = count_by (λ l. test l.event) tale

-- a task failed in a tale
abbrev pub has_failure : List Logged → Bool
has_failure tale = list_any (λ l. is_failure l.event) tale

-- this task failed in a tale
abbrev pub has_failed : List Logged → ℕ → Bool
has_failed tale n = list_any (λ l. fails n l.event) tale

-- the failed ones of the tasks from this number on, in their order
abbrev pub failed_from : List Logged → ℕ → List PlanTask → List (List ℕ)
failed_from tale n [] = []
failed_from tale n (task ∷ tasks) = if has_failed tale n then task_label task.id ∷ failed_from tale (n + 1) tasks else failed_from tale (n + 1) tasks

-- texts, each but the first behind a comma and a blank
abbrev pub comma_joined : List (List ℕ) → List ℕ
comma_joined [] = []
comma_joined (text ∷ more) = text ++ flat_map (λ t. codes ", " ++ t) more

-- the last line of a run in which no task failed: how many events of three kinds there are
abbrev pub ok_line : List Logged → List ℕ
ok_line tale =
    codes "ok " ++ (decimal (count_events is_found tale) ++ (codes " found, " ++ (decimal (count_events is_restored tale) ++ (codes " restored, " ++ (decimal (count_events is_started tale) ++ codes " started\n")))))

-- the last line of a run in which tasks failed: these, in the order of the plan
abbrev pub failed_line : List PlanTask → List Logged → List ℕ
failed_line tasks tale = codes "fault 1 failed: " ++ (comma_joined (failed_from tale 0 tasks) ++ codes "\n")

-- The last line of a run, by its status.
abbrev pub last_line : Plan → List Logged → Status → List ℕ
last_line plan tale status.Ok = ok_line tale
last_line plan tale status.TaskFailed = failed_line plan.tasks tale
last_line plan tale s = fault_text s

-- What a run writes behind the text of its plan: the line of each event, and the last line.
abbrev pub run_text : Plan → List Logged → Status → List ℕ
run_text plan tale s = tale_text plan.tasks tale ++ last_line plan tale s

-- The report of a run: the text of its plan, the line of each event of its tale, and the last line of its status (own rule).
abbrev pub report : Plan → List Logged → Status → List ℕ
report plan tale s = plan_text plan ++ run_text plan tale s
