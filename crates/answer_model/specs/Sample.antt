-- What `--sample` prints. (Own rules.)
use Rattle.std.specs.Prelude.{ℕ, ◌*◌, List, ◌++◌, codes, ◌≡◌, ◌∷◌, [], true, Contains}
use Rattle.std.specs.Fmt.{decimal}
use Rattle.outside_traits.specs.Fault.{Rose}
use Rattle.meta_model.specs.declared.event.Logged.{Logged}
use Rattle.meta_model.specs.declared.event.Status.{Status}
use Rattle.meta_model.specs.declared.event.Status.TheVariants as status
use Rattle.meta_model.specs.declared.plan.Plan.{Plan}
use Rattle.run_model.specs.Report.{count_events, is_found, is_started, failed_line, has_failure}
use Rattle.run_model.specs.Texts.{fault_text}
use Rattle.run_model.specs.Written.{WritesFront}
use Rattle.answer_model.specs.Answers.{Says}

-- how many recipes and tasks there are
abbrev pub size_text : ℕ → List ℕ
size_text size = codes "sample " ++ (decimal size ++ (codes ": " ++ (decimal size ++ (codes " recipes, " ++ (decimal (2 * size) ++ codes " tasks; ")))))

-- how many events of which kind two tales have
abbrev pub runs_text : List Logged → List Logged → List ℕ
runs_text first second = codes "first run " ++ (decimal (count_events is_started first) ++ (codes " started; second run " ++ (decimal (count_events is_found second) ++ (codes " found, " ++ (decimal (count_events is_started second) ++ codes " started\n")))))

-- What is printed of two runs over the sample.
abbrev pub sample_text : ℕ → List Logged → List Logged → List ℕ
sample_text size first second = size_text size ++ runs_text first second

-- The one line that is printed: of the two tales where both runs were well; else the last line of the run that wasn't.
abbrev pub IsLine : ℕ → List Plan → List (List Logged) → Status → List ℕ → Type 0
IsLine size plans tales status.Ok text = (first : List Logged) × (second : List Logged) × (tales ≡ first ∷ second ∷ []) × (text ≡ sample_text size first second)
IsLine size plans tales status.TaskFailed text = (plan : Plan) × Contains plans plan × (tale : List Logged) × Contains tales tale × (has_failure tale ≡ true) × (text ≡ failed_line plan.tasks tale)
IsLine size plans tales s text = text ≡ fault_text s

-- That line was written behind the base, or where the sink failed, a front of one of some status. The numbers are the counts of the sink's
-- faults, before and after.
abbrev pub SaysSample : ℕ → List Plan → List (List Logged) → Status → List ℕ → List ℕ → ℕ → ℕ → Type 0
SaysSample size plans tales status.Ok base now before after = (text : List ℕ) × IsLine size plans tales status.Ok text × (now ≡ base ++ text)
SaysSample size plans tales status.WriteFault base now before after = Rose before after × (met : Status) × (text : List ℕ) × IsLine size plans tales met text × WritesFront base now text
SaysSample size plans tales s base now before after = (text : List ℕ) × IsLine size plans tales s text × Says text base now before after
