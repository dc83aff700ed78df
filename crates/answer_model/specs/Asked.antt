-- What the words behind the program's name ask for.
use Rattle.std.specs.Prelude.{◌≡◌, ℕ, List, Result, Ok, Err, if◌then◌else◌}
use Rattle.std.specs.List.{list_any}
use Rattle.std.specs.Option.{option_map_or}
use Rattle.meta_model.specs.declared.event.Status.{Status}
use Rattle.meta_model.specs.declared.event.Status.TheVariants as status
use Rattle.answer_model.specs.declared.request.Mode.{Mode}
use Rattle.answer_model.specs.declared.request.Mode.TheVariants as mode
use Rattle.answer_model.specs.declared.request.Request.{Request}
use Rattle.answer_model.specs.RequestModes.{mode_of}
use Rattle.answer_model.specs.Reading.{request_of}
use Rattle.answer_model.specs.declared.asked.ReadMode.{ReadMode}
use Rattle.answer_model.specs.declared.asked.ReadMode.TheVariants as read
use Rattle.answer_model.specs.declared.asked.Asked.{Asked}
use Rattle.answer_model.specs.declared.asked.Asked.TheVariants.{Runs, Configs, Reads, Plans, Shows, Sample}
use Rattle.answer_model.specs.declared.asked.DryRequest.{DryRequest}
use Rattle.answer_model.specs.declared.asked.RunRequest.{RunRequest}
use Rattle.answer_model.specs.declared.asked.ShowMode.{ShowMode}
use Rattle.answer_model.specs.declared.asked.ShowMode.TheVariants as show
use Rattle.answer_model.specs.Targets.{is_elsewhere}

-- What a run is asked for: its targets, and how it goes on.
abbrev pub run_of : Request → RunRequest
run_of request = record { targets = request.targets; task = request.task; force = request.force; options = record { keep_going = request.keep_going; setscene = request.setscene } }

-- What a dry run is asked for. It prints the plan, on which the options `-f`, `-k` and `--no-setscene` have no bearing (own rule).
abbrev pub dry_of : Request → DryRequest
dry_of request = record { targets = request.targets; task = request.task }

-- A run with a word that begins with `mc:` is one of several configurations (BitBake User Manual, "The BitBake Command", section "Executing a Multiple
-- Configuration Build").
abbrev pub run_asked : RunRequest → Asked
run_asked request = if list_any is_elsewhere request.targets then Configs request else Runs request

-- So are a dry run with such a word, and one of `-e`; `-s` and `-p` know the default configuration alone (own rule).
abbrev pub shown_or : ShowMode → Request → Asked → Asked
shown_or what request asked = if list_any is_elsewhere request.targets then Shows what (run_of request) else asked

-- What a mode asks for. A mode that only reads looks at the targets, and at no option; the sample looks at neither (own rule).
abbrev pub asked_in : Mode → Request → Result Asked Status
asked_in mode.Run request = Ok (run_asked (run_of request))
asked_in mode.Environment request = Ok (shown_or show.Values request (Reads read.Environment request.targets))
asked_in mode.Versions request = Ok (Reads read.Versions request.targets)
asked_in mode.Parse request = Ok (Reads read.Parse request.targets)
asked_in mode.Dry request = Ok (shown_or show.Plan request (Plans (dry_of request)))
asked_in (mode.Sample size) request = Ok (Sample size)

-- what a request asks for
abbrev pub asked_for : Request → Result Asked Status
asked_for request = asked_in (mode_of request) request

-- What the words ask for, or the status that they are refused with: words without a reading are `Usage` (BitBake User Manual,
-- "The BitBake Command"; the set of options is an own rule).
unfoldable pub asked_of : List (List ℕ) → Result Asked Status
asked_of words = option_map_or asked_for (request_of words) (Err status.Usage)

-- the words ask for this run of the default configuration
abbrev pub AskRun : List (List ℕ) → RunRequest → Type 0
AskRun words request = asked_of words ≡ Ok (Runs request)

-- the words ask for this run of several configurations
abbrev pub AskConfigs : List (List ℕ) → RunRequest → Type 0
AskConfigs words request = asked_of words ≡ Ok (Configs request)

-- the words ask for what is shown so of several configurations
abbrev pub AskShows : List (List ℕ) → ShowMode → RunRequest → Type 0
AskShows words what request = asked_of words ≡ Ok (Shows what request)

-- the words ask for what this mode prints of these targets
abbrev pub AskReading : List (List ℕ) → ReadMode → List (List ℕ) → Type 0
AskReading words mode targets = asked_of words ≡ Ok (Reads mode targets)

-- the words ask for this dry run
abbrev pub AskDry : List (List ℕ) → DryRequest → Type 0
AskDry words request = asked_of words ≡ Ok (Plans request)

-- the words ask for the sample of so many recipes
abbrev pub AskSample : List (List ℕ) → ℕ → Type 0
AskSample words size = asked_of words ≡ Ok (Sample size)

-- the words ask for no run, for nothing of several configurations, and not for the sample, which has two runs
pub record AskNoRun (words : List (List ℕ)) : Type 0 where
  pub no_run : (request : RunRequest) → AskRun words request → ⊥
  pub no_configs : (request : RunRequest) → AskConfigs words request → ⊥
  pub no_shows : (what : ShowMode) (request : RunRequest) → AskShows words what request → ⊥
  pub no_sample : (size : ℕ) → AskSample words size → ⊥
