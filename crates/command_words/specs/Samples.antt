-- Short words for worked command lines.
use Rattle.std.specs.Prelude.{false, true, List, Option, None, option_map}
use Rattle.clap.specs.Walk.{Text}
use Rattle.answer_model.specs.declared.request.Mode.{Mode}
use Rattle.answer_model.specs.declared.request.Request.{Request}
use Rattle.answer_model.specs.RequestModes.{mode_of}
use Rattle.answer_model.specs.Reading.{request_of}

-- a run of these targets, with no option
abbrev pub run_of : List Text → Request
run_of targets = record {
  targets = targets;
  task = None;
  force = false;
  keep_going = false;
  dry = false;
  env = false;
  show = false;
  parse_only = false;
  setscene = true;
  sample = None;
}

-- the mode that counts in what the words ask for
abbrev pub mode_asked : List Text → Option Mode
mode_asked words = option_map mode_of (request_of words)
