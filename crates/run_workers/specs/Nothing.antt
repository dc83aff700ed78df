-- How no run began: place holders.
use Rattle.std.specs.Prelude.{false, None, [], Ok}
use Rattle.meta_model.specs.CleanBuild.{Gives}
use Rattle.run_queue.specs.Seen.{Seen}

abbrev pub nothing_given : Gives
nothing_given script tree = Ok []

abbrev pub nothing_seen : Seen
nothing_seen = record {
  plan = record { threads = 1; targets = []; tasks = [] };
  options = record { keep_going = false; setscene = false };
  rows = [];
  kept = [];
  opened = [];
  sink_failed = false;
  fault = None;
  tale = [];
  begun = [];
  restoring = [];
  known = None;
  story = record { held = λ path. None; calls = [] };
  written = [];
}
