-- Short words for worked rows of layouts and builds.
use Rattle.std.specs.Prelude.{ℕ, false, List, [], ◌∷◌, codes, Result, Ok, Err, if◌then◌else◌}
use Rattle.std.specs.Str.{bytes_eq}
use Rattle.tree_model.specs.declared.entry.Entry.{Entry}
use Rattle.tree_model.specs.declared.entry.Entry.TheVariants.{File}
use Rattle.meta_model.specs.declared.plan.PlanTask.{PlanTask}
use Rattle.meta_model.specs.Layout.{Needed}
use Rattle.meta_model.specs.CleanBuild.{Built, Entries, Gives, Lack}

-- a path with a file that holds the text
abbrev pub file : List ℕ → List ℕ → List ℕ × Entry
file path text = (path, File false text)

-- a needed task with its output
abbrev pub gave : List ℕ → List ℕ → ℕ → Entries → Needed
gave pn task depth output = record { pn = pn; task = task; depth = depth; output = output }

-- a task of a plan that has no files and is no shared state object
abbrev pub planned : List ℕ → List ℕ → List ℕ → ℕ → List ℕ → PlanTask
planned pn task deps depth script = record {
  id = record { mc = []; pn = pn; task = task };
  deps = deps;
  depth = depth;
  key = record { lines = []; excluded = false };
  files = [];
  script = script;
  nostamp = false;
  sstate = false;
  places = [];
}

-- what the clean build has of each task
abbrev pub outcomes : List Built → List (Result Entries Lack)
outcomes [] = []
outcomes (built ∷ more) = built.outcome ∷ outcomes more

-- Scripts for worked rows: `gen` writes a file `n`, `fail` ends with 3, and every other gives its whole layout.
abbrev pub shell : Gives
shell script layout =
    if bytes_eq script (codes "gen") then Ok (file (codes "n") (codes "1") ∷ [])
    else if bytes_eq script (codes "fail") then Err 3
    else Ok layout
