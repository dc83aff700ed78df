-- The status that a refusal of metadata is answered as: the kind is the innermost cause's name, the detail its texts (own
-- rule).
use Rattle.std.specs.Prelude.{ℕ, List, [], ◌∷◌, ◌++◌, map, codes}
use Rattle.std.specs.List.{join_with_byte}
use Rattle.meta_model.specs.Text.{colon}
use Rattle.meta_model.specs.declared.line.SyntaxFault.{SyntaxFault}
use Rattle.meta_model.specs.declared.line.SyntaxFault.TheVariants as wrong
use Rattle.meta_model.specs.declared.event.Status.{Status}
use Rattle.meta_model.specs.declared.event.Status.TheVariants.{Metadata, Limit}
use Rattle.meta_model.specs.declared.facts.TaskId.{TaskId}
use Rattle.meta_model.specs.Refusal.{Refusal, value_cycle, too_deep, too_long, unstable}
use Rattle.meta_model.specs.GraphRefusal.{GraphRefusal, nothing_provides, several_provide, no_such_task}
use Rattle.load_model.specs.LoadRefusal.{LoadCause, missing_required, missing_class, include_depth, syntax, no_value, file_bytes, LoadRefusal}
use Rattle.load_model.specs.Layers.{LayerRefusal, no_such_layer, bad_pattern, load as layer_load, no_list}
use Rattle.load_model.specs.Recipes.{SetRefusal, bad_name, dangling_append, load as set_load, too_many, no_value as set_value}

-- a fault of the language, as it is printed
abbrev pub syntax_name : SyntaxFault → List ℕ
syntax_name wrong.NotUtf8 = codes "NotUtf8"
syntax_name wrong.DanglingJoin = codes "DanglingJoin"
syntax_name wrong.CommentInJoin = codes "CommentInJoin"
syntax_name wrong.Python = codes "Python"
syntax_name wrong.Fakeroot = codes "Fakeroot"
syntax_name wrong.OneInnerQuote = codes "OneInnerQuote"
syntax_name wrong.ReservedName = codes "ReservedName"
syntax_name wrong.BadLine = codes "BadLine"
syntax_name wrong.OpenFunction = codes "OpenFunction"

-- a value that is refused, at a place
abbrev pub value_status : List ℕ → ℕ → Refusal → Status
value_status file line (value_cycle name) = Metadata file line (codes "ValueCycle") (name ∷ [])
value_status file line (too_deep name) = Metadata file line (codes "TooDeep") (name ∷ [])
value_status file line (too_long name) = Metadata file line (codes "TooLong") (name ∷ [])
value_status file line (unstable before last) = Metadata file line (codes "Unstable") (join_with_byte colon before ∷ join_with_byte colon last ∷ [])

-- a cause for which files can't be loaded, at a place
abbrev pub cause_status : List ℕ → ℕ → LoadCause → Status
cause_status file line (missing_required path) = Metadata file line (codes "MissingRequired") (path ∷ [])
cause_status file line (missing_class name) = Metadata file line (codes "MissingClass") (name ∷ [])
cause_status file line include_depth = Metadata file line (codes "IncludeDepth") []
cause_status file line (syntax fault) = Metadata file line (syntax_name fault) []
cause_status file line (no_value refusal) = value_status file line refusal
cause_status file line file_bytes = Limit (codes "FileBytes")

abbrev pub load_status : LoadRefusal → Status
load_status refusal = cause_status refusal.file refusal.line refusal.cause

-- why there is no configuration
abbrev pub layer_status : LayerRefusal → Status
layer_status (no_such_layer path) = Metadata [] 0 (codes "NoSuchLayer") (path ∷ [])
layer_status (bad_pattern word) = Metadata [] 0 (codes "BadPattern") (word ∷ [])
layer_status (layer_load refusal) = load_status refusal
layer_status (no_list refusal) = value_status [] 0 refusal

-- why recipes can't be read
abbrev pub set_status : SetRefusal → Status
set_status (bad_name file) = Metadata file 0 (codes "BadName") []
set_status (dangling_append file) = Metadata file 0 (codes "DanglingAppend") []
set_status (set_load refusal) = load_status refusal
set_status too_many = Limit (codes "Recipes")
set_status (set_value file refusal) = value_status file 0 refusal

-- Why names and tasks lack what they ask for, why there is no graph of tasks, and why there is no number of threads. None of these
-- has a place, and a task is written PN:TASK (own rules).

-- how a task is written
abbrev pub task_text : List ℕ → List ℕ → List ℕ
task_text pn task = pn ++ colon ∷ task

abbrev pub id_text : TaskId → List ℕ
id_text id = task_text id.pn id.task

-- what is asked for and nobody has
abbrev pub lack_status : GraphRefusal → Status
lack_status (nothing_provides name) = Metadata [] 0 (codes "NothingProvides") (name ∷ [])
lack_status (several_provide name pns) = Metadata [] 0 (codes "SeveralProvide") (name ∷ pns)
lack_status (no_such_task pn task) = Metadata [] 0 (codes "NoSuchTask") (task_text pn task ∷ [])

-- tasks that need each other
abbrev pub cycle_status : List TaskId → Status
cycle_status ids = Metadata [] 0 (codes "TaskCycle") (map id_text ids)

-- more tasks than a graph may have
abbrev pub too_many_status : Status
too_many_status = Limit (codes "Tasks")

-- a text that is no number of threads
abbrev pub threads_status : List ℕ → Status
threads_status text = Metadata [] 0 (codes "BadThreads") (text ∷ [])
