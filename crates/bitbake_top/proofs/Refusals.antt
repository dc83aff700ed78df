-- No refusal of a run says that it isn't built so far.
use Rattle.std.proofs.Common.{◌≡◌, sym, subst, refl, ℕ, Bool, true, false, List, [], ◌∷◌, Result, Ok, Err}
use Rattle.std.specs.Prelude.{Option, Some, None, IfErr, bytes_eq, codes, if◌then◌else◌}
use Rattle.std.proofs.lemmas.Bool.{false≢true}
use Rattle.meta_model.specs.declared.line.SyntaxFault.{SyntaxFault}
use Rattle.meta_model.specs.declared.line.SyntaxFault.TheVariants as wrong
use Rattle.meta_model.specs.declared.entry.EntryLine.{EntryLine}
use Rattle.meta_model.specs.declared.event.Status.{Status}
use Rattle.meta_model.specs.declared.event.Status.TheVariants.{Metadata}
use Rattle.meta_model.specs.Refusal.{Refusal, value_cycle, too_deep, too_long, unstable}
use Rattle.meta_model.specs.GraphRefusal.{GraphRefusal, nothing_provides, several_provide, no_such_task}
use Rattle.meta_model.specs.Text.{begins_with}
use Rattle.meta_model.specs.Frozen.{frozen}
use Rattle.load_model.specs.LoadRefusal.{◌>>=◌, refused_as, LoadCause, missing_required, missing_class, include_depth, syntax, no_value, file_bytes}
use Rattle.load_model.specs.Loading.{Sources, sources_of}
use Rattle.load_model.specs.Layers.{Config, LayerRefusal, no_such_layer, bad_pattern, load as layer_load, no_list, config}
use Rattle.load_model.specs.Recipes.{SetRefusal, bad_name, dangling_append, load as set_load, too_many, no_value as set_value, text_of}
use Rattle.load_model.specs.Facts.{RecipeSet, recipe_set}
use Rattle.answer_model.specs.Said.{value_status, cause_status, layer_status, set_status, lack_status}
use Rattle.answer_model.specs.Project.{not_built, read_config, read_recipes}
use Rattle.answer_model.specs.Targets.{target_of}
use Rattle.answer_model.specs.GraphStatus.{IsGraphStatus, lacking, cycle, many}
use Rattle.answer_model.specs.RunAsked.{Asked, asked, asked_under, asked_over, asked_with, config_text, default_task, moved, target_in, targets_in, targets_of, threads_text}
use Rattle.answer_model.specs.Runs.{IsRunRefused, asking, graph as no_graph, value as no_text, threads as no_threads}
use Rattle.plan_model.specs.Inputs.{Files}
use Rattle.plan_model.specs.PlanRefusal.{PlanRefusal, bad_flag, no_value as plan_no_value, missing_file, input_bytes, plan_bytes}
use Rattle.answer_model.specs.Plans.{IsPlanRefused}
use Rattle.answer_model.specs.Plans.IsPlanRefused.{no_plan, no_run}
use Rattle.answer_model.specs.PlanStatus.{plan_status}

-- whether a status says that something isn't built
abbrev says_unbuilt : Status → Bool
says_unbuilt (Metadata file line kind detail) = bytes_eq kind (codes "NotBuilt")
says_unbuilt _ = false

abbrev IsOther : Status → Type 0
IsOther s = says_unbuilt s ≡ false

differs : (s : Status) → IsOther s → s ≡ not_built → ⊥
differs s other e = let h : true ≡ false = subst IsOther e other in false≢true (sym h)

value_other : (file : List ℕ) (line : ℕ) (r : Refusal) → IsOther (value_status file line r)
value_other file line (value_cycle name) = refl
value_other file line (too_deep name) = refl
value_other file line (too_long name) = refl
value_other file line (unstable before last) = refl

syntax_other : (file : List ℕ) (line : ℕ) (fault : SyntaxFault) → IsOther (cause_status file line (syntax fault))
syntax_other file line wrong.NotUtf8 = refl
syntax_other file line wrong.DanglingJoin = refl
syntax_other file line wrong.CommentInJoin = refl
syntax_other file line wrong.Python = refl
syntax_other file line wrong.Fakeroot = refl
syntax_other file line wrong.OneInnerQuote = refl
syntax_other file line wrong.ReservedName = refl
syntax_other file line wrong.BadLine = refl
syntax_other file line wrong.OpenFunction = refl

cause_other : (file : List ℕ) (line : ℕ) (cause : LoadCause) → IsOther (cause_status file line cause)
cause_other file line (missing_required path) = refl
cause_other file line (missing_class name) = refl
cause_other file line include_depth = refl
cause_other file line (syntax fault) = syntax_other file line fault
cause_other file line (no_value refusal) = value_other file line refusal
cause_other file line file_bytes = refl

layer_other : (r : LayerRefusal) → IsOther (layer_status r)
layer_other (no_such_layer path) = refl
layer_other (bad_pattern word) = refl
layer_other (layer_load refusal) = cause_other refusal.file refusal.line refusal.cause
layer_other (no_list refusal) = value_other [] 0 refusal

set_other : (r : SetRefusal) → IsOther (set_status r)
set_other (bad_name file) = refl
set_other (dangling_append file) = refl
set_other (set_load refusal) = cause_other refusal.file refusal.line refusal.cause
set_other too_many = refl
set_other (set_value file refusal) = value_other file 0 refusal

lack_other : (r : GraphRefusal) → IsOther (lack_status r)
lack_other (nothing_provides name) = refl
lack_other (several_provide name pns) = refl
lack_other (no_such_task pn task) = refl

-- the refusals of steps
as_other : {A E : Type 0} (say : E → Status) (r : Result A E) → ((e : E) → IsOther (say e)) → IfErr (refused_as say r) IsOther
as_other say (Ok a) each = tt
as_other say (Err e) each = each e

then_other : {A B : Type 0} (r : Result A Status) (f : A → Result B Status) → IfErr r IsOther → ((a : A) → IfErr (f a) IsOther) → IfErr (r >>= f) IsOther
then_other (Ok a) f first next = next a
then_other (Err s) f first next = first

text_other : (lines : List EntryLine) (name : List ℕ) → IfErr (config_text lines name) IsOther
text_other lines name = as_other (value_status [] 0) (text_of lines name) (value_other [] 0)

default_other : (lines : List EntryLine) (task : Option (List ℕ)) → IfErr (default_task lines task) IsOther
default_other lines (Some task) = tt
default_other lines None = text_other lines (codes "BB_DEFAULT_TASK")

target_other : (default word : List ℕ) → IfErr (target_in default word) IsOther
target_other default word = choice (begins_with (codes "mc:") word)
  where
    choice : (b : Bool) → IfErr (if b then Err (lack_status (nothing_provides word)) else Ok (target_of default word)) IsOther
    choice true = lack_other (nothing_provides word)
    choice false = tt

targets_other : (default : List ℕ) (words : List (List ℕ)) → IfErr (targets_of default words) IsOther
targets_other default [] = tt
targets_other default (word ∷ words) =
    then_other (target_in default word) (λ target. targets_of default words >>= λ others. Ok (target ∷ others)) (target_other default word)
    (λ target. then_other (targets_of default words) (λ others. Ok (target ∷ others)) (targets_other default words) (λ others. tt))

in_other : (lines : List EntryLine) (words : List (List ℕ)) (task : Option (List ℕ)) → IfErr (targets_in lines words task) IsOther
in_other lines words task = then_other (default_task lines task) (λ default. targets_of default words) (default_other lines task) (λ default. targets_other default words)

with_other : (set : RecipeSet) (appends : List (List ℕ)) (lines : List EntryLine) (words : List (List ℕ)) (task : Option (List ℕ)) → IfErr (asked_with set appends lines words task) IsOther
with_other set appends lines words task =
    then_other (targets_in lines words task) (λ targets. Ok (record { set = set; lines = lines; appends = appends; targets = targets })) (in_other lines words task) (λ targets. tt)

over_other : (made : Config) (set : RecipeSet) (words : List (List ℕ)) (task : Option (List ℕ)) → IfErr (asked_over made set words task) IsOther
over_other made set words task =
    then_other (moved made.lines) (λ lines. asked_with set made.appends lines words task) (as_other (value_status [] 0) (frozen made.lines) (value_other [] 0))
    (λ lines. with_other set made.appends lines words task)

under_other : (sources : Sources) (made : Config) (words : List (List ℕ)) (task : Option (List ℕ)) → IfErr (asked_under sources made words task) IsOther
under_other sources made words task =
    then_other (read_recipes sources made) (λ set. asked_over made set words task) (as_other set_status (recipe_set sources made.lines made.recipes made.appends) set_other)
    (λ set. over_other made set words task)

asked_other : (sources : Sources) (paths words : List (List ℕ)) (task : Option (List ℕ)) → IfErr (asked sources paths words task) IsOther
asked_other sources paths words task =
    then_other (read_config sources paths) (λ made. asked_under sources made words task) (as_other layer_status (config sources paths) layer_other)
    (λ made. under_other sources made words task)

-- the status of such a refusal is another one
other_by : {A : Type 0} (r : Result A Status) (s : Status) → IfErr r IsOther → r ≡ Err s → IsOther s
other_by r s other e = subst (λ (x : Result _ Status). IfErr x IsOther) e other

graph_other : (what : Asked) (s : Status) → IsGraphStatus what.set.facts what.targets s → IsOther s
graph_other what s (lacking refusal is told) = subst IsOther (sym told) (lack_other refusal)
graph_other what s (cycle ids is told) = subst IsOther (sym told) refl
graph_other what s (many more told) = subst IsOther (sym told) refl

refused_other : (sources : Sources) (paths words : List (List ℕ)) (task : Option (List ℕ)) (s : Status) → IsRunRefused sources paths words task s → IsOther s
refused_other sources paths words task s (asking is) = other_by (asked sources paths words task) s (asked_other sources paths words task) is
refused_other sources paths words task s (no_graph what is refused) = graph_other what s refused
refused_other sources paths words task s (no_text what graph is has refused) = other_by (threads_text what) s (text_other what.lines (codes "BB_NUMBER_THREADS")) refused
refused_other sources paths words task s (no_threads what graph text is has has_text none told) = subst IsOther (sym told) refl

pub refused_is_built : (sources : Sources) (paths words : List (List ℕ)) (task : Option (List ℕ)) (s : Status) → IsRunRefused sources paths words task s → s ≡ not_built → ⊥
refused_is_built sources paths words task s refused = differs s (refused_other sources paths words task s refused)

plan_other : (r : PlanRefusal) → IsOther (plan_status r)
plan_other (bad_flag file flag word) = refl
plan_other (plan_no_value file refusal) = value_other file 0 refusal
plan_other (missing_file file word) = refl
plan_other (input_bytes path) = refl
plan_other plan_bytes = refl

-- neither does a refusal of a plan
pub plan_refused_is_built : (files : Files) (paths words : List (List ℕ)) (task : Option (List ℕ)) (force : Bool) (s : Status) → IsPlanRefused files paths words task force s → s ≡ not_built → ⊥
plan_refused_is_built files paths words task force s (no_run refused) = refused_is_built (sources_of files) paths words task s refused
plan_refused_is_built files paths words task force s (no_plan refusal has is) = differs s (subst IsOther (sym is) (plan_other refusal))
