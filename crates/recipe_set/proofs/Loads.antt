-- What is read for a recipe, one part after another.
use Rattle.std.proofs.Common.{◌≡◌, sym, ◌∙◌, ap, subst, ℕ, ◌+◌, ◌<◌, List, ◌++◌, length, drop, get_or, Result, Ok, IfOk, append_assoc}
use Rattle.meta_model.specs.declared.line.Kind.TheVariants.{Recipe as RecipeFile}
use Rattle.meta_model.specs.declared.entry.EntryLine.{EntryLine}
use Rattle.load_model.specs.LoadRefusal.{LoadRefusal, ◌>>=◌}
use Rattle.load_model.specs.Loading.{Sources, Loaded, with_lines, entries}
use Rattle.load_model.specs.Layers.{starting_with}
use Rattle.load_model.specs.Recipes.{file_lines, appended}
use Rattle.class_inherit.specs.declared.fault.LoadFault.{LoadFault}
use Rattle.class_inherit.specs.Faults.{IsLoadFault}
use Rattle.class_inherit.proofs.Faulting.{fault_on, fault_same}
use Rattle.meta_model.proofs.Passing.{goes_on, next_of}

-- an answer that is the same
pub if_ok_same : {T E : Type 0} (r : Result T E) (a b : T) → a ≡ b → IfOk r (λ made. made ≡ a) → IfOk r (λ made. made ≡ b)
if_ok_same r a b e h = subst (λ x. IfOk r (λ made. made ≡ x)) e h

-- entries behind entries behind a store
pub start_same : (config names files : List EntryLine) → with_lines files (with_lines names (starting_with config)) ≡ starting_with (config ++ (names ++ files))
start_same config names files = ap starting_with (append_assoc config names files)

-- one append
abbrev pub one_append : Sources → List ℕ → Loaded → Result Loaded LoadRefusal
one_append sources append reading = entries sources RecipeFile append (with_lines (file_lines append) reading)

pub appends_go_on : (sources : Sources) (appends : List (List ℕ)) (i : ℕ) (append : List ℕ) (reading next : Loaded) (whole : Result Loaded LoadRefusal) → append ≡ get_or appends i append → i < length appends → appended sources (drop i appends) reading ≡ whole → one_append sources append reading ≡ Ok next
    → appended sources (drop (i + 1) appends) next ≡ whole
appends_go_on sources appends i append reading next whole is lt w e =
    sym (goes_on (one_append sources append reading) next (appended sources (drop (i + 1) appends)) e) ∙ sym (next_of (λ l. appended sources l reading) appends i append is lt) ∙ w

pub appends_fault : (sources : Sources) (appends : List (List ℕ)) (i : ℕ) (append : List ℕ) (reading : Loaded) (whole : Result Loaded LoadRefusal) (fault : LoadFault) → append ≡ get_or appends i append → i < length appends → appended sources (drop i appends) reading ≡ whole → IsLoadFault fault (one_append sources append reading)
    → IsLoadFault fault whole
appends_fault sources appends i append reading whole fault is lt w h =
    fault_same fault whole (one_append sources append reading >>= appended sources (drop (i + 1) appends)) (sym w ∙ next_of (λ l. appended sources l reading) appends i append is lt)
    (fault_on fault (one_append sources append reading) (appended sources (drop (i + 1) appends)) h)
