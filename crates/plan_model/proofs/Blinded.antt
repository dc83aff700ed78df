-- Plans of which nothing was left out are blind.
use Rattle.std.proofs.Common.{◌≡◌, ◌∙◌, ◌<◌, sym, ap, subst, ℕ, zero, List, [], ◌∷◌, Bool, false, Some, Result, Ok, Err, inl, inr, All, get_or, codes, slice_get}
use Rattle.std.specs.Prelude.{slice_index_or}
use Rattle.std.specs.Result.{result_ok}
use Rattle.std.proofs.lemmas.Option.{slice_get-get_or, slice_get_within, get_or_from_slice_get}
use Rattle.meta_model.specs.declared.entry.EntryLine.{EntryLine}
use Rattle.meta_model.specs.declared.facts.Node.{Node}
use Rattle.meta_model.specs.declared.value.Key.{Key}
use Rattle.meta_model.specs.declared.plan.PlanTask.{PlanTask}
use Rattle.meta_model.specs.CleanBuild.{Gives}
use Rattle.meta_model.specs.Refusal.{Refusal, too_deep}
use Rattle.meta_model.specs.Text.{is_in}
use Rattle.load_model.specs.Facts.{RecipeSet}
use Rattle.task_model.specs.TaskRefusal.{TaskRefusal, IsSameUnlessTooDeep, no_value}
use Rattle.task_model.specs.Leads.{value_words}
use Rattle.task_model.specs.Keys.{key}
use Rattle.task_model.specs.Scripts.{script, places, script_of, places_of, is_sstate_of, with_lines}
use Rattle.task_model.proofs.StoreLaw.{script_is, places_are}
use Rattle.task_model.proofs.KeyNames.{sstate_is}
use Rattle.store_model.specs.Origins.{Book, Line, Reading}
use Rattle.store_model.specs.Valid.{StandsIn}
use Rattle.store_model.specs.Premises.{AgreeOnTrees, IsBlind}
use Rattle.store_model.proofs.Soundness.{sound_plan_is_sound}
use Rattle.plan_model.specs.Inputs.{Files}
use Rattle.plan_model.specs.Plans.{is_shared, forced}
use Rattle.plan_model.specs.Blind.{key_reading, WholeIsBlind, ForcedIsBlind, ForcedIsWhole, FirstMayReuse}
use Rattle.plan_model.proofs.Planning.{IsOfNode, node_of, of_graph, ok_parts, same_ok}
use Rattle.plan_model.proofs.Soundness.{IsForced, forced_at, forced_many}
use Rattle.plan_model.proofs.Meets.{sound_meets}

-- a key of which nothing is left out is that of its lines
whole_key : (made : Key) → made.excluded ≡ false → with_lines made.lines false ≡ made
whole_key made whole = ap (with_lines made.lines) (sym whole)

-- the flag of the shared state, by a key
shared_told : (store : List EntryLine) (name : List ℕ) (made : Key) (shared : Bool) → key store name ≡ Ok made → is_shared store name ≡ Ok shared → is_sstate_of made name ≡ shared
shared_told store name made shared is told =
    let words = ok_parts (value_words store (codes "SSTATETASKS")) (λ tasks. Ok (is_in name tasks)) shared told in
    sstate_is store name made words.0 is words.1 ∙ same_ok {E = Refusal} (is_in name words.0) shared words.2

-- what is given isn't too deep
given_same : {A : Type 0} (one other : Result A TaskRefusal) (a : A) → IsSameUnlessTooDeep one other → one ≡ Ok a → other ≡ Ok a
given_same one other a (inl e) is = sym e ∙ is
given_same one other a (inr deep) is = absurd (let no : Err (no_value (too_deep deep.0)) ≡ Ok a = sym deep.1 ∙ is in cc)

-- a task of a node is blind where nothing is left out of its key
blind_of_node : (gives : Gives) (files : Files) (set : RecipeSet) (node : Node) (task : PlanTask) → IsOfNode files set node task → task.key.excluded ≡ false → IsBlind gives key_reading task
blind_of_node gives files set node task is whole =
    let store = slice_index_or set.stores node.recipe [] in
    let name = node.id.task in
    let made = is.parts.key in
    let none : made.excluded ≡ false = sym (ap (λ k. k.excluded) is.key) ∙ whole in
    let same : with_lines task.key.lines false ≡ made = whole_key task.key whole ∙ is.key in
    let named : task.id.task ≡ name = ap (λ i. i.task) is.id in
    record {
      script = task.script;
      is_script = ap (λ k. result_ok (script_of k task.id.task)) same ∙ ap (λ n. result_ok (script_of made n)) named
          ∙ ap result_ok (given_same (script store name) (script_of made name) is.parts.script (script_is store name made is.has.key_is none) is.has.script_is) ∙ ap Some (sym is.script);
      same = λ tree. record { forth = λ t e. e; back = λ t e. e };
      places = ap (λ k. result_ok (places_of k task.id.task)) same ∙ ap (λ n. result_ok (places_of made n)) named
          ∙ ap result_ok (given_same (places store name) (places_of made name) is.parts.places (places_are store name made is.has.key_is none) is.has.places_are) ∙ ap Some (sym is.places);
      sstate = ap (λ k. is_sstate_of k task.id.task) same ∙ ap (λ n. is_sstate_of made n) named
          ∙ shared_told store name made is.parts.sstate is.has.key_is is.has.shared_is ∙ sym is.sstate;
    }

pub whole_is_blind : WholeIsBlind
whole_is_blind gives files set graph threads plan made whole k d lt =
    let is = of_graph files set graph threads plan made in
    let node = node_of files set graph.nodes plan.tasks is.tasks_are k (get_or plan.tasks k d) (slice_get-get_or plan.tasks k d lt) in
    blind_of_node gives files set node.0 (get_or plan.tasks k d) node.2 (whole k d lt)

-- what holds of each task holds of the task of a number
each_task : (P : PlanTask → Type 0) (tasks : List PlanTask) (k : ℕ) (task : PlanTask) → All P tasks → slice_get tasks k ≡ Some task → P task
each_task P tasks k task all is = subst P (get_or_from_slice_get tasks k task task is) (all k task (slice_get_within tasks k task is))

-- a forced task is blind where the task is
forced_blind : (gives : Gives) (reading : Reading) (task made : PlanTask) → IsForced task made → IsBlind gives reading task → IsBlind gives reading made
forced_blind gives reading task made is blind = record {
  script = blind.script;
  is_script = ap (λ k. reading.script_of k.lines made.id.task) is.key ∙ ap (λ i. reading.script_of task.key.lines i.task) is.id ∙ blind.is_script;
  same = λ tree. subst (λ s. AgreeOnTrees (gives s tree) (gives blind.script tree)) (sym is.script) (blind.same tree);
  places = ap (λ k. reading.places_of k.lines made.id.task) is.key ∙ ap (λ i. reading.places_of task.key.lines i.task) is.id ∙ blind.places ∙ ap Some (sym is.places);
  sstate = ap (λ k. reading.sstate_of k.lines made.id.task) is.key ∙ ap (λ i. reading.sstate_of task.key.lines i.task) is.id ∙ blind.sstate ∙ sym is.sstate;
}

pub forced_is_blind : ForcedIsBlind
forced_is_blind gives reading plan blind k d lt =
    let under = forced_at zero plan.targets plan.tasks k (get_or (forced plan).tasks k d) (slice_get-get_or (forced plan).tasks k d lt) in
    forced_blind gives reading under.0 (get_or (forced plan).tasks k d) under.2 (each_task (IsBlind gives reading) plan.tasks k under.0 blind under.1)

pub forced_is_whole : ForcedIsWhole
forced_is_whole plan whole k d lt =
    let within = subst (λ n. k < n) (sym (forced_many zero plan.targets plan.tasks)) lt in
    let under = forced_at zero plan.targets plan.tasks k (get_or (forced plan).tasks k d) (slice_get-get_or (forced plan).tasks k d within) in
    subst (λ t. t.key.excluded ≡ false) (sym (get_or_from_slice_get plan.tasks k under.0 d under.1)) (sym (ap (λ m. m.excluded) under.2.key) ∙ whole k d within)

-- no line stands in an empty book
none_stands : (before : Book) (line : Line) → StandsIn [] before line → ⊥
none_stands [] line stands = absurd (let e = stands.is in cc)
none_stands (first ∷ before) line stands = absurd (let e = stands.is in cc)

pub first_may_reuse : FirstMayReuse
first_may_reuse gives reading held plan sound blind clash = record {
  valid = λ before line stands. absurd (none_stands before line stands);
  sound = sound_plan_is_sound plan (sound_meets plan sound);
  blind = blind;
  no_clash = clash;
  no_collision = λ k s lt before line stands. absurd (none_stands before line stands);
}
