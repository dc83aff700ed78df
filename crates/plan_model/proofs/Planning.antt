-- What each task of a plan is made of.
use Rattle.std.proofs.Common.{◌≡◌, sym, ap, refl, subst, ℕ, zero, suc, ◌+◌, arith, List, [], ◌∷◌, length, Bool, true, false, Some, Result, Ok, Err, codes, nat_le, if◌then◌else◌, slice_get}
use Rattle.std.specs.Prelude.{slice_index_or}
use Rattle.meta_model.specs.declared.entry.EntryLine.{EntryLine}
use Rattle.meta_model.specs.declared.facts.Node.{Node}
use Rattle.meta_model.specs.declared.facts.Graph.{Graph}
use Rattle.meta_model.specs.declared.value.Key.{Key}
use Rattle.meta_model.specs.declared.plan.Plan.{Plan}
use Rattle.meta_model.specs.declared.plan.PlanTask.{PlanTask}
use Rattle.load_model.specs.LoadRefusal.{◌>>=◌, refused_as}
use Rattle.load_model.specs.Facts.{RecipeSet}
use Rattle.task_model.specs.Keys.{key}
use Rattle.task_model.specs.Scripts.{script, places}
use Rattle.plan_model.specs.PlanRefusal.{PlanRefusal, no_value, plan_bytes, told_at}
use Rattle.plan_model.specs.Inputs.{Files, Inputs}
use Rattle.plan_model.specs.Plans.{Sums, no_sums, task_inputs, counts, is_shared, Parts, parts_of, Planned, with_parts, planned_with, texts_of, most_of_texts, file_at, planned_node, tasks_planned, plan_of}

-- the two parts of an answer
pub ok_parts : {A B E : Type 0} (m : Result A E) (f : A → Result B E) (b : B) → (m >>= f) ≡ Ok b → (a : A) × (m ≡ Ok a) × (f a ≡ Ok b)
ok_parts (Ok a) f b e = (a, refl, e)
ok_parts {A} {B} {E} (Err refusal) f b e = absurd (let n : ◌≡◌ {A = Result B E} (Err refusal) (Ok b) = e in cc)

pub ok_as : {A E F : Type 0} (f : E → F) (m : Result A E) (a : A) → refused_as f m ≡ Ok a → m ≡ Ok a
ok_as {A} {E} {F} f (Ok x) a e = (let h : ◌≡◌ {A = Result A F} (Ok x) (Ok a) = e in let k : x ≡ a = cc in ap Ok k)
ok_as {A} {E} {F} f (Err refusal) a e = absurd (let n : ◌≡◌ {A = Result A F} (Err (f refusal)) (Ok a) = e in cc)

pub same_ok : {A E : Type 0} (a b : A) → ◌≡◌ {A = Result A E} (Ok a) (Ok b) → a ≡ b
same_ok a b e = cc

-- what the parts of a task are
pub record HasParts (files : Files) (file : List ℕ) (store : List EntryLine) (task : List ℕ) (bytes : ℕ) (parts : Parts) : Type 0 where
  pub key_is : key store task ≡ Ok parts.key
  pub script_is : script store task ≡ Ok parts.script
  pub shared_is : is_shared store task ≡ Ok parts.sstate
  pub inputs_are : task_inputs files file store task bytes ≡ Ok parts.inputs
  pub places_are : places store task ≡ Ok parts.places

pub has_parts : (files : Files) (file : List ℕ) (store : List EntryLine) (task : List ℕ) (bytes : ℕ) (parts : Parts) → parts_of files file store task bytes ≡ Ok parts → HasParts files file store task bytes parts
has_parts files file store task bytes parts e =
    let last = λ (made : Key) (inputs : Inputs) (text : List ℕ) (pairs : List (List ℕ × List ℕ)) (nostamp : Bool) (shared : Bool). let r : Result Parts PlanRefusal = Ok (record { key = made; inputs = inputs; script = text; places = pairs; nostamp = nostamp; sstate = shared }) in r in
    let fifth = λ (made : Key) (inputs : Inputs) (text : List ℕ) (pairs : List (List ℕ × List ℕ)) (nostamp : Bool). refused_as (no_value file) (is_shared store task) >>= last made inputs text pairs nostamp in
    let fourth = λ (made : Key) (inputs : Inputs) (text : List ℕ) (pairs : List (List ℕ × List ℕ)). refused_as (no_value file) (counts store task (codes "nostamp")) >>= fifth made inputs text pairs in
    let third = λ (made : Key) (inputs : Inputs) (text : List ℕ). refused_as (told_at file) (places store task) >>= fourth made inputs text in
    let second = λ (made : Key) (inputs : Inputs). refused_as (told_at file) (script store task) >>= third made inputs in
    let first = λ (made : Key). task_inputs files file store task bytes >>= second made in
    let made = ok_parts (refused_as (no_value file) (key store task)) first parts e in
    let inputs = ok_parts (task_inputs files file store task bytes) (second made.0) parts made.2 in
    let text = ok_parts (refused_as (told_at file) (script store task)) (third made.0 inputs.0) parts inputs.2 in
    let pairs = ok_parts (refused_as (told_at file) (places store task)) (fourth made.0 inputs.0 text.0) parts text.2 in
    let nostamp = ok_parts (refused_as (no_value file) (counts store task (codes "nostamp"))) (fifth made.0 inputs.0 text.0 pairs.0) parts pairs.2 in
    let shared = ok_parts (refused_as (no_value file) (is_shared store task)) (last made.0 inputs.0 text.0 pairs.0 nostamp.0) parts nostamp.2 in
    let whole : record { key = made.0; inputs = inputs.0; script = text.0; places = pairs.0; nostamp = nostamp.0; sstate = shared.0 } ≡ parts = same_ok {E = PlanRefusal} (record { key = made.0; inputs = inputs.0; script = text.0; places = pairs.0; nostamp = nostamp.0; sstate = shared.0 }) parts shared.2 in
    subst (HasParts files file store task bytes) {x = record { key = made.0; inputs = inputs.0; script = text.0; places = pairs.0; nostamp = nostamp.0; sstate = shared.0 }} whole (record {
      key_is = ok_as (no_value file) (key store task) made.0 made.1;
      script_is = ok_as (told_at file) (script store task) text.0 text.1;
      shared_is = ok_as (no_value file) (is_shared store task) shared.0 shared.1;
      inputs_are = inputs.1;
      places_are = ok_as (told_at file) (places store task) pairs.0 pairs.1;
    })

-- a task of the plan is that of a node
pub record IsOfNode (files : Files) (set : RecipeSet) (node : Node) (task : PlanTask) : Type 0 where
  pub id : task.id ≡ node.id
  pub deps : task.deps ≡ node.deps
  pub bytes : ℕ
  pub parts : Parts
  pub has : HasParts files (file_at set.facts node.recipe) (slice_index_or set.stores node.recipe []) node.id.task bytes parts
  pub key : task.key ≡ parts.key
  pub script : task.script ≡ parts.script
  pub sstate : task.sstate ≡ parts.sstate
  pub files_are : task.files ≡ parts.inputs.tree
  pub places : task.places ≡ parts.places

with_ok : (node : Node) (sums : Sums) (parts : Parts) (made : Planned) → planned_with node sums parts ≡ Ok made → made.task ≡ with_parts node parts
with_ok node sums parts made e = by (nat_le (sums.texts + texts_of parts.key parts.script) most_of_texts) e
  where
    by : (b : Bool) → (if b then Ok (record { task = with_parts node parts; sums = record { texts = sums.texts + texts_of parts.key parts.script; inputs = parts.inputs.bytes } }) else Err plan_bytes) ≡ Ok made → made.task ≡ with_parts node parts
    by true h = sym (ap (λ m. m.task) (same_ok {E = PlanRefusal} (record { task = with_parts node parts; sums = record { texts = sums.texts + texts_of parts.key parts.script; inputs = parts.inputs.bytes } }) made h))
    by false h = absurd (let n : ◌≡◌ {A = Result Planned PlanRefusal} (Err plan_bytes) (Ok made) = h in cc)

of_node : (files : Files) (set : RecipeSet) (node : Node) (sums : Sums) (made : Planned) → planned_node files set node sums ≡ Ok made → IsOfNode files set node made.task
of_node files set node sums made e =
    let parts = ok_parts (parts_of files (file_at set.facts node.recipe) (slice_index_or set.stores node.recipe []) node.id.task sums.inputs) (planned_with node sums) made e in
    let is = with_ok node sums parts.0 made parts.2 in
    record {
      id = ap (λ t. t.id) is;
      deps = ap (λ t. t.deps) is;
      bytes = sums.inputs;
      parts = parts.0;
      has = has_parts files (file_at set.facts node.recipe) (slice_index_or set.stores node.recipe []) node.id.task sums.inputs parts.0 parts.1;
      key = ap (λ t. t.key) is;
      script = ap (λ t. t.script) is;
      sstate = ap (λ t. t.sstate) is;
      files_are = ap (λ t. t.files) is;
      places = ap (λ t. t.places) is;
    }

-- the tasks of a plan are those of the nodes, one by one
abbrev pub AreOfNodes : Files → RecipeSet → List Node → List PlanTask → Type 0
AreOfNodes files set [] [] = Unit {0}
AreOfNodes files set [] (task ∷ tasks) = ⊥
AreOfNodes files set (node ∷ nodes) [] = ⊥
AreOfNodes files set (node ∷ nodes) (task ∷ tasks) = IsOfNode files set node task × AreOfNodes files set nodes tasks

pub of_nodes : (files : Files) (set : RecipeSet) (sums : Sums) (nodes : List Node) (tasks : List PlanTask) → tasks_planned files set sums nodes ≡ Ok tasks → AreOfNodes files set nodes tasks
of_nodes files set sums [] tasks e = subst (AreOfNodes files set []) (same_ok {E = PlanRefusal} [] tasks e) tt
of_nodes files set sums (node ∷ nodes) tasks e =
    let joined = λ (first : Planned) (others : List PlanTask). let r : Result (List PlanTask) PlanRefusal = Ok (first.task ∷ others) in r in
    let first = ok_parts (planned_node files set node sums) (λ first. tasks_planned files set first.sums nodes >>= joined first) tasks e in
    let others = ok_parts (tasks_planned files set first.0.sums nodes) (joined first.0) tasks first.2 in
    subst (AreOfNodes files set (node ∷ nodes)) (same_ok {E = PlanRefusal} (first.0.task ∷ others.0) tasks others.2)
    (of_node files set node sums first.0 first.1, of_nodes files set first.0.sums nodes others.0 others.1)

pub as_many : (files : Files) (set : RecipeSet) (nodes : List Node) (tasks : List PlanTask) → AreOfNodes files set nodes tasks → length tasks ≡ length nodes
as_many files set [] [] h = refl
as_many files set [] (task ∷ tasks) h = absurd h
as_many files set (node ∷ nodes) [] h = absurd h
as_many files set (node ∷ nodes) (task ∷ tasks) h = omega (arith, as_many files set nodes tasks h.1)

-- the node of a task
pub node_of : (files : Files) (set : RecipeSet) (nodes : List Node) (tasks : List PlanTask) → AreOfNodes files set nodes tasks → (n : ℕ) (task : PlanTask) → slice_get tasks n ≡ Some task → (node : Node) × (slice_get nodes n ≡ Some node) × IsOfNode files set node task
node_of files set nodes [] h n task e = absurd (cc)
node_of files set [] (first ∷ tasks) h n task e = absurd h
node_of files set (node ∷ nodes) (first ∷ tasks) h zero task e = (node, refl, subst (IsOfNode files set node) (let k : first ≡ task = cc in k) h.0)
node_of files set (node ∷ nodes) (first ∷ tasks) h (suc n) task e = node_of files set nodes tasks h.1 n task e

-- what the plan of a graph is
pub record IsOfGraph (files : Files) (set : RecipeSet) (graph : Graph) (threads : ℕ) (plan : Plan) : Type 0 where
  pub threads_are : plan.threads ≡ threads
  pub targets_are : plan.targets ≡ graph.targets
  pub tasks_are : AreOfNodes files set graph.nodes plan.tasks

pub of_graph : (files : Files) (set : RecipeSet) (graph : Graph) (threads : ℕ) (plan : Plan) → plan_of files set graph threads ≡ Ok plan → IsOfGraph files set graph threads plan
of_graph files set graph threads plan e =
    let tasks = ok_parts (tasks_planned files set no_sums graph.nodes) (λ tasks. Ok (record { threads = threads; targets = graph.targets; tasks = tasks })) plan e in
    let is : record { threads = threads; targets = graph.targets; tasks = tasks.0 } ≡ plan = same_ok {E = PlanRefusal} (record { threads = threads; targets = graph.targets; tasks = tasks.0 }) plan tasks.2 in
    record {
      threads_are = sym (ap (λ p. p.threads) is);
      targets_are = sym (ap (λ p. p.targets) is);
      tasks_are = subst (λ p. AreOfNodes files set graph.nodes p.tasks) is (of_nodes files set no_sums graph.nodes tasks.0 tasks.1);
    }
