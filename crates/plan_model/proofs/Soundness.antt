-- The plan of a graph is sound.
use Rattle.std.proofs.Common.{◌≡◌, ◌≢◌, ◌∙◌, sym, ap, refl, subst, ℕ, zero, suc, ◌<◌, ◌≤◌, inl, inr, arith, List, [], ◌∷◌, length, true, false, ◌||◌, Some, All, bytes_eq, codes, nat_eq, slice_get}
use Rattle.std.specs.Prelude.{slice_index_or}
use Rattle.std.specs.List.{list_any}
use Rattle.std.specs.Option.{option_map_or}
use Rattle.std.proofs.lemmas.Bool.{cases_lt}
use Rattle.meta_model.proofs.Bools.{not_both, either_way, same_text}
use Rattle.meta_model.specs.declared.facts.FactSet.{FactSet}
use Rattle.meta_model.specs.declared.facts.RecipeFacts.{RecipeFacts}
use Rattle.meta_model.specs.declared.facts.TaskId.{TaskId}
use Rattle.meta_model.specs.declared.facts.Node.{Node}
use Rattle.meta_model.specs.declared.facts.Graph.{Graph}
use Rattle.meta_model.specs.declared.plan.Plan.{Plan}
use Rattle.meta_model.specs.declared.plan.PlanTask.{PlanTask}
use Rattle.meta_model.specs.GraphRefusal.{pn_of}
use Rattle.meta_model.specs.TaskGraph.{IsReached, HasDependencies, id_of, node_task}
use Rattle.load_model.specs.LoadRefusal.{refused_as}
use Rattle.load_model.specs.Facts.{RecipeSet, flag_words}
use Rattle.load_model.specs.Recipes.{is_pn}
use Rattle.std.specs.List.Sorted.{IsStrictlyIncreasing}
use Rattle.tree_model.specs.Tree.{IsTree}
use Rattle.store_model.specs.Signatures.{is_order, order_name, line_cmp}
use Rattle.store_model.specs.Spelled.{Ascends}
use Rattle.store_model.specs.Valid.{IsPlain}
use Rattle.store_model.specs.Premises.{Differ}
use Rattle.plan_model.specs.PlanRefusal.{no_value}
use Rattle.plan_model.specs.Inputs.{Files, input_words, inputs_of}
use Rattle.plan_model.specs.Plans.{file_at, forced_from, forced}
use Rattle.plan_model.specs.Names.{is_task_name}
use Rattle.plan_model.specs.Sound.{IsOnePart, IsFolder, IsSoundTask, IsSound, IsMadeFrom, PlanIsSound, ForcedIsSound}
use Rattle.plan_model.proofs.Planning.{ok_parts, IsOfNode, as_many, node_of, IsOfGraph, of_graph}
use Rattle.plan_model.proofs.Reached.{all_at, pair_at, pairs_from, reached_is_task, IsInFacts, in_facts, needs_before}
use Rattle.plan_model.proofs.Keyed.{key_ascends, key_has_no_order}
use Rattle.plan_model.proofs.Filed.{IsGood, no_files, inputs_good}
use Rattle.plan_model.proofs.Placed.{places_are_folders}

-- a task's name isn't that of the order line
no_order_name : (task : List ℕ) → is_task_name task ≡ true → bytes_eq task order_name ≡ false
no_order_name task h = elim (either_way (bytes_eq task order_name)) [
  | inl e ↦ let s : is_task_name order_name ≡ true = subst (λ t. is_task_name t ≡ true) (same_text task order_name e) h in let n : is_task_name order_name ≡ false = refl in not_both (is_task_name order_name) s n
  | inr e ↦ e
]

module _ (files : Files) (set : RecipeSet) (graph : Graph) (threads : ℕ) (made : IsMadeFrom files set graph threads) where
  abbrev facts : FactSet
  facts = set.facts

  -- what is known of a node
  record IsKnown (node : Node) : Type 0 where
    is : IsInFacts facts (node_task node)
    id : node.id ≡ id_of facts (node_task node)
    pn : node.id.pn ≡ is.recipe.pn

  pn_is : (n : ℕ) (recipe : RecipeFacts) → slice_get facts.recipes n ≡ Some recipe → pn_of facts n ≡ recipe.pn
  pn_is n recipe e = ap (λ o. option_map_or (λ r. r.pn) o []) e

  known : (n : ℕ) (node : Node) → slice_get graph.nodes n ≡ Some node → IsKnown node
  known n node e =
      let reached = all_at (λ m. IsReached facts made.targets (node_task m)) graph.nodes made.is_graph.sound n node e in
      let id = all_at (λ m. m.id ≡ id_of facts (node_task m)) graph.nodes made.is_graph.written n node e in
      let is = in_facts facts (node_task node) (reached_is_task facts made.targets (node_task node) reached) in
      record { is = is; id = id; pn = ap (λ (i : TaskId). i.pn) id ∙ pn_is node.recipe is.recipe is.there }

  good_name : (node : Node) → IsKnown node → is_task_name node.id.task ≡ true
  good_name node k =
      let tasks = all_at (λ r. All (λ t. is_task_name t.task ≡ true) r.tasks) facts.recipes made.names.tasks node.recipe k.is.recipe k.is.there in
      subst (λ t. is_task_name t ≡ true) k.is.name (all_at (λ t. is_task_name t.task ≡ true) k.is.recipe.tasks tasks k.is.number k.is.task k.is.at)

  good_pn : (node : Node) → IsKnown node → is_pn node.id.pn ≡ true
  good_pn node k = subst (λ p. is_pn p ≡ true) (sym k.pn) (all_at (λ r. is_pn r.pn ≡ true) facts.recipes made.names.pns node.recipe k.is.recipe k.is.there)

  -- recipes of one PN are one
  one_recipe : (m n : ℕ) (a b : RecipeFacts) → slice_get facts.recipes m ≡ Some a → slice_get facts.recipes n ≡ Some b → a.pn ≡ b.pn → m ≡ n
  one_recipe m n a b e f same = elim (cases_lt m n) [
    | inl lt ↦ absurd (pair_at (λ x y. x.pn ≢ y.pn) facts.recipes made.names.once m n a b lt e f same)
    | inr le ↦ elim (cases_lt n m) [
      | inl lt ↦ absurd (pair_at (λ x y. x.pn ≢ y.pn) facts.recipes made.names.once n m b a lt f e (sym same))
      | inr ge ↦ omega arith
    ]
  ]

  nodes_differ : (i j : ℕ) (m n : Node) → i < j → slice_get graph.nodes i ≡ Some m → slice_get graph.nodes j ≡ Some n → m.id.pn ≡ n.id.pn → m.id.task ≡ n.id.task → ⊥
  nodes_differ i j m n lt e f pn task =
      let a = known i m e in
      let b = known j n f in
      let number : m.recipe ≡ n.recipe = one_recipe m.recipe n.recipe a.is.recipe b.is.recipe a.is.there b.is.there (sym a.pn ∙ pn ∙ b.pn) in
      let same : node_task m ≡ node_task n = ap (λ r. (r, m.id.task)) number ∙ ap (λ t. (n.recipe, t)) task in
      pair_at (λ x y. node_task x ≡ node_task y → ⊥) graph.nodes made.is_graph.once i j m n lt e f same

  module _ (plan : Plan) (of : IsOfGraph files set graph threads plan) where
    node_at : (n : ℕ) (task : PlanTask) → slice_get plan.tasks n ≡ Some task → (node : Node) × (slice_get graph.nodes n ≡ Some node) × IsOfNode files set node task
    node_at n task e = node_of files set graph.nodes plan.tasks of.tasks_are n task e

    many : length plan.tasks ≡ length graph.nodes
    many = as_many files set graph.nodes plan.tasks of.tasks_are

    files_good : (node : Node) (task : PlanTask) → IsOfNode files set node task → IsGood task.files
    files_good node task is =
        let file = file_at facts node.recipe in
        let store = slice_index_or set.stores node.recipe [] in
        let words = ok_parts (refused_as (no_value file) (flag_words store node.id.task (codes "file-checksums"))) (λ words. inputs_of files file (record { tree = []; bytes = is.bytes }) (input_words words)) is.parts.inputs is.has.inputs_are in
        subst IsGood (sym is.files_are) (inputs_good files made.clean file (record { tree = []; bytes = is.bytes }) (input_words words.0) is.parts.inputs no_files words.2)

    sound_at : (n : ℕ) (task : PlanTask) → slice_get plan.tasks n ≡ Some task → IsSoundTask n task
    sound_at n task e =
        let at = node_at n task e in
        let node = at.0 in
        let is = at.2 in
        let k = known n node at.1 in
        let has : HasDependencies facts graph node = all_at (HasDependencies facts graph) graph.nodes made.is_graph.dependencies n node at.1 in
        let good = files_good node task is in
        let name = good_name node k in
        let store = slice_index_or set.stores node.recipe [] in
        let folders = places_are_folders store node.id.task is.parts.places is.has.places_are in
        record {
          pn = subst (λ i. is_pn i.pn ≡ true) (sym is.id) (good_pn node k);
          name = subst (λ i. is_task_name i.task ≡ true) (sym is.id) name;
          deps = subst IsStrictlyIncreasing (sym is.deps) has.ascend;
          below = subst (All (λ d. d < n)) (sym is.deps) (needs_before facts made.targets graph made.is_graph n node at.1);
          ascends = subst (λ m. Ascends line_cmp m.lines) (sym is.key) (key_ascends store node.id.task is.parts.key is.has.key_is);
          no_order = subst (λ m. All (λ l. is_order l ≡ false) m.lines) (sym is.key) (key_has_no_order store node.id.task is.parts.key (no_order_name node.id.task name) is.has.key_is);
          plain = good.plain;
          parts = good.parts;
          tree = good.is_tree;
          inner = subst (All (λ p. IsFolder p.0)) (sym is.places) folders.inner;
          outer = subst (All (λ p. IsFolder p.1)) (sym is.places) folders.outer;
        }

    pub sound : IsSound plan
    sound = record {
      threads = subst (λ t. (1 ≤ t) × (t ≤ 16)) (sym of.threads_are) made.in_range;
      few = omega (arith, many, made.few);
      targets = subst (All (λ n. n < length plan.tasks)) (sym of.targets_are) (λ k d lt. omega (arith, many, made.is_graph.found k d lt));
      mc = pairs_from (λ a b. a.id.mc ≡ b.id.mc) plan.tasks one_mc;
      differ = pairs_from Differ plan.tasks differ;
      tasks = sound_at;
    }
      where
        mc_is : (n : ℕ) (task : PlanTask) → slice_get plan.tasks n ≡ Some task → task.id.mc ≡ []
        mc_is n task e = let at = node_at n task e in ap (λ (i : TaskId). i.mc) at.2.id ∙ ap (λ (i : TaskId). i.mc) (known n at.0 at.1).id

        one_mc : (i j : ℕ) (a b : PlanTask) → i < j → slice_get plan.tasks i ≡ Some a → slice_get plan.tasks j ≡ Some b → a.id.mc ≡ b.id.mc
        one_mc i j a b lt e f = mc_is i a e ∙ sym (mc_is j b f)

        differ : (i j : ℕ) (a b : PlanTask) → i < j → slice_get plan.tasks i ≡ Some a → slice_get plan.tasks j ≡ Some b → Differ a b
        differ i j a b lt e f = λ pn task.
            let x = node_at i a e in
            let y = node_at j b f in
            nodes_differ i j x.0 y.0 lt x.1 y.1 (sym (ap (λ (i : TaskId). i.pn) x.2.id) ∙ pn ∙ ap (λ (i : TaskId). i.pn) y.2.id) (sym (ap (λ (i : TaskId). i.task) x.2.id) ∙ task ∙ ap (λ (i : TaskId). i.task) y.2.id)

pub plan_is_sound : PlanIsSound
plan_is_sound files set graph threads plan made e = sound files set graph threads made plan (of_graph files set graph threads plan e)

-- forced tasks

pub forced_many : (n : ℕ) (targets : List ℕ) (tasks : List PlanTask) → length (forced_from n targets tasks) ≡ length tasks
forced_many n targets [] = refl
forced_many n targets (task ∷ tasks) = omega (arith, forced_many (suc n) targets tasks)

-- a forced task is the task, but for whether it runs in each run
pub record IsForced (task forced : PlanTask) : Type 0 where
  pub id : forced.id ≡ task.id
  pub deps : forced.deps ≡ task.deps
  pub key : forced.key ≡ task.key
  pub files : forced.files ≡ task.files
  pub script : forced.script ≡ task.script
  pub sstate : forced.sstate ≡ task.sstate
  pub places : forced.places ≡ task.places

pub forced_at : (n : ℕ) (targets : List ℕ) (tasks : List PlanTask) (k : ℕ) (made : PlanTask) → slice_get (forced_from n targets tasks) k ≡ Some made → (task : PlanTask) × (slice_get tasks k ≡ Some task) × IsForced task made
forced_at n targets [] k made e = absurd (cc)
forced_at n targets (task ∷ tasks) zero made e =
    let is : record task { nostamp = task.nostamp || list_any (nat_eq n) targets } ≡ made = (let s : Some (record task { nostamp = task.nostamp || list_any (nat_eq n) targets }) ≡ Some made = e in cc) in
    (task, refl, subst (IsForced task) is (record { id = refl; deps = refl; key = refl; files = refl; script = refl; sstate = refl; places = refl }))
forced_at n targets (task ∷ tasks) (suc k) made e = forced_at (suc n) targets tasks k made e

module _ (plan : Plan) (sound : IsSound plan) where
  task_under : (k : ℕ) (made : PlanTask) → slice_get (forced plan).tasks k ≡ Some made → (task : PlanTask) × (slice_get plan.tasks k ≡ Some task) × IsForced task made
  task_under k made e = forced_at zero plan.targets plan.tasks k made e

  forced_sound_at : (n : ℕ) (made : PlanTask) → slice_get (forced plan).tasks n ≡ Some made → IsSoundTask n made
  forced_sound_at n made e =
      let under = task_under n made e in
      let s = sound.tasks n under.0 under.1 in
      let is = under.2 in
      record {
        pn = subst (λ i. is_pn i.pn ≡ true) (sym is.id) s.pn;
        name = subst (λ i. is_task_name i.task ≡ true) (sym is.id) s.name;
        deps = subst IsStrictlyIncreasing (sym is.deps) s.deps;
        below = subst (All (λ d. d < n)) (sym is.deps) s.below;
        ascends = subst (λ m. Ascends line_cmp m.lines) (sym is.key) s.ascends;
        no_order = subst (λ m. All (λ l. is_order l ≡ false) m.lines) (sym is.key) s.no_order;
        plain = subst (All IsPlain) (sym is.files) s.plain;
        parts = subst (All (λ e. IsOnePart e.0)) (sym is.files) s.parts;
        tree = subst IsTree (sym is.files) s.tree;
        inner = subst (All (λ p. IsFolder p.0)) (sym is.places) s.inner;
        outer = subst (All (λ p. IsFolder p.1)) (sym is.places) s.outer;
      }

  pub forced_sound : IsSound (forced plan)
  forced_sound = record {
    threads = sound.threads;
    few = omega (arith, sound.few, forced_many zero plan.targets plan.tasks);
    targets = λ k d lt. omega (arith, sound.targets k d lt, forced_many zero plan.targets plan.tasks);
    mc = pairs_from (λ a b. a.id.mc ≡ b.id.mc) (forced plan).tasks one_mc;
    differ = pairs_from Differ (forced plan).tasks differ;
    tasks = forced_sound_at;
  }
    where
      one_mc : (i j : ℕ) (a b : PlanTask) → i < j → slice_get (forced plan).tasks i ≡ Some a → slice_get (forced plan).tasks j ≡ Some b → a.id.mc ≡ b.id.mc
      one_mc i j a b lt e f =
          let x = task_under i a e in
          let y = task_under j b f in
          ap (λ (i : TaskId). i.mc) x.2.id ∙ pair_at (λ a b. a.id.mc ≡ b.id.mc) plan.tasks sound.mc i j x.0 y.0 lt x.1 y.1 ∙ sym (ap (λ (i : TaskId). i.mc) y.2.id)

      differ : (i j : ℕ) (a b : PlanTask) → i < j → slice_get (forced plan).tasks i ≡ Some a → slice_get (forced plan).tasks j ≡ Some b → Differ a b
      differ i j a b lt e f = λ pn task.
          let x = task_under i a e in
          let y = task_under j b f in
          pair_at Differ plan.tasks sound.differ i j x.0 y.0 lt x.1 y.1 (sym (ap (λ (i : TaskId). i.pn) x.2.id) ∙ pn ∙ ap (λ (i : TaskId). i.pn) y.2.id) (sym (ap (λ (i : TaskId). i.task) x.2.id) ∙ task ∙ ap (λ (i : TaskId). i.task) y.2.id)

pub forced_is_sound : ForcedIsSound
forced_is_sound plan s = forced_sound plan s
