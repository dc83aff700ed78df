-- What a task's words put in a row is what it needs, and what they refuse is what it is refused for.
use Rattle.std.proofs.Common.{◌≡◌, ◌<◌, sym, ◌∙◌, ap, subst, refl, ℕ, suc, Bool, true, false, not, ◌&&◌, List, [], ◌∷◌, ◌++◌, Some, None, Option, Result, Ok, Err, ◌⊎◌, inl, inr, All, bytes_eq, slice_get, length, get_or}
use Rattle.std.specs.Prelude.{is_ok}
use Rattle.std.specs.Result.{IfOk, IfErr}
use Rattle.std.specs.List.{list_any, filter_map}
use Rattle.std.specs.Cmp.Lexicographic.{bytes_decides}
use Rattle.std.proofs.lemmas.Option.{get_or_from_slice_get, slice_get-get_or}
use Rattle.meta_model.specs.declared.facts.FactSet.{FactSet}
use Rattle.meta_model.specs.declared.facts.RecipeFacts.{RecipeFacts}
use Rattle.meta_model.specs.declared.facts.TaskFacts.{TaskFacts}
use Rattle.meta_model.specs.Text.{is_in, is_empty}
use Rattle.meta_model.specs.Walks.{Walk}
use Rattle.meta_model.specs.Providers.{provider, runtime_provider}
use Rattle.meta_model.specs.Needs.{Task, tested, build_names, run_names, RecipeNeeds, by_order, by_depends, by_deptask, by_rdeptask, by_recrdeptask}
use Rattle.meta_model.specs.GraphRefusal.{GraphRefusal, word_task, IsRefused, word, to_build, to_run, below_to_build, below_to_run, GoesThrough, has_name}
use Rattle.task_graph.specs.declared.table.TaskTable.{TaskTable}
use Rattle.task_graph.specs.declared.table.Spot.{Spot}
use Rattle.task_graph.specs.declared.needed.Needed.{Needed}
use Rattle.graph_walk.specs.Frontier.{Has}
use Rattle.task_graph.specs.Table.{IsTable, number_of_task}
use Rattle.task_graph.specs.Needed.{AreNeeded, IsNeeded, resolved, lacks_provider}
use Rattle.task_graph.specs.Below.{RecipeEdge}
use Rattle.task_graph.specs.Context.{numbers_of_tasks, number_of_word, LacksToBuild, LacksToRun}
use Rattle.task_graph.specs.declared.fault.GraphFault.{GraphFault}
use Rattle.task_graph.specs.Faults.{IsRefusalOf}
use Rattle.task_graph.specs.Edges.{HasEdges, IsRefusedAt, IsNumbered, others_of, AreEdges, HasPushed, LacksOf, in_word, in_deptask, in_rdeptask, in_recrdeptask, HasAllProviders}
use Rattle.graph_walk.proofs.Finding.{place_within}
use Rattle.task_graph.proofs.Refusals.{refusal_weaker}
use Rattle.task_graph.proofs.Tabled.{IsAt, number_at}
use Rattle.task_graph.proofs.Members.{has_left, has_right, has_either, any_has, has_any, text_has}
use Rattle.task_graph.proofs.Edging.{order_sound, order_whole, depends_sound, depends_whole, deptask_sound, deptask_whole, rdeptask_sound, rdeptask_whole, recrdeptask_sound, recrdeptask_whole, walk_map, edge_needs, needs_edge}

both_true : (a b : Bool) → a ≡ true → b ≡ true → (a && b) ≡ true
both_true a b e f = rw (e, f) refl

left_true : (a b : Bool) → (a && b) ≡ true → a ≡ true
left_true true b e = refl
left_true false b e = absurd cc

right_true : (a b : Bool) → (a && b) ≡ true → b ≡ true
right_true true b e = e
right_true false b e = absurd cc

-- the task with a number, as the code finds it
pub record IsRead (facts : FactSet) (spots : List Spot) (u n : ℕ) (r : RecipeFacts) (t : TaskFacts) : Type 0 where
  pub place : ℕ
  pub spot : slice_get spots u ≡ Some (record { recipe = n; place = place })
  pub recipe_is : slice_get facts.recipes n ≡ Some r
  pub told_is : slice_get r.tasks place ≡ Some t

record IsSame (n m : ℕ) (r s : RecipeFacts) (t v : TaskFacts) : Type 0 where
  number : n ≡ m
  recipe : r ≡ s
  told : t ≡ v

same_read : (facts : FactSet) (spots : List Spot) (a : Task) (u n : ℕ) (r : RecipeFacts) (t : TaskFacts) → (at : IsAt facts spots a u) → IsRead facts spots u n r t → IsSame n a.0 r at.recipe t at.told
same_read facts spots a u n r t at read =
    let s : Some (record { recipe = n; place = read.place }) ≡ Some (record { recipe = a.0; place = at.place }) = sym read.spot ∙ at.spot in
    let v : record { recipe = n; place = read.place } ≡ record { recipe = a.0; place = at.place } = cc in
    let number : n ≡ a.0 = ap (λ (x : Spot). x.recipe) v in
    let place : read.place ≡ at.place = ap (λ (x : Spot). x.place) v in
    let f : Some r ≡ Some at.recipe = sym read.recipe_is ∙ ap (slice_get facts.recipes) number ∙ at.recipe_is in
    let recipe : r ≡ at.recipe = cc in
    let g : Some t ≡ Some at.told = sym read.told_is ∙ ap (λ (x : RecipeFacts). slice_get x.tasks read.place) recipe ∙ ap (slice_get at.recipe.tasks) place ∙ at.stands in
    record { number = number; recipe = recipe; told = cc }

-- a list without an element, and its length
some_words : (words : List (List ℕ)) → not (is_empty words) ≡ true → length words ≡ 0 → ⊥
some_words [] e n = absurd cc
some_words (w ∷ ws) e n = let g : suc (length ws) ≡ 0 = n in cc

no_words : (words : List (List ℕ)) → (length words ≡ 0 → ⊥) → not (is_empty words) ≡ true
no_words [] some = absurd (some refl)
no_words (w ∷ ws) some = refl

-- a name without a provider
lacking : (provide : List ℕ → Result ℕ (List (List ℕ))) (names : List (List ℕ)) (name : List ℕ) (pns : List (List ℕ)) → is_in name names ≡ true → provide name ≡ Err pns → lacks_provider provide names ≡ false → ⊥
lacking provide names name pns among none whole =
    let test : not (is_ok (provide name)) ≡ true = rw none refl in
    let f : lacks_provider provide names ≡ true = any_has (λ n. not (is_ok (provide n))) names name (text_has names name among) test in
    let g : true ≡ false = sym f ∙ whole in cc

slice_there : {A : Type 0} (xs : List A) (k : ℕ) (x : A) → k < length xs → get_or xs k x ≡ x → slice_get xs k ≡ Some x
slice_there xs k x lt is = slice_get-get_or xs k x lt ∙ ap Some is

all_has : {A : Type 0} (P : A → Type 0) (xs : List A) (x : A) → All P xs → Has xs x → P x
all_has P xs x all (k, e) = subst P (get_or_from_slice_get xs k x x e) (all k x (place_within xs k x e))

-- five lists in a row
from_five : {A : Type 0} {P : Type 0} (v : A) (a b c d e : List A) → (Has a v → P) → (Has b v → P) → (Has c v → P) → (Has d v → P) → (Has e v → P) → Has (a ++ b ++ c ++ d ++ e) v → P
from_five v a b c d e to_a to_b to_c to_d to_e h = elim (has_either (a ++ b ++ c ++ d) e v h) [
  | inr x ↦ to_e x
  | inl x ↦ elim (has_either (a ++ b ++ c) d v x) [
    | inr y ↦ to_d y
    | inl y ↦ elim (has_either (a ++ b) c v y) [
      | inr z ↦ to_c z
      | inl z ↦ elim (has_either a b v z) [ inl w ↦ to_a w | inr w ↦ to_b w ]
    ]
  ]
]

first_of_five : {A : Type 0} (v : A) (a b c d e : List A) → Has a v → Has (a ++ b ++ c ++ d ++ e) v
first_of_five v a b c d e h = has_left (a ++ b ++ c ++ d) e v (has_left (a ++ b ++ c) d v (has_left (a ++ b) c v (has_left a b v h)))

second_of_five : {A : Type 0} (v : A) (a b c d e : List A) → Has b v → Has (a ++ b ++ c ++ d ++ e) v
second_of_five v a b c d e h = has_left (a ++ b ++ c ++ d) e v (has_left (a ++ b ++ c) d v (has_left (a ++ b) c v (has_right a b v h)))

third_of_five : {A : Type 0} (v : A) (a b c d e : List A) → Has c v → Has (a ++ b ++ c ++ d ++ e) v
third_of_five v a b c d e h = has_left (a ++ b ++ c ++ d) e v (has_left (a ++ b ++ c) d v (has_right (a ++ b) c v h))

fourth_of_five : {A : Type 0} (v : A) (a b c d e : List A) → Has d v → Has (a ++ b ++ c ++ d ++ e) v
fourth_of_five v a b c d e h = has_left (a ++ b ++ c ++ d) e v (has_right (a ++ b ++ c) d v h)

fifth_of_five : {A : Type 0} (v : A) (a b c d e : List A) → Has e v → Has (a ++ b ++ c ++ d ++ e) v
fifth_of_five v a b c d e h = has_right (a ++ b ++ c ++ d) e v h

module _ (facts : FactSet) (table : TaskTable) (is_table : IsTable facts table) (all : List Needed) (are : AreNeeded facts all) (a : Task) (u : ℕ) (numbered : number_of_task table a ≡ Some u) (at : IsAt facts table.spots.items a u) (out : List ℕ)
    (pushed : HasPushed facts table all u a.0 at.recipe at.told out) where
  here : (test : RecipeFacts → TaskFacts → Bool) → test at.recipe at.told ≡ true → tested facts a test ≡ true
  here test e = rw (at.recipe_is, at.told_is) e

  there : (test : RecipeFacts → TaskFacts → Bool) → tested facts a test ≡ true → test at.recipe at.told ≡ true
  there test e = rw (at.recipe_is, at.told_is) at e

  edges_here : AreEdges facts table a out
  edges_here =
      let by_after : List ℕ = numbers_of_tasks table (a.0 ∷ []) at.told.after in
      let by_words : List ℕ = filter_map (number_of_word facts table) at.told.depends in
      let by_built : List ℕ = numbers_of_tasks table (resolved (provider facts) (build_names facts at.recipe)) at.told.deptask in
      let by_run : List ℕ = numbers_of_tasks table (resolved (runtime_provider facts) (run_names at.recipe)) at.told.rdeptask in
      let by_below : List ℕ = others_of u (numbers_of_tasks table pushed.below at.told.recrdeptask) in
      let put : out ≡ by_after ++ by_words ++ by_built ++ by_run ++ by_below = pushed.put in
      let back : (v : ℕ) → Has (by_after ++ by_words ++ by_built ++ by_run ++ by_below) v → Has out v = λ v h. subst (λ (l : List ℕ). Has l v) (sym put) h in
      let words : (w : List ℕ × List ℕ) → Has at.told.depends w → (b : Task) × (word_task facts w ≡ Ok b) = λ w h. all_has (λ (x : List ℕ × List ℕ). (b : Task) × (word_task facts x ≡ Ok b)) at.told.depends w pushed.words h in
      record {
        sound = λ v h. from_five v by_after by_words by_built by_run by_below (order_sound facts table is_table a u at v) (depends_sound facts table is_table a u at v) (deptask_sound facts table is_table a u at v) (rdeptask_sound facts table is_table a u at v)
            (recrdeptask_sound facts table is_table all are a u at numbered pushed.below pushed.led v) (subst (λ (l : List ℕ). Has l v) put h);
        whole = λ b v number needs. elim needs [
          | by_order there e ↦ back v (first_of_five v by_after by_words by_built by_run by_below (order_whole facts table is_table a u at b v number e))
          | by_depends there e ↦ back v (second_of_five v by_after by_words by_built by_run by_below (depends_whole facts table is_table a u at words b v number e))
          | by_deptask there e ↦ back v (third_of_five v by_after by_words by_built by_run by_below (deptask_whole facts table is_table a u at b v number e))
          | by_rdeptask there e ↦ back v (fourth_of_five v by_after by_words by_built by_run by_below (rdeptask_whole facts table is_table a u at b v number e))
          | by_recrdeptask there e ↦ back v (fifth_of_five v by_after by_words by_built by_run by_below (recrdeptask_whole facts table is_table all are a u at numbered pushed.below pushed.led b v number e))
        ];
      }

  below_has : (n : ℕ) → GoesThrough facts a n → (names : RecipeFacts → List (List ℕ)) (name : List ℕ) → has_name facts names name n ≡ true → (r : RecipeFacts) × HasAllProviders facts r × (is_in name (names r) ≡ true)
  below_has n goes names name e = by_recipe (slice_get facts.recipes n) refl
    where
      some : length at.told.recrdeptask ≡ 0 → ⊥
      some = some_words at.told.recrdeptask (there (λ recipe t. not (is_empty t.recrdeptask)) goes.flag)

      by_recipe : (o : Option RecipeFacts) → slice_get facts.recipes n ≡ o → (r : RecipeFacts) × HasAllProviders facts r × (is_in name (names r) ≡ true)
      by_recipe None f = absurd (let g : false ≡ true = rw f at e in cc)
      by_recipe (Some r) f =
          let walk = goes.recipe in
          let held = (pushed.led some).whole n (walk.0, walk_map (RecipeNeeds facts) (RecipeEdge all) (needs_edge facts all are) walk.0 a.0 n walk.1) in
          (r, pushed.provided some n r held f, rw f at e)

  not_refused : (refusal : GraphRefusal) → IsRefused facts a refusal → ⊥
  not_refused refusal (word w e f) =
      let found = has_any (λ v. bytes_eq v.0 w.0 && bytes_eq v.1 w.1) at.told.depends (there (λ recipe t. list_any (λ v. bytes_eq v.0 w.0 && bytes_eq v.1 w.1) t.depends) e) in
      let v = found.0 in
      let first : v.0 ≡ w.0 = (bytes_decides v.0 w.0).0 (left_true (bytes_eq v.0 w.0) (bytes_eq v.1 w.1) found.2) in
      let second : v.1 ≡ w.1 = (bytes_decides v.1 w.1).0 (right_true (bytes_eq v.0 w.0) (bytes_eq v.1 w.1) found.2) in
      let same : v ≡ w = ap (λ (x : List ℕ). (x, v.1)) first ∙ ap (λ (x : List ℕ). (w.0, x)) second in
      let meant = all_has (λ (x : List ℕ × List ℕ). (b : Task) × (word_task facts x ≡ Ok b)) at.told.depends v pushed.words found.1 in
      let g : Ok meant.0 ≡ Err refusal = sym meant.1 ∙ ap (word_task facts) same ∙ f in
      cc
  not_refused refusal (to_build name pns e f same) =
      let test = there (λ recipe t. not (is_empty t.deptask) && is_in name (build_names facts recipe)) e in
      lacking (provider facts) (build_names facts at.recipe) name pns (right_true (not (is_empty at.told.deptask)) (is_in name (build_names facts at.recipe)) test) f
      (pushed.building (some_words at.told.deptask (left_true (not (is_empty at.told.deptask)) (is_in name (build_names facts at.recipe)) test)))
  not_refused refusal (to_run name pns e f same) =
      let test = there (λ recipe t. not (is_empty t.rdeptask) && is_in name (run_names recipe)) e in
      lacking (runtime_provider facts) (run_names at.recipe) name pns (right_true (not (is_empty at.told.rdeptask)) (is_in name (run_names at.recipe)) test) f
      (pushed.running (some_words at.told.rdeptask (left_true (not (is_empty at.told.rdeptask)) (is_in name (run_names at.recipe)) test)))
  not_refused refusal (below_to_build name pns n goes e f same) =
      let held = below_has n goes (build_names facts) name e in
      lacking (provider facts) (build_names facts held.0) name pns held.2 f held.1.building
  not_refused refusal (below_to_run name pns n goes e f same) =
      let held = below_has n goes run_names name e in
      lacking (runtime_provider facts) (run_names held.0) name pns held.2 f held.1.running

-- what the code read of the task
module _ (facts : FactSet) (table : TaskTable) (is_table : IsTable facts table) (all : List Needed) (are : AreNeeded facts all) (u n : ℕ) (r : RecipeFacts) (t : TaskFacts) (read : IsRead facts table.spots.items u n r t)
    (a : Task) (numbered : number_of_task table a ≡ Some u) where
  at_task : IsAt facts table.spots.items a u
  at_task = number_at facts table is_table a u numbered

  pushed_at : (out : List ℕ) → HasPushed facts table all u n r t out → HasPushed facts table all u a.0 at_task.recipe at_task.told out
  pushed_at out pushed =
      let same = same_read facts table.spots.items a u n r t at_task read in
      subst (λ m. HasPushed facts table all u m at_task.recipe at_task.told out) same.number
      (subst (λ (s : RecipeFacts). HasPushed facts table all u n s at_task.told out) same.recipe (subst (λ (v : TaskFacts). HasPushed facts table all u n r v out) same.told pushed))

  pub edges_are : (out : List ℕ) → HasPushed facts table all u n r t out → AreEdges facts table a out
  edges_are out pushed = edges_here facts table is_table all are a u numbered at_task out (pushed_at out pushed)

  pub edges_unrefused : (out : List ℕ) → HasPushed facts table all u n r t out → (refusal : GraphRefusal) → IsRefused facts a refusal → ⊥
  edges_unrefused out pushed = not_refused facts table is_table all are a u numbered at_task out (pushed_at out pushed)

  pub task_refused : (refusal : GraphRefusal) → LacksOf facts all n r t refusal → IsRefused facts a refusal
  task_refused refusal lacks = by_kind (subst (λ m. LacksOf facts all m at_task.recipe at_task.told refusal) same.number
      (subst (λ (s : RecipeFacts). LacksOf facts all n s at_task.told refusal) same.recipe (subst (λ (v : TaskFacts). LacksOf facts all n r v refusal) same.told lacks)))
    where
      same : IsSame n a.0 r at_task.recipe t at_task.told
      same = same_read facts table.spots.items a u n r t at_task read

      told_by : (test : RecipeFacts → TaskFacts → Bool) → test at_task.recipe at_task.told ≡ true → tested facts a test ≡ true
      told_by test e = rw (at_task.recipe_is, at_task.told_is) e

      through : (length at_task.told.recrdeptask ≡ 0 → ⊥) → (m : ℕ) → ((k : ℕ) × Walk (RecipeEdge all) k a.0 m) → GoesThrough facts a m
      through some m walk = record {
        flag = told_by (λ recipe v. not (is_empty v.recrdeptask)) (no_words at_task.told.recrdeptask some);
        recipe = (walk.0, walk_map (RecipeEdge all) (RecipeNeeds facts) (edge_needs facts all are) walk.0 a.0 m walk.1);
      }

      by_kind : LacksOf facts all a.0 at_task.recipe at_task.told refusal → IsRefused facts a refusal
      by_kind (in_word (k, w, lt, is, e)) =
          word w (told_by (λ recipe v. list_any (λ x. bytes_eq x.0 w.0 && bytes_eq x.1 w.1) v.depends) (any_has (λ x. bytes_eq x.0 w.0 && bytes_eq x.1 w.1) at_task.told.depends w (k, slice_there at_task.told.depends k w lt is) (both_true (bytes_eq w.0 w.0) (bytes_eq w.1 w.1) ((bytes_decides w.0 w.0).1 refl) ((bytes_decides w.1 w.1).1 refl)))) e
      by_kind (in_deptask some lack) = to_build lack.0 lack.2.0 (told_by (λ recipe v. not (is_empty v.deptask) && is_in lack.0 (build_names facts recipe)) (both_true (not (is_empty at_task.told.deptask)) (is_in lack.0 (build_names facts at_task.recipe)) (no_words at_task.told.deptask some) lack.1)) lack.2.1 lack.2.2
      by_kind (in_rdeptask some lack) = to_run lack.0 lack.2.0 (told_by (λ recipe v. not (is_empty v.rdeptask) && is_in lack.0 (run_names recipe)) (both_true (not (is_empty at_task.told.rdeptask)) (is_in lack.0 (run_names at_task.recipe)) (no_words at_task.told.rdeptask some) lack.1)) lack.2.1 lack.2.2
      by_kind (in_recrdeptask some from) = below from.0 (through some from.0 from.1) from.2.0 from.2.1 from.2.2
        where
          below : (m : ℕ) → GoesThrough facts a m → (s : RecipeFacts) → slice_get facts.recipes m ≡ Some s → LacksToBuild facts s refusal ⊎ LacksToRun facts s refusal → IsRefused facts a refusal
          below m goes s is (inl lack) = below_to_build lack.0 lack.2.0 m goes (rw is lack.1) lack.2.1 lack.2.2
          below m goes s is (inr lack) = below_to_run lack.0 lack.2.0 m goes (rw is lack.1) lack.2.1 lack.2.2

-- where the code reads the task with a number
pub record IsStanding (facts : FactSet) (spots : List Spot) (u : ℕ) : Type 0 where
  pub spot : Spot
  pub recipe : RecipeFacts
  pub told : TaskFacts
  pub spot_is : slice_get spots u ≡ Some spot
  pub recipe_is : slice_get facts.recipes spot.recipe ≡ Some recipe
  pub told_is : slice_get recipe.tasks spot.place ≡ Some told

pub standing : (facts : FactSet) (table : TaskTable) → IsTable facts table → (u : ℕ) → IsNumbered table u → IsStanding facts table.spots.items u
standing facts table is_table u (a, numbered) =
    let at = number_at facts table is_table a u numbered in
    record { spot = record { recipe = a.0; place = at.place }; recipe = at.recipe; told = at.told; spot_is = at.spot; recipe_is = at.recipe_is; told_is = at.stands }

-- what is read at a place is what stands there
read_one : {A : Type 0} (xs : List A) (k : ℕ) (x y : A) → slice_get xs k ≡ Some x → y ≡ get_or xs k y → y ≡ x
read_one xs k x y e is = is ∙ get_or_from_slice_get xs k x y e

module _ (facts : FactSet) (spots : List Spot) (u : ℕ) (stands : IsStanding facts spots u) (s : Spot) (read : s ≡ get_or spots u s) where
  pub spot_read : s ≡ stands.spot
  spot_read = read_one spots u stands.spot s stands.spot_is read

  pub recipe_within : (xs : List RecipeFacts) → xs ≡ facts.recipes → s.recipe < length xs
  recipe_within xs same = rw (same, spot_read) (place_within facts.recipes stands.spot.recipe stands.recipe stands.recipe_is)

  pub recipe_read : (xs : List RecipeFacts) (r : RecipeFacts) → xs ≡ facts.recipes → r ≡ get_or xs s.recipe r → r ≡ stands.recipe
  recipe_read xs r same is = read_one facts.recipes stands.spot.recipe stands.recipe r stands.recipe_is (is ∙ ap (λ (l : List RecipeFacts). get_or l s.recipe r) same ∙ ap (λ (x : Spot). get_or facts.recipes x.recipe r) spot_read)

  module _ (xs : List RecipeFacts) (r : RecipeFacts) (same : xs ≡ facts.recipes) (is : r ≡ get_or xs s.recipe r) (ts : List TaskFacts) (tasks : ts ≡ r.tasks) where
    pub task_within : s.place < length ts
    task_within = rw (tasks, recipe_read xs r same is, spot_read) (place_within stands.recipe.tasks stands.spot.place stands.told stands.told_is)

    pub is_read : (t : TaskFacts) → t ≡ get_or ts s.place t → IsRead facts spots u s.recipe r t
    is_read t at = record {
      place = s.place;
      spot = stands.spot_is ∙ ap Some (sym spot_read);
      recipe_is = ap (λ (x : Spot). slice_get facts.recipes x.recipe) spot_read ∙ stands.recipe_is ∙ ap Some (sym (recipe_read xs r same is));
      told_is = ap (λ (x : RecipeFacts). slice_get x.tasks s.place) (recipe_read xs r same is) ∙ slice_get-get_or stands.recipe.tasks s.place t task_in ∙ ap Some (sym (at ∙ ap (λ (l : List TaskFacts). get_or l s.place t) told_at));
    }
      where
        told_at : ts ≡ stands.recipe.tasks
        told_at = tasks ∙ ap (λ (x : RecipeFacts). x.tasks) (recipe_read xs r same is)

        task_in : s.place < length stands.recipe.tasks
        task_in = subst (λ (l : List TaskFacts). s.place < length l) told_at task_within

pub needed_here : (facts : FactSet) (all : List Needed) → AreNeeded facts all → (n : ℕ) (r : RecipeFacts) (d : Needed) → slice_get facts.recipes n ≡ Some r → d ≡ get_or all n d → n < length all → IsNeeded facts r d
needed_here facts all are n r d at is lt = are.each n r d at (slice_get-get_or all n d lt ∙ ap Some (sym is))

module _ (facts : FactSet) (table : TaskTable) (is_table : IsTable facts table) (all : List Needed) (are : AreNeeded facts all) (u n : ℕ) (r : RecipeFacts) (t : TaskFacts) (read : IsRead facts table.spots.items u n r t) where
  pub edges_ok : {T : Type 0} (items : T → List ℕ) (made : Result T GraphFault) → IfOk made (λ out. HasPushed facts table all u n r t (items out)) → IfOk made (λ out. HasEdges facts table u (items out))
  edges_ok items (Ok out) h = record {
    edges = λ a numbered. edges_are facts table is_table all are u n r t read a numbered (items out) h;
    whole = λ a refusal numbered. edges_unrefused facts table is_table all are u n r t read a numbered (items out) h refusal;
  }
  edges_ok items (Err fault) h = tt

  pub edges_err : {T : Type 0} → IsNumbered table u → (made : Result T GraphFault) → IfErr made (IsRefusalOf (LacksOf facts all n r t)) → IfErr made (IsRefusalOf (IsRefusedAt facts table u))
  edges_err (a, numbered) (Ok out) h = tt
  edges_err (a, numbered) (Err fault) h = refusal_weaker (LacksOf facts all n r t) (IsRefusedAt facts table u) (λ refusal lacks. (a, numbered, task_refused facts table is_table all are u n r t read a numbered refusal lacks)) fault h
