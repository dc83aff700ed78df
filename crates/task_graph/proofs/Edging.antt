-- The tasks that a task needs, as a set.
use Rattle.std.proofs.Common.{◌≡◌, sym, ◌∙◌, ap, subst, refl, arith, ℕ, zero, suc, ◌<◌, Bool, true, false, not, ◌||◌, ◌&&◌, List, [], ◌∷◌, ◌++◌, Some, None, Option, Result, Ok, Err, ◌⊎◌, inl, inr, bytes_eq, nat_eq, slice_get, length}
use Rattle.std.specs.List.{list_any, filter_map}
use Rattle.std.specs.Result.{result_ok}
use Rattle.std.specs.Cmp.Lexicographic.{bytes_decides}
use Rattle.meta_model.specs.declared.facts.FactSet.{FactSet}
use Rattle.meta_model.specs.declared.facts.RecipeFacts.{RecipeFacts}
use Rattle.meta_model.specs.declared.facts.TaskFacts.{TaskFacts}
use Rattle.meta_model.specs.Text.{is_in, is_empty}
use Rattle.meta_model.specs.Walks.{Walk}
use Rattle.meta_model.specs.Providers.{provider, runtime_provider, is_found as is_provider}
use Rattle.meta_model.specs.Needs.{Task, is_task, tested, build_names, run_names, builds_with, runs_with, RecipeNeeds, Needs, by_order, by_depends, by_deptask, by_rdeptask, by_recrdeptask, needs_by_order, needs_by_depends, needs_by_deptask, needs_by_rdeptask, NeedsByRecrdeptask}
use Rattle.meta_model.specs.GraphRefusal.{GraphRefusal, word_task}
use Rattle.task_graph.specs.declared.table.TaskTable.{TaskTable}
use Rattle.task_graph.specs.declared.needed.Needed.{Needed}
use Rattle.graph_walk.specs.Frontier.{Has, is_found}
use Rattle.task_graph.specs.Table.{IsTable, number_of_task}
use Rattle.task_graph.specs.Needed.{AreNeeded, resolved}
use Rattle.task_graph.specs.Below.{RecipeEdge, AreRecipesFrom}
use Rattle.task_graph.specs.Context.{numbers_of_tasks, number_of_word}
use Rattle.task_graph.specs.Edges.{others_of}
use Rattle.graph_walk.proofs.Finding.{same_numbers, place_within}
use Rattle.graph_walk.proofs.Searching.{has_found, found_has}
use Rattle.task_graph.proofs.Tabled.{IsAt, numbered_is_task, one_task}
use Rattle.task_graph.proofs.Members.{has_left, has_right, has_either, any_has, has_any, has_filter, filter_has, has_filter_map, filter_map_has, has_flat_map, flat_map_has, text_has, has_text}

-- the tasks of some names that recipes have
pub in_tasks : (table : TaskTable) (recipes : List ℕ) (names : List (List ℕ)) (v : ℕ) → Has (numbers_of_tasks table recipes names) v → (r : ℕ) × (name : List ℕ) × Has recipes r × (is_in name names ≡ true) × (number_of_task table (r, name) ≡ Some v)
in_tasks table recipes names v h =
    let outer = has_flat_map (λ name. filter_map (λ r. number_of_task table (r, name)) recipes) names v h in
    let inner = has_filter_map (λ r. number_of_task table (r, outer.0)) recipes v outer.2 in
    (inner.0, outer.0, inner.1, has_text names outer.0 outer.1, inner.2)

pub to_tasks : (table : TaskTable) (recipes : List ℕ) (names : List (List ℕ)) (r : ℕ) (name : List ℕ) (v : ℕ) → Has recipes r → is_in name names ≡ true → number_of_task table (r, name) ≡ Some v → Has (numbers_of_tasks table recipes names) v
to_tasks table recipes names r name v held among number =
    flat_map_has (λ n. filter_map (λ m. number_of_task table (m, n)) recipes) names name v (text_has names name among) (filter_map_has (λ m. number_of_task table (m, name)) recipes r v held number)

-- providers among those that are resolved
provided : (r : ℕ) (answer : Result ℕ (List (List ℕ))) → result_ok answer ≡ Some r → is_provider r answer ≡ true
provided r (Ok n) e = let same : n ≡ r = cc in grind (arith, same)
provided r (Err pns) e = absurd cc

of_provider : (r : ℕ) (answer : Result ℕ (List (List ℕ))) → is_provider r answer ≡ true → result_ok answer ≡ Some r
of_provider r (Ok n) e = ap Some (sym (same_numbers r n e))
of_provider r (Err pns) e = absurd cc

pub in_resolved : (provide : List ℕ → Result ℕ (List (List ℕ))) (names : List (List ℕ)) (r : ℕ) → Has (resolved provide names) r → list_any (λ name. is_provider r (provide name)) names ≡ true
in_resolved provide names r h =
    let found = has_filter_map (λ name. result_ok (provide name)) names r h in
    any_has (λ name. is_provider r (provide name)) names found.0 found.1 (provided r (provide found.0) found.2)

pub to_resolved : (provide : List ℕ → Result ℕ (List (List ℕ))) (names : List (List ℕ)) (r : ℕ) → list_any (λ name. is_provider r (provide name)) names ≡ true → Has (resolved provide names) r
to_resolved provide names r e =
    let found = has_any (λ name. is_provider r (provide name)) names e in
    filter_map_has (λ name. result_ok (provide name)) names found.0 r found.1 (of_provider r (provide found.0) found.2)

both_true : (a b : Bool) → a ≡ true → b ≡ true → (a && b) ≡ true
both_true a b e f = rw (e, f) refl

left_true : (a b : Bool) → (a && b) ≡ true → a ≡ true
left_true true b e = refl
left_true false b e = absurd cc

right_true : (a b : Bool) → (a && b) ≡ true → b ≡ true
right_true true b e = e
right_true false b e = absurd cc

alike : (n : ℕ) → nat_eq n n ≡ true
alike n = grind arith

module _ (facts : FactSet) (table : TaskTable) (is_table : IsTable facts table) (a : Task) (u : ℕ) (at : IsAt facts table.spots.items a u) where
  told : (test : RecipeFacts → TaskFacts → Bool) → tested facts a test ≡ test at.recipe at.told
  told test = rw (at.recipe_is, at.told_is) refl

  -- `addtask`
  pub order_sound : (v : ℕ) → Has (numbers_of_tasks table (a.0 ∷ []) at.told.after) v → (b : Task) × (number_of_task table b ≡ Some v) × Needs facts a b
  order_sound v h =
      let found = in_tasks table (a.0 ∷ []) at.told.after v h in
      let b : Task = (found.0, found.1) in
      (b, found.4, by_order (numbered_is_task facts table is_table b v found.4) (told (λ recipe t. nat_eq a.0 b.0 && is_in b.1 t.after) ∙ both_true (nat_eq a.0 b.0) (is_in b.1 at.told.after) (own found.0 found.2) found.3))
    where
      own : (r : ℕ) → Has (a.0 ∷ []) r → nat_eq a.0 r ≡ true
      own r (zero, e) = let same : a.0 ≡ r = cc in ap (nat_eq a.0) (sym same) ∙ alike a.0
      own r (suc k, e) = absurd cc

  pub order_whole : (b : Task) (v : ℕ) → number_of_task table b ≡ Some v → needs_by_order facts a b ≡ true → Has (numbers_of_tasks table (a.0 ∷ []) at.told.after) v
  order_whole b v number e =
      let test = sym (told (λ recipe t. nat_eq a.0 b.0 && is_in b.1 t.after)) ∙ e in
      let same : a.0 ≡ b.0 = same_numbers a.0 b.0 (left_true (nat_eq a.0 b.0) (is_in b.1 at.told.after) test) in
      to_tasks table (a.0 ∷ []) at.told.after b.0 b.1 v (0, ap Some same) (right_true (nat_eq a.0 b.0) (is_in b.1 at.told.after) test) number

  -- `[deptask]` and `[rdeptask]`
  pub deptask_sound : (v : ℕ) → Has (numbers_of_tasks table (resolved (provider facts) (build_names facts at.recipe)) at.told.deptask) v → (b : Task) × (number_of_task table b ≡ Some v) × Needs facts a b
  deptask_sound v h =
      let found = in_tasks table (resolved (provider facts) (build_names facts at.recipe)) at.told.deptask v h in
      let b : Task = (found.0, found.1) in
      (b, found.4, by_deptask (numbered_is_task facts table is_table b v found.4) (told (λ recipe t. is_in b.1 t.deptask && builds_with facts b.0 recipe) ∙ both_true (is_in b.1 at.told.deptask) (builds_with facts b.0 at.recipe) found.3 (in_resolved (provider facts) (build_names facts at.recipe) found.0 found.2)))

  pub deptask_whole : (b : Task) (v : ℕ) → number_of_task table b ≡ Some v → needs_by_deptask facts a b ≡ true → Has (numbers_of_tasks table (resolved (provider facts) (build_names facts at.recipe)) at.told.deptask) v
  deptask_whole b v number e =
      let test = sym (told (λ recipe t. is_in b.1 t.deptask && builds_with facts b.0 recipe)) ∙ e in
      to_tasks table (resolved (provider facts) (build_names facts at.recipe)) at.told.deptask b.0 b.1 v (to_resolved (provider facts) (build_names facts at.recipe) b.0 (right_true (is_in b.1 at.told.deptask) (builds_with facts b.0 at.recipe) test)) (left_true (is_in b.1 at.told.deptask) (builds_with facts b.0 at.recipe) test) number

  pub rdeptask_sound : (v : ℕ) → Has (numbers_of_tasks table (resolved (runtime_provider facts) (run_names at.recipe)) at.told.rdeptask) v → (b : Task) × (number_of_task table b ≡ Some v) × Needs facts a b
  rdeptask_sound v h =
      let found = in_tasks table (resolved (runtime_provider facts) (run_names at.recipe)) at.told.rdeptask v h in
      let b : Task = (found.0, found.1) in
      (b, found.4, by_rdeptask (numbered_is_task facts table is_table b v found.4) (told (λ recipe t. is_in b.1 t.rdeptask && runs_with facts b.0 recipe) ∙ both_true (is_in b.1 at.told.rdeptask) (runs_with facts b.0 at.recipe) found.3 (in_resolved (runtime_provider facts) (run_names at.recipe) found.0 found.2)))

  pub rdeptask_whole : (b : Task) (v : ℕ) → number_of_task table b ≡ Some v → needs_by_rdeptask facts a b ≡ true → Has (numbers_of_tasks table (resolved (runtime_provider facts) (run_names at.recipe)) at.told.rdeptask) v
  rdeptask_whole b v number e =
      let test = sym (told (λ recipe t. is_in b.1 t.rdeptask && runs_with facts b.0 recipe)) ∙ e in
      to_tasks table (resolved (runtime_provider facts) (run_names at.recipe)) at.told.rdeptask b.0 b.1 v (to_resolved (runtime_provider facts) (run_names at.recipe) b.0 (right_true (is_in b.1 at.told.rdeptask) (runs_with facts b.0 at.recipe) test)) (left_true (is_in b.1 at.told.rdeptask) (runs_with facts b.0 at.recipe) test) number

-- `[depends]`

word_ok : (facts : FactSet) (w : List ℕ × List ℕ) (b : Task) → word_task facts w ≡ Ok b → (is_provider b.0 (provider facts w.0) ≡ true) × (w.1 ≡ b.1)
word_ok facts w b e = by_word (is_empty w.1) (provider facts w.0) refl refl
  where
    by_task : (n : ℕ) (c : Bool) → is_task facts (n, w.1) ≡ c → is_empty w.1 ≡ false → provider facts w.0 ≡ Ok n → (is_provider b.0 (provider facts w.0) ≡ true) × (w.1 ≡ b.1)
    by_task n true t none p =
        let f : Ok (n, w.1) ≡ Ok b = rw (none, p, t) at e in
        let same : (n, w.1) ≡ b = cc in
        let number : n ≡ b.0 = ap (λ (x : Task). x.0) same in
        (ap (is_provider b.0) p ∙ ap (λ m. nat_eq b.0 m) number ∙ alike b.0, ap (λ (x : Task). x.1) same)
    by_task n false t none p = absurd (let f = rw (none, p, t) at e in cc)

    by_word : (c : Bool) (r : Result ℕ (List (List ℕ))) → is_empty w.1 ≡ c → provider facts w.0 ≡ r → (is_provider b.0 (provider facts w.0) ≡ true) × (w.1 ≡ b.1)
    by_word true r none p = absurd (let f = rw none at e in cc)
    by_word false (Ok n) none p = by_task n (is_task facts (n, w.1)) refl none p
    by_word false (Err pns) none p = absurd (let f = rw (none, p) at e in cc)

word_number : (facts : FactSet) (table : TaskTable) (w : List ℕ × List ℕ) (v : ℕ) → number_of_word facts table w ≡ Some v → (b : Task) × (word_task facts w ≡ Ok b) × (number_of_task table b ≡ Some v)
word_number facts table w v e = by_word (word_task facts w) refl
  where
    by_word : (r : Result Task GraphRefusal) → word_task facts w ≡ r → (b : Task) × (word_task facts w ≡ Ok b) × (number_of_task table b ≡ Some v)
    by_word (Ok b) f = (b, f, rw f at e)
    by_word (Err refusal) f = absurd (let g : None ≡ Some v = rw f at e in cc)

one_provider : (m n : ℕ) (r : Result ℕ (List (List ℕ))) → is_provider m r ≡ true → is_provider n r ≡ true → m ≡ n
one_provider m n r e f = let g : Some m ≡ Some n = sym (of_provider m r e) ∙ of_provider n r f in cc

module _ (facts : FactSet) (table : TaskTable) (is_table : IsTable facts table) (a : Task) (u : ℕ) (at : IsAt facts table.spots.items a u) where
  pub depends_sound : (v : ℕ) → Has (filter_map (number_of_word facts table) at.told.depends) v → (b : Task) × (number_of_task table b ≡ Some v) × Needs facts a b
  depends_sound v h =
      let found = has_filter_map (number_of_word facts table) at.told.depends v h in
      let word = word_number facts table found.0 v found.2 in
      let b : Task = word.0 in
      let is = word_ok facts found.0 b word.1 in (
        b,
        word.2,
        by_depends (numbered_is_task facts table is_table b v word.2)
            (rw (at.recipe_is, at.told_is) (any_has (λ w. is_provider b.0 (provider facts w.0) && bytes_eq w.1 b.1) at.told.depends found.0 found.1 (both_true (is_provider b.0 (provider facts found.0.0)) (bytes_eq found.0.1 b.1) is.0 ((bytes_decides found.0.1 b.1).1 is.1)))),
      )

  pub depends_whole : ((w : List ℕ × List ℕ) → Has at.told.depends w → (b : Task) × (word_task facts w ≡ Ok b)) → (b : Task) (v : ℕ) → number_of_task table b ≡ Some v → needs_by_depends facts a b ≡ true → Has (filter_map (number_of_word facts table) at.told.depends) v
  depends_whole all b v number e =
      let test : list_any (λ (w : List ℕ × List ℕ). is_provider b.0 (provider facts w.0) && bytes_eq w.1 b.1) at.told.depends ≡ true = rw (at.recipe_is, at.told_is) at e in
      let found = has_any (λ w. is_provider b.0 (provider facts w.0) && bytes_eq w.1 b.1) at.told.depends test in
      let meant = all found.0 found.1 in
      let is = word_ok facts found.0 meant.0 meant.1 in
      let recipe : meant.0.0 ≡ b.0 = one_provider meant.0.0 b.0 (provider facts found.0.0) is.0 (left_true (is_provider b.0 (provider facts found.0.0)) (bytes_eq found.0.1 b.1) found.2) in
      let name : meant.0.1 ≡ b.1 = sym is.1 ∙ (bytes_decides found.0.1 b.1).0 (right_true (is_provider b.0 (provider facts found.0.0)) (bytes_eq found.0.1 b.1) found.2) in
      let same : meant.0 ≡ b = ap (λ n. (n, meant.0.1)) recipe ∙ ap (λ q. (b.0, q)) name in
      let here : number_of_word facts table found.0 ≡ Some v = rw (meant.1, same) number in
      filter_map_has (number_of_word facts table) at.told.depends found.0 v found.1 here

-- `[recrdeptask]`

pub walk_map : (R S : ℕ → ℕ → Type 0) → ((m n : ℕ) → R m n → S m n) → (k a b : ℕ) → Walk R k a b → Walk S k a b
walk_map R S to zero a b w = w
walk_map R S to (suc k) a b (c, first, rest) = (c, to a c first, walk_map R S to k c b rest)

there : {A : Type 0} (xs : List A) (k : ℕ) → k < length xs → (x : A) × (slice_get xs k ≡ Some x)
there [] k lt = absurd (omega (arith, lt))
there (x ∷ xs) zero lt = (x, refl)
there (x ∷ xs) (suc k) lt = there xs k (omega (arith, lt))

or_left_true : (b c : Bool) → b ≡ true → (b || c) ≡ true
or_left_true b c e = rw e refl

or_right_true : (b c : Bool) → c ≡ true → (b || c) ≡ true
or_right_true true c e = refl
or_right_true false c e = e

or_either : (b c : Bool) → (b || c) ≡ true → (b ≡ true) ⊎ (c ≡ true)
or_either true c e = inl refl
or_either false c e = inr e

module _ (facts : FactSet) (all : List Needed) (are : AreNeeded facts all) where
  pub edge_needs : (m n : ℕ) → RecipeEdge all m n → RecipeNeeds facts m n
  edge_needs m n e = by_place (slice_get all m) refl
    where
      by_place : (o : Option Needed) → slice_get all m ≡ o → RecipeNeeds facts m n
      by_place None f = absurd (let g : false ≡ true = rw f at e in cc)
      by_place (Some d) f =
          let recipe = there facts.recipes m (omega (arith, place_within all m d f, are.long)) in
          let is = are.each m recipe.0 d recipe.1 f in
          let found : is_found (d.building.found.items ++ d.running.found.items) n ≡ true = rw f at e in
          let needs : (builds_with facts n recipe.0 || runs_with facts n recipe.0) ≡ true = elim (has_either d.building.found.items d.running.found.items n (has_found (d.building.found.items ++ d.running.found.items) n found)) [
            | inl h ↦ or_left_true (builds_with facts n recipe.0) (runs_with facts n recipe.0) (in_resolved (provider facts) (build_names facts recipe.0) n (subst (λ (l : List ℕ). Has l n) is.building.found h))
            | inr h ↦ or_right_true (builds_with facts n recipe.0) (runs_with facts n recipe.0) (in_resolved (runtime_provider facts) (run_names recipe.0) n (subst (λ (l : List ℕ). Has l n) is.running.found h))
          ] in
          rw recipe.1 needs

  pub needs_edge : (m n : ℕ) → RecipeNeeds facts m n → RecipeEdge all m n
  needs_edge m n e = by_place (slice_get facts.recipes m) refl
    where
      by_place : (o : Option RecipeFacts) → slice_get facts.recipes m ≡ o → RecipeEdge all m n
      by_place None f = absurd (let g : false ≡ true = rw f at e in cc)
      by_place (Some recipe) f =
          let needed = there all m (omega (arith, place_within facts.recipes m recipe f, are.long)) in
          let is = are.each m recipe needed.0 f needed.1 in
          let test : (builds_with facts n recipe || runs_with facts n recipe) ≡ true = rw f at e in
          let held : Has (needed.0.building.found.items ++ needed.0.running.found.items) n = elim (or_either (builds_with facts n recipe) (runs_with facts n recipe) test) [
            | inl h ↦ has_left needed.0.building.found.items needed.0.running.found.items n (subst (λ (l : List ℕ). Has l n) (sym is.building.found) (to_resolved (provider facts) (build_names facts recipe) n h))
            | inr h ↦ has_right needed.0.building.found.items needed.0.running.found.items n (subst (λ (l : List ℕ). Has l n) (sym is.running.found) (to_resolved (runtime_provider facts) (run_names recipe) n h))
          ] in
          rw needed.1 (found_has (needed.0.building.found.items ++ needed.0.running.found.items) n held.0 held.1)

other_number : (v u : ℕ) → (v ≡ u → ⊥) → not (nat_eq v u) ≡ true
other_number v u apart = by_same (nat_eq v u) refl
  where
    by_same : (b : Bool) → nat_eq v u ≡ b → not (nat_eq v u) ≡ true
    by_same true e = absurd (apart (same_numbers v u e))
    by_same false e = rw e refl

not_other : (v u : ℕ) → not (nat_eq v u) ≡ true → v ≡ u → ⊥
not_other v u e same = let f : not (nat_eq v u) ≡ false = ap not (ap (λ n. nat_eq n u) same ∙ alike u) in let g : true ≡ false = sym e ∙ f in cc

same_task : (a b : Task) → (nat_eq a.0 b.0 && bytes_eq a.1 b.1) ≡ true → a ≡ b
same_task a b e = ap (λ n. (n, a.1)) (same_numbers a.0 b.0 (left_true (nat_eq a.0 b.0) (bytes_eq a.1 b.1) e)) ∙ ap (λ q. (b.0, q)) ((bytes_decides a.1 b.1).0 (right_true (nat_eq a.0 b.0) (bytes_eq a.1 b.1) e))

module _ (facts : FactSet) (table : TaskTable) (is_table : IsTable facts table) (all : List Needed) (are : AreNeeded facts all) (a : Task) (u : ℕ) (at : IsAt facts table.spots.items a u) (numbered : number_of_task table a ≡ Some u)
    (below : List ℕ) (led : (length at.told.recrdeptask ≡ 0 → ⊥) → AreRecipesFrom all a.0 below) where
  has_words : (name : List ℕ) → is_in name at.told.recrdeptask ≡ true → length at.told.recrdeptask ≡ 0 → ⊥
  has_words name e none = no_words at.told.recrdeptask none e
    where
      no_words : (words : List (List ℕ)) → length words ≡ 0 → is_in name words ≡ true → ⊥
      no_words [] n f = let g : false ≡ true = f in cc
      no_words (w ∷ ws) n f = let g : suc (length ws) ≡ 0 = n in cc

  pub recrdeptask_sound : (v : ℕ) → Has (others_of u (numbers_of_tasks table below at.told.recrdeptask)) v → (b : Task) × (number_of_task table b ≡ Some v) × Needs facts a b
  recrdeptask_sound v h =
      let kept = has_filter (λ n. not (nat_eq n u)) (numbers_of_tasks table below at.told.recrdeptask) v h in
      let found = in_tasks table below at.told.recrdeptask v kept.0 in
      let b : Task = (found.0, found.1) in
      let walk = (led (has_words found.1 found.3)).sound found.0 found.2 in
      let other : (nat_eq a.0 b.0 && bytes_eq a.1 b.1) ≡ false = differ b found.4 (not_other v u kept.1) (nat_eq a.0 b.0 && bytes_eq a.1 b.1) refl in (
        b,
        found.4,
        by_recrdeptask (numbered_is_task facts table is_table b v found.4) (record {
          word = rw (at.recipe_is, at.told_is) found.3;
          recipe = (walk.0, walk_map (RecipeEdge all) (RecipeNeeds facts) (edge_needs facts all are) walk.0 a.0 found.0 walk.1);
          other = other;
        }),
      )
    where
      differ : (b : Task) → number_of_task table b ≡ Some v → (v ≡ u → ⊥) → (c : Bool) → (nat_eq a.0 b.0 && bytes_eq a.1 b.1) ≡ c → (nat_eq a.0 b.0 && bytes_eq a.1 b.1) ≡ false
      differ b number apart true e = absurd (apart (let f : Some u ≡ Some v = sym numbered ∙ ap (number_of_task table) (same_task a b e) ∙ number in let g : u ≡ v = cc in sym g))
      differ b number apart false e = e

  pub recrdeptask_whole : (b : Task) (v : ℕ) → number_of_task table b ≡ Some v → NeedsByRecrdeptask facts a b → Has (others_of u (numbers_of_tasks table below at.told.recrdeptask)) v
  recrdeptask_whole b v number needs =
      let word : is_in b.1 at.told.recrdeptask ≡ true = rw (at.recipe_is, at.told_is) at needs.word in
      let held = (led (has_words b.1 word)).whole b.0 (needs.recipe.0, walk_map (RecipeNeeds facts) (RecipeEdge all) (needs_edge facts all are) needs.recipe.0 a.0 b.0 needs.recipe.1) in
      filter_has (λ n. not (nat_eq n u)) (numbers_of_tasks table below at.told.recrdeptask) v (to_tasks table below at.told.recrdeptask b.0 b.1 v held word number)
      (other_number v u (λ same. (let f : a ≡ b = one_task facts table is_table a b u numbered (number ∙ ap Some same) in
      let g : (nat_eq a.0 a.0 && bytes_eq a.1 a.1) ≡ false = ap (λ (x : Task). nat_eq a.0 x.0 && bytes_eq a.1 x.1) f ∙ needs.other in
      let t : (nat_eq a.0 a.0 && bytes_eq a.1 a.1) ≡ true = both_true (nat_eq a.0 a.0) (bytes_eq a.1 a.1) (alike a.0) ((bytes_decides a.1 a.1).1 refl) in
      let z : true ≡ false = sym t ∙ g in cc)))
