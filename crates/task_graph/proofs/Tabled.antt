-- The table of tasks, as it grows, and what it tells.
use Rattle.std.proofs.Common.{◌≡◌, sym, ◌∙◌, ap, subst, refl, arith, ℕ, zero, suc, ◌+◌, ◌-◌, ◌<◌, ◌≤◌, Bool, true, false, List, [], ◌∷◌, ◌++◌, length, take, get_or, Option, Some, None, is_some, if◌then◌else◌, bytes_eq, ◌⊎◌, inl, inr, slice_get, add-one, length-take}
use Rattle.std.specs.Option.{option_and_then}
use Rattle.std.specs.Prelude.{find}
use Rattle.std.specs.Cmp.Lexicographic.{bytes_decides}
use Rattle.std.proofs.lemmas.Bool.{cases_eq, cases_lt}
use Rattle.std.proofs.lemmas.Option.{slice_get-get_or}
use Rattle.meta_model.specs.declared.facts.FactSet.{FactSet}
use Rattle.meta_model.specs.declared.facts.RecipeFacts.{RecipeFacts}
use Rattle.meta_model.specs.declared.facts.TaskFacts.{TaskFacts}
use Rattle.meta_model.specs.Needs.{Task, task_of, is_task}
use Rattle.task_graph.specs.declared.table.Spot.{Spot}
use Rattle.task_graph.specs.declared.table.TaskTable.{TaskTable}
use Rattle.task_graph.specs.Only.{first_place}
use Rattle.task_graph.specs.Table.{has_name, HasTasks, KeepsSpots, IsTable, number_of_task}
use Rattle.task_graph.proofs.Indexed.{first_more_from}
use Rattle.graph_walk.proofs.Finding.{place_within, slice_push, slice_last}

-- one more task of a recipe
pub task_more : (spots next : List Spot) (recipe base : ℕ) (tasks : List TaskFacts) (i : ℕ) (t : TaskFacts) (name : List ℕ) (old new : List ℕ → Option ℕ) → i < length tasks → t ≡ get_or tasks i t → name ≡ t.task
    → length spots ≡ base + i → next ≡ spots ++ record { recipe = recipe; place = i } ∷ [] → HasTasks spots recipe base (take i tasks) old
    → ((q : List ℕ) → new q ≡ (if is_some (old q) then old q else (if bytes_eq name q then Some (length spots) else None)))
    → HasTasks next recipe base (take (i + 1) tasks) new
task_more spots next recipe base tasks i t name old new lt is same long grown before noted = record {
  named = λ q. noted q ∙ rw (before.named q, same, long, is) (sym (ap (λ n. first_place (has_name q) base (take n tasks)) (add-one i) ∙ first_more_from (has_name q) base tasks i t lt));
  placed = λ j inside. subst (λ (xs : List Spot). slice_get xs (base + j) ≡ Some (record { recipe = recipe; place = j })) (sym grown) (by_place j inside (cases_eq j i));
}
  where
    by_place : (j : ℕ) → j < length (take (i + 1) tasks) → (j ≡ i) ⊎ (j ≡ i → ⊥) → slice_get (spots ++ record { recipe = recipe; place = i } ∷ []) (base + j) ≡ Some (record { recipe = recipe; place = j })
    by_place j inside (inl last) =
        let place : base + j ≡ length spots = omega (arith, long, last) in
        rw place (slice_last spots (record { recipe = recipe; place = i }) ∙ ap (λ n. Some (record { recipe = recipe; place = n })) (sym last))
    by_place j inside (inr front) =
        let within : j < length (take i tasks) = omega (arith, inside, front, length-take (i + 1) tasks, length-take i tasks, lt) in
        slice_push spots (record { recipe = recipe; place = i }) (record { recipe = recipe; place = j }) (base + j) (before.placed j within)

pub spots_more : (old mid new : List Spot) (s : Spot) → KeepsSpots old mid → new ≡ mid ++ s ∷ [] → KeepsSpots old new
spots_more old mid new s kept grown k x e = subst (λ (xs : List Spot). slice_get xs k ≡ Some x) (sym grown) (slice_push mid s x k (kept k x e))

pub tasks_kept : (old new : List Spot) (recipe base : ℕ) (tasks : List TaskFacts) (find : List ℕ → Option ℕ) → KeepsSpots old new → HasTasks old recipe base tasks find → HasTasks new recipe base tasks find
tasks_kept old new recipe base tasks find kept has = record { named = has.named; placed = λ i lt. kept (base + i) (record { recipe = recipe; place = i }) (has.placed i lt) }

-- what the table tells

-- the first element that passes stands at its place
found_first : {A : Type 0} (test : A → Bool) (k u : ℕ) (xs : List A) → first_place test k xs ≡ Some u → (k ≤ u) × ((x : A) × (slice_get xs (u - k) ≡ Some x) × (find test xs ≡ Some x) × (test x ≡ true))
found_first test k u [] e = absurd cc
found_first {A} test k u (x ∷ xs) e = by_test (test x) refl (found_first test (suc k) u xs)
  where
    at_suc : (m : ℕ) (y : A) → m ≡ suc (u - suc k) → slice_get xs (u - suc k) ≡ Some y → slice_get (x ∷ xs) m ≡ Some y
    at_suc m y is f = rw is f

    by_test : (b : Bool) → test x ≡ b → (first_place test (suc k) xs ≡ Some u → (suc k ≤ u) × ((y : A) × (slice_get xs (u - suc k) ≡ Some y) × (find test xs ≡ Some y) × (test y ≡ true)))
        → (k ≤ u) × ((y : A) × (slice_get (x ∷ xs) (u - k) ≡ Some y) × (find test (x ∷ xs) ≡ Some y) × (test y ≡ true))
    by_test true t later =
        let f : Some k ≡ Some u = rw t at e in
        let same : k ≡ u = cc in
        let place : u - k ≡ 0 = omega (arith, same) in
        (omega (arith, same), (x, rw place refl, rw t refl, t))
    by_test false t later =
        let found = later (rw t at e) in
        (omega (arith, found.0), (found.1.0, at_suc (u - k) found.1.0 (omega (arith, found.0)) found.1.1, rw t found.1.2, found.1.3))

found_none : {A : Type 0} (test : A → Bool) (k : ℕ) (xs : List A) → first_place test k xs ≡ None → find test xs ≡ None
found_none test k [] e = refl
found_none test k (x ∷ xs) e = by_test (test x) refl (found_none test (suc k) xs)
  where
    by_test : (b : Bool) → test x ≡ b → (first_place test (suc k) xs ≡ None → find test xs ≡ None) → find test (x ∷ xs) ≡ None
    by_test true t later = absurd (let f : Some k ≡ None = rw t at e in cc)
    by_test false t later = rw t (later (rw t at e))

-- the task with a number: its recipe, what the recipe says of it, and where it stands
pub record IsAt (facts : FactSet) (spots : List Spot) (a : Task) (u : ℕ) : Type 0 where
  pub recipe : RecipeFacts
  pub told : TaskFacts
  pub place : ℕ
  pub recipe_is : slice_get facts.recipes a.0 ≡ Some recipe
  pub told_is : task_of a.1 recipe ≡ Some told
  pub stands : slice_get recipe.tasks place ≡ Some told
  pub named : bytes_eq told.task a.1 ≡ true
  pub spot : slice_get spots u ≡ Some (record { recipe = a.0; place = place })

module _ (facts : FactSet) (table : TaskTable) (is_table : IsTable facts table) where
  recipe_there : (r u : ℕ) (q : List ℕ) → number_of_task table (r, q) ≡ Some u → (recipe : RecipeFacts) × (slice_get facts.recipes r ≡ Some recipe)
  recipe_there r u q e = by_place (cases_lt r (length facts.recipes))
    where
      past : {A : Type 0} (xs : List A) (k : ℕ) → length xs ≤ k → slice_get xs k ≡ None
      past [] k le = refl
      past (x ∷ xs) zero le = absurd (omega (arith, le))
      past (x ∷ xs) (suc k) le = past xs k (omega (arith, le))

      there : {A : Type 0} (xs : List A) (k : ℕ) → k < length xs → (x : A) × (slice_get xs k ≡ Some x)
      there [] k lt = absurd (omega (arith, lt))
      there (x ∷ xs) zero lt = (x, refl)
      there (x ∷ xs) (suc k) lt = there xs k (omega (arith, lt))

      by_place : (r < length facts.recipes) ⊎ (length facts.recipes ≤ r) → (recipe : RecipeFacts) × (slice_get facts.recipes r ≡ Some recipe)
      by_place (inl lt) = there facts.recipes r lt
      by_place (inr le) = absurd (let none : slice_get table.places.items r ≡ None = past table.places.items r (omega (arith, le, is_table.long)) in let f : None ≡ Some u = rw none at e in cc)

  pub number_at : (a : Task) (u : ℕ) → number_of_task table a ≡ Some u → IsAt facts table.spots.items a u
  number_at a u e =
      let there = recipe_there a.0 u a.1 e in
      let tasks = is_table.each a.0 there.0 there.1 in
      let first = found_first (has_name a.1) tasks.0 u there.0.tasks (sym (tasks.1.named a.1) ∙ e) in
      let inside : u - tasks.0 < length there.0.tasks = place_within there.0.tasks (u - tasks.0) first.1.0 first.1.1 in
      let here : tasks.0 + (u - tasks.0) ≡ u = omega (arith, first.0) in
      record {
        recipe = there.0;
        told = first.1.0;
        place = u - tasks.0;
        recipe_is = there.1;
        told_is = first.1.2;
        stands = first.1.1;
        named = first.1.3;
        spot = subst (λ n. slice_get table.spots.items n ≡ Some (record { recipe = a.0; place = u - tasks.0 })) here (tasks.1.placed (u - tasks.0) inside);
      }

  pub numbered_is_task : (a : Task) (u : ℕ) → number_of_task table a ≡ Some u → is_task facts a ≡ true
  numbered_is_task a u e = let at = number_at a u e in rw (at.recipe_is, at.told_is) refl

  pub unnumbered : (a : Task) → number_of_task table a ≡ None → is_task facts a ≡ false
  unnumbered a e = by_recipe (slice_get facts.recipes a.0) refl
    where
      by_recipe : (o : Option RecipeFacts) → slice_get facts.recipes a.0 ≡ o → is_task facts a ≡ false
      by_recipe None f = rw f refl
      by_recipe (Some recipe) f =
          let tasks = is_table.each a.0 recipe f in
          let none : task_of a.1 recipe ≡ None = found_none (has_name a.1) tasks.0 recipe.tasks (sym (tasks.1.named a.1) ∙ e) in
          rw (f, none) refl

  pub task_numbered : (a : Task) → is_task facts a ≡ true → (u : ℕ) × (number_of_task table a ≡ Some u)
  task_numbered a t = by_number (number_of_task table a) refl
    where
      by_number : (o : Option ℕ) → number_of_task table a ≡ o → (u : ℕ) × (number_of_task table a ≡ Some u)
      by_number None e = absurd (let f : false ≡ true = sym (unnumbered a e) ∙ t in cc)
      by_number (Some u) e = (u, e)

  -- different tasks have different numbers
  pub one_task : (a b : Task) (u : ℕ) → number_of_task table a ≡ Some u → number_of_task table b ≡ Some u → a ≡ b
  one_task a b u e f =
      let x = number_at a u e in
      let y = number_at b u f in
      let s : Some (record { recipe = a.0; place = x.place }) ≡ Some (record { recipe = b.0; place = y.place }) = sym x.spot ∙ y.spot in
      let t : record { recipe = a.0; place = x.place } ≡ record { recipe = b.0; place = y.place } = cc in
      let recipe_number : a.0 ≡ b.0 = ap (λ (v : Spot). v.recipe) t in
      let place : x.place ≡ y.place = ap (λ (v : Spot). v.place) t in
      let r : Some x.recipe ≡ Some y.recipe = sym x.recipe_is ∙ ap (slice_get facts.recipes) recipe_number ∙ y.recipe_is in
      let recipe : x.recipe ≡ y.recipe = cc in
      let g : Some x.told ≡ Some y.told = sym x.stands ∙ ap (λ (v : RecipeFacts). slice_get v.tasks x.place) recipe ∙ ap (slice_get y.recipe.tasks) place ∙ y.stands in
      let told : x.told ≡ y.told = cc in
      let name : a.1 ≡ b.1 = sym ((bytes_decides x.told.task a.1).0 x.named) ∙ ap (λ (v : TaskFacts). v.task) told ∙ (bytes_decides y.told.task b.1).0 y.named in
      ap (λ n. (n, a.1)) recipe_number ∙ ap (λ q. (b.0, q)) name

-- one more recipe

module _ {M : Type 0} (look : M → List ℕ → Option ℕ) where
  abbrev pub look_in : List M → ℕ → List ℕ → Option ℕ
  look_in maps r q = option_and_then (λ m. look m q) (slice_get maps r)

  pub recipe_more : (recipes ys : List RecipeFacts) (old new : List Spot) (maps next : List M) (map : M) (n base : ℕ) (x : RecipeFacts) (tasks : List TaskFacts) → ys ≡ recipes → n < length ys → x ≡ get_or ys n x → tasks ≡ x.tasks
      → length maps ≡ n → next ≡ maps ++ map ∷ [] → KeepsSpots old new → HasTasks new n base tasks (look map)
      → ((r : ℕ) (recipe : RecipeFacts) → r < n → slice_get recipes r ≡ Some recipe → (b : ℕ) × HasTasks old r b recipe.tasks (look_in maps r))
      → (r : ℕ) (recipe : RecipeFacts) → r < n + 1 → slice_get recipes r ≡ Some recipe → (b : ℕ) × HasTasks new r b recipe.tasks (look_in next r)
  recipe_more recipes ys old new maps next map n base x tasks same lt is told long grown kept has before r recipe within at = by_place (cases_eq r n)
    where
      by_place : (r ≡ n) ⊎ (r ≡ n → ⊥) → (b : ℕ) × HasTasks new r b recipe.tasks (look_in next r)
      by_place (inl last) =
          let here : slice_get next r ≡ Some map = ap (λ (ms : List M). slice_get ms r) grown ∙ ap (slice_get (maps ++ map ∷ [])) (last ∙ sym long) ∙ slice_last maps map in
          let read : Some x ≡ Some recipe = sym (slice_get-get_or recipes n x (subst (λ (l : List RecipeFacts). n < length l) same lt) ∙ ap Some (sym (is ∙ ap (λ (l : List RecipeFacts). get_or l n x) same))) ∙ ap (slice_get recipes) (sym last) ∙ at in
          let one : x ≡ recipe = cc in
          let all : HasTasks new r base recipe.tasks (look map) = subst (λ m. HasTasks new m base recipe.tasks (look map)) (sym last) (subst (λ (l : List TaskFacts). HasTasks new n base l (look map)) (told ∙ ap (λ (v : RecipeFacts). v.tasks) one) has) in
          (base, subst (λ (o : Option M). HasTasks new r base recipe.tasks (λ q. option_and_then (λ m. look m q) o)) (sym here) all)
      by_place (inr front) =
          let rest = before r recipe (omega (arith, within, front)) at in
          (rest.0, subst (λ (o : Option M). HasTasks new r rest.0 recipe.tasks (λ q. option_and_then (λ m. look m q) o)) (kept_here (slice_get maps r) refl) (tasks_kept old new r rest.0 recipe.tasks (look_in maps r) kept rest.1))
        where
          reach : (xs : List M) (k : ℕ) → k < length xs → (m : M) × (slice_get xs k ≡ Some m)
          reach [] k lt = absurd (omega (arith, lt))
          reach (y ∷ ys) zero lt = (y, refl)
          reach (y ∷ ys) (suc k) lt = reach ys k (omega (arith, lt))

          kept_here : (o : Option M) → slice_get maps r ≡ o → slice_get maps r ≡ slice_get next r
          kept_here (Some m) e = e ∙ sym (ap (λ (ms : List M). slice_get ms r) grown ∙ slice_push maps map m r e)
          kept_here None e =
              let within : r < length maps = omega (arith, within, front, long) in
              let there = reach maps r within in
              absurd (let f : None ≡ Some there.0 = sym e ∙ there.1 in cc)
