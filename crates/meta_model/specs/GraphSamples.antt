-- Small sets of facts, as the worked examples of the task graph use them.
use Rattle.std.specs.Prelude.{ℕ, ◌||◌, List, [], ◌∷◌, map, filter, flat_map, codes}
use Rattle.std.specs.List.{enumerate_from}
use Rattle.meta_model.specs.declared.facts.FactSet.{FactSet}
use Rattle.meta_model.specs.declared.facts.RecipeFacts.{RecipeFacts}
use Rattle.meta_model.specs.declared.facts.TaskFacts.{TaskFacts}
use Rattle.meta_model.specs.Needs.{Task, needs_by_order, needs_by_depends, needs_by_deptask, needs_by_rdeptask}

-- a task that comes after others, without flags
abbrev pub task : List ℕ → List (List ℕ) → TaskFacts
task name after = record { task = name; after = after; depends = []; deptask = []; rdeptask = []; recrdeptask = [] }

abbrev pub with_depends : List (List ℕ × List ℕ) → TaskFacts → TaskFacts
with_depends words t = record t { depends = words }

abbrev pub with_deptask : List ℕ → TaskFacts → TaskFacts
with_deptask word t = record t { deptask = word ∷ [] }

abbrev pub with_rdeptask : List ℕ → TaskFacts → TaskFacts
with_rdeptask word t = record t { rdeptask = word ∷ [] }

abbrev pub with_recrdeptask : List ℕ → TaskFacts → TaskFacts
with_recrdeptask word t = record t { recrdeptask = word ∷ [] }

-- a recipe with one package of its own name
abbrev pub recipe : List ℕ → List (List ℕ) → List (List ℕ) → List (List ℕ) → List TaskFacts → RecipeFacts
recipe pn provides depends rdepends tasks = record { file = codes "x.bb"; pn = pn; pv = codes "1.0"; pr = codes "r0"; provides = provides; depends = depends; packages = record { name = pn; rdepends = rdepends; rprovides = [] } ∷ []; tasks = tasks }

abbrev pub facts : List RecipeFacts → FactSet
facts recipes = record { recipes = recipes; preferred = []; assumed = [] }

-- The library `greet` and the application `app`, which needs it to be built. Each has the five tasks of one class, in a row;
-- to compile needs the published part of what DEPENDS names.
abbrev pub class_tasks : List TaskFacts
class_tasks = task (codes "do_build") (codes "do_populate_sysroot" ∷ []) ∷ (with_deptask (codes "do_populate_sysroot") (task (codes "do_compile") (codes "do_configure" ∷ [])) ∷ (task (codes "do_configure") [] ∷ (task (codes "do_install") (codes "do_compile" ∷ []) ∷ (task (codes "do_populate_sysroot") (codes "do_install" ∷ []) ∷ []))))

abbrev pub library_and_application : FactSet
library_and_application = facts (recipe (codes "app") [] (codes "greet" ∷ []) [] class_tasks ∷ (recipe (codes "greet") [] [] [] class_tasks ∷ []))

-- two tasks of a recipe, each after the other
abbrev pub task_cycle : FactSet
task_cycle = facts (recipe (codes "x") [] [] [] (task (codes "do_a") (codes "do_b" ∷ []) ∷ (task (codes "do_b") (codes "do_a" ∷ []) ∷ [])) ∷ [])

-- Two recipes that name each other in RDEPENDS. `do_all` asks for the packaged part of all that is needed, its own included.
abbrev pub each_other : FactSet
each_other =
    let tasks = with_recrdeptask (codes "do_package") (task (codes "do_all") []) ∷ (task (codes "do_package") [] ∷ []) in
    facts (recipe (codes "a") [] [] (codes "b" ∷ []) tasks ∷ (recipe (codes "b") [] [] (codes "a" ∷ []) tasks ∷ []))

-- all tasks, recipe by recipe
abbrev pub tasks_of : FactSet → List Task
tasks_of all = flat_map (λ r. map (λ t. (r.0, t.task)) r.1.tasks) (enumerate_from 0 all.recipes)

-- the tasks that a task needs by another kind of edge than `[recrdeptask]`
abbrev pub needed : FactSet → Task → List Task
needed all a = filter (λ b. needs_by_order all a b || (needs_by_depends all a b || (needs_by_deptask all a b || needs_by_rdeptask all a b))) (tasks_of all)
