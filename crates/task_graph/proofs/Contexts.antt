-- What is known of all facts.
use Rattle.std.proofs.Common.{◌≡◌, sym, ◌∙◌, ap, subst, refl, arith, ℕ, zero, suc, ◌<◌, Bool, false, List, [], ◌∷◌, length, Some, None, Option, Result, Ok, Err, All, slice_get}
use Rattle.std.specs.Prelude.{◌==◌}
use Rattle.std.specs.List.{AllByRecursion}
use Rattle.std.specs.Result.{result_ok}
use Rattle.std.proofs.lemmas.List.Elements.{All-append, All-nil, All-from_recursion}
use Rattle.meta_model.specs.declared.facts.FactSet.{FactSet}
use Rattle.meta_model.specs.declared.facts.RecipeFacts.{RecipeFacts}
use Rattle.meta_model.specs.Providers.{numbers_from, the_only, only_one, provider, runtime_provider}
use Rattle.meta_model.specs.Needs.{build_names, run_names, is_task}
use Rattle.meta_model.specs.GraphRefusal.{task_there, word_task, pn_of, no_such_task}
use Rattle.task_graph.specs.declared.needed.Needed.{Needed}
use Rattle.task_graph.specs.Needed.{resolved, AreNeeded}
use Rattle.task_graph.specs.Below.{edges_of, AreNumbersWithin}
use Rattle.task_graph.specs.declared.table.TaskTable.{TaskTable}
use Rattle.task_graph.specs.Table.{IsTable, number_of_task}
use Rattle.task_graph.specs.Context.{IsNumberOf}
use Rattle.task_graph.proofs.Indexed.{first_below}
use Rattle.task_graph.proofs.Tabled.{numbered_is_task, unnumbered}

-- a provider is a recipe of the facts
only_within : (xs : List RecipeFacts) (ns : List ℕ) (pns : List (List ℕ)) (n : ℕ) → the_only ns pns ≡ Ok n → ns ≡ n ∷ []
only_within xs [] pns n e = absurd cc
only_within xs (m ∷ []) pns n e = let same : m ≡ n = cc in ap (λ k. k ∷ []) same
only_within xs (m ∷ (l ∷ ns)) pns n e = absurd cc

pub one_within : (xs : List RecipeFacts) (test : RecipeFacts → Bool) (n : ℕ) → only_one xs test ≡ Ok n → n < length xs
one_within xs test n e = omega (arith, first_below test 0 xs n [] (only_within xs (numbers_from test 0 xs) _ n e))

resolved_within : (provide : List ℕ → Result ℕ (List (List ℕ))) (count : ℕ) → ((name : List ℕ) (n : ℕ) → provide name ≡ Ok n → n < count) → (names : List (List ℕ)) → AllByRecursion (λ n. n < count) (resolved provide names)
resolved_within provide count bound [] = tt
resolved_within provide count bound (name ∷ names) = by_answer (provide name) refl (resolved_within provide count bound names)
  where
    by_answer : (r : Result ℕ (List (List ℕ))) → provide name ≡ r → AllByRecursion (λ n. n < count) (resolved provide names) → AllByRecursion (λ n. n < count) (resolved provide (name ∷ names))
    by_answer (Ok n) e rest = rw e (bound name n e, rest)
    by_answer (Err pns) e rest = rw e rest

pub numbers_within : (facts : FactSet) (all : List Needed) → AreNeeded facts all → AreNumbersWithin all
numbers_within facts all are r = by_place (slice_get all r) refl
  where
    recipe_there : (xs : List RecipeFacts) (k : ℕ) → k < length xs → (x : RecipeFacts) × (slice_get xs k ≡ Some x)
    recipe_there [] k lt = absurd (omega (arith, lt))
    recipe_there (x ∷ xs) zero lt = (x, refl)
    recipe_there (x ∷ xs) (suc k) lt = recipe_there xs k (omega (arith, lt))

    place_in : (xs : List Needed) (k : ℕ) (x : Needed) → slice_get xs k ≡ Some x → k < length xs
    place_in [] k x e = absurd cc
    place_in (y ∷ ys) zero x e = omega arith
    place_in (y ∷ ys) (suc k) x e = omega (arith, place_in ys k x e)

    build_bound : (name : List ℕ) (n : ℕ) → provider facts name ≡ Ok n → n < length all
    build_bound name n e = omega (arith, one_within facts.recipes _ n e, are.long)

    run_bound : (name : List ℕ) (n : ℕ) → runtime_provider facts name ≡ Ok n → n < length all
    run_bound name n e = omega (arith, one_within facts.recipes _ n e, are.long)

    by_place : (o : Option Needed) → slice_get all r ≡ o → All (λ n. n < length all) (edges_of all r)
    by_place None e = rw e (All-nil (λ n. n < length all))
    by_place (Some d) e =
        let recipe = recipe_there facts.recipes r (omega (arith, place_in all r d e, are.long)) in
        let is = are.each r recipe.0 d recipe.1 e in
        let building : All (λ n. n < length all) d.building.found.items = subst (λ (l : List ℕ). All (λ n. n < length all) l) (sym is.building.found) (All-from_recursion (λ n. n < length all) _ (resolved_within (provider facts) (length all) build_bound (build_names facts recipe.0))) in
        let running : All (λ n. n < length all) d.running.found.items = subst (λ (l : List ℕ). All (λ n. n < length all) l) (sym is.running.found) (All-from_recursion (λ n. n < length all) _ (resolved_within (runtime_provider facts) (length all) run_bound (run_names recipe.0))) in
        rw e (All-append (λ n. n < length all) d.building.found.items d.running.found.items building running)

pub ok_from : (r : Result ℕ (List (List ℕ))) (n : ℕ) → result_ok r ≡ Some n → r ≡ Ok n
ok_from (Ok m) n e = let same : m ≡ n = cc in ap Ok same
ok_from (Err pns) n e = absurd cc

-- the task of a provider is there, or isn't
pub task_is_there : (facts : FactSet) (table : TaskTable) → IsTable facts table → (name task : List ℕ) (r u : ℕ) → provider facts name ≡ Ok r → number_of_task table (r, task) ≡ Some u → IsNumberOf table (task_there facts name task (provider facts name)) u
task_is_there facts table is_table name task r u e f = ((r, task), rw (e, numbered_is_task facts table is_table (r, task) u f) refl, f)

pub task_is_missing : (facts : FactSet) (table : TaskTable) → IsTable facts table → (name task : List ℕ) (r : ℕ) → provider facts name ≡ Ok r → number_of_task table (r, task) ≡ None → task_there facts name task (provider facts name) ≡ Err (no_such_task (pn_of facts r) task)
task_is_missing facts table is_table name task r e f = rw (e, unnumbered facts table is_table (r, task) f) refl

-- a word that names a task
pub word_with_task : (facts : FactSet) (w : List ℕ × List ℕ) (name task read : List ℕ) → read ≡ w.1 → (length read == 0) ≡ false → name ≡ w.0 → task ≡ w.1 → task_there facts name task (provider facts name) ≡ word_task facts w
word_with_task facts w name task read same some is_name is_task = rw (is_name, is_task) (by_task w.1 refl)
  where
    by_task : (t : List ℕ) → w.1 ≡ t → task_there facts w.0 w.1 (provider facts w.0) ≡ word_task facts w
    by_task [] e = absurd (let f : length read ≡ 0 = ap (length {A = ℕ}) (same ∙ e) in let g : (0 == 0) ≡ false = rw f at some in cc)
    by_task (x ∷ xs) e = rw e refl
