-- Jobs that are found, and outputs that are read back one by one.
use Rattle.std.proofs.Common.{◌≡◌, ◌∙◌, ap, sym, subst, ℕ, ◌+◌, ◌<◌, List, [], ◌∷◌, ◌++◌, length, map, take, get_or, Some, None, Option}
use Rattle.std.specs.List.{AllByRecursion, slice_get}
use Rattle.std.proofs.lemmas.List.{map-append, take_more}
use Rattle.std.proofs.lemmas.Option.{slice_get-get_or}
use Rattle.outside_traits.specs.Store.{Store}
use Rattle.meta_model.specs.declared.plan.PlanTask.{PlanTask}
use Rattle.meta_model.specs.CleanBuild.{Entries}
use Rattle.store_model.specs.Available.{work_folder}
use Rattle.build_store.specs.Finding.{IsOutput}
use Rattle.task_worker.specs.declared.given.Job.{Job}
use Rattle.run_queue.specs.Outputs.{AreRead, Finds, IsOver, IsRead, LacksOne}
use Rattle.run_queue.specs.Outputs.IsTooLarge.{laid, output}

pub job_found : (tasks : List PlanTask) (task read : PlanTask) (held : Store) (numbers : List ℕ) (outputs given : List (ℕ × Entries)) (found : Option Job) → read ≡ task → numbers ≡ read.deps → given ≡ outputs
    → AreRead tasks numbers held outputs → IsOver tasks task given found → Finds tasks task held found
job_found tasks task read held numbers outputs given found same numbers_are given_are has over =
    by found (subst (λ (o : List (ℕ × Entries)). IsOver tasks task o found) given_are over)
  where
    own : AreRead tasks task.deps held outputs
    own = subst (λ (l : List ℕ). AreRead tasks l held outputs) (numbers_are ∙ ap (λ (t : PlanTask). t.deps) same) has

    by : (f : Option Job) → IsOver tasks task outputs f → Finds tasks task held f
    by (Some job) o = record { outputs = outputs; read = own; is_script = o.0; is_laid = o.1; is_placing = o.2; within = o.3 }
    by None o = laid outputs own o

pub job_lacks : (tasks : List PlanTask) (task read : PlanTask) (held : Store) (numbers : List ℕ) → read ≡ task → numbers ≡ read.deps → LacksOne tasks numbers held → Finds tasks task held None
job_lacks tasks task read held numbers same numbers_are lacks = output (subst (λ (l : List ℕ). LacksOne tasks l held) (numbers_are ∙ ap (λ (t : PlanTask). t.deps) same) lacks)

pub numbers_more : (outputs new : List (ℕ × Entries)) (numbers : List ℕ) (i d : ℕ) (tree : Entries) → new ≡ outputs ++ (get_or numbers i d, tree) ∷ [] → map (λ o. o.0) outputs ≡ take i numbers → i < length numbers
    → map (λ o. o.0) new ≡ take (i + 1) numbers
numbers_more outputs new numbers i d tree is so_far lt =
    ap (map (λ o. o.0)) is ∙ map-append (λ (o : ℕ × Entries). o.0) outputs ((get_or numbers i d, tree) ∷ []) ∙ ap (λ l. l ++ get_or numbers i d ∷ []) so_far ∙ sym (take_more numbers i d lt)

each_more : {X : Type 0} (P : X → Type 0) (xs : List X) (x : X) → AllByRecursion P xs → P x → AllByRecursion P (xs ++ x ∷ [])
each_more P [] x all p = (p, tt)
each_more P (y ∷ xs) x all p = (all.0, each_more P xs x all.1 p)

pub read_more : (tasks : List PlanTask) (held : Store) (outputs new : List (ℕ × Entries)) (number : ℕ) (tree : Entries) (task : PlanTask) → new ≡ outputs ++ (number, tree) ∷ [] → slice_get tasks number ≡ Some task → IsOutput (work_folder task) held (Some tree)
    → AllByRecursion (IsRead tasks held) outputs → AllByRecursion (IsRead tasks held) new
read_more tasks held outputs new number tree task is at found so_far =
    subst (AllByRecursion (IsRead tasks held)) (sym is) (each_more (IsRead tasks held) outputs (number, tree) so_far (λ other other_at.
    subst (λ (t : PlanTask). IsOutput (work_folder t) held (Some tree)) (same other other_at) found))
  where
    some_same : {X : Type 0} {x y : X} → ◌≡◌ {A = Option X} (Some x) (Some y) → x ≡ y
    some_same e = cc

    same : (other : PlanTask) → slice_get tasks number ≡ Some other → task ≡ other
    same other other_at = some_same (sym at ∙ other_at)

-- one output more was read back
pub read_next : (tasks seen : List PlanTask) (held held1 : Store) (outputs new : List (ℕ × Entries)) (number : ℕ) (tree : Entries) (d : PlanTask) (found : Option Entries) → seen ≡ tasks → number < length tasks → new ≡ outputs ++ (number, tree) ∷ [] → held1 ≡ held
    → found ≡ Some tree → IsOutput (work_folder (get_or seen number d)) held1 found → AllByRecursion (IsRead tasks held) outputs → AllByRecursion (IsRead tasks held) new
read_next tasks seen held held1 outputs new number tree d found seen_is lt is same found_is has so_far =
    let at : slice_get tasks number ≡ Some (get_or seen number d) = slice_get-get_or tasks number d lt ∙ ap (λ (l : List PlanTask). Some (get_or l number d)) (sym seen_is) in
    read_more tasks held outputs new number tree (get_or seen number d) is at
    (subst (λ (f : Option Entries). IsOutput (work_folder (get_or seen number d)) held f) found_is (subst (λ (h : Store). IsOutput (work_folder (get_or seen number d)) h found) same has)) so_far
