-- Refusals, and where the names that they carry come from.
use Rattle.std.proofs.Common.{◌≡◌, sym, ◌∙◌, ap, refl, arith, ℕ, zero, suc, ◌<◌, Bool, true, false, not, ◌||◌, List, [], ◌∷◌, length, get_or, filter, Some, Err, Any, bytes_eq}
use Rattle.std.specs.List.{flat_map}
use Rattle.std.specs.Cmp.Lexicographic.{bytes_decides}
use Rattle.std.proofs.lemmas.List.Folds.{list_any_at, list_any-append}
use Rattle.meta_model.specs.declared.facts.FactSet.{FactSet}
use Rattle.meta_model.specs.declared.facts.RecipeFacts.{RecipeFacts}
use Rattle.meta_model.specs.declared.facts.Package.{Package}
use Rattle.meta_model.specs.Text.{is_in}
use Rattle.meta_model.specs.Providers.{provider, runtime_provider}
use Rattle.meta_model.specs.Needs.{build_names, run_names}
use Rattle.meta_model.specs.GraphRefusal.{GraphRefusal, word_task}
use Rattle.task_graph.specs.declared.fault.GraphFault.{GraphFault}
use Rattle.task_graph.specs.declared.fault.GraphFault.TheVariants.{NoSuchTask, TaskCycle, NothingProvides, SeveralProvide, Tasks, BadThreads, Memory}
use Rattle.task_graph.specs.declared.table.TaskTable.{TaskTable}
use Rattle.task_graph.specs.Faults.{IsRefusalOf, IsUnprovided}
use Rattle.task_graph.specs.Context.{IsNumberOf, number_of_word, LacksToBuild, LacksToRun}

pub refusal_weaker : (P Q : GraphRefusal → Type 0) → ((r : GraphRefusal) → P r → Q r) → (fault : GraphFault) → IsRefusalOf P fault → IsRefusalOf Q fault
refusal_weaker P Q to (NoSuchTask pn task) h = to _ h
refusal_weaker P Q to (TaskCycle tasks) h = h
refusal_weaker P Q to (NothingProvides name) h = to _ h
refusal_weaker P Q to (SeveralProvide name pns) h = to _ h
refusal_weaker P Q to Tasks h = h
refusal_weaker P Q to (BadThreads text) h = h
refusal_weaker P Q to Memory h = h

-- a text of a list is in it
pub among_at : (xs : List (List ℕ)) (i : ℕ) (x : List ℕ) → i < length xs → x ≡ get_or xs i x → is_in x xs ≡ true
among_at xs i x lt is = list_any_at (bytes_eq x) xs i x lt ((bytes_decides x (get_or xs i x)).1 is)

-- ... also of those that pass a test
pub among_passing : (test : List ℕ → Bool) (xs : List (List ℕ)) (x : List ℕ) → test x ≡ true → is_in x xs ≡ true → is_in x (filter test xs) ≡ true
among_passing test [] x t h = h
among_passing test (y ∷ ys) x t h = by_same (bytes_eq x y) (test y) refl refl (among_passing test ys x t)
  where
    by_same : (a b : Bool) → bytes_eq x y ≡ a → test y ≡ b → (is_in x ys ≡ true → is_in x (filter test ys) ≡ true) → is_in x (filter test (y ∷ ys)) ≡ true
    by_same true true e f later = rw (f, e) refl
    by_same true false e f later = absurd (let g : true ≡ false = sym t ∙ ap test ((bytes_decides x y).0 e) ∙ f in cc)
    by_same false true e f later = rw (f, e) (later (rw e at h))
    by_same false false e f later = rw f (later (rw e at h))

-- ... and of a list of lists
pub among_joined : {A : Type 0} (f : A → List (List ℕ)) (xs : List A) (i : ℕ) (x : A) (name : List ℕ) → i < length xs → x ≡ get_or xs i x → is_in name (f x) ≡ true → is_in name (flat_map f xs) ≡ true
among_joined f [] i x name lt is h = absurd (omega (arith, lt))
among_joined f (y ∷ ys) zero x name lt is h = list_any-append (bytes_eq name) (f y) (flat_map f ys) ∙ (let here : is_in name (f y) ≡ true = ap (λ z. is_in name (f z)) (sym is) ∙ h in rw here refl)
among_joined f (y ∷ ys) (suc i) x name lt is h = list_any-append (bytes_eq name) (f y) (flat_map f ys) ∙ by_first (is_in name (f y)) (among_joined f ys i x name (omega (arith, lt)) is h)
  where
    by_first : (b : Bool) → is_in name (flat_map f ys) ≡ true → (b || is_in name (flat_map f ys)) ≡ true
    by_first true later = refl
    by_first false later = later

pub lacks_to_build : (facts : FactSet) (recipe : RecipeFacts) (xs : List (List ℕ)) (i : ℕ) (name read : List ℕ) → xs ≡ recipe.depends → i < length xs → name ≡ get_or xs i name → read ≡ name → is_in name facts.assumed ≡ false
    → (fault : GraphFault) → IsRefusalOf (IsUnprovided read (provider facts read)) fault → IsRefusalOf (LacksToBuild facts recipe) fault
lacks_to_build facts recipe xs i name read list lt is same kept fault h =
    refusal_weaker (IsUnprovided read (provider facts read)) (LacksToBuild facts recipe) (λ r u. (read, among, u)) fault h
  where
    among : is_in read (build_names facts recipe) ≡ true
    among = ap (λ (n : List ℕ). is_in n (build_names facts recipe)) same ∙ among_passing (λ n. not (is_in n facts.assumed)) recipe.depends name (ap not kept) (ap (is_in name) (sym list) ∙ among_at xs i name lt is)

pub lacks_to_run : (facts : FactSet) (recipe : RecipeFacts) (xs : List Package) (i : ℕ) (x : Package) (names : List (List ℕ)) (name read : List ℕ) → xs ≡ recipe.packages → i < length xs → x ≡ get_or xs i x → names ≡ x.rdepends → is_in name names ≡ true → read ≡ name
    → (fault : GraphFault) → IsRefusalOf (IsUnprovided read (runtime_provider facts read)) fault → IsRefusalOf (LacksToRun facts recipe) fault
lacks_to_run facts recipe xs i x names name read list lt is told held same fault h =
    refusal_weaker (IsUnprovided read (runtime_provider facts read)) (LacksToRun facts recipe) (λ r u. (read, among, u)) fault h
  where
    joined : is_in name (flat_map (λ (p : Package). p.rdepends) xs) ≡ true
    joined = among_joined (λ (p : Package). p.rdepends) xs i x name lt is (ap (is_in name) (sym told) ∙ held)

    among : is_in read (run_names recipe) ≡ true
    among = ap (λ (n : List ℕ). is_in n (run_names recipe)) same ∙ ap (λ (l : List Package). is_in name (flat_map (λ (p : Package). p.rdepends) l)) (sym list) ∙ joined

-- a word's task
pub word_refused : (facts : FactSet) (words : List (List ℕ × List ℕ)) (i : ℕ) (w : List ℕ × List ℕ) → i < length words → w ≡ get_or words i w → (fault : GraphFault) → IsRefusalOf (λ r. word_task facts w ≡ Err r) fault → IsRefusalOf (λ r. Any (λ v. word_task facts v ≡ Err r) words) fault
word_refused facts words i w lt is fault h = refusal_weaker (λ r. word_task facts w ≡ Err r) (λ r. Any (λ v. word_task facts v ≡ Err r) words) (λ r e. (i, w, lt, sym is, e)) fault h

pub word_number : (facts : FactSet) (table : TaskTable) (w : List ℕ × List ℕ) (u : ℕ) → IsNumberOf table (word_task facts w) u → number_of_word facts table w ≡ Some u
word_number facts table w u (b, meant, number) = rw meant number
