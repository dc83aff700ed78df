-- What is asked of a store one after another.
use Rattle.std.proofs.Common.{◌≡◌, refl, ◌∙◌, ℕ, List, ◌++◌, map, codes, Result, Ok, Err}
use Rattle.meta_model.specs.declared.entry.EntryLine.{EntryLine}
use Rattle.meta_model.specs.declared.facts.RecipeFacts.{RecipeFacts}
use Rattle.meta_model.specs.declared.facts.Package.{Package}
use Rattle.meta_model.specs.declared.facts.TaskFacts.{TaskFacts}
use Rattle.meta_model.specs.Refusal.{Refusal}
use Rattle.meta_model.specs.Tasks.{tasks}
use Rattle.load_model.specs.LoadRefusal.{◌>>=◌}
use Rattle.load_model.specs.Layers.{words_of}
use Rattle.load_model.specs.Recipes.{Recipe}
use Rattle.load_model.specs.Facts.{flag_words, named_task, facts_of, form, needed_words, recipe_packages, all_tasks, Wishes, family}
use Rattle.recipe_facts.specs.Recipe.{facts_behind}

-- a task's flags

abbrev pub Asked : Type 0
Asked = List ℕ × List (List ℕ)

abbrev pub task4 : Asked → List (List ℕ) → List (List ℕ) → List (List ℕ) → List (List ℕ) → Result TaskFacts Refusal
task4 task depends deptask rdeptask recrdeptask = Ok (record { task = task.0; after = task.1; depends = map named_task depends; deptask = deptask; rdeptask = rdeptask; recrdeptask = recrdeptask })

abbrev pub task3 : List EntryLine → Asked → List (List ℕ) → List (List ℕ) → List (List ℕ) → Result TaskFacts Refusal
task3 lines task depends deptask rdeptask = flag_words lines task.0 (codes "recrdeptask") >>= task4 task depends deptask rdeptask

abbrev pub task2 : List EntryLine → Asked → List (List ℕ) → List (List ℕ) → Result TaskFacts Refusal
task2 lines task depends deptask = flag_words lines task.0 (codes "rdeptask") >>= task3 lines task depends deptask

abbrev pub task1 : List EntryLine → Asked → List (List ℕ) → Result TaskFacts Refusal
task1 lines task depends = flag_words lines task.0 (codes "deptask") >>= task2 lines task depends

-- a recipe

abbrev pub Words : Type 0
Words = List (List ℕ)

bind_same : {A B E : Type 0} (m : Result A E) (f g : A → Result B E) → ((a : A) → f a ≡ g a) → (m >>= f) ≡ (m >>= g)
bind_same (Ok a) f g h = h a
bind_same (Err refusal) f g h = refl

bind_apart : {A B C E : Type 0} (m : Result A E) (f : A → Result B E) (g : B → Result C E) → (m >>= λ a. f a >>= g) ≡ ((m >>= f) >>= g)
bind_apart (Ok a) f g = refl
bind_apart (Err refusal) f g = refl

abbrev pub packages3 : List EntryLine → Words → Words → Words → Result (List Package) Refusal
packages3 lines names provided needed = recipe_packages lines provided needed names

abbrev pub packages2 : List EntryLine → Words → Words → Result (List Package) Refusal
packages2 lines names provided = needed_words lines (codes "RDEPENDS") >>= packages3 lines names provided

abbrev pub packages1 : List EntryLine → Words → Result (List Package) Refusal
packages1 lines names = words_of lines (codes "RPROVIDES") >>= packages2 lines names

abbrev pub facts4 : Recipe → Words → Words → List Package → List TaskFacts → Result RecipeFacts Refusal
facts4 recipe provides depends packages list = Ok (record { file = recipe.file; pn = recipe.pn; pv = recipe.pv; pr = recipe.pr; provides = provides; depends = depends; packages = packages; tasks = list })

abbrev pub facts3 : Recipe → Words → Words → List Package → Result RecipeFacts Refusal
facts3 recipe provides depends packages = all_tasks recipe.lines (tasks recipe.lines) >>= facts4 recipe provides depends packages

abbrev pub facts1 : Recipe → Words → Result RecipeFacts Refusal
facts1 recipe provides = words_of recipe.lines (codes "DEPENDS") >>= facts_behind recipe provides

packages_apart : (recipe : Recipe) (provides depends : Words)
    → (words_of recipe.lines (codes "PACKAGES") >>= λ names. words_of recipe.lines (codes "RPROVIDES") >>= λ provided. needed_words recipe.lines (codes "RDEPENDS") >>= λ needed. packages3 recipe.lines names provided needed >>= facts3 recipe provides depends)
    ≡ facts_behind recipe provides depends
packages_apart recipe provides depends =
    let lines = recipe.lines in
    let ends = facts3 recipe provides depends in
    bind_same (words_of lines (codes "PACKAGES"))
    (λ names. words_of lines (codes "RPROVIDES") >>= λ provided. needed_words lines (codes "RDEPENDS") >>= λ needed. packages3 lines names provided needed >>= ends)
    (λ names. packages1 lines names >>= ends)
    (λ names. bind_same (words_of lines (codes "RPROVIDES"))
    (λ provided. needed_words lines (codes "RDEPENDS") >>= λ needed. packages3 lines names provided needed >>= ends)
    (λ provided. packages2 lines names provided >>= ends)
    (λ provided. bind_apart (needed_words lines (codes "RDEPENDS")) (packages3 lines names provided) ends)
    ∙ bind_apart (words_of lines (codes "RPROVIDES")) (packages2 lines names) ends)
    ∙ bind_apart (words_of lines (codes "PACKAGES")) (packages1 lines) ends

-- what a recipe says, with what it says of its packages apart
pub facts_apart : (recipe : Recipe) → facts_of recipe ≡ (words_of recipe.lines (codes "PROVIDES") >>= facts1 recipe)
facts_apart recipe =
    let lines = recipe.lines in
    bind_same (words_of lines (codes "PROVIDES"))
    (λ provides. words_of lines (codes "DEPENDS") >>= λ depends. words_of lines (codes "PACKAGES") >>= λ names. words_of lines (codes "RPROVIDES") >>= λ provided. needed_words lines (codes "RDEPENDS") >>= λ needed. packages3 lines names provided needed >>= facts3 recipe provides depends)
    (facts1 recipe)
    (λ provides. bind_same (words_of lines (codes "DEPENDS"))
    (λ depends. words_of lines (codes "PACKAGES") >>= λ names. words_of lines (codes "RPROVIDES") >>= λ provided. needed_words lines (codes "RDEPENDS") >>= λ needed. packages3 lines names provided needed >>= facts3 recipe provides depends)
    (facts_behind recipe provides) (packages_apart recipe provides))

-- the configuration

abbrev pub Pairs : Type 0
Pairs = List (List ℕ × List ℕ)

abbrev pub wishes3 : Words → Pairs → Pairs → Result Wishes Refusal
wishes3 assumed providers versions = Ok (record { assumed = assumed; providers = providers; versions = versions })

abbrev pub wishes2 : List EntryLine → Words → Pairs → Result Wishes Refusal
wishes2 lines assumed providers = family lines (codes "PREFERRED_VERSION_") >>= wishes3 assumed providers

abbrev pub wishes1 : List EntryLine → Words → Result Wishes Refusal
wishes1 lines assumed = family lines (codes "PREFERRED_PROVIDER_") >>= wishes2 lines assumed

-- a package

abbrev pub package2 : Words → Words → List ℕ → Words → Words → Result Package Refusal
package2 provided needed name provides needs = Ok (record { name = name; rdepends = needed ++ needs; rprovides = provided ++ provides })

abbrev pub package1 : List EntryLine → Words → Words → List ℕ → Words → Result Package Refusal
package1 lines provided needed name provides = needed_words lines (form (codes "RDEPENDS") name) >>= package2 provided needed name provides
