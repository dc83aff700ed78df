-- Refusals of recipes, passed on.
use Rattle.std.proofs.Common.{◌≡◌, refl, sym, ◌∙◌, ap, subst, ◌∷◌, ◌<◌, List, ℕ, length, get_or, drop, map, [], suc, String, BTreeMap, string_bytes, Bool, true, false, Option, Some, None, Result, Ok, Err, MatchOption, IfErr}
use Rattle.std.specs.Prelude.{IsErrAnd, codes}
use Rattle.std.specs.Option.{option_map}
use Rattle.std.specs.Global.{Global}
use Rattle.std.specs.BTreeMap.{is_at}
use Rattle.std.specs.Map.{lookup}
use Rattle.std.specs.Ordering.{nat_cmp}
use Rattle.std.specs.Cmp.Lexicographic.{slice_cmp}
use Rattle.std.proofs.lemmas.Result.{err_from_is_err_and}
use Rattle.meta_model.specs.Refusal.{Refusal}
use Rattle.meta_model.specs.declared.entry.EntryLine.{EntryLine}
use Rattle.load_model.specs.LoadRefusal.{LoadRefusal, LoadCause, Place, refused_at, ◌>>=◌, refused_as, require}
use Rattle.load_model.specs.Loading.{Sources}
use Rattle.load_model.specs.Recipes as recipes
use Rattle.load_model.specs.Recipes.{FileName, Recipe, SetRefusal, no_value, load, bad_name, asked_of, is_pn, recipe_entries, appends_of, names_of_files, file_named}
use Rattle.load_model.specs.Facts.{Wishes, wishes, recipe_set, all_facts, facts_of, set_under}
use Rattle.meta_model.specs.declared.facts.RecipeFacts.{RecipeFacts}
use Rattle.outside_traits.specs.Fault.{Counts}
use Rattle.class_inherit.specs.declared.fault.LoadFault.{LoadFault}
use Rattle.class_inherit.specs.Faults.{cause_of, place_of, load_refusal, IsLoadFault}
use Rattle.recipe_facts.specs.declared.of_recipe.Recipe.{Recipe as Read}
use Rattle.recipe_facts.specs.Recipe.{recipe_meant}
use Rattle.meta_model.specs.Passing.{IsRefused, behind}
use Rattle.meta_model.proofs.Passing.{refused_on, goes_on, one_refused}
use Rattle.recipe_set.specs.declared.fault.SetFault.{SetFault}
use Rattle.recipe_set.specs.Faults.{set_refusal, IsSetFault, IsWantOfMemory, is_failure, set_failed}
use Rattle.recipe_set.specs.declared.choice.Pick.{Pick}
use Rattle.recipe_set.specs.Held.{held_of}
use Rattle.recipe_set.specs.Picks.{held_at, pick_meant}

-- of the same
pub set_same : {A : Type 0} (fault : SetFault) (m n : Result A SetRefusal) → m ≡ n → IsSetFault fault n → IsSetFault fault m
set_same fault m n e h = subst (IsSetFault fault) (sym e) h

-- a fault of the first answer is one of the whole
pub set_on : {A B : Type 0} (fault : SetFault) (m : Result A SetRefusal) (f : A → Result B SetRefusal) → IsSetFault fault m → IsSetFault fault (m >>= f)
set_on fault m f h = record { told = refused_on (set_refusal fault) m f h.told }

-- and of the second, where the first is no refusal
pub set_later : {A B : Type 0} (fault : SetFault) (m : Result A SetRefusal) (a : A) (f : A → Result B SetRefusal) → m ≡ Ok a → IsSetFault fault (f a) → IsSetFault fault (m >>= f)
set_later fault m a f e h = set_same fault (m >>= f) (f a) (goes_on m a f e) h

-- want of memory says nothing
pub set_memory : {A : Type 0} (fault : SetFault) (m : Result A SetRefusal) → IsWantOfMemory fault → IsSetFault fault m
set_memory fault m e = record { told = subst (λ f. IsRefused (set_refusal f) m) (sym e) tt }

told_value : {A : Type 0} (file : List ℕ) (o : Option Refusal) (m : Result A Refusal) → IsRefused o m → IsRefused (option_map (no_value file) o) (asked_of file m)
told_value file None m h = tt
told_value file (Some r) m h = ap (asked_of file) h

at_cause : {A : Type 0} (P : Type 0) (place : Place) (o : Option LoadCause) (m : Result A LoadRefusal) → MatchOption o P (λ c. m ≡ Err (refused_at place c)) → IsRefused (option_map (refused_at place) o) m
at_cause P place None m h = tt
at_cause P place (Some c) m h = h

told_load : {A : Type 0} (o : Option LoadRefusal) (m : Result A LoadRefusal) → IsRefused o m → IsRefused (option_map load o) (refused_as load m)
told_load None m h = tt
told_load (Some r) m h = ap (refused_as load) h

-- a file that isn't loaded
pub set_load : {A : Type 0} (fault : LoadFault) (made : SetFault) (m : Result A LoadRefusal) → set_refusal made ≡ option_map load (load_refusal fault) → IsLoadFault fault m → IsSetFault made (refused_as load m)
set_load fault made m e h = record { told = subst (λ o. IsRefused o (refused_as load m)) (sym e) (told_load (load_refusal fault) m (at_cause _ (place_of fault) (cause_of fault.kind) m h.told)) }

-- a fault that is handed on by `?`
pub set_exit : {T A : Type 0} (r : Result T SetFault) (fault : SetFault) (meant : Result A SetRefusal) → IsErrAnd r (λ e. e ≡ fault) → IsSetFault fault meant → IfErr r (λ f. IsSetFault f meant)
set_exit r fault meant made h =
    let p = err_from_is_err_and r made in
    subst (λ a. IfErr a (λ f. IsSetFault f meant)) (sym p.1) (subst (λ f. IsSetFault f meant) (sym p.2) h)

-- the same of layers that tell what they hold
pub set_exit_told : {T A : Type 0} {P : Type 0} (r : Result T SetFault) (fault : SetFault) (meant : Result A SetRefusal) → IsErrAnd r (λ e. e ≡ fault) → (P → IsSetFault fault meant) → IfErr r (λ f. P → IsSetFault f meant)
set_exit_told {P = P} r fault meant made h =
    let p = err_from_is_err_and r made in
    subst (λ a. IfErr a (λ f. P → IsSetFault f meant)) (sym p.1) (subst (λ f. P → IsSetFault f meant) (sym p.2) h)

-- a count of faults, where a fault is handed on
pub counts_exit : {T : Type 0} (r : Result T SetFault) (fault : SetFault) (before first now : ℕ) → IsErrAnd r (λ e. e ≡ fault) → before ≡ first → Counts before now (is_failure fault) → Counts first now (set_failed r)
counts_exit r fault before first now made same h =
    let p = err_from_is_err_and r made in
    subst (λ b. Counts b now (set_failed r)) same (subst (λ x. Counts before now x) (sym (ap set_failed p.1 ∙ ap is_failure p.2)) h)

-- want of memory that is handed on by `?`
pub memory_exit : {T A : Type 0} (r : Result T SetFault) (meant : Result A SetRefusal) → IsErrAnd r IsWantOfMemory → IfErr r (λ f. IsSetFault f meant)
memory_exit r meant made =
    let p = err_from_is_err_and r made in
    subst (λ a. IfErr a (λ f. IsSetFault f meant)) (sym p.1) (set_memory p.0 meant p.2)

-- a fault of one of a list
pub set_one : {A B : Type 0} (make : B → Result A SetRefusal) (all : List B → Result (List A) SetRefusal) → ((b : B) (rest : List B) → all (b ∷ rest) ≡ (make b >>= (λ a. all rest >>= (λ more. Ok (a ∷ more)))))
    → (whole : Result (List A) SetRefusal) (before : List A) (xs : List B) (i : ℕ) (b : B) (fault : SetFault) → b ≡ get_or xs i b → i < length xs → whole ≡ behind before (all (drop i xs)) → IsSetFault fault (make b) → IsSetFault fault whole
set_one make all is whole before xs i b fault at lt w h = record { told = one_refused make all is whole before xs i b (set_refusal fault) at lt w h.told }

-- no read failed, where a fault is handed on that says so
pub not_read_exit : {T : Type 0} (r : Result T SetFault) (fault : SetFault) → IsErrAnd r (λ e. e ≡ fault) → is_failure fault ≡ false → set_failed r ≡ false
not_read_exit r fault made h =
    let p = err_from_is_err_and r made in
    ap set_failed p.1 ∙ ap is_failure p.2 ∙ h

-- the values of a recipe's name, one after another

abbrev pub values3 : List ℕ → List ℕ → List ℕ → Result FileName SetRefusal
values3 pn pv pr = Ok (record { pn = pn; pv = pv; pr = pr })

abbrev pub values2 : List ℕ → List EntryLine → List ℕ → List ℕ → Result FileName SetRefusal
values2 path lines pn pv = asked_of path (recipes.text_of lines (codes "PR")) >>= values3 pn pv

abbrev pub values1 : List ℕ → List EntryLine → List ℕ → Result FileName SetRefusal
values1 path lines pn = asked_of path (recipes.text_of lines (codes "PV")) >>= values2 path lines pn

-- a recipe's name, and the recipe

-- a recipe is its name, and then its entries
pub recipe_is : (path : List ℕ) (lines : List EntryLine) → recipes.recipe_of path lines ≡ (recipes.name_in path lines >>= λ name. Ok (recipes.recipe_with path lines name))
recipe_is path lines = refl

-- a name that is good
good_is : (path : List ℕ) (name : FileName) (b : Bool) → b ≡ true → (require b (bad_name path) >>= λ good. Ok name) ≡ Ok name
good_is path name true e = refl
good_is path name false e = absurd cc

pub name_good : (path : List ℕ) (name : FileName) → is_pn name.pn ≡ true → recipes.good_name path name ≡ Ok name
name_good path name e = good_is path name (is_pn name.pn) e

-- the entries of a recipe, in their parts
pub entries_are : (sources : Sources) (config : List EntryLine) (path : List ℕ) (name : FileName) (appends : List (List ℕ)) → recipes.entries_with sources config path name (appends_of path appends) ≡ recipe_entries sources config path name appends
entries_are sources config path name appends = refl

-- the names of files

pub names_more : (path : List ℕ) (paths : List (List ℕ)) → names_of_files (path ∷ paths) ≡ (file_named path >>= λ file. names_of_files paths >>= λ others. Ok (file ∷ others))
names_more path paths = refl

-- the entries of recipes
pub stores_meant : (list : List Read) → map (λ (r : Read). r.store) list ≡ map (λ (r : Recipe). r.lines) (map recipe_meant list)
stores_meant [] = refl
stores_meant (r ∷ list) = ap (λ l. r.store ∷ l) (stores_meant list)

pub map_length : {A B : Type 0} (f : A → B) (list : List A) → length (map f list) ≡ length list
map_length f [] = refl
map_length f (a ∷ list) = ap suc (map_length f list)

bound : {A B E : Type 0} (m : Result A E) (f : A → Result B E) (b : B) → (m >>= f) ≡ Ok b → (a : A) × ((m ≡ Ok a) × (f a ≡ Ok b))
bound (Ok a) f b h = (a, (refl, h))
bound (Err r) f b h = absurd cc

ok_same : {A E : Type 0} (a b : A) → ◌≡◌ {A = Result A E} (Ok a) (Ok b) → a ≡ b
ok_same a b e = cc

-- each recipe has its facts
pub facts_length : (list : List Recipe) (made : List RecipeFacts) → all_facts list ≡ Ok made → length made ≡ length list
facts_length [] made h = sym (ap length (ok_same [] made h))
facts_length (r ∷ list) made h =
    let one = bound (asked_of r.file (facts_of r)) (λ first. all_facts list >>= λ others. Ok (first ∷ others)) made h in
    let more = bound (all_facts list) (λ others. Ok (one.0 ∷ others)) made one.1.1 in
    sym (ap length (ok_same (one.0 ∷ more.0) made more.1.1)) ∙ ap suc (facts_length list more.0 more.1.0)

-- all recipes, once the configuration's wishes are known
pub whole_is : (sources : Sources) (config : List EntryLine) (paths appends : List (List ℕ)) (wished : Wishes) → wishes config ≡ Ok wished → recipe_set sources config paths appends ≡ set_under sources config paths appends wished
whole_is sources config paths appends wished e = ap (λ w. asked_of [] w >>= set_under sources config paths appends) e

-- an empty map chooses nothing
pub nothing_held : (picks : BTreeMap (String Global) Pick) (wish : Option (List ℕ)) (t : List ℕ) → picks.entries ≡ [] → held_at picks t ≡ held_of wish []
nothing_held picks wish t e = ap (λ l. option_map pick_meant (lookup (is_at (λ k. slice_cmp nat_cmp t (string_bytes k))) l)) e

-- the set of those that are chosen among the recipes that were read
pub chosen_on : {C : Type 0} (m : Result (List Recipe) SetRefusal) (list : List Recipe) (choose : List Recipe → List Recipe) (k : List Recipe → Result C SetRefusal) (picked : List Recipe) (made : C) → m ≡ Ok list → picked ≡ choose list → k picked ≡ Ok made → (m >>= λ l. k (choose l)) ≡ Ok made
chosen_on m list choose k picked made e p h = goes_on m list (λ l. k (choose l)) e ∙ ap k (sym p) ∙ h

pub chosen_fault : {C : Type 0} (fault : SetFault) (m : Result (List Recipe) SetRefusal) (list : List Recipe) (choose : List Recipe → List Recipe) (k : List Recipe → Result C SetRefusal) (picked : List Recipe) → m ≡ Ok list → picked ≡ choose list → IsSetFault fault (k picked) → IsSetFault fault (m >>= λ l. k (choose l))
chosen_fault fault m list choose k picked e p h = set_later fault m list (λ l. k (choose l)) e (subst (λ l. IsSetFault fault (k l)) p h)

-- each file has its name
pub names_length : (paths : List (List ℕ)) (made : List (List ℕ × FileName)) → names_of_files paths ≡ Ok made → length made ≡ length paths
names_length [] made h = sym (ap length (ok_same [] made h))
names_length (path ∷ paths) made h =
    let one = bound (file_named path) (λ file. names_of_files paths >>= λ others. Ok (file ∷ others)) made (sym (names_more path paths) ∙ h) in
    let more = bound (names_of_files paths) (λ others. Ok (one.0 ∷ others)) made one.1.1 in
    sym (ap length (ok_same (one.0 ∷ more.0) made more.1.1)) ∙ ap suc (names_length paths more.0 more.1.0)
