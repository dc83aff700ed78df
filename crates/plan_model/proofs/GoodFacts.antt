-- Recipes and tasks of a project have good names.
use Rattle.std.proofs.Common.{◌≡◌, ◌≢◌, ◌∙◌, refl, sym, ap, subst, ℕ, arith, List, [], ◌∷◌, ◌++◌, map, filter, Bool, true, false, not, Option, Some, None, Result, Ok, Err, All, bytes_eq, codes, if◌then◌else◌}
use Rattle.std.specs.Prelude.{AllPairs, IfSome, filter_map, flat_map, fold}
use Rattle.std.specs.List.{AllByRecursion, cons_option}
use Rattle.std.specs.Map.{lookup}
use Rattle.std.proofs.lemmas.List.Elements.{All-from_recursion, recursion_from_All, All-filter}
use Rattle.std.proofs.lemmas.Map.Text.{is_eq-slice_cmp}
use Rattle.std.specs.Cmp.Lexicographic.{slice_cmp}
use Rattle.std.specs.Ordering.{nat_cmp, is_eq, is_lt}
use Rattle.std.proofs.lemmas.List.Kept.{AllPairs-cons}
use Rattle.meta_model.proofs.Bools.{not_both, same_text, text_itself}
use Rattle.meta_model.specs.declared.line.Kind.TheVariants.{Recipe as RecipeFile}
use Rattle.meta_model.specs.declared.entry.EntryLine.{EntryLine}
use Rattle.meta_model.specs.declared.entry.EntryLine.TheVariants as entry
use Rattle.meta_model.specs.declared.entry.LateLine.{LateLine}
use Rattle.meta_model.specs.declared.entry.Op.TheVariants.{Set as Assign, Weak}
use Rattle.meta_model.specs.declared.facts.RecipeFacts.{RecipeFacts}
use Rattle.meta_model.specs.declared.facts.TaskFacts.{TaskFacts}
use Rattle.meta_model.specs.declared.facts.Package.{Package}
use Rattle.meta_model.specs.Refusal.{Refusal}
use Rattle.meta_model.specs.Refusal as moving
use Rattle.meta_model.specs.Base.{value_slot, flag_slot, lates, flags_of, names}
use Rattle.meta_model.specs.Text.{in_byte_order, into_order, is_before, is_empty}
use Rattle.meta_model.specs.Tasks.{task_in, is_task, task_names, comes_after, tasks}
use Rattle.meta_model.specs.Frozen.{Move, moves, told_all, told, told_flag, told_lates, conditions, given, lines_where, stays, is_task_line, frozen}
use Rattle.load_model.specs.LoadRefusal.{LoadRefusal, nowhere, ◌>>=◌, refused_as, asked_at, require}
use Rattle.load_model.specs.Loading.{Sources, Loaded, with_lines, read_first, classes_after, class_entries, entries}
use Rattle.load_model.specs.Layers.{words_of, starting_with}
use Rattle.load_model.specs.Recipes.{FileName, Recipe, SetRefusal, load, no_value, bad_name, asked_of, is_pn, appends_of, file_lines, name_lines, appended, with_inherit, recipe_entries, name_in, three_values, good_name, recipe_with, classes_read, files_read, recipe_of, recipe_read, recipes_read}
use Rattle.load_model.specs.Facts.{flag_words, named_task, task_facts, all_tasks, facts_of, all_facts, needed_words, recipe_packages, RecipeSet, wishes, recipe_cmp, greater, chosen, that_count, fits, all_chosen, recipe_set, set_under, files_over, read_over, set_over}
use Rattle.meta_model.specs.Ascending.{Before, Above, Ascending}
use Rattle.meta_model.proofs.Ordered.{ordered_ascending}
use Rattle.plan_model.specs.Names.{is_task_name, AddsGoodTask, HaveGoodTasks, AddGoodTasks}
use Rattle.plan_model.specs.Sound.{HasGoodNames}
use Rattle.plan_model.proofs.Planning.{ok_parts, ok_as, same_ok}
use Rattle.plan_model.proofs.GoodLoading.{lines_behind, both_good, entries_good, class_entries_good, all_classes_good}

-- ---- entries once names are moved

abbrev Good : List EntryLine → Type 0
Good lines = AllByRecursion AddsGoodTask lines

same_value : {A : Type 0} (a b : A) → ◌≡◌ {A = Result A Refusal} (Ok a) (Ok b) → a ≡ b
same_value a b e = cc

value_parts : {A B : Type 0} (m : Result A Refusal) (f : A → Result B Refusal) (b : B) → moving.◌>>=◌ m f ≡ Ok b → (a : A) × (m ≡ Ok a) × (f a ≡ Ok b)
value_parts (Ok a) f b e = (a, refl, e)
value_parts {A} {B} (Err refusal) f b e = absurd (let n : ◌≡◌ {A = Result B Refusal} (Err refusal) (Ok b) = e in cc)

all_filter : {A : Type 0} (P : A → Type 0) (test : A → Bool) (xs : List A) → AllByRecursion P xs → AllByRecursion P (filter test xs)
all_filter P test xs h = recursion_from_All P (filter test xs) (All-filter test P xs (All-from_recursion P xs h))

given_good : (line : List ℕ → EntryLine) → ((text : List ℕ) → AddsGoodTask (line text)) → (text : Option (List ℕ)) → Good (given line text)
given_good line h None = tt
given_good line h (Some text) = (h text, tt)

flag_good : (list : List EntryLine) (move : Move) (f : List ℕ) → Good (told_flag list move f)
flag_good list move f =
    let slot = flag_slot list move.source f in
    (tt, both_good (given (entry.Flag move.target f Assign) slot.value) (given (entry.Flag move.target f Weak) slot.weak) (given_good (entry.Flag move.target f Assign) (λ t. tt) slot.value) (given_good (entry.Flag move.target f Weak) (λ t. tt) slot.weak))

flags_good : (list : List EntryLine) (move : Move) (fs : List (List ℕ)) → Good (flat_map (told_flag list move) fs)
flags_good list move [] = tt
flags_good list move (f ∷ fs) = both_good (told_flag list move f) (flat_map (told_flag list move) fs) (flag_good list move f) (flags_good list move fs)

lates_good : (list : List EntryLine) (target : List ℕ) (lines : List LateLine) (late : List EntryLine) → told_lates list target lines ≡ Ok late → Good late
lates_good list target [] late e = subst Good (same_value [] late e) tt
lates_good list target (line ∷ lines) late e =
    let joined = λ (when : List (List ℕ)) (rest : List EntryLine). let r : Result (List EntryLine) Refusal = Ok (entry.Later target line.kind when line.text ∷ rest) in r in
    let when = value_parts (conditions list line.when) (λ when. told_lates list target lines >>= joined when) late e in
    let rest = value_parts (told_lates list target lines) (joined when.0) late when.2 in
    subst Good (same_value (entry.Later target line.kind when.0 line.text ∷ rest.0) late rest.2) (tt, lates_good list target lines rest.0 rest.1)

told_good : (list : List EntryLine) (move : Move) (lines : List EntryLine) → told list move ≡ Ok lines → Good lines
told_good list move lines e =
    let slot = value_slot list move.source in
    let one = given (entry.Set move.target Assign) slot.value in
    let two = given (entry.Set move.target Weak) slot.weak in
    let three = flat_map (told_flag list move) (flags_of list move.source) in
    let late = value_parts (told_lates list move.target (lates list move.source)) (λ late. Ok (one ++ two ++ three ++ late)) lines e in
    subst Good (same_value (one ++ two ++ three ++ late.0) lines late.2)
    (both_good (one ++ two ++ three) late.0
    (both_good (one ++ two) three
    (both_good one two (given_good (entry.Set move.target Assign) (λ t. tt) slot.value) (given_good (entry.Set move.target Weak) (λ t. tt) slot.weak))
    (flags_good list move (flags_of list move.source)))
    (lates_good list move.target (lates list move.source) late.0 late.1))

abbrev GoodMoves : List (Move × List EntryLine) → Type 0
GoodMoves told = AllByRecursion (λ m. Good m.1) told

all_told_good : (list : List EntryLine) (all : List Move) (told : List (Move × List EntryLine)) → told_all list all ≡ Ok told → GoodMoves told
all_told_good list [] made e = subst GoodMoves (same_value [] made e) tt
all_told_good list (move ∷ all) made e =
    let joined = λ (first : List EntryLine) (rest : List (Move × List EntryLine)). let r : Result (List (Move × List EntryLine)) Refusal = Ok ((move, first) ∷ rest) in r in
    let first = value_parts (told list move) (λ first. told_all list all >>= joined first) made e in
    let rest = value_parts (told_all list all) (joined first.0) made first.2 in
    subst GoodMoves (same_value ((move, first.0) ∷ rest.0) made rest.2) (told_good list move first.0 first.1, all_told_good list all rest.0 rest.1)

moved_good : (told : List (Move × List EntryLine)) → GoodMoves told → Good (flat_map (λ m. m.1) told)
moved_good [] h = tt
moved_good (m ∷ told) h = both_good m.1 (flat_map (λ m. m.1) told) h.0 (moved_good told h.1)

where_good : (test : Move → Bool) (told : List (Move × List EntryLine)) → GoodMoves told → Good (lines_where test told)
where_good test told h = moved_good (filter (λ m. test m.0) told) (all_filter (λ m. Good m.1) (λ m. test m.0) told h)

pub frozen_good : (list made : List EntryLine) → HaveGoodTasks list → frozen list ≡ Ok made → Good made
frozen_good list made h e =
    let last = λ (t : List (Move × List EntryLine)). lines_where stays t ++ lines_where (λ move. not (stays move)) t ++ filter is_task_line list in
    let all = value_parts (moves list (names list)) (λ all. told_all list all >>= λ t. Ok (last t)) made e in
    let t = value_parts (told_all list all.0) (λ t. Ok (last t)) made all.2 in
    let good = all_told_good list all.0 t.0 t.1 in
    subst Good (same_value (last t.0) made t.2)
    (both_good (lines_where stays t.0 ++ lines_where (λ move. not (stays move)) t.0) (filter is_task_line list)
    (both_good (lines_where stays t.0) (lines_where (λ move. not (stays move)) t.0) (where_good stays t.0 good) (where_good (λ move. not (stays move)) t.0 good))
    (all_filter AddsGoodTask is_task_line list h.each))

-- ---- the tasks of entries

abbrev Named : List (List ℕ) → Type 0
Named names = AllByRecursion (λ n. is_task_name n ≡ true) names

in_lines : (lines : List EntryLine) → Good lines → Named (filter_map task_in lines)
in_lines [] h = tt
in_lines (entry.Task t after before ∷ lines) h = (h.0, in_lines lines h.1)
in_lines (entry.Set n o t ∷ lines) h = in_lines lines h.1
in_lines (entry.Later n k w t ∷ lines) h = in_lines lines h.1
in_lines (entry.Flag n f o t ∷ lines) h = in_lines lines h.1
in_lines (entry.Unset n ∷ lines) h = in_lines lines h.1
in_lines (entry.UnsetFlag n f ∷ lines) h = in_lines lines h.1
in_lines (entry.Exported c n ∷ lines) h = in_lines lines h.1
in_lines (entry.NoTask t ∷ lines) h = in_lines lines h.1

into_named : (list : List (List ℕ)) (t : List ℕ) → is_task_name t ≡ true → Named list → Named (into_order list t)
into_named [] t g h = (g, tt)
into_named (x ∷ xs) t g h = by (bytes_eq x t) (is_before t x) (into_named xs t g h.1)
  where
    by : (a b : Bool) → Named (into_order xs t) → Named (if a then x ∷ xs else (if b then t ∷ (x ∷ xs) else x ∷ into_order xs t))
    by true b rest = h
    by false true rest = (g, h)
    by false false rest = (h.0, rest)

fold_named : (xs acc : List (List ℕ)) → Named xs → Named acc → Named (fold into_order acc xs)
fold_named [] acc h k = k
fold_named (x ∷ xs) acc h k = fold_named xs (into_order acc x) h.1 (into_named acc x h.0 k)

names_named : (lines : List EntryLine) → Good lines → Named (task_names lines)
names_named lines h = fold_named (filter (is_task lines) (filter_map task_in lines)) [] (all_filter (λ n. is_task_name n ≡ true) (is_task lines) (filter_map task_in lines) (in_lines lines h)) tt

abbrev AreNamed : List (List ℕ × List (List ℕ)) → Type 0
AreNamed list = AllByRecursion (λ t. is_task_name t.0 ≡ true) list

mapped_named : (lines : List EntryLine) (all ns : List (List ℕ)) → Named ns → AreNamed (map (λ t. (t, filter (comes_after lines t) all)) ns)
mapped_named lines all [] h = tt
mapped_named lines all (n ∷ ns) h = (h.0, mapped_named lines all ns h.1)

-- ---- what a recipe says of its tasks

one_named : (lines : List EntryLine) (task : List ℕ × List (List ℕ)) (made : TaskFacts) → task_facts lines task ≡ Ok made → made.task ≡ task.0
one_named lines task made e =
    let last = λ (depends deptask rdeptask recrdeptask : List (List ℕ)). let r : Result TaskFacts Refusal = Ok (record { task = task.0; after = task.1; depends = map named_task depends; deptask = deptask; rdeptask = rdeptask; recrdeptask = recrdeptask }) in r in
    let third = λ (depends deptask rdeptask : List (List ℕ)). flag_words lines task.0 (codes "recrdeptask") >>= last depends deptask rdeptask in
    let second = λ (depends deptask : List (List ℕ)). flag_words lines task.0 (codes "rdeptask") >>= third depends deptask in
    let first = λ (depends : List (List ℕ)). flag_words lines task.0 (codes "deptask") >>= second depends in
    let a = ok_parts (flag_words lines task.0 (codes "depends")) first made e in
    let b = ok_parts (flag_words lines task.0 (codes "deptask")) (second a.0) made a.2 in
    let c = ok_parts (flag_words lines task.0 (codes "rdeptask")) (third a.0 b.0) made b.2 in
    let d = ok_parts (flag_words lines task.0 (codes "recrdeptask")) (last a.0 b.0 c.0) made c.2 in
    sym (ap (λ t. t.task) {x = record { task = task.0; after = task.1; depends = map named_task a.0; deptask = b.0; rdeptask = c.0; recrdeptask = d.0 }} (same_ok {E = Refusal} (record { task = task.0; after = task.1; depends = map named_task a.0; deptask = b.0; rdeptask = c.0; recrdeptask = d.0 }) made d.2))

all_named : (lines : List EntryLine) (list : List (List ℕ × List (List ℕ))) (made : List TaskFacts) → AreNamed list → all_tasks lines list ≡ Ok made → AllByRecursion (λ t. is_task_name t.task ≡ true) made
all_named lines [] made h e = subst (AllByRecursion (λ t. is_task_name t.task ≡ true)) (same_ok {E = Refusal} [] made e) tt
all_named lines (task ∷ rest) made h e =
    let joined = λ (first : TaskFacts) (others : List TaskFacts). let r : Result (List TaskFacts) Refusal = Ok (first ∷ others) in r in
    let first = ok_parts (task_facts lines task) (λ first. all_tasks lines rest >>= joined first) made e in
    let others = ok_parts (all_tasks lines rest) (joined first.0) made first.2 in
    subst (AllByRecursion (λ t. is_task_name t.task ≡ true)) (same_ok {E = Refusal} (first.0 ∷ others.0) made others.2)
    (subst (λ n. is_task_name n ≡ true) (sym (one_named lines task first.0 first.1)) h.0, all_named lines rest others.0 h.1 others.1)

record IsOf (recipe : Recipe) (facts : RecipeFacts) : Type 0 where
  pn : facts.pn ≡ recipe.pn
  tasks : AllByRecursion (λ t. is_task_name t.task ≡ true) facts.tasks

facts_named : (recipe : Recipe) (made : RecipeFacts) → Good recipe.lines → facts_of recipe ≡ Ok made → IsOf recipe made
facts_named recipe made h e =
    let last = λ (provides depends : List (List ℕ)) (packages : List Package) (list : List TaskFacts). let r : Result RecipeFacts Refusal = Ok (record { file = recipe.file; pn = recipe.pn; pv = recipe.pv; pr = recipe.pr; provides = provides; depends = depends; packages = packages; tasks = list }) in r in
    let sixth = λ (provides depends : List (List ℕ)) (packages : List Package). all_tasks recipe.lines (tasks recipe.lines) >>= last provides depends packages in
    let fifth = λ (provides depends names provided needed : List (List ℕ)). recipe_packages recipe.lines provided needed names >>= sixth provides depends in
    let fourth = λ (provides depends names provided : List (List ℕ)). needed_words recipe.lines (codes "RDEPENDS") >>= fifth provides depends names provided in
    let third = λ (provides depends names : List (List ℕ)). words_of recipe.lines (codes "RPROVIDES") >>= fourth provides depends names in
    let second = λ (provides depends : List (List ℕ)). words_of recipe.lines (codes "PACKAGES") >>= third provides depends in
    let first = λ (provides : List (List ℕ)). words_of recipe.lines (codes "DEPENDS") >>= second provides in
    let a = ok_parts (words_of recipe.lines (codes "PROVIDES")) first made e in
    let b = ok_parts (words_of recipe.lines (codes "DEPENDS")) (second a.0) made a.2 in
    let c = ok_parts (words_of recipe.lines (codes "PACKAGES")) (third a.0 b.0) made b.2 in
    let d = ok_parts (words_of recipe.lines (codes "RPROVIDES")) (fourth a.0 b.0 c.0) made c.2 in
    let n = ok_parts (needed_words recipe.lines (codes "RDEPENDS")) (fifth a.0 b.0 c.0 d.0) made d.2 in
    let p = ok_parts (recipe_packages recipe.lines d.0 n.0 c.0) (sixth a.0 b.0) made n.2 in
    let l = ok_parts (all_tasks recipe.lines (tasks recipe.lines)) (last a.0 b.0 p.0) made p.2 in
    let all = task_names recipe.lines in
    subst (IsOf recipe) {x = record { file = recipe.file; pn = recipe.pn; pv = recipe.pv; pr = recipe.pr; provides = a.0; depends = b.0; packages = p.0; tasks = l.0 }}
    (same_ok {E = Refusal} (record { file = recipe.file; pn = recipe.pn; pv = recipe.pv; pr = recipe.pr; provides = a.0; depends = b.0; packages = p.0; tasks = l.0 }) made l.2)
    (record { pn = refl; tasks = all_named recipe.lines (tasks recipe.lines) l.0 (mapped_named recipe.lines all all (names_named recipe.lines h)) l.1 })

abbrev AreOf : List Recipe → List RecipeFacts → Type 0
AreOf [] [] = Unit {0}
AreOf [] (f ∷ fs) = ⊥
AreOf (r ∷ rs) [] = ⊥
AreOf (r ∷ rs) (f ∷ fs) = IsOf r f × AreOf rs fs

all_are_of : (recipes : List Recipe) (made : List RecipeFacts) → AllByRecursion (λ r. Good r.lines) recipes → all_facts recipes ≡ Ok made → AreOf recipes made
all_are_of [] made h e = subst (AreOf []) (same_ok {E = SetRefusal} [] made e) tt
all_are_of (recipe ∷ rest) made h e =
    let joined = λ (first : RecipeFacts) (others : List RecipeFacts). let r : Result (List RecipeFacts) SetRefusal = Ok (first ∷ others) in r in
    let first = ok_parts (asked_of recipe.file (facts_of recipe)) (λ first. all_facts rest >>= joined first) made e in
    let others = ok_parts (all_facts rest) (joined first.0) made first.2 in
    subst (AreOf (recipe ∷ rest)) (same_ok {E = SetRefusal} (first.0 ∷ others.0) made others.2)
    (facts_named recipe first.0 h.0 (ok_as (no_value recipe.file) (facts_of recipe) first.0 first.1), all_are_of rest others.0 h.1 others.1)

-- ---- recipes that are read

record IsRead (recipe : Recipe) : Type 0 where
  pn : is_pn recipe.pn ≡ true
  lines : Good recipe.lines

require_ok : {E : Type 0} (b : Bool) (refusal : E) (u : Unit {0}) → require b refusal ≡ Ok u → b ≡ true
require_ok true refusal u e = refl
require_ok {E} false refusal u e = absurd (let n : ◌≡◌ {A = Result (Unit {0}) E} (Err refusal) (Ok u) = e in cc)

named : (path : List ℕ) (lines : List EntryLine) (name : FileName) → name_in path lines ≡ Ok name → is_pn name.pn ≡ true
named path lines name e =
    let three = ok_parts (three_values path lines) (good_name path) name e in
    let good = ok_parts (require (is_pn three.0.pn) (bad_name path)) (λ (good : Unit {0}). let r : Result FileName SetRefusal = Ok three.0 in r) name three.2 in
    subst (λ (n : FileName). is_pn n.pn ≡ true) (same_ok {E = SetRefusal} three.0 name good.2) (require_ok (is_pn three.0.pn) (bad_name path) good.0 good.1)

of_lines : (path : List ℕ) (lines : List EntryLine) (made : Recipe) → Good lines → recipe_of path lines ≡ Ok made → IsRead made
of_lines path lines made h e =
    let name = ok_parts (name_in path lines) (λ name. Ok (recipe_with path lines name)) made e in
    subst IsRead (same_ok {E = SetRefusal} (recipe_with path lines name.0) made name.2) (record { pn = named path lines name.0 name.1; lines = h })

module _ (sources : Sources) (adds : AddGoodTasks sources) (config : List EntryLine) (have : HaveGoodTasks config) where
  appended_good : (appends : List (List ℕ)) (old new : Loaded) → HaveGoodTasks old.lines → appended sources appends old ≡ Ok new → HaveGoodTasks new.lines
  appended_good [] old new h e = subst (λ (l : Loaded). HaveGoodTasks l.lines) (same_ok {E = LoadRefusal} old new e) h
  appended_good (append ∷ rest) old new h e =
      let next = ok_parts (entries sources RecipeFile append (with_lines (file_lines append) old)) (λ next. appended sources rest next) new e in
      appended_good rest next.0 new (entries_good sources adds RecipeFile append (with_lines (file_lines append) old) next.0 (lines_behind old.lines (file_lines append) h (tt, (tt, tt))) next.1) next.2

  classes_read_good : (old new : Loaded) → HaveGoodTasks old.lines → classes_read sources old ≡ Ok new → HaveGoodTasks new.lines
  classes_read_good old new h e =
      let based = ok_parts (class_entries sources false (codes "base") old) (λ based. with_inherit sources based) new e in
      let words = ok_parts (asked_at nowhere (words_of based.0.lines (codes "INHERIT"))) (λ names. classes_after (read_first sources) sources nowhere true names based.0) new based.2 in
      all_classes_good sources adds nowhere true words.0 based.0 new (class_entries_good sources adds false (codes "base") old based.0 h based.1) words.2

  files_read_good : (path : List ℕ) (appends : List (List ℕ)) (old new : Loaded) → HaveGoodTasks old.lines → files_read sources path appends old ≡ Ok new → HaveGoodTasks new.lines
  files_read_good path appends old new h e =
      let last = λ (whole : Loaded). let r : Result Loaded LoadRefusal = Ok (with_lines (file_lines path) whole) in r in
      let own = ok_parts (entries sources RecipeFile path old) (λ own. appended sources appends own >>= last) new e in
      let whole = ok_parts (appended sources appends own.0) last new own.2 in
      let good = appended_good appends own.0 whole.0 (entries_good sources adds RecipeFile path old own.0 h own.1) whole.1 in
      subst (λ (l : Loaded). HaveGoodTasks l.lines) (same_ok {E = LoadRefusal} (with_lines (file_lines path) whole.0) new whole.2) (lines_behind whole.0.lines (file_lines path) good (tt, (tt, tt)))

  recipe_good : (path : List ℕ) (name : FileName) (appends : List (List ℕ)) (new : Loaded) → recipe_entries sources config path name appends ≡ Ok new → HaveGoodTasks new.lines
  recipe_good path name appends new e =
      let start = starting_with (config ++ (name_lines name ++ file_lines path)) in
      let inherited = ok_parts (classes_read sources start) (λ inherited. files_read sources path (appends_of path appends) inherited) new e in
      files_read_good path (appends_of path appends) inherited.0 new
      (classes_read_good start inherited.0 (lines_behind config (name_lines name ++ file_lines path) have (tt, (tt, (tt, (tt, (tt, tt)))))) inherited.1) inherited.2

  one_read : (appends : List (List ℕ)) (path : List ℕ) (name : FileName) (made : Recipe) → recipe_read sources config appends path name ≡ Ok made → IsRead made
  one_read appends path name made e =
      let second = λ (lines : List EntryLine). recipe_of path lines in
      let first = λ (loaded : Loaded). asked_of path (frozen loaded.lines) >>= second in
      let loaded = ok_parts (refused_as load (recipe_entries sources config path name appends)) first made e in
      let lines = ok_parts (asked_of path (frozen loaded.0.lines)) second made loaded.2 in
      of_lines path lines.0 made (frozen_good loaded.0.lines lines.0 (recipe_good path name appends loaded.0 (ok_as load (recipe_entries sources config path name appends) loaded.0 loaded.1)) (ok_as (no_value path) (frozen loaded.0.lines) lines.0 lines.1)) lines.2

  all_read : (appends : List (List ℕ)) (files : List (List ℕ × FileName)) (made : List Recipe) → recipes_read sources config appends files ≡ Ok made → AllByRecursion IsRead made
  all_read appends [] made e = subst (AllByRecursion IsRead) (same_ok {E = SetRefusal} [] made e) tt
  all_read appends (file ∷ rest) made e =
      let joined = λ (first : Recipe) (others : List Recipe). let r : Result (List Recipe) SetRefusal = Ok (first ∷ others) in r in
      let first = ok_parts (recipe_read sources config appends file.0 file.1) (λ first. recipes_read sources config appends rest >>= joined first) made e in
      let others = ok_parts (recipes_read sources config appends rest) (joined first.0) made first.2 in
      subst (AllByRecursion IsRead) (same_ok {E = SetRefusal} (first.0 ∷ others.0) made others.2) (one_read appends file.0 file.1 first.0 first.1, all_read appends rest others.0 others.1)

-- ---- the chosen ones

greatest_has : (P : Recipe → Type 0) (recipes : List Recipe) (best : Option Recipe) → AllByRecursion P recipes → IfSome best P → IfSome (fold greater best recipes) P
greatest_has P [] best h k = k
greatest_has P (r ∷ recipes) best h k = greatest_has P recipes (greater best r) h.1 (next best k)
  where
    of_two : (b : Bool) (one : Recipe) → P one → IfSome (if b then Some r else Some one) P
    of_two true one p = h.0
    of_two false one p = p

    next : (o : Option Recipe) → IfSome o P → IfSome (greater o r) P
    next None p = h.0
    next (Some one) p = of_two (is_lt (recipe_cmp one r)) one p

that_count_has : (P : Recipe → Type 0) (preference : Option (List ℕ)) (recipes : List Recipe) → AllByRecursion P recipes → AllByRecursion P (that_count preference recipes)
that_count_has P None recipes h = h
that_count_has P (Some preference) recipes h = by (is_empty (filter (fits preference) recipes))
  where
    by : (b : Bool) → AllByRecursion P (if b then recipes else filter (fits preference) recipes)
    by true = h
    by false = all_filter P (fits preference) recipes h

with_pn : (pn : List ℕ) (recipes : List Recipe) → AllByRecursion IsRead recipes → AllByRecursion (λ r. IsRead r × (r.pn ≡ pn)) (filter (λ r. bytes_eq r.pn pn) recipes)
with_pn pn [] h = tt
with_pn pn (r ∷ recipes) h = by (bytes_eq r.pn pn) refl (with_pn pn recipes h.1)
  where
    by : (b : Bool) → bytes_eq r.pn pn ≡ b → AllByRecursion (λ r. IsRead r × (r.pn ≡ pn)) (filter (λ r. bytes_eq r.pn pn) recipes) → AllByRecursion (λ r. IsRead r × (r.pn ≡ pn)) (if b then r ∷ filter (λ r. bytes_eq r.pn pn) recipes else filter (λ r. bytes_eq r.pn pn) recipes)
    by true e rest = ((h.0, same_text r.pn pn e), rest)
    by false e rest = rest

chosen_is : (versions : List (List ℕ × List ℕ)) (recipes : List Recipe) (pn : List ℕ) → AllByRecursion IsRead recipes → IfSome (chosen versions recipes pn) (λ r. IsRead r × (r.pn ≡ pn))
chosen_is versions recipes pn h =
    let own = filter (λ r. bytes_eq r.pn pn) recipes in
    let preference = lookup (bytes_eq pn) versions in
    greatest_has (λ r. IsRead r × (r.pn ≡ pn)) (that_count preference own) None (that_count_has (λ r. IsRead r × (r.pn ≡ pn)) preference own (with_pn pn recipes h)) tt

-- each recipe's PN comes before those behind it
abbrev Rising : List Recipe → Type 0
Rising [] = Unit {0}
Rising (r ∷ rs) = AllByRecursion (λ s. Before r.pn s.pn) rs × Rising rs

module _ (versions : List (List ℕ × List ℕ)) (recipes : List Recipe) (read : AllByRecursion IsRead recipes) where
  abbrev picks : List (List ℕ) → List Recipe
  picks names = filter_map (chosen versions recipes) names

  picks_read : (names : List (List ℕ)) → AllByRecursion IsRead (picks names)
  picks_read [] = tt
  picks_read (n ∷ names) = by (chosen versions recipes n) (chosen_is versions recipes n read) (picks_read names)
    where
      by : (o : Option Recipe) → IfSome o (λ r. IsRead r × (r.pn ≡ n)) → AllByRecursion IsRead (picks names) → AllByRecursion IsRead (cons_option o (picks names))
      by None h rest = rest
      by (Some r) h rest = (h.0, rest)

  picks_above : (x : List ℕ) (names : List (List ℕ)) → Above x names → AllByRecursion (λ s. Before x s.pn) (picks names)
  picks_above x [] a = tt
  picks_above x (n ∷ names) a = by (chosen versions recipes n) (chosen_is versions recipes n read) (picks_above x names a.1)
    where
      by : (o : Option Recipe) → IfSome o (λ r. IsRead r × (r.pn ≡ n)) → AllByRecursion (λ s. Before x s.pn) (picks names) → AllByRecursion (λ s. Before x s.pn) (cons_option o (picks names))
      by None h rest = rest
      by (Some r) h rest = (subst (Before x) (sym h.1) a.0, rest)

  picks_rise : (names : List (List ℕ)) → Ascending names → Rising (picks names)
  picks_rise [] a = tt
  picks_rise (n ∷ names) a = by (chosen versions recipes n) (chosen_is versions recipes n read) (picks_rise names a.1) (picks_above n names a.0)
    where
      by : (o : Option Recipe) → IfSome o (λ r. IsRead r × (r.pn ≡ n)) → Rising (picks names) → AllByRecursion (λ s. Before n s.pn) (picks names) → Rising (cons_option o (picks names))
      by None h rest above = rest
      by (Some r) h rest above = (subst (λ p. AllByRecursion (λ s. Before p s.pn) (picks names)) (sym h.1) above, rest)

-- ---- the facts

not_itself : (x y : List ℕ) → Before x y → x ≢ y
not_itself x y b e =
    let equal : is_eq (slice_cmp nat_cmp x y) ≡ true = is_eq-slice_cmp x y ∙ ap (bytes_eq x) (sym e) ∙ text_itself x in
    let less : is_eq (slice_cmp nat_cmp x y) ≡ false = ap is_eq b in not_both (is_eq (slice_cmp nat_cmp x y)) equal less

pns_are : (recipes : List Recipe) (facts : List RecipeFacts) → AreOf recipes facts → AllByRecursion IsRead recipes → AllByRecursion (λ r. is_pn r.pn ≡ true) facts
pns_are [] [] h k = tt
pns_are [] (f ∷ fs) h k = absurd h
pns_are (r ∷ rs) [] h k = absurd h
pns_are (r ∷ rs) (f ∷ fs) h k = (subst (λ p. is_pn p ≡ true) (sym h.0.pn) k.0.pn, pns_are rs fs h.1 k.1)

tasks_are : (recipes : List Recipe) (facts : List RecipeFacts) → AreOf recipes facts → AllByRecursion (λ r. All (λ t. is_task_name t.task ≡ true) r.tasks) facts
tasks_are [] [] h = tt
tasks_are [] (f ∷ fs) h = absurd h
tasks_are (r ∷ rs) [] h = absurd h
tasks_are (r ∷ rs) (f ∷ fs) h = (All-from_recursion (λ t. is_task_name t.task ≡ true) f.tasks h.0.tasks, tasks_are rs fs h.1)

others_differ : (x : RecipeFacts) (pn : List ℕ) (recipes : List Recipe) (facts : List RecipeFacts) → x.pn ≡ pn → AreOf recipes facts → AllByRecursion (λ s. Before pn s.pn) recipes → AllByRecursion (λ f. x.pn ≢ f.pn) facts
others_differ x pn [] [] e h k = tt
others_differ x pn [] (f ∷ fs) e h k = absurd h
others_differ x pn (r ∷ rs) [] e h k = absurd h
others_differ x pn (r ∷ rs) (f ∷ fs) e h k = ((λ same. not_itself pn r.pn k.0 (sym e ∙ same ∙ h.0.pn)), others_differ x pn rs fs e h.1 k.1)

all_differ : (recipes : List Recipe) (facts : List RecipeFacts) → AreOf recipes facts → Rising recipes → AllPairs (λ a b. a.pn ≢ b.pn) facts
all_differ [] [] h k = λ i j d lt within. absurd (omega arith)
all_differ [] (f ∷ fs) h k = absurd h
all_differ (r ∷ rs) [] h k = absurd h
all_differ (r ∷ rs) (f ∷ fs) h k = AllPairs-cons (λ a b. a.pn ≢ b.pn) f fs (All-from_recursion (λ b. f.pn ≢ b.pn) fs (others_differ f r.pn rs fs h.0.pn h.1 k.0)) (all_differ rs fs h.1 k.1)

lines_only : (recipes : List Recipe) → AllByRecursion IsRead recipes → AllByRecursion (λ r. Good r.lines) recipes
lines_only [] h = tt
lines_only (r ∷ rs) h = (h.0.lines, lines_only rs h.1)

pub set_has_good_names : (sources : Sources) (config : List EntryLine) (recipes appends : List (List ℕ)) (set : RecipeSet) → AddGoodTasks sources → HaveGoodTasks config → recipe_set sources config recipes appends ≡ Ok set → HasGoodNames set.facts
set_has_good_names sources config recipes appends set adds have e =
    let wished = ok_parts (asked_of [] (wishes config)) (set_under sources config recipes appends) set e in
    let files = ok_parts (files_over recipes appends) (λ files. read_over sources config wished.0 files appends) set wished.2 in
    let read = ok_parts (recipes_read sources config appends files.0) (λ read. set_over wished.0 (all_chosen wished.0.versions read)) set files.2 in
    let picked = all_chosen wished.0.versions read.0 in
    let made = λ (facts : List RecipeFacts). let r : Result RecipeSet SetRefusal = Ok (record { facts = record { recipes = facts; preferred = wished.0.providers; assumed = wished.0.assumed }; stores = map (λ r. r.lines) picked }) in r in
    let facts = ok_parts (all_facts picked) made set read.2 in
    let names = in_byte_order (map (λ r. r.pn) read.0) in
    let good = all_read sources adds config have appends files.0 read.0 read.1 in
    let picked_read : AllByRecursion IsRead picked = picks_read wished.0.versions read.0 good names in
    let rising : Rising picked = picks_rise wished.0.versions read.0 good names (ordered_ascending (map (λ r. r.pn) read.0)) in
    let are : AreOf picked facts.0 = all_are_of picked facts.0 (lines_only picked picked_read) facts.1 in
    subst (λ (s : RecipeSet). HasGoodNames s.facts) {x = record { facts = record { recipes = facts.0; preferred = wished.0.providers; assumed = wished.0.assumed }; stores = map (λ r. r.lines) picked }}
    (same_ok {E = SetRefusal} (record { facts = record { recipes = facts.0; preferred = wished.0.providers; assumed = wished.0.assumed }; stores = map (λ r. r.lines) picked }) set facts.2)
    (record {
      pns = All-from_recursion (λ r. is_pn r.pn ≡ true) facts.0 (pns_are picked facts.0 are picked_read);
      once = all_differ picked facts.0 are rising;
      tasks = All-from_recursion (λ r. All (λ t. is_task_name t.task ≡ true) r.tasks) facts.0 (tasks_are picked facts.0 are);
    })
