-- Reading files that add tasks of good names alone adds such entries alone.
use Rattle.std.proofs.Common.{◌≡◌, refl, sym, ap, subst, ℕ, zero, suc, List, [], ◌∷◌, ◌++◌, map, Bool, true, false, true≢false, Option, Some, None, Result, Ok, Err, is_ok, option_map, IfOk, if◌then◌else◌, codes}
use Rattle.std.specs.List.{AllByRecursion}
use Rattle.meta_model.proofs.Room.{ok_parts as value_parts}
use Rattle.meta_model.specs.declared.entry.Op.{Op}
use Rattle.meta_model.specs.declared.entry.Op.TheVariants as operator
use Rattle.meta_model.specs.declared.entry.EntryLine.{EntryLine}
use Rattle.meta_model.specs.declared.entry.EntryLine.TheVariants as entry
use Rattle.meta_model.specs.declared.line.Kind.{Kind}
use Rattle.meta_model.specs.declared.line.Kind.TheVariants.{Class}
use Rattle.meta_model.specs.declared.statement.Statement.{Statement}
use Rattle.meta_model.specs.declared.statement.Statement.TheVariants.{Assign, Flag, Export, Unset, UnsetFlag, Include, Require, Inherit, Function, ExportFunctions, AddTask, DelTask}
use Rattle.meta_model.specs.Names.{LateName, late_name, first_part}
use Rattle.meta_model.specs.Refusal.{Refusal}
use Rattle.meta_model.specs.Text.{is_in, words}
use Rattle.meta_model.specs.Active.{expand}
use Rattle.meta_model.specs.Entries.{lines_of, taken, line_of, assignment_line, set_flag}
use Rattle.load_model.specs.Paths.{is_absolute, paths_in, folder_of}
use Rattle.load_model.specs.LoadRefusal.{LoadRefusal, Place, nowhere, refused_at, missing_required, missing_class, include_depth, ◌>>=◌, asked_at, no_value}
use Rattle.load_model.specs.Loading.{Sources, Contents, Loaded, Origin, Found, Reads, with_lines, with_class}
use Rattle.load_model.specs.Loading.{included_by, origin_of, found_there, first_found, search_folders, searched, include_found, include_after, includes_after, class_path, class_searched, class_found, class_after, classes_after, statement_after, place_in, statements_after, contents_after, read_within, most_nested, read_first, file_found, entries, class_entries, searched_entries}
use Rattle.plan_model.specs.Names.{is_task_name, AddsGoodTasks, AddsGoodTask, HaveGoodTasks, AddGoodTasks}
use Rattle.plan_model.proofs.Planning.{ok_parts, ok_as, same_ok}

-- entries

pub both_good : (xs ys : List EntryLine) → AllByRecursion AddsGoodTask xs → AllByRecursion AddsGoodTask ys → AllByRecursion AddsGoodTask (xs ++ ys)
both_good [] ys h k = k
both_good (x ∷ xs) ys h k = (h.0, both_good xs ys h.1 k)

pub lines_behind : (xs ys : List EntryLine) → HaveGoodTasks xs → AllByRecursion AddsGoodTask ys → HaveGoodTasks (xs ++ ys)
lines_behind xs ys h k = record { each = both_good xs ys h.each k }

-- what a statement adds of its own

assigned_good : (op : Op) (name text : List ℕ) (late : Option LateName) → AddsGoodTask (line_of op name text late)
assigned_good op name text None = tt
assigned_good op name text (Some late) = tt

exported_good : (export : Bool) (name : List ℕ) → AllByRecursion AddsGoodTask (if export then set_flag name (codes "export") ∷ [] else [])
exported_good true name = (tt, tt)
exported_good false name = tt

mapped_good : (class : List ℕ) (names : List (List ℕ)) → AllByRecursion AddsGoodTask (map (entry.Exported class) names)
mapped_good class [] = tt
mapped_good class (name ∷ names) = (tt, mapped_good class names)

added_good : (names after before : List (List ℕ)) → AllByRecursion (λ n. is_task_name n ≡ true) names → AllByRecursion AddsGoodTask (map (λ name. entry.Task name after before) names)
added_good [] after before h = tt
added_good (name ∷ names) after before h = (h.0, added_good names after before h.1)

taken_good : (names : List (List ℕ)) → AllByRecursion AddsGoodTask (map entry.NoTask names)
taken_good [] = tt
taken_good (name ∷ names) = (tt, taken_good names)

same_value : {A : Type 0} (a b : A) → ◌≡◌ {A = Result A Refusal} (Ok a) (Ok b) → a ≡ b
same_value a b e = cc

own_good : (class : List ℕ) (before : List EntryLine) (statement : Statement) (lines : List EntryLine) → AddsGoodTasks statement → lines_of class before statement ≡ Ok lines → AllByRecursion AddsGoodTask lines
own_good class before (Assign export name op text) lines h e =
    let t = value_parts (taken before op text) (λ t. Ok (assignment_line name t.0 t.1 ∷ (if export then set_flag name (codes "export") ∷ [] else []))) lines e in
    subst (AllByRecursion AddsGoodTask) (same_value (assignment_line name t.0.0 t.0.1 ∷ (if export then set_flag name (codes "export") ∷ [] else [])) lines t.2) (assigned_good t.0.0 name t.0.1 (late_name name), exported_good export name)
own_good class before (Flag name flag op text) lines h e =
    let t = value_parts (taken before op text) (λ t. Ok (entry.Flag name flag t.0 t.1 ∷ [])) lines e in
    subst (AllByRecursion AddsGoodTask) (same_value (entry.Flag name flag t.0.0 t.0.1 ∷ []) lines t.2) (tt, tt)
own_good class before (Export name) lines h e = subst (AllByRecursion AddsGoodTask) (same_value (set_flag name (codes "export") ∷ []) lines e) (tt, tt)
own_good class before (Unset name) lines h e = subst (AllByRecursion AddsGoodTask) (same_value (entry.Unset name ∷ []) lines e) (tt, tt)
own_good class before (UnsetFlag name flag) lines h e = subst (AllByRecursion AddsGoodTask) (same_value (entry.UnsetFlag name flag ∷ []) lines e) (tt, tt)
own_good class before (Function name body) lines h e = subst (AllByRecursion AddsGoodTask) (same_value (assignment_line name operator.Set body ∷ set_flag (first_part name) (codes "func") ∷ []) lines e) (assigned_good operator.Set name body (late_name name), (tt, tt))
own_good class before (ExportFunctions names) lines h e = subst (AllByRecursion AddsGoodTask) (same_value (map (entry.Exported class) names) lines e) (mapped_good class names)
own_good class before (AddTask names after earlier) lines h e = subst (AllByRecursion AddsGoodTask) (same_value (map (λ name. entry.Task name after earlier) names) lines e) (added_good names after earlier h)
own_good class before (DelTask names) lines h e = subst (AllByRecursion AddsGoodTask) (same_value (map entry.NoTask names) lines e) (taken_good names)
own_good class before (Include path) lines h e = subst (AllByRecursion AddsGoodTask) (same_value [] lines e) tt
own_good class before (Require path) lines h e = subst (AllByRecursion AddsGoodTask) (same_value [] lines e) tt
own_good class before (Inherit names) lines h e = subst (AllByRecursion AddsGoodTask) (same_value [] lines e) tt

-- files that are found

abbrev pub GoodContents : Contents → Type 0
GoodContents contents = IfOk contents (AllByRecursion (λ s. AddsGoodTasks s.1))

contents_are : (sources : Sources) → AddGoodTasks sources → (path : List ℕ) (kind : Kind) (contents : Contents) → sources path kind ≡ Some contents → GoodContents contents
contents_are sources good path kind (Ok list) e = good path kind list e
contents_are sources good path kind (Err wrong) e = tt

module _ (sources : Sources) (good : AddGoodTasks sources) where
  first_good : (kind : Kind) (paths : List (List ℕ)) (found : Found) → first_found sources kind paths ≡ Some found → GoodContents found.1
  first_good kind [] found e = absurd (cc)
  first_good kind (path ∷ paths) found e = by (sources path kind) refl (λ h. first_good kind paths found h) e
    where
      by : (o : Option Contents) → sources path kind ≡ o → (first_found sources kind paths ≡ Some found → GoodContents found.1) → found_there path o (first_found sources kind paths) ≡ Some found → GoodContents found.1
      by (Some contents) f later h = let s : (path, contents) ≡ found = cc in subst (λ (x : Found). GoodContents x.1) s (contents_are sources good path kind contents f)
      by None f later h = later h

  abbrev GoodFound : Option Found → Type 0
  GoodFound None = Unit {0}
  GoodFound (Some found) = GoodContents found.1

  by_first : (kind : Kind) (paths : List (List ℕ)) (o : Option Found) → first_found sources kind paths ≡ o → GoodFound o
  by_first kind paths None e = tt
  by_first kind paths (Some found) e = first_good kind paths found e

  searched_good : (kind : Kind) (lines : List EntryLine) (first : List (List ℕ)) (path : List ℕ) (found : Option Found) → searched sources kind lines first path ≡ Ok found → GoodFound found
  searched_good kind lines first path found e = by (is_absolute path) e
    where
      by : (b : Bool) → ◌≡◌ {A = Result (Option Found) Refusal} (elim b [ true ↦ Ok None | false ↦ search_folders lines first >>= λ folders. Ok (first_found sources kind (paths_in folders path)) ]) (Ok found) → GoodFound found
      by true h = subst GoodFound (same_ok {E = Refusal} None found h) tt
      by false h =
          let folders = ok_parts (search_folders lines first) (λ folders. Ok (first_found sources kind (paths_in folders path))) found h in
          by_first kind (paths_in folders.0 path) found (same_ok {E = Refusal} (first_found sources kind (paths_in folders.0 path)) found folders.2)

  class_searched_good : (lines : List EntryLine) (name : List ℕ) (found : Option Found) → class_searched sources lines name ≡ Ok found → GoodFound found
  class_searched_good lines name found e = by (is_absolute name) e
    where
      by : (b : Bool) → ◌≡◌ {A = Result (Option Found) Refusal} (elim b [ true ↦ Ok None | false ↦ searched sources Class lines [] (class_path name) ]) (Ok found) → GoodFound found
      by true h = subst GoodFound (same_ok {E = Refusal} None found h) tt
      by false h = searched_good Class lines [] (class_path name) found h

  asked_ok : {A : Type 0} (place : Place) (m : Result A Refusal) (a : A) → asked_at place m ≡ Ok a → m ≡ Ok a
  asked_ok place m a e = ok_as (λ refusal. refused_at place (no_value refusal)) m a e

  -- a way of reading files that adds such entries alone
  abbrev Keeps : Reads → Type 0
  Keeps read = (place : Place) (origin : Origin) (contents : Contents) (old new : Loaded) → GoodContents contents → HaveGoodTasks old.lines → read place origin contents old ≡ Ok new → HaveGoodTasks new.lines

  stays : (old new : Loaded) → HaveGoodTasks old.lines → ◌≡◌ {A = Result Loaded LoadRefusal} (Ok old) (Ok new) → HaveGoodTasks new.lines
  stays old new h e = subst (λ (l : Loaded). HaveGoodTasks l.lines) (same_ok {E = LoadRefusal} old new e) h

  refused : (refusal : LoadRefusal) (old new : Loaded) → ◌≡◌ {A = Result Loaded LoadRefusal} (Err refusal) (Ok new) → HaveGoodTasks new.lines
  refused refusal old new e = absurd (true≢false (sym (ap is_ok e)))

  module _ (read : Reads) (keeps : Keeps read) where
    include_found_good : (place : Place) (origin : Origin) (must : Bool) (word : List ℕ) (found : Option Found) (old new : Loaded) → GoodFound found → HaveGoodTasks old.lines → include_found read place origin must word found old ≡ Ok new → HaveGoodTasks new.lines
    include_found_good place origin must word (Some found) old new f h e = keeps place (included_by origin found.0) found.1 old new f h e
    include_found_good place origin false word None old new f h e = stays old new h e
    include_found_good place origin true word None old new f h e = refused (refused_at place (missing_required word)) old new e

    include_good : (place : Place) (origin : Origin) (must : Bool) (word : List ℕ) (old new : Loaded) → HaveGoodTasks old.lines → include_after read sources place origin must word old ≡ Ok new → HaveGoodTasks new.lines
    include_good place origin must word old new h e =
        let found = ok_parts (asked_at place (searched sources origin.kind old.lines (folder_of origin.path ∷ []) word)) (λ found. include_found read place origin must word found old) new e in
        include_found_good place origin must word found.0 old new (searched_good origin.kind old.lines (folder_of origin.path ∷ []) word found.0 (asked_ok place (searched sources origin.kind old.lines (folder_of origin.path ∷ []) word) found.0 found.1)) h found.2

    includes_good : (place : Place) (origin : Origin) (must : Bool) (ws : List (List ℕ)) (old new : Loaded) → HaveGoodTasks old.lines → includes_after read sources place origin must ws old ≡ Ok new → HaveGoodTasks new.lines
    includes_good place origin must [] old new h e = stays old new h e
    includes_good place origin must (w ∷ ws) old new h e =
        let next = ok_parts (include_after read sources place origin must w old) (λ next. includes_after read sources place origin must ws next) new e in
        includes_good place origin must ws next.0 new (include_good place origin must w old next.0 h next.1) next.2

    class_found_good : (place : Place) (must : Bool) (name : List ℕ) (found : Option Found) (old new : Loaded) → GoodFound found → HaveGoodTasks old.lines → class_found read place must name found old ≡ Ok new → HaveGoodTasks new.lines
    class_found_good place must name (Some found) old new f h e = keeps place (origin_of Class found.0) found.1 (with_class name old) new f h e
    class_found_good place false name None old new f h e = stays old new h e
    class_found_good place true name None old new f h e = refused (refused_at place (missing_class name)) old new e

    class_good : (place : Place) (must : Bool) (name : List ℕ) (old new : Loaded) → HaveGoodTasks old.lines → class_after read sources place must name old ≡ Ok new → HaveGoodTasks new.lines
    class_good place must name old new h e = by (is_in name old.classes) e
      where
        by : (b : Bool) → ◌≡◌ {A = Result Loaded LoadRefusal} (elim b [ true ↦ Ok old | false ↦ asked_at place (class_searched sources old.lines name) >>= λ found. class_found read place must name found old ]) (Ok new) → HaveGoodTasks new.lines
        by true f = stays old new h f
        by false f =
            let found = ok_parts (asked_at place (class_searched sources old.lines name)) (λ found. class_found read place must name found old) new f in
            class_found_good place must name found.0 old new (class_searched_good old.lines name found.0 (asked_ok place (class_searched sources old.lines name) found.0 found.1)) h found.2

    classes_good : (place : Place) (must : Bool) (names : List (List ℕ)) (old new : Loaded) → HaveGoodTasks old.lines → classes_after read sources place must names old ≡ Ok new → HaveGoodTasks new.lines
    classes_good place must [] old new h e = stays old new h e
    classes_good place must (name ∷ names) old new h e =
        let next = ok_parts (class_after read sources place must name old) (λ next. classes_after read sources place must names next) new e in
        classes_good place must names next.0 new (class_good place must name old next.0 h next.1) next.2

    -- a statement that names no file
    plain_good : (place : Place) (class : List ℕ) (statement : Statement) (old new : Loaded) → AddsGoodTasks statement → HaveGoodTasks old.lines → (asked_at place (lines_of class old.lines statement) >>= λ lines. Ok (with_lines lines old)) ≡ Ok new → HaveGoodTasks new.lines
    plain_good place class statement old new s h e =
        let lines = ok_parts (asked_at place (lines_of class old.lines statement)) (λ lines. Ok (with_lines lines old)) new e in
        stays (with_lines lines.0 old) new (lines_behind old.lines lines.0 h (own_good class old.lines statement lines.0 s (asked_ok place (lines_of class old.lines statement) lines.0 lines.1))) lines.2

    statement_good : (place : Place) (origin : Origin) (statement : Statement) (old new : Loaded) → AddsGoodTasks statement → HaveGoodTasks old.lines → statement_after read sources place origin statement old ≡ Ok new → HaveGoodTasks new.lines
    statement_good place origin (Include text) old new s h e =
        let named = ok_parts (asked_at place (expand old.lines text)) (λ named. includes_after read sources place origin false (words named) old) new e in includes_good place origin false (words named.0) old new h named.2
    statement_good place origin (Require text) old new s h e =
        let named = ok_parts (asked_at place (expand old.lines text)) (λ named. includes_after read sources place origin true (words named) old) new e in includes_good place origin true (words named.0) old new h named.2
    statement_good place origin (Inherit text) old new s h e =
        let named = ok_parts (asked_at place (expand old.lines text)) (λ named. classes_after read sources place true (words named) old) new e in classes_good place true (words named.0) old new h named.2
    statement_good place origin (Assign export name op text) old new s h e = plain_good place origin.class (Assign export name op text) old new s h e
    statement_good place origin (Flag name flag op text) old new s h e = plain_good place origin.class (Flag name flag op text) old new s h e
    statement_good place origin (Export name) old new s h e = plain_good place origin.class (Export name) old new s h e
    statement_good place origin (Unset name) old new s h e = plain_good place origin.class (Unset name) old new s h e
    statement_good place origin (UnsetFlag name flag) old new s h e = plain_good place origin.class (UnsetFlag name flag) old new s h e
    statement_good place origin (Function name body) old new s h e = plain_good place origin.class (Function name body) old new s h e
    statement_good place origin (ExportFunctions names) old new s h e = plain_good place origin.class (ExportFunctions names) old new s h e
    statement_good place origin (AddTask names after before) old new s h e = plain_good place origin.class (AddTask names after before) old new s h e
    statement_good place origin (DelTask names) old new s h e = plain_good place origin.class (DelTask names) old new s h e

    statements_good : (origin : Origin) (list : List (ℕ × Statement)) (old new : Loaded) → AllByRecursion (λ s. AddsGoodTasks s.1) list → HaveGoodTasks old.lines → statements_after read sources origin list old ≡ Ok new → HaveGoodTasks new.lines
    statements_good origin [] old new s h e = stays old new h e
    statements_good origin (first ∷ rest) old new s h e =
        let next = ok_parts (statement_after read sources (place_in origin first.0) origin first.1 old) (λ next. statements_after read sources origin rest next) new e in
        statements_good origin rest next.0 new s.1 (statement_good (place_in origin first.0) origin first.1 old next.0 s.0 h next.1) next.2

    contents_good : (origin : Origin) (contents : Contents) (old new : Loaded) → GoodContents contents → HaveGoodTasks old.lines → contents_after read sources origin contents old ≡ Ok new → HaveGoodTasks new.lines
    contents_good origin (Ok list) old new s h e = statements_good origin list old new s h e
    contents_good origin (Err wrong) old new s h e = refused (refused_at (place_in origin wrong.0) wrong.1) old new e

  read_keeps : (left : ℕ) → Keeps (read_within left sources)
  read_keeps zero place origin contents old new s h e = refused (refused_at place include_depth) old new e
  read_keeps (suc left) place origin contents old new s h e = contents_good (read_within left sources) (read_keeps left) origin contents old new s h e

  file_good : (kind : Kind) (must : Bool) (path : List ℕ) (found : Option Found) (old new : Loaded) → GoodFound found → HaveGoodTasks old.lines → file_found sources kind must path found old ≡ Ok new → HaveGoodTasks new.lines
  file_good kind must path (Some found) old new f h e = read_keeps most_nested nowhere (origin_of kind found.0) found.1 old new f h e
  file_good kind false path None old new f h e = stays old new h e
  file_good kind true path None old new f h e = refused (refused_at nowhere (missing_required path)) old new e

  by_path : (path : List ℕ) (kind : Kind) (o : Option Contents) → sources path kind ≡ o → GoodFound (option_map (λ contents. (path, contents)) o)
  by_path path kind None e = tt
  by_path path kind (Some contents) e = contents_are sources good path kind contents e

  pub entries_good : (kind : Kind) (path : List ℕ) (old new : Loaded) → HaveGoodTasks old.lines → entries sources kind path old ≡ Ok new → HaveGoodTasks new.lines
  entries_good kind path old new h e = file_good kind true path (option_map (λ contents. (path, contents)) (sources path kind)) old new (by_path path kind (sources path kind) refl) h e

  pub class_entries_good : (must : Bool) (name : List ℕ) (old new : Loaded) → HaveGoodTasks old.lines → class_entries sources must name old ≡ Ok new → HaveGoodTasks new.lines
  class_entries_good must name old new h e = class_good (read_first sources) (read_keeps most_nested) nowhere must name old new h e

  pub all_classes_good : (place : Place) (must : Bool) (names : List (List ℕ)) (old new : Loaded) → HaveGoodTasks old.lines → classes_after (read_first sources) sources place must names old ≡ Ok new → HaveGoodTasks new.lines
  all_classes_good place must names old new h e = classes_good (read_first sources) (read_keeps most_nested) place must names old new h e

  pub searched_entries_good : (kind : Kind) (must : Bool) (path : List ℕ) (old new : Loaded) → HaveGoodTasks old.lines → searched_entries sources kind must path old ≡ Ok new → HaveGoodTasks new.lines
  searched_entries_good kind must path old new h e =
      let found = ok_parts (asked_at nowhere (searched sources kind old.lines [] path)) (λ found. file_found sources kind must path found old) new e in
      file_good kind must path found.0 old new (searched_good kind old.lines [] path found.0 (asked_ok nowhere (searched sources kind old.lines [] path) found.0 found.1)) h found.2
