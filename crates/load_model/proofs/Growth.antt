-- Reading adds entries behind those before, and counts each class once.
use Rattle.std.proofs.Common.{◌≡◌, refl, sym, ◌∙◌, ap, subst, ℕ, zero, suc, List, [], ◌∷◌, ◌++◌, Bool, true, false, true≢false, Option, Some, None, Result, Ok, Err, is_ok, option_map}
use Rattle.std.proofs.lemmas.List.{append-nil, append_assoc}
use Rattle.meta_model.specs.declared.entry.EntryLine.{EntryLine}
use Rattle.meta_model.specs.declared.line.Kind.{Kind}
use Rattle.meta_model.specs.declared.line.Kind.TheVariants.{Class}
use Rattle.meta_model.specs.declared.statement.Statement.{Statement}
use Rattle.meta_model.specs.declared.statement.Statement.TheVariants.{Assign, Flag, Export, Unset, UnsetFlag, Include, Require, Inherit, Function, ExportFunctions, AddTask, DelTask}
use Rattle.meta_model.specs.Text.{is_in, words}
use Rattle.meta_model.specs.Active.{expand}
use Rattle.meta_model.specs.Entries.{lines_of}
use Rattle.load_model.specs.Paths.{folder_of}
use Rattle.load_model.specs.LoadRefusal.{LoadRefusal, Place, nowhere, refused_at, missing_required, missing_class, include_depth, ◌>>=◌, asked_at}
use Rattle.load_model.specs.Loading.{Sources, Contents, Loaded, Origin, Found, Reads, Extends, with_lines, with_class}
use Rattle.load_model.specs.Loading.{included_by, origin_of, searched, include_found, include_after, includes_after, class_searched, class_found, class_after, classes_after, statement_after, place_in, statements_after, contents_after, read_within, most_nested, read_first, file_found, entries, class_entries, searched_entries}

-- what was done first, where all of it is no refusal
data Done {A B E : Type 0} (m : Result A E) (f : A → Result B E) (b : B) : Type 0 where
  done : (a : A) → m ≡ Ok a → f a ≡ Ok b → Done m f b

no_refusal : {A E : Type 0} (e : E) (a : A) → Err e ≡ Ok a → ⊥
no_refusal e a h = true≢false (sym (ap is_ok h))

both_done : {A B E : Type 0} (m : Result A E) (f : A → Result B E) (b : B) → (m >>= f) ≡ Ok b → Done m f b
both_done (Ok a) f b h = done a refl h
both_done (Err e) f b h = absurd (no_refusal e b h)

stays : (loaded : Loaded) → Extends loaded loaded
stays loaded = record { lines = ([], sym (append-nil loaded.lines)); classes = ([], refl); once = λ h. h }

on_and_on : (a b c : Loaded) → Extends a b → Extends b c → Extends a c
on_and_on a b c x y = record {
  lines = (x.lines.0 ++ y.lines.0, y.lines.1 ∙ ap (λ l. l ++ y.lines.0) x.lines.1 ∙ append_assoc a.lines x.lines.0 y.lines.0);
  classes = (y.classes.0 ++ x.classes.0, y.classes.1 ∙ ap (λ l. y.classes.0 ++ l) x.classes.1 ∙ sym (append_assoc y.classes.0 x.classes.0 a.classes));
  once = λ h. y.once (x.once h);
}

lines_added : (lines : List EntryLine) (loaded : Loaded) → Extends loaded (with_lines lines loaded)
lines_added lines loaded = record { lines = (lines, refl); classes = ([], refl); once = λ h. h }

class_added : (name : List ℕ) (loaded : Loaded) → is_in name loaded.classes ≡ false → Extends loaded (with_class name loaded)
class_added name loaded n = record { lines = ([], sym (append-nil loaded.lines)); classes = (name ∷ [], refl); once = λ h. rw n h }

-- a way of reading files that does so
abbrev pub Grows : Reads → Type 0
Grows read = (place : Place) (origin : Origin) (contents : Contents) (old new : Loaded) → read place origin contents old ≡ Ok new → Extends old new

abbrev ok_or : Loaded → Result Loaded LoadRefusal → Loaded
ok_or d (Ok l) = l
ok_or d (Err e) = d

abbrev as_loaded : Loaded → Result Loaded LoadRefusal
as_loaded loaded = Ok loaded

to_ok : (old b new : Loaded) → Extends old b → as_loaded b ≡ Ok new → Extends old new
to_ok old b new x h = subst (λ l. Extends old l) (ap (λ r. ok_or old r) h) x

module _ (read : Reads) (grows : Grows read) (sources : Sources) where
  include_found_grows : (place : Place) (origin : Origin) (must : Bool) (word : List ℕ) (found : Option Found) (old new : Loaded) → include_found read place origin must word found old ≡ Ok new → Extends old new
  include_found_grows place origin must word (Some found) old new h = grows place (included_by origin found.0) found.1 old new h
  include_found_grows place origin false word None old new h = to_ok old old new (stays old) h
  include_found_grows place origin true word None old new h = absurd (no_refusal (refused_at place (missing_required word)) new h)

  include_grows : (place : Place) (origin : Origin) (must : Bool) (word : List ℕ) (old new : Loaded) → include_after read sources place origin must word old ≡ Ok new → Extends old new
  include_grows place origin must word old new h =
      elim (both_done (asked_at place (searched sources origin.kind old.lines (folder_of origin.path ∷ []) word)) (λ found. include_found read place origin must word found old) new h) [
        | done found e f ↦ include_found_grows place origin must word found old new f
      ]

  includes_grow : (place : Place) (origin : Origin) (must : Bool) (ws : List (List ℕ)) (old new : Loaded) → includes_after read sources place origin must ws old ≡ Ok new → Extends old new
  includes_grow place origin must [] old new h = to_ok old old new (stays old) h
  includes_grow place origin must (w ∷ ws) old new h =
      elim (both_done (include_after read sources place origin must w old) (λ next. includes_after read sources place origin must ws next) new h) [
        | done next e f ↦ on_and_on old next new (include_grows place origin must w old next e) (includes_grow place origin must ws next new f)
      ]

  class_found_grows : (place : Place) (must : Bool) (name : List ℕ) (found : Option Found) (old new : Loaded) → is_in name old.classes ≡ false → class_found read place must name found old ≡ Ok new → Extends old new
  class_found_grows place must name (Some found) old new n h = on_and_on old (with_class name old) new (class_added name old n) (grows place (origin_of Class found.0) found.1 (with_class name old) new h)
  class_found_grows place false name None old new n h = to_ok old old new (stays old) h
  class_found_grows place true name None old new n h = absurd (no_refusal (refused_at place (missing_class name)) new h)

  -- the two ways of a class, by whether it was read
  class_by : Place → Bool → List ℕ → Loaded → Bool → Result Loaded LoadRefusal
  class_by place must name old there = elim there [
    | true ↦ Ok old
    | false ↦ asked_at place (class_searched sources old.lines name) >>= λ found. class_found read place must name found old
  ]

  class_by_grows : (place : Place) (must : Bool) (name : List ℕ) (old new : Loaded) (there : Bool) → is_in name old.classes ≡ there → class_by place must name old there ≡ Ok new → Extends old new
  unfolding class_by
  class_by_grows place must name old new true n h = to_ok old old new (stays old) h
  class_by_grows place must name old new false n h =
      elim (both_done (asked_at place (class_searched sources old.lines name)) (λ found. class_found read place must name found old) new h) [
        | done found e f ↦ class_found_grows place must name found old new n f
      ]

  class_grows : (place : Place) (must : Bool) (name : List ℕ) (old new : Loaded) → class_after read sources place must name old ≡ Ok new → Extends old new
  unfolding class_by
  class_grows place must name old new h = class_by_grows place must name old new (is_in name old.classes) refl h

  classes_grow : (place : Place) (must : Bool) (names : List (List ℕ)) (old new : Loaded) → classes_after read sources place must names old ≡ Ok new → Extends old new
  classes_grow place must [] old new h = to_ok old old new (stays old) h
  classes_grow place must (name ∷ names) old new h =
      elim (both_done (class_after read sources place must name old) (λ next. classes_after read sources place must names next) new h) [
        | done next e f ↦ on_and_on old next new (class_grows place must name old next e) (classes_grow place must names next new f)
      ]

  -- a statement that names no file
  plain_grows : (place : Place) (class : List ℕ) (statement : Statement) (old new : Loaded) → (asked_at place (lines_of class old.lines statement) >>= λ lines. Ok (with_lines lines old)) ≡ Ok new → Extends old new
  plain_grows place class statement old new h =
      elim (both_done (asked_at place (lines_of class old.lines statement)) (λ lines. Ok (with_lines lines old)) new h) [
        | done lines e f ↦ to_ok old (with_lines lines old) new (lines_added lines old) f
      ]

  statement_grows : (place : Place) (origin : Origin) (statement : Statement) (old new : Loaded) → statement_after read sources place origin statement old ≡ Ok new → Extends old new
  statement_grows place origin (Include text) old new h =
      elim (both_done (asked_at place (expand old.lines text)) (λ named. includes_after read sources place origin false (words named) old) new h) [ done named e f ↦ includes_grow place origin false (words named) old new f ]
  statement_grows place origin (Require text) old new h =
      elim (both_done (asked_at place (expand old.lines text)) (λ named. includes_after read sources place origin true (words named) old) new h) [ done named e f ↦ includes_grow place origin true (words named) old new f ]
  statement_grows place origin (Inherit text) old new h =
      elim (both_done (asked_at place (expand old.lines text)) (λ named. classes_after read sources place true (words named) old) new h) [ done named e f ↦ classes_grow place true (words named) old new f ]
  statement_grows place origin (Assign export name op text) old new h = plain_grows place origin.class (Assign export name op text) old new h
  statement_grows place origin (Flag name flag op text) old new h = plain_grows place origin.class (Flag name flag op text) old new h
  statement_grows place origin (Export name) old new h = plain_grows place origin.class (Export name) old new h
  statement_grows place origin (Unset name) old new h = plain_grows place origin.class (Unset name) old new h
  statement_grows place origin (UnsetFlag name flag) old new h = plain_grows place origin.class (UnsetFlag name flag) old new h
  statement_grows place origin (Function name body) old new h = plain_grows place origin.class (Function name body) old new h
  statement_grows place origin (ExportFunctions names) old new h = plain_grows place origin.class (ExportFunctions names) old new h
  statement_grows place origin (AddTask names after before) old new h = plain_grows place origin.class (AddTask names after before) old new h
  statement_grows place origin (DelTask names) old new h = plain_grows place origin.class (DelTask names) old new h

  statements_grow : (origin : Origin) (list : List (ℕ × Statement)) (old new : Loaded) → statements_after read sources origin list old ≡ Ok new → Extends old new
  statements_grow origin [] old new h = to_ok old old new (stays old) h
  statements_grow origin (s ∷ rest) old new h =
      elim (both_done (statement_after read sources (place_in origin s.0) origin s.1 old) (λ next. statements_after read sources origin rest next) new h) [
        | done next e f ↦ on_and_on old next new (statement_grows (place_in origin s.0) origin s.1 old next e) (statements_grow origin rest next new f)
      ]

  contents_grow : (origin : Origin) (contents : Contents) (old new : Loaded) → contents_after read sources origin contents old ≡ Ok new → Extends old new
  contents_grow origin (Ok list) old new h = statements_grow origin list old new h
  contents_grow origin (Err e) old new h = absurd (no_refusal (refused_at (place_in origin e.0) e.1) new h)

read_grows : (sources : Sources) (left : ℕ) → Grows (read_within left sources)
read_grows sources zero place origin contents old new h = absurd (no_refusal (refused_at place include_depth) new h)
read_grows sources (suc left) place origin contents old new h = contents_grow (read_within left sources) (read_grows sources left) sources origin contents old new h

found_grows : (sources : Sources) (kind : Kind) (must : Bool) (path : List ℕ) (found : Option Found) (old new : Loaded) → file_found sources kind must path found old ≡ Ok new → Extends old new
found_grows sources kind must path (Some found) old new h = read_grows sources most_nested nowhere (origin_of kind found.0) found.1 old new h
found_grows sources kind false path None old new h = to_ok old old new (stays old) h
found_grows sources kind true path None old new h = absurd (no_refusal (refused_at nowhere (missing_required path)) new h)

pub entries_grow : (sources : Sources) (kind : Kind) (path : List ℕ) (old new : Loaded) → entries sources kind path old ≡ Ok new → Extends old new
entries_grow sources kind path old new h = found_grows sources kind true path (option_map (λ contents. (path, contents)) (sources path kind)) old new h

pub class_entries_grow : (sources : Sources) (must : Bool) (name : List ℕ) (old new : Loaded) → class_entries sources must name old ≡ Ok new → Extends old new
class_entries_grow sources must name old new h = class_grows (read_first sources) (read_grows sources most_nested) sources nowhere must name old new h

pub searched_entries_grow : (sources : Sources) (kind : Kind) (must : Bool) (path : List ℕ) (old new : Loaded) → searched_entries sources kind must path old ≡ Ok new → Extends old new
searched_entries_grow sources kind must path old new h =
    elim (both_done (asked_at nowhere (searched sources kind old.lines [] path)) (λ found. file_found sources kind must path found old) new h) [ done found e f ↦ found_grows sources kind must path found old new f ]
