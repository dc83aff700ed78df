-- What files add, one statement and one word after another.
use Rattle.std.proofs.Common.{◌≡◌, refl, sym, ◌∙◌, ap, subst, ℕ, zero, suc, ◌+◌, ◌-◌, ◌<◌, ◌≤◌, arith, Bool, true, false, List, [], ◌∷◌, length, drop, get_or, map, map-id, Option, Some, None, Result, Ok, Err, inl, inr}
use Rattle.std.specs.Option.{option_map}
use Rattle.std.proofs.lemmas.List.{drop_more, drop_all}
use Rattle.std.proofs.lemmas.Bool.{cases_Bool}
use Rattle.meta_model.specs.declared.line.Kind.{Kind}
use Rattle.meta_model.specs.declared.line.Kind.TheVariants.{Class}
use Rattle.meta_model.specs.declared.entry.EntryLine.{EntryLine}
use Rattle.meta_model.specs.declared.statement.Statement.{Statement}
use Rattle.meta_model.specs.declared.statement.Statement.TheVariants.{Assign, Flag, Export, Unset, UnsetFlag, Include, Require, Inherit, Function, ExportFunctions, AddTask, DelTask}
use Rattle.meta_model.specs.Refusal.{Refusal}
use Rattle.meta_model.specs.Text.{is_in, words}
use Rattle.meta_model.specs.Active.{expand}
use Rattle.meta_model.specs.Entries.{lines_of}
use Rattle.load_model.specs.Paths.{paths_in, is_absolute, folder_of}
use Rattle.load_model.specs.LoadRefusal.{LoadRefusal, missing_required, missing_class, include_depth, refused_at, Place as Where, asked_at, ◌>>=◌}
use Rattle.load_model.specs.Loading.{class_of, Contents, Sources, sources_of, Loaded, with_lines, with_class, Origin, origin_of, included_by, Found, found_there, first_found, search_folders, searched, Reads, include_found, include_after, includes_after, class_path, class_searched, class_found, class_after, classes_after, statement_after, statements_after, contents_after, read_within}
use Rattle.load_model.specs.Layers.{contents_in_layer, sources_in_layer, with_folder}
use Rattle.class_inherit.specs.declared.fault.LoadFault.{LoadFault}
use Rattle.class_inherit.specs.Faults.{IsLoadFault}
use Rattle.class_inherit.specs.Adding.{added}
use Rattle.class_inherit.specs.Reading.{sources_for, contents_for, statement_for, text_for, words_in}
use Rattle.class_inherit.proofs.Told.{told, pick_second}
use Rattle.class_inherit.proofs.Searching.{relative, absolute, class_relative, class_absolute}
use Rattle.class_inherit.proofs.Faulting.{fault_same, fault_on}

-- a layer's files

abbrev pub found_for : Option (List ℕ) → Found → Found
found_for layer found = (found.0, contents_for layer found.1)

there_for : (layer path : List ℕ) (c : Option Contents) (later later' : Option Found) → later' ≡ option_map (found_for (Some layer)) later → found_there path (option_map (contents_in_layer layer) c) later' ≡ option_map (found_for (Some layer)) (found_there path c later)
there_for layer path None later later' e = e
there_for layer path (Some contents) later later' e = refl

first_in_layer : (layer : List ℕ) (sources : Sources) (kind : Kind) (paths : List (List ℕ)) → first_found (sources_in_layer layer sources) kind paths ≡ option_map (found_for (Some layer)) (first_found sources kind paths)
first_in_layer layer sources kind [] = refl
first_in_layer layer sources kind (path ∷ paths) = there_for layer path (sources path kind) (first_found sources kind paths) (first_found (sources_in_layer layer sources) kind paths) (first_in_layer layer sources kind paths)

same_found : (f : Option Found) → f ≡ option_map (found_for None) f
same_found None = refl
same_found (Some found) = refl

first_for : (layer : Option (List ℕ)) (files : List ℕ → Option (List ℕ)) (kind : Kind) (paths : List (List ℕ)) → first_found (sources_for layer files) kind paths ≡ option_map (found_for layer) (first_found (sources_of files) kind paths)
first_for None files kind paths = same_found (first_found (sources_of files) kind paths)
first_for (Some layer) files kind paths = first_in_layer layer (sources_of files) kind paths

folders_for : (layer : Option (List ℕ)) (files : List ℕ → Option (List ℕ)) (kind : Kind) (word : List ℕ) (place : Where) (m : Result (List (List ℕ)) Refusal)
    → asked_at place (m >>= (λ folders. Ok (first_found (sources_for layer files) kind (paths_in folders word)))) ≡ (asked_at place (m >>= (λ folders. Ok (first_found (sources_of files) kind (paths_in folders word)))) >>= (λ f. Ok (option_map (found_for layer) f)))
folders_for layer files kind word place (Ok folders) = ap Ok (first_for layer files kind (paths_in folders word))
folders_for layer files kind word place (Err r) = refl

searched_for : (layer : Option (List ℕ)) (files : List ℕ → Option (List ℕ)) (kind : Kind) (lines : List EntryLine) (first : List (List ℕ)) (word : List ℕ) (place : Where)
    → asked_at place (searched (sources_for layer files) kind lines first word) ≡ (asked_at place (searched (sources_of files) kind lines first word) >>= (λ f. Ok (option_map (found_for layer) f)))
searched_for layer files kind lines first word place = elim (cases_Bool (is_absolute word)) [
  | inl e ↦ ap (asked_at place) (absolute (sources_for layer files) kind lines first word e)
      ∙ sym (ap (λ m. asked_at place m >>= (λ f. Ok (option_map (found_for layer) f))) (absolute (sources_of files) kind lines first word e))
  | inr e ↦ ap (asked_at place) (relative (sources_for layer files) kind lines first word e)
      ∙ folders_for layer files kind word place (search_folders lines first)
      ∙ sym (ap (λ m. asked_at place m >>= (λ f. Ok (option_map (found_for layer) f))) (relative (sources_of files) kind lines first word e))
]

class_searched_for : (layer : Option (List ℕ)) (files : List ℕ → Option (List ℕ)) (lines : List EntryLine) (name : List ℕ) (place : Where)
    → asked_at place (class_searched (sources_for layer files) lines name) ≡ (asked_at place (class_searched (sources_of files) lines name) >>= (λ f. Ok (option_map (found_for layer) f)))
class_searched_for layer files lines name place = elim (cases_Bool (is_absolute name)) [
  | inl e ↦ ap (asked_at place) (class_absolute (sources_for layer files) lines name e)
      ∙ sym (ap (λ m. asked_at place m >>= (λ f. Ok (option_map (found_for layer) f))) (class_absolute (sources_of files) lines name e))
  | inr e ↦ ap (asked_at place) (class_relative (sources_for layer files) lines name e)
      ∙ searched_for layer files Class lines [] (class_path name) place
      ∙ sym (ap (λ m. asked_at place m >>= (λ f. Ok (option_map (found_for layer) f))) (class_relative (sources_of files) lines name e))
]

-- one after another

module _ {A : Type 0} (run : List A → Loaded → Result Loaded LoadRefusal) (step : A → Loaded → Result Loaded LoadRefusal) (nil : (l : Loaded) → run [] l ≡ Ok l) (cons : (x : A) (xs : List A) (l : Loaded) → run (x ∷ xs) l ≡ (step x l >>= run xs)) where
  cut_one : (xs : List A) (i : ℕ) (x : A) (now : Loaded) → x ≡ get_or xs i x → i < length xs → run (drop i xs) now ≡ (step x now >>= run (drop (i + 1) xs))
  cut_one xs i x now is lt = ap (λ l. run l now) (drop_more xs i x lt ∙ ap (λ y. y ∷ drop (i + 1) xs) (sym is)) ∙ cons x (drop (i + 1) xs) now

  pub run_more : (xs : List A) (i : ℕ) (x : A) (first now next : Loaded) → x ≡ get_or xs i x → i < length xs → run (drop i xs) now ≡ run xs first → step x now ≡ Ok next → run (drop (i + 1) xs) next ≡ run xs first
  run_more xs i x first now next is lt h s = sym (cut_one xs i x now is lt ∙ ap (λ m. m >>= run (drop (i + 1) xs)) s) ∙ h

  pub run_fault : (xs : List A) (i : ℕ) (x : A) (first now : Loaded) (fault : LoadFault) → x ≡ get_or xs i x → i < length xs → run (drop i xs) now ≡ run xs first → IsLoadFault fault (step x now) → IsLoadFault fault (run xs first)
  run_fault xs i x first now fault is lt h s =
      fault_same fault (run xs first) (step x now >>= run (drop (i + 1) xs)) (sym h ∙ cut_one xs i x now is lt) (fault_on fault (step x now) (run (drop (i + 1) xs)) s)

  pub run_end : (xs : List A) (i : ℕ) (first now : Loaded) → length xs ≤ i → run (drop i xs) now ≡ run xs first → run xs first ≡ Ok now
  run_end xs i first now le h = sym h ∙ ap (λ l. run l now) (drop_all i xs le) ∙ nil now

-- a file

pub read_none : (left : ℕ) (sources : Sources) (place : Where) (origin : Origin) (contents : Contents) (loaded : Loaded) → left ≡ 0 → read_within left sources place origin contents loaded ≡ Err (refused_at place include_depth)
read_none left sources place origin contents loaded e = ap (λ n. read_within n sources place origin contents loaded) e

pub read_deeper : (left : ℕ) (sources : Sources) (place : Where) (origin : Origin) (contents : Contents) (loaded : Loaded) → 0 < left → read_within left sources place origin contents loaded ≡ contents_after (read_within (left - 1) sources) sources origin contents loaded
read_deeper zero sources place origin contents loaded lt = absurd (omega arith)
read_deeper (suc left) sources place origin contents loaded lt = let e : suc left - 1 ≡ left = omega arith in ap (λ n. contents_after (read_within n sources) sources origin contents loaded) (sym e)

pub whole_for : (layer : Option (List ℕ)) (list : List (ℕ × Statement)) → contents_for layer (Ok list) ≡ Ok (map (λ s. (s.0, statement_for layer s.1)) list)
whole_for None list = ap Ok (sym (map-id list))
whole_for (Some layer) list = refl

pub read_whole : (left : ℕ) (layer : Option (List ℕ)) (sources : Sources) (place : Where) (origin : Origin) (contents : Contents) (list : List (ℕ × Statement)) (loaded : Loaded) → 0 < left → contents ≡ Ok list
    → read_within left sources place origin (contents_for layer contents) loaded ≡ statements_after (read_within (left - 1) sources) sources origin (map (λ s. (s.0, statement_for layer s.1)) list) loaded
read_whole left layer sources place origin contents list loaded lt e =
    read_deeper left sources place origin (contents_for layer contents) loaded lt
    ∙ ap (λ c. contents_after (read_within (left - 1) sources) sources origin c loaded) (ap (contents_for layer) e ∙ whole_for layer list)

-- a statement

named_words : {B : Type 0} (place : Where) (m : Result (List ℕ) Refusal) (k : List (List ℕ) → Result B LoadRefusal) → (asked_at place m >>= (λ named. k (words named))) ≡ (asked_at place (told m (λ named. Ok (words named))) >>= k)
named_words place (Ok text) k = refl
named_words place (Err r) k = refl

for_include : (layer : Option (List ℕ)) (text : List ℕ) → statement_for layer (Include text) ≡ Include (text_for layer text)
for_include None text = refl
for_include (Some layer) text = refl

for_require : (layer : Option (List ℕ)) (text : List ℕ) → statement_for layer (Require text) ≡ Require (text_for layer text)
for_require None text = refl
for_require (Some layer) text = refl

pub include_parts : (read : Reads) (sources : Sources) (place : Where) (origin : Origin) (layer : Option (List ℕ)) (statement : Statement) (text : List ℕ) (loaded : Loaded) → statement ≡ Include text
    → statement_after read sources place origin (statement_for layer statement) loaded ≡ (asked_at place (words_in loaded.lines (text_for layer text)) >>= (λ ws. includes_after read sources place origin false ws loaded))
include_parts read sources place origin layer statement text loaded e =
    ap (λ s. statement_after read sources place origin s loaded) (ap (statement_for layer) e ∙ for_include layer text)
    ∙ named_words place (expand loaded.lines (text_for layer text)) (λ ws. includes_after read sources place origin false ws loaded)

pub require_parts : (read : Reads) (sources : Sources) (place : Where) (origin : Origin) (layer : Option (List ℕ)) (statement : Statement) (text : List ℕ) (loaded : Loaded) → statement ≡ Require text
    → statement_after read sources place origin (statement_for layer statement) loaded ≡ (asked_at place (words_in loaded.lines (text_for layer text)) >>= (λ ws. includes_after read sources place origin true ws loaded))
require_parts read sources place origin layer statement text loaded e =
    ap (λ s. statement_after read sources place origin s loaded) (ap (statement_for layer) e ∙ for_require layer text)
    ∙ named_words place (expand loaded.lines (text_for layer text)) (λ ws. includes_after read sources place origin true ws loaded)

abbrev pub then : {A B : Type 0} → Result A LoadRefusal → (A → Result B LoadRefusal) → Result B LoadRefusal
then m k = m >>= k

-- what follows, where this is no refusal
pub then_is : {A B : Type 0} (m : Result A LoadRefusal) (k : A → Result B LoadRefusal) (whole : Result B LoadRefusal) (a : A) → whole ≡ (m >>= k) → m ≡ Ok a → whole ≡ k a
then_is m k whole a w e = w ∙ ap (λ n. n >>= k) e

pub then_fault : {A B : Type 0} (fault : LoadFault) (m : Result A LoadRefusal) (k : A → Result B LoadRefusal) (whole : Result B LoadRefusal) → whole ≡ (m >>= k) → IsLoadFault fault m → IsLoadFault fault whole
then_fault fault m k whole w h = fault_same fault whole (m >>= k) w (fault_on fault m k h)

own_lines : (place : Where) (loaded : Loaded) (m : Result (List EntryLine) Refusal) → (asked_at place m >>= (λ lines. Ok (with_lines lines loaded))) ≡ asked_at place (added loaded m)
own_lines place loaded (Ok lines) = refl
own_lines place loaded (Err r) = refl

-- a statement that names no file
pub own_after : (read : Reads) (sources : Sources) (place : Where) (origin : Origin) (layer : Option (List ℕ)) (statement : Statement) (loaded : Loaded)
    → ((text : List ℕ) → statement ≡ Include text → ⊥) → ((text : List ℕ) → statement ≡ Require text → ⊥) → ((text : List ℕ) → statement ≡ Inherit text → ⊥)
    → statement_after read sources place origin (statement_for layer statement) loaded ≡ asked_at place (added loaded (lines_of origin.class loaded.lines (statement_for layer statement)))
own_after read sources place origin None (Assign export name op text) loaded i r h = own_lines place loaded (lines_of origin.class loaded.lines (Assign export name op text))
own_after read sources place origin (Some layer) (Assign export name op text) loaded i r h = own_lines place loaded (lines_of origin.class loaded.lines (Assign export name op (with_folder layer text)))
own_after read sources place origin None (Flag name flag op text) loaded i r h = own_lines place loaded (lines_of origin.class loaded.lines (Flag name flag op text))
own_after read sources place origin (Some layer) (Flag name flag op text) loaded i r h = own_lines place loaded (lines_of origin.class loaded.lines (Flag name flag op (with_folder layer text)))
own_after read sources place origin None (Export name) loaded i r h = own_lines place loaded (lines_of origin.class loaded.lines (Export name))
own_after read sources place origin (Some layer) (Export name) loaded i r h = own_lines place loaded (lines_of origin.class loaded.lines (Export name))
own_after read sources place origin None (Unset name) loaded i r h = own_lines place loaded (lines_of origin.class loaded.lines (Unset name))
own_after read sources place origin (Some layer) (Unset name) loaded i r h = own_lines place loaded (lines_of origin.class loaded.lines (Unset name))
own_after read sources place origin None (UnsetFlag name flag) loaded i r h = own_lines place loaded (lines_of origin.class loaded.lines (UnsetFlag name flag))
own_after read sources place origin (Some layer) (UnsetFlag name flag) loaded i r h = own_lines place loaded (lines_of origin.class loaded.lines (UnsetFlag name flag))
own_after read sources place origin layer (Include text) loaded i r h = absurd (i text refl)
own_after read sources place origin layer (Require text) loaded i r h = absurd (r text refl)
own_after read sources place origin layer (Inherit text) loaded i r h = absurd (h text refl)
own_after read sources place origin None (Function name body) loaded i r h = own_lines place loaded (lines_of origin.class loaded.lines (Function name body))
own_after read sources place origin (Some layer) (Function name body) loaded i r h = own_lines place loaded (lines_of origin.class loaded.lines (Function name body))
own_after read sources place origin None (ExportFunctions names) loaded i r h = own_lines place loaded (lines_of origin.class loaded.lines (ExportFunctions names))
own_after read sources place origin (Some layer) (ExportFunctions names) loaded i r h = own_lines place loaded (lines_of origin.class loaded.lines (ExportFunctions names))
own_after read sources place origin None (AddTask names after before) loaded i r h = own_lines place loaded (lines_of origin.class loaded.lines (AddTask names after before))
own_after read sources place origin (Some layer) (AddTask names after before) loaded i r h = own_lines place loaded (lines_of origin.class loaded.lines (AddTask names after before))
own_after read sources place origin None (DelTask names) loaded i r h = own_lines place loaded (lines_of origin.class loaded.lines (DelTask names))
own_after read sources place origin (Some layer) (DelTask names) loaded i r h = own_lines place loaded (lines_of origin.class loaded.lines (DelTask names))

for_inherit : (layer : Option (List ℕ)) (text : List ℕ) → statement_for layer (Inherit text) ≡ Inherit text
for_inherit None text = refl
for_inherit (Some layer) text = refl

pub inherit_parts : (read : Reads) (sources : Sources) (place : Where) (origin : Origin) (layer : Option (List ℕ)) (statement : Statement) (text : List ℕ) (loaded : Loaded) → statement ≡ Inherit text
    → statement_after read sources place origin (statement_for layer statement) loaded ≡ (asked_at place (words_in loaded.lines text) >>= (λ ws. classes_after read sources place true ws loaded))
inherit_parts read sources place origin layer statement text loaded e =
    ap (λ s. statement_after read sources place origin s loaded) (ap (statement_for layer) e ∙ for_inherit layer text)
    ∙ named_words place (expand loaded.lines text) (λ ws. classes_after read sources place true ws loaded)

-- a word of include or require

include_for : (read : Reads) (layer : Option (List ℕ)) (files : List ℕ → Option (List ℕ)) (place : Where) (origin : Origin) (must : Bool) (word : List ℕ) (loaded : Loaded) (m : Result (Option Found) LoadRefusal)
    → asked_at place (searched (sources_of files) origin.kind loaded.lines (folder_of origin.path ∷ []) word) ≡ m
    → include_after read (sources_for layer files) place origin must word loaded ≡ ((m >>= (λ f. Ok (option_map (found_for layer) f))) >>= (λ found. include_found read place origin must word found loaded))
include_for read layer files place origin must word loaded m e =
    ap (λ n. n >>= (λ found. include_found read place origin must word found loaded))
    (searched_for layer files origin.kind loaded.lines (folder_of origin.path ∷ []) word place ∙ ap (λ n. n >>= (λ f. Ok (option_map (found_for layer) f))) e)

pub include_there : (read : Reads) (layer : Option (List ℕ)) (files : List ℕ → Option (List ℕ)) (place : Where) (origin : Origin) (must : Bool) (word folder path : List ℕ) (contents : Contents) (loaded : Loaded) → folder ≡ folder_of origin.path
    → asked_at place (searched (sources_of files) origin.kind loaded.lines (folder ∷ []) word) ≡ Ok (Some (path, contents))
    → include_after read (sources_for layer files) place origin must word loaded ≡ read place (included_by origin path) (contents_for layer contents) loaded
include_there read layer files place origin must word folder path contents loaded f e =
    include_for read layer files place origin must word loaded (Ok (Some (path, contents))) (subst (λ d. asked_at place (searched (sources_of files) origin.kind loaded.lines (d ∷ []) word) ≡ Ok (Some (path, contents))) f e)

pub include_passed : (read : Reads) (layer : Option (List ℕ)) (files : List ℕ → Option (List ℕ)) (place : Where) (origin : Origin) (must : Bool) (word folder : List ℕ) (loaded : Loaded) → folder ≡ folder_of origin.path
    → asked_at place (searched (sources_of files) origin.kind loaded.lines (folder ∷ []) word) ≡ Ok None → must ≡ false
    → include_after read (sources_for layer files) place origin must word loaded ≡ Ok loaded
include_passed read layer files place origin must word folder loaded f e m =
    include_for read layer files place origin must word loaded (Ok None) (subst (λ d. asked_at place (searched (sources_of files) origin.kind loaded.lines (d ∷ []) word) ≡ Ok None) f e)
    ∙ ap (λ b. include_found read place origin b word None loaded) m

pub include_missing : (read : Reads) (layer : Option (List ℕ)) (files : List ℕ → Option (List ℕ)) (place : Where) (origin : Origin) (must : Bool) (word folder : List ℕ) (loaded : Loaded) → folder ≡ folder_of origin.path
    → asked_at place (searched (sources_of files) origin.kind loaded.lines (folder ∷ []) word) ≡ Ok None → must ≡ true
    → include_after read (sources_for layer files) place origin must word loaded ≡ Err (refused_at place (missing_required word))
include_missing read layer files place origin must word folder loaded f e m =
    include_for read layer files place origin must word loaded (Ok None) (subst (λ d. asked_at place (searched (sources_of files) origin.kind loaded.lines (d ∷ []) word) ≡ Ok None) f e)
    ∙ ap (λ b. include_found read place origin b word None loaded) m

pub include_fault : (read : Reads) (layer : Option (List ℕ)) (files : List ℕ → Option (List ℕ)) (place : Where) (origin : Origin) (must : Bool) (word folder : List ℕ) (loaded : Loaded) (fault : LoadFault) → folder ≡ folder_of origin.path
    → IsLoadFault fault (asked_at place (searched (sources_of files) origin.kind loaded.lines (folder ∷ []) word))
    → IsLoadFault fault (include_after read (sources_for layer files) place origin must word loaded)
include_fault read layer files place origin must word folder loaded fault f h =
    let m = asked_at place (searched (sources_of files) origin.kind loaded.lines (folder_of origin.path ∷ []) word) in
    then_fault fault (m >>= (λ f. Ok (option_map (found_for layer) f))) (λ found. include_found read place origin must word found loaded) (include_after read (sources_for layer files) place origin must word loaded)
    (include_for read layer files place origin must word loaded m refl)
    (fault_on fault m (λ f. Ok (option_map (found_for layer) f)) (subst (λ d. IsLoadFault fault (asked_at place (searched (sources_of files) origin.kind loaded.lines (d ∷ []) word))) f h))

-- a class

class_for : (read : Reads) (layer : Option (List ℕ)) (files : List ℕ → Option (List ℕ)) (place : Where) (must : Bool) (name : List ℕ) (loaded : Loaded) (m : Result (Option Found) LoadRefusal) → is_in name loaded.classes ≡ false
    → asked_at place (class_searched (sources_of files) loaded.lines name) ≡ m
    → class_after read (sources_for layer files) place must name loaded ≡ ((m >>= (λ f. Ok (option_map (found_for layer) f))) >>= (λ found. class_found read place must name found loaded))
class_for read layer files place must name loaded m n e =
    pick_second (is_in name loaded.classes) (Ok loaded) (asked_at place (class_searched (sources_for layer files) loaded.lines name) >>= (λ found. class_found read place must name found loaded)) n
    ∙ ap (λ k. k >>= (λ found. class_found read place must name found loaded)) (class_searched_for layer files loaded.lines name place ∙ ap (λ k. k >>= (λ f. Ok (option_map (found_for layer) f))) e)

pub class_there : (read : Reads) (layer : Option (List ℕ)) (files : List ℕ → Option (List ℕ)) (place : Where) (must : Bool) (name path : List ℕ) (contents : Contents) (loaded : Loaded) → is_in name loaded.classes ≡ false
    → asked_at place (class_searched (sources_of files) loaded.lines name) ≡ Ok (Some (path, contents))
    → class_after read (sources_for layer files) place must name loaded ≡ read place (origin_of Class path) (contents_for layer contents) (with_class name loaded)
class_there read layer files place must name path contents loaded n e = class_for read layer files place must name loaded (Ok (Some (path, contents))) n e

pub class_passed : (read : Reads) (layer : Option (List ℕ)) (files : List ℕ → Option (List ℕ)) (place : Where) (must : Bool) (name : List ℕ) (loaded : Loaded) → is_in name loaded.classes ≡ false
    → asked_at place (class_searched (sources_of files) loaded.lines name) ≡ Ok None → must ≡ false → class_after read (sources_for layer files) place must name loaded ≡ Ok loaded
class_passed read layer files place must name loaded n e m = class_for read layer files place must name loaded (Ok None) n e ∙ ap (λ b. class_found read place b name None loaded) m

pub class_missing : (read : Reads) (layer : Option (List ℕ)) (files : List ℕ → Option (List ℕ)) (place : Where) (must : Bool) (name : List ℕ) (loaded : Loaded) → is_in name loaded.classes ≡ false
    → asked_at place (class_searched (sources_of files) loaded.lines name) ≡ Ok None → must ≡ true → class_after read (sources_for layer files) place must name loaded ≡ Err (refused_at place (missing_class name))
class_missing read layer files place must name loaded n e m = class_for read layer files place must name loaded (Ok None) n e ∙ ap (λ b. class_found read place b name None loaded) m

pub class_fault : (read : Reads) (layer : Option (List ℕ)) (files : List ℕ → Option (List ℕ)) (place : Where) (must : Bool) (name : List ℕ) (loaded : Loaded) (fault : LoadFault) → is_in name loaded.classes ≡ false
    → IsLoadFault fault (asked_at place (class_searched (sources_of files) loaded.lines name)) → IsLoadFault fault (class_after read (sources_for layer files) place must name loaded)
class_fault read layer files place must name loaded fault n h =
    let m = asked_at place (class_searched (sources_of files) loaded.lines name) in
    then_fault fault (m >>= (λ f. Ok (option_map (found_for layer) f))) (λ found. class_found read place must name found loaded) (class_after read (sources_for layer files) place must name loaded)
    (class_for read layer files place must name loaded m n refl)
    (fault_on fault m (λ f. Ok (option_map (found_for layer) f)) h)

-- what the code does

pub include_reads : (left : ℕ) (layer : Option (List ℕ)) (files mid : List ℕ → Option (List ℕ)) (place : Where) (origin : Origin) (must : Bool) (word folder path text : List ℕ) (contents : Contents) (loaded new : Loaded) (field : Option Found)
    → folder ≡ folder_of origin.path → asked_at place (searched (sources_of files) origin.kind loaded.lines (folder ∷ []) word) ≡ Ok field → field ≡ Some (path, contents) → text ≡ path → mid ≡ files
    → read_within left (sources_for layer mid) place (included_by origin text) (contents_for layer contents) loaded ≡ Ok new
    → include_after (read_within left (sources_for layer files)) (sources_for layer files) place origin must word loaded ≡ Ok new
include_reads left layer files mid place origin must word folder path text contents loaded new field f e s t m h =
    include_there (read_within left (sources_for layer files)) layer files place origin must word folder path contents loaded f (e ∙ ap Ok s)
    ∙ subst (λ p. read_within left (sources_for layer files) place (included_by origin p) (contents_for layer contents) loaded ≡ Ok new) t
    (subst (λ fs. read_within left (sources_for layer fs) place (included_by origin text) (contents_for layer contents) loaded ≡ Ok new) m h)

pub include_reads_fault : (left : ℕ) (layer : Option (List ℕ)) (files mid : List ℕ → Option (List ℕ)) (place : Where) (origin : Origin) (must : Bool) (word folder path text : List ℕ) (contents : Contents) (loaded : Loaded) (field : Option Found) (fault : LoadFault)
    → folder ≡ folder_of origin.path → asked_at place (searched (sources_of files) origin.kind loaded.lines (folder ∷ []) word) ≡ Ok field → field ≡ Some (path, contents) → text ≡ path → mid ≡ files
    → IsLoadFault fault (read_within left (sources_for layer mid) place (included_by origin text) (contents_for layer contents) loaded)
    → IsLoadFault fault (include_after (read_within left (sources_for layer files)) (sources_for layer files) place origin must word loaded)
include_reads_fault left layer files mid place origin must word folder path text contents loaded field fault f e s t m h =
    fault_same fault (include_after (read_within left (sources_for layer files)) (sources_for layer files) place origin must word loaded) (read_within left (sources_for layer files) place (included_by origin path) (contents_for layer contents) loaded)
    (include_there (read_within left (sources_for layer files)) layer files place origin must word folder path contents loaded f (e ∙ ap Ok s))
    (subst (λ p. IsLoadFault fault (read_within left (sources_for layer files) place (included_by origin p) (contents_for layer contents) loaded)) t
    (subst (λ fs. IsLoadFault fault (read_within left (sources_for layer fs) place (included_by origin text) (contents_for layer contents) loaded)) m h))

abbrev pub origin_with : Kind → List ℕ → List ℕ → Origin
origin_with kind path class = record { path = path; kind = kind; class = class }

pub origin_same : (text text' path class : List ℕ) → text ≡ path → text' ≡ path → class ≡ class_of text' → origin_with Class text class ≡ origin_of Class path
origin_same text text' path class t u c = ap (λ p. origin_with Class p class) t ∙ ap (origin_with Class path) (c ∙ ap class_of u)

pub class_reads : (left : ℕ) (layer : Option (List ℕ)) (files mid : List ℕ → Option (List ℕ)) (place : Where) (must : Bool) (name path : List ℕ) (contents : Contents) (loaded begun new : Loaded) (field : Option Found) (origin : Origin) (b : Bool)
    → b ≡ is_in name loaded.classes → b ≡ false → asked_at place (class_searched (sources_of files) loaded.lines name) ≡ Ok field → field ≡ Some (path, contents) → begun ≡ with_class name loaded → origin ≡ origin_of Class path → mid ≡ files
    → read_within left (sources_for layer mid) place origin (contents_for layer contents) begun ≡ Ok new
    → class_after (read_within left (sources_for layer files)) (sources_for layer files) place must name loaded ≡ Ok new
class_reads left layer files mid place must name path contents loaded begun new field origin b i n e s g o m h =
    class_there (read_within left (sources_for layer files)) layer files place must name path contents loaded (sym i ∙ n) (e ∙ ap Ok s)
    ∙ subst (λ l. read_within left (sources_for layer files) place (origin_of Class path) (contents_for layer contents) l ≡ Ok new) g
    (subst (λ p. read_within left (sources_for layer files) place p (contents_for layer contents) begun ≡ Ok new) o
    (subst (λ fs. read_within left (sources_for layer fs) place origin (contents_for layer contents) begun ≡ Ok new) m h))

pub class_reads_fault : (left : ℕ) (layer : Option (List ℕ)) (files mid : List ℕ → Option (List ℕ)) (place : Where) (must : Bool) (name path : List ℕ) (contents : Contents) (loaded begun : Loaded) (field : Option Found) (origin : Origin) (b : Bool) (fault : LoadFault)
    → b ≡ is_in name loaded.classes → b ≡ false → asked_at place (class_searched (sources_of files) loaded.lines name) ≡ Ok field → field ≡ Some (path, contents) → begun ≡ with_class name loaded → origin ≡ origin_of Class path → mid ≡ files
    → IsLoadFault fault (read_within left (sources_for layer mid) place origin (contents_for layer contents) begun)
    → IsLoadFault fault (class_after (read_within left (sources_for layer files)) (sources_for layer files) place must name loaded)
class_reads_fault left layer files mid place must name path contents loaded begun field origin b fault i n e s g o m h =
    fault_same fault (class_after (read_within left (sources_for layer files)) (sources_for layer files) place must name loaded) (read_within left (sources_for layer files) place (origin_of Class path) (contents_for layer contents) (with_class name loaded))
    (class_there (read_within left (sources_for layer files)) layer files place must name path contents loaded (sym i ∙ n) (e ∙ ap Ok s))
    (subst (λ l. IsLoadFault fault (read_within left (sources_for layer files) place (origin_of Class path) (contents_for layer contents) l)) g
    (subst (λ p. IsLoadFault fault (read_within left (sources_for layer files) place p (contents_for layer contents) begun)) o
    (subst (λ fs. IsLoadFault fault (read_within left (sources_for layer fs) place origin (contents_for layer contents) begun)) m h)))

pub some_left : (n : ℕ) → (n ≡ 0 → ⊥) → 0 < n
some_left zero f = absurd (f refl)
some_left (suc n) f = omega arith

pub whole_reads : (left : ℕ) (layer : Option (List ℕ)) (sources : Sources) (place : Where) (origin : Origin) (contents : Contents) (list slice : List (ℕ × Statement)) (loaded new : Loaded) → (left ≡ 0 → ⊥) → contents ≡ Ok list → slice ≡ list
    → statements_after (read_within (left - 1) sources) sources origin (map (λ s. (s.0, statement_for layer s.1)) slice) loaded ≡ Ok new
    → read_within left sources place origin (contents_for layer contents) loaded ≡ Ok new
whole_reads left layer sources place origin contents list slice loaded new n e s h =
    read_whole left layer sources place origin contents list loaded (some_left left n) e
    ∙ subst (λ l. statements_after (read_within (left - 1) sources) sources origin (map (λ s. (s.0, statement_for layer s.1)) l) loaded ≡ Ok new) s h

pub whole_fault : (left : ℕ) (layer : Option (List ℕ)) (sources : Sources) (place : Where) (origin : Origin) (contents : Contents) (list slice : List (ℕ × Statement)) (loaded : Loaded) (fault : LoadFault) → (left ≡ 0 → ⊥) → contents ≡ Ok list → slice ≡ list
    → IsLoadFault fault (statements_after (read_within (left - 1) sources) sources origin (map (λ s. (s.0, statement_for layer s.1)) slice) loaded)
    → IsLoadFault fault (read_within left sources place origin (contents_for layer contents) loaded)
whole_fault left layer sources place origin contents list slice loaded fault n e s h =
    fault_same fault (read_within left sources place origin (contents_for layer contents) loaded) (statements_after (read_within (left - 1) sources) sources origin (map (λ s. (s.0, statement_for layer s.1)) list) loaded)
    (read_whole left layer sources place origin contents list loaded (some_left left n) e)
    (subst (λ l. IsLoadFault fault (statements_after (read_within (left - 1) sources) sources origin (map (λ s. (s.0, statement_for layer s.1)) l) loaded)) s h)

pub named_reads : {A B : Type 0} (m : Result A LoadRefusal) (k : A → Result B LoadRefusal) (whole : Result B LoadRefusal) (a slice : A) (new : B) → whole ≡ (m >>= k) → m ≡ Ok a → slice ≡ a → k slice ≡ Ok new → whole ≡ Ok new
named_reads m k whole a slice new w e s h = then_is m k whole a w e ∙ ap k (sym s) ∙ h

pub named_fault : {A B : Type 0} (m : Result A LoadRefusal) (k : A → Result B LoadRefusal) (whole : Result B LoadRefusal) (a slice : A) (fault : LoadFault) → whole ≡ (m >>= k) → m ≡ Ok a → slice ≡ a → IsLoadFault fault (k slice) → IsLoadFault fault whole
named_fault m k whole a slice fault w e s h = fault_same fault whole (k slice) (then_is m k whole a w e ∙ ap k (sym s)) h
