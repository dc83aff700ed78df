-- The search for files, one folder after another.
use Rattle.std.proofs.Common.{◌≡◌, refl, sym, ◌∙◌, ap, subst, ℕ, ◌+◌, Bool, true, false, List, [], ◌∷◌, ◌++◌, Option, Some, None, unwrap_or, Result, Ok, Err, codes}
use Rattle.std.specs.List.{cons_option}
use Rattle.std.specs.Option.{option_map}
use Rattle.meta_model.specs.declared.line.Kind.{Kind}
use Rattle.meta_model.specs.declared.line.Kind.TheVariants.{Class}
use Rattle.meta_model.specs.declared.entry.EntryLine.{EntryLine}
use Rattle.meta_model.specs.Refusal.{Refusal}
use Rattle.meta_model.specs.Text.{colon_pieces}
use Rattle.meta_model.specs.Active.{value}
use Rattle.datastore.specs.declared.fault.DataFault.{DataFault}
use Rattle.datastore.specs.Faults.{IsDataFault, data_refusal}
use Rattle.datastore.proofs.Freezing as storing
use Rattle.load_model.specs.Paths.{slash, path_named, paths_in, is_absolute}
use Rattle.load_model.specs.LoadRefusal.{no_value, Place as Where, asked_at, ◌>>=◌}
use Rattle.load_model.specs.Loading.{Contents, Sources, Found, found_there, first_found, search_folders, searched, class_path, class_searched}
use Rattle.class_inherit.specs.declared.fault.LoadFault.{LoadFault}
use Rattle.class_inherit.specs.Faults.{IsSaid, IsLoadFault}
use Rattle.class_inherit.specs.Reading.{path_folders}
use Rattle.class_inherit.proofs.Told.{told, pick_first, pick_second}
use Rattle.class_inherit.proofs.Faulting.{fault_value, fault_same, fault_on}

-- one folder

abbrev at_path : Sources → Kind → Option (List ℕ) → Option Found
at_path sources kind None = None
at_path sources kind (Some path) = found_there path (sources path kind) None

one_found : (sources : Sources) (kind : Kind) (o : Option (List ℕ)) → first_found sources kind (cons_option o []) ≡ at_path sources kind o
one_found sources kind None = refl
one_found sources kind (Some path) = refl

-- more folders

found_on : (sources : Sources) (kind : Kind) (path : List ℕ) (paths : List (List ℕ)) (c : Option Contents) (x : Found) → found_there path c None ≡ Some x → found_there path c (first_found sources kind paths) ≡ Some x
found_on sources kind path paths None x e = absurd cc
found_on sources kind path paths (Some contents) x e = e

none_on : (sources : Sources) (kind : Kind) (path : List ℕ) (paths : List (List ℕ)) (c : Option Contents) → found_there path c None ≡ None → found_there path c (first_found sources kind paths) ≡ first_found sources kind paths
none_on sources kind path paths None e = refl
none_on sources kind path paths (Some contents) e = absurd cc

some_at : (sources : Sources) (kind : Kind) (o : Option (List ℕ)) (paths : List (List ℕ)) (x : Found) → first_found sources kind (cons_option o []) ≡ Some x → first_found sources kind (cons_option o paths) ≡ Some x
some_at sources kind None paths x e = absurd cc
some_at sources kind (Some path) paths x e = found_on sources kind path paths (sources path kind) x e

none_at : (sources : Sources) (kind : Kind) (o : Option (List ℕ)) (paths : List (List ℕ)) → first_found sources kind (cons_option o []) ≡ None → first_found sources kind (cons_option o paths) ≡ first_found sources kind paths
none_at sources kind None paths e = refl
none_at sources kind (Some path) paths e = none_on sources kind path paths (sources path kind) e

-- else the search goes on
pub first_later : (sources : Sources) (kind : Kind) (folder : List ℕ) (folders : List (List ℕ)) (word : List ℕ) → None ≡ first_found sources kind (paths_in (folder ∷ []) word) → first_found sources kind (paths_in (folder ∷ folders) word) ≡ first_found sources kind (paths_in folders word)
first_later sources kind folder folders word e = none_at sources kind (path_named (folder ++ slash ∷ word)) (paths_in folders word) (sym e)

-- the folders of BBPATH

abbrev folders_in : Result (Option (List ℕ)) Refusal → Result (List (List ℕ)) Refusal
folders_in m = told m (λ path. Ok (colon_pieces (unwrap_or path [])))

pub path_set : (lines found : List EntryLine) (path text : List ℕ) (field : Option (List ℕ)) (pieces : List (List ℕ)) → found ≡ lines → value found (codes "BBPATH") ≡ Ok field → field ≡ Some path → text ≡ path → pieces ≡ colon_pieces text → path_folders lines ≡ Ok pieces
path_set lines found path text field pieces f e s t p = ap (λ l. folders_in (value l (codes "BBPATH"))) (sym f) ∙ ap folders_in e ∙ ap (λ o. folders_in (Ok o)) s ∙ ap Ok (sym (p ∙ ap colon_pieces t))

pub path_unset : (lines found : List EntryLine) (field : Option (List ℕ)) (pieces : List (List ℕ)) → found ≡ lines → value found (codes "BBPATH") ≡ Ok field → field ≡ None → pieces ≡ [] → path_folders lines ≡ Ok pieces
path_unset lines found field pieces f e s p = ap (λ l. folders_in (value l (codes "BBPATH"))) (sym f) ∙ ap folders_in e ∙ ap (λ o. folders_in (Ok o)) s ∙ ap Ok (sym p)

pub path_fault : (lines found : List EntryLine) (fault : DataFault) → found ≡ lines → IsDataFault fault (value found (codes "BBPATH")) → IsDataFault fault (path_folders lines)
path_fault lines found fault f h = storing.fault_on fault (value lines (codes "BBPATH")) (λ path. Ok (colon_pieces (unwrap_or path []))) (subst (λ l. IsDataFault fault (value l (codes "BBPATH"))) f h)

-- searches

folders_first : (m : Result (Option (List ℕ)) Refusal) (first : List (List ℕ)) → (m >>= (λ path. Ok (first ++ (codes "." ∷ colon_pieces (unwrap_or path []))))) ≡ ((told m (λ path. Ok (colon_pieces (unwrap_or path [])))) >>= (λ folders. Ok (first ++ (codes "." ∷ folders))))
folders_first (Ok path) first = refl
folders_first (Err r) first = refl

search_parts : (lines : List EntryLine) (first : List (List ℕ)) → search_folders lines first ≡ (path_folders lines >>= (λ folders. Ok (first ++ (codes "." ∷ folders))))
search_parts lines first = folders_first (value lines (codes "BBPATH")) first

asked_on : {A B : Type 0} (place : Where) (m : Result A Refusal) (f : A → Result B Refusal) → asked_at place (m >>= f) ≡ (asked_at place m >>= (λ a. asked_at place (f a)))
asked_on place (Ok a) f = refl
asked_on place (Err r) f = refl

pub relative : (sources : Sources) (kind : Kind) (lines : List EntryLine) (first : List (List ℕ)) (word : List ℕ) → is_absolute word ≡ false → searched sources kind lines first word ≡ (search_folders lines first >>= (λ folders. Ok (first_found sources kind (paths_in folders word))))
relative sources kind lines first word e = pick_second (is_absolute word) (Ok None) (search_folders lines first >>= (λ folders. Ok (first_found sources kind (paths_in folders word)))) e

pub absolute : (sources : Sources) (kind : Kind) (lines : List EntryLine) (first : List (List ℕ)) (word : List ℕ) → is_absolute word ≡ true → searched sources kind lines first word ≡ Ok None
absolute sources kind lines first word e = pick_first (is_absolute word) (Ok None) (search_folders lines first >>= (λ folders. Ok (first_found sources kind (paths_in folders word)))) e

pub search_found : (sources : Sources) (kind : Kind) (lines : List EntryLine) (first folders : List (List ℕ)) (word : List ℕ) (place : Where) (b : Bool) (found : Option Found) → b ≡ is_absolute word → b ≡ false → path_folders lines ≡ Ok folders
    → found ≡ first_found sources kind (paths_in (first ++ (codes "." ∷ folders)) word) → asked_at place (searched sources kind lines first word) ≡ Ok found
search_found sources kind lines first folders word place b found e t p f =
    ap (asked_at place) (relative sources kind lines first word (sym e ∙ t) ∙ ap (λ m. m >>= (λ fs. Ok (first_found sources kind (paths_in fs word)))) (search_parts lines first ∙ ap (λ m. m >>= (λ fs. Ok (first ++ (codes "." ∷ fs)))) p))
    ∙ ap Ok (sym f)

data_on : {A B : Type 0} (said : LoadFault) (fault : DataFault) (place : Where) (m : Result A Refusal) (f : A → Result B Refusal) → IsDataFault fault m → IsSaid said place (option_map no_value (data_refusal fault)) → IsLoadFault said (asked_at place (m >>= f))
data_on said fault place m f h s = fault_same said (asked_at place (m >>= f)) (asked_at place m >>= (λ a. asked_at place (f a))) (asked_on place m f) (fault_on said (asked_at place m) (λ a. asked_at place (f a)) (fault_value said fault place m h s))

twice_on : {A B C : Type 0} (m : Result A Refusal) (f : A → B) (g : B → C) → ((m >>= (λ a. Ok (f a))) >>= (λ b. Ok (g b))) ≡ (m >>= (λ a. Ok (g (f a))))
twice_on (Ok a) f g = refl
twice_on (Err r) f g = refl

pub search_fault : (sources : Sources) (kind : Kind) (lines : List EntryLine) (first : List (List ℕ)) (word : List ℕ) (place : Where) (b : Bool) (said : LoadFault) (fault : DataFault) → b ≡ is_absolute word → b ≡ false → IsDataFault fault (path_folders lines)
    → IsSaid said place (option_map no_value (data_refusal fault)) → IsLoadFault said (asked_at place (searched sources kind lines first word))
search_fault sources kind lines first word place b said fault e t h s =
    let is : searched sources kind lines first word ≡ (path_folders lines >>= (λ folders. Ok (first_found sources kind (paths_in (first ++ (codes "." ∷ folders)) word)))) =
    relative sources kind lines first word (sym e ∙ t) ∙ ap (λ m. m >>= (λ fs. Ok (first_found sources kind (paths_in fs word)))) (search_parts lines first)
    ∙ twice_on (path_folders lines) (λ folders. first ++ (codes "." ∷ folders)) (λ fs. first_found sources kind (paths_in fs word)) in
    fault_same said (asked_at place (searched sources kind lines first word)) (asked_at place (path_folders lines >>= (λ folders. Ok (first_found sources kind (paths_in (first ++ (codes "." ∷ folders)) word))))) (ap (asked_at place) is)
    (data_on said fault place (path_folders lines) (λ folders. Ok (first_found sources kind (paths_in (first ++ (codes "." ∷ folders)) word))) h s)

-- classes

pub class_absolute : (sources : Sources) (lines : List EntryLine) (name : List ℕ) → is_absolute name ≡ true → class_searched sources lines name ≡ Ok None
class_absolute sources lines name e = pick_first (is_absolute name) (Ok None) (searched sources Class lines [] (class_path name)) e

pub class_relative : (sources : Sources) (lines : List EntryLine) (name : List ℕ) → is_absolute name ≡ false → class_searched sources lines name ≡ searched sources Class lines [] (class_path name)
class_relative sources lines name e = pick_second (is_absolute name) (Ok None) (searched sources Class lines [] (class_path name)) e
