-- Files and classes that are read by name.
use Rattle.std.proofs.Common.{◌≡◌, refl, sym, ◌∙◌, ap, subst, ℕ, Bool, true, List, [], Option, Some, None, unwrap_or, Result, Ok, Err}
use Rattle.std.specs.Option.{option_map}
use Rattle.meta_model.specs.declared.line.Kind.{Kind}
use Rattle.meta_model.specs.declared.entry.EntryLine.{EntryLine}
use Rattle.meta_model.specs.Refusal.{Refusal}
use Rattle.meta_model.specs.Text.{words}
use Rattle.meta_model.specs.Active.{value}
use Rattle.datastore.specs.declared.fault.DataFault.{DataFault}
use Rattle.datastore.specs.Faults.{IsDataFault}
use Rattle.datastore.proofs.Freezing as storing
use Rattle.load_model.specs.LoadRefusal.{nowhere, Place as Where, ◌>>=◌}
use Rattle.load_model.specs.Layers.{words_of}
use Rattle.load_model.specs.Loading.{class_of, Contents, Sources, sources_of, Loaded, origin_of, Found, read_within, read_first, file_found, entries}
use Rattle.class_inherit.specs.declared.fault.LoadFault.{LoadFault}
use Rattle.class_inherit.specs.Faults.{IsLoadFault}
use Rattle.class_inherit.specs.Reading.{sources_for, contents_for}
use Rattle.class_inherit.proofs.Told.{told}
use Rattle.class_inherit.proofs.Faulting.{fault_same}
use Rattle.class_inherit.proofs.Loading.{origin_with}

-- the words of a value

abbrev words_told : Result (Option (List ℕ)) Refusal → Result (List (List ℕ)) Refusal
words_told m = m >>= (λ text. Ok (words (unwrap_or text [])))

pub value_set : (lines found : List EntryLine) (name path text : List ℕ) (field : Option (List ℕ)) (made : List (List ℕ)) → found ≡ lines → value found name ≡ Ok field → field ≡ Some path → text ≡ path → made ≡ words text → words_of lines name ≡ Ok made
value_set lines found name path text field made f e s t p = ap (λ l. words_told (value l name)) (sym f) ∙ ap words_told e ∙ ap (λ o. words_told (Ok o)) s ∙ ap Ok (sym (p ∙ ap words t))

pub value_unset : (lines found : List EntryLine) (name : List ℕ) (field : Option (List ℕ)) (made : List (List ℕ)) → found ≡ lines → value found name ≡ Ok field → field ≡ None → made ≡ [] → words_of lines name ≡ Ok made
value_unset lines found name field made f e s p = ap (λ l. words_told (value l name)) (sym f) ∙ ap words_told e ∙ ap (λ o. words_told (Ok o)) s ∙ ap Ok (sym p)

then_told : {A B : Type 0} (m : Result A Refusal) (f : A → Result B Refusal) → (m >>= f) ≡ told m f
then_told (Ok a) f = refl
then_told (Err r) f = refl

pub value_fault : (lines found : List EntryLine) (name : List ℕ) (fault : DataFault) → found ≡ lines → IsDataFault fault (value found name) → IsDataFault fault (words_of lines name)
value_fault lines found name fault f h =
    storing.fault_same fault (words_of lines name) (told (value lines name) (λ text. Ok (words (unwrap_or text [])))) (then_told (value lines name) (λ text. Ok (words (unwrap_or text []))))
    (storing.fault_on fault (value lines name) (λ text. Ok (words (unwrap_or text []))) (subst (λ l. IsDataFault fault (value l name)) f h))

-- a first file

pub first_reads : (n : ℕ) (sources : Sources) (place : Where) (kind : Kind) (path class : List ℕ) (contents : Contents) (loaded new : Loaded) → place ≡ nowhere → class ≡ class_of path
    → read_within n sources place (origin_with kind path class) contents loaded ≡ Ok new → read_within n sources nowhere (origin_of kind path) contents loaded ≡ Ok new
first_reads n sources place kind path class contents loaded new p c h =
    subst (λ k. read_within n sources nowhere (origin_with kind path k) contents loaded ≡ Ok new) c (subst (λ q. read_within n sources q (origin_with kind path class) contents loaded ≡ Ok new) p h)

pub first_fault : (n : ℕ) (sources : Sources) (place : Where) (kind : Kind) (path class : List ℕ) (contents : Contents) (loaded : Loaded) (fault : LoadFault) → place ≡ nowhere → class ≡ class_of path
    → IsLoadFault fault (read_within n sources place (origin_with kind path class) contents loaded) → IsLoadFault fault (read_within n sources nowhere (origin_of kind path) contents loaded)
first_fault n sources place kind path class contents loaded fault p c h =
    subst (λ k. IsLoadFault fault (read_within n sources nowhere (origin_with kind path k) contents loaded)) c (subst (λ q. IsLoadFault fault (read_within n sources q (origin_with kind path class) contents loaded)) p h)

-- a file that was searched

pub found_reads : (sources : Sources) (kind : Kind) (must : Bool) (path at text : List ℕ) (contents : Contents) (found : Option Found) (loaded new : Loaded) → found ≡ Some (at, contents) → text ≡ at
    → read_first sources nowhere (origin_of kind text) contents loaded ≡ Ok new → file_found sources kind must path found loaded ≡ Ok new
found_reads sources kind must path at text contents found loaded new f t h =
    ap (λ o. file_found sources kind must path o loaded) f ∙ subst (λ p. read_first sources nowhere (origin_of kind p) contents loaded ≡ Ok new) t h

pub found_fault : (sources : Sources) (kind : Kind) (must : Bool) (path at text : List ℕ) (contents : Contents) (found : Option Found) (loaded : Loaded) (fault : LoadFault) → found ≡ Some (at, contents) → text ≡ at
    → IsLoadFault fault (read_first sources nowhere (origin_of kind text) contents loaded) → IsLoadFault fault (file_found sources kind must path found loaded)
found_fault sources kind must path at text contents found loaded fault f t h =
    fault_same fault (file_found sources kind must path found loaded) (read_first sources nowhere (origin_of kind at) contents loaded) (ap (λ o. file_found sources kind must path o loaded) f)
    (subst (λ p. IsLoadFault fault (read_first sources nowhere (origin_of kind p) contents loaded)) t h)

-- a file that is there

same_contents : (o : Option Contents) → o ≡ option_map (contents_for None) o
same_contents None = refl
same_contents (Some contents) = refl

at_for : (layer : Option (List ℕ)) (files : List ℕ → Option (List ℕ)) (path : List ℕ) (kind : Kind) → sources_for layer files path kind ≡ option_map (contents_for layer) (sources_of files path kind)
at_for None files path kind = same_contents (sources_of files path kind)
at_for (Some layer) files path kind = refl

entries_there : (layer : Option (List ℕ)) (files : List ℕ → Option (List ℕ)) (kind : Kind) (path : List ℕ) (loaded : Loaded) (field : Option Contents) (contents : Contents) → field ≡ sources_of files path kind → field ≡ Some contents
    → entries (sources_for layer files) kind path loaded ≡ read_first (sources_for layer files) nowhere (origin_of kind path) (contents_for layer contents) loaded
entries_there layer files kind path loaded field contents e s =
    ap (λ o. file_found (sources_for layer files) kind true path (option_map (λ c. (path, c)) o) loaded) (at_for layer files path kind ∙ ap (option_map (contents_for layer)) (sym e ∙ s))

pub there_reads : (layer : Option (List ℕ)) (files mid : List ℕ → Option (List ℕ)) (kind : Kind) (path : List ℕ) (loaded new : Loaded) (field : Option Contents) (contents : Contents) → field ≡ sources_of files path kind → field ≡ Some contents → mid ≡ files
    → read_first (sources_for layer mid) nowhere (origin_of kind path) (contents_for layer contents) loaded ≡ Ok new → entries (sources_for layer files) kind path loaded ≡ Ok new
there_reads layer files mid kind path loaded new field contents e s m h =
    entries_there layer files kind path loaded field contents e s ∙ subst (λ fs. read_first (sources_for layer fs) nowhere (origin_of kind path) (contents_for layer contents) loaded ≡ Ok new) m h

pub there_fault : (layer : Option (List ℕ)) (files mid : List ℕ → Option (List ℕ)) (kind : Kind) (path : List ℕ) (loaded : Loaded) (field : Option Contents) (contents : Contents) (fault : LoadFault) → field ≡ sources_of files path kind → field ≡ Some contents → mid ≡ files
    → IsLoadFault fault (read_first (sources_for layer mid) nowhere (origin_of kind path) (contents_for layer contents) loaded) → IsLoadFault fault (entries (sources_for layer files) kind path loaded)
there_fault layer files mid kind path loaded field contents fault e s m h =
    fault_same fault (entries (sources_for layer files) kind path loaded) (read_first (sources_for layer files) nowhere (origin_of kind path) (contents_for layer contents) loaded) (entries_there layer files kind path loaded field contents e s)
    (subst (λ fs. IsLoadFault fault (read_first (sources_for layer fs) nowhere (origin_of kind path) (contents_for layer contents) loaded)) m h)
