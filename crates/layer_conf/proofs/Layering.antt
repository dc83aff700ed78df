-- Layers, one after another, and their faults.
use Rattle.std.proofs.Common.{◌≡◌, refl, sym, ◌∙◌, ap, subst, ℕ, ◌+◌, ◌<◌, Bool, true, false, List, length, drop, get_or, Option, Some, None, is_some, Result, Ok, Err, MatchOption, codes}
use Rattle.std.specs.Option.{option_map}
use Rattle.meta_model.specs.declared.line.Kind.TheVariants.{Conf}
use Rattle.load_model.specs.LoadRefusal.{LoadCause, LoadRefusal, Place, refused_at, ◌>>=◌, refused_as}
use Rattle.load_model.specs.Loading.{Sources, Loaded, entries}
use Rattle.load_model.specs.Layers.{LayerRefusal, load, no_list, layer_file, layer_at, layers_after, sources_in_layer, starting_with, built_in, configured, layered, flat, Configured, config, named_files, in_layer_order, layered_from, lists_over, patterns_over, with_lists}
use Rattle.meta_model.specs.Refusal.{Refusal}
use Rattle.datastore.specs.declared.fault.DataFault.{DataFault}
use Rattle.datastore.specs.Faults.{IsDataFault, data_refusal}
use Rattle.layer_conf.specs.Config.{configured_meant, listed_meant}
use Rattle.layer_conf.specs.declared.reads.Configured.{Configured as Made}
use Rattle.class_inherit.specs.declared.fault.LoadFault.{LoadFault}
use Rattle.class_inherit.specs.Faults.{cause_of, place_of, load_refusal, IsLoadFault}
use Rattle.meta_model.specs.Passing.{IsRefused}
use Rattle.meta_model.proofs.Passing.{refused_on, refused_same, goes_on, next_of}
use Rattle.recipe_facts.proofs.Binding.{said}
use Rattle.layer_conf.specs.declared.fault.LayerFault.{LayerFault}
use Rattle.layer_conf.specs.Faults.{layer_refusal, IsLayerFault}

at_cause : {A : Type 0} (P : Type 0) (place : Place) (o : Option LoadCause) (m : Result A LoadRefusal) → MatchOption o P (λ c. m ≡ Err (refused_at place c)) → IsRefused (option_map (refused_at place) o) m
at_cause P place None m h = tt
at_cause P place (Some c) m h = h

pub load_said : {A : Type 0} (fault : LoadFault) (m : Result A LoadRefusal) → IsLoadFault fault m → IsRefused (load_refusal fault) m
load_said fault m h = at_cause _ (place_of fault) (cause_of fault.kind) m h.told

pub told_load : {A : Type 0} (o : Option LoadRefusal) (m : Result A LoadRefusal) → IsRefused o m → IsRefused (option_map load o) (refused_as load m)
told_load None m h = tt
told_load (Some r) m h = ap (refused_as load) h

some_refused : (fault : LoadFault) (b : Bool) (o : Option LoadCause) (m n : Result Loaded LayerRefusal) → (is_some o ≡ true → b ≡ true) → IsRefused (option_map load (option_map (refused_at (place_of fault)) o)) m → IsRefused (option_map load (option_map (refused_at (place_of fault)) o)) (elim b [ true ↦ m | false ↦ n ])
some_refused fault b None m n f h = tt
some_refused fault b (Some c) m n f h = rw (f refl) h

pub layer_fault : (sources : Sources) (word path : List ℕ) (loaded : Loaded) (fault : LoadFault) (made : LayerFault) → layer_refusal made ≡ option_map load (load_refusal fault) → IsLoadFault fault (entries (sources_in_layer word sources) Conf path loaded)
    → (is_some (cause_of fault.kind) ≡ true → is_some (sources path Conf) ≡ true) → IsLayerFault made (layer_at sources word (Some path) loaded)
layer_fault sources word path loaded fault made e h f = record {
  told = subst (λ o. IsRefused o (layer_at sources word (Some path) loaded)) (sym e)
      (some_refused fault (is_some (sources path Conf)) (cause_of fault.kind) (refused_as load (entries (sources_in_layer word sources) Conf path loaded)) _ f
      (told_load (load_refusal fault) (entries (sources_in_layer word sources) Conf path loaded) (load_said fault (entries (sources_in_layer word sources) Conf path loaded) h)));
}

-- layers, one after another

pub layers_go_on : (sources : Sources) (words : List (List ℕ)) (i : ℕ) (word : List ℕ) (reading next : Loaded) (whole : Result Loaded LayerRefusal) → word ≡ get_or words i word → i < length words → layers_after sources (drop i words) reading ≡ whole → layer_at sources word (layer_file word) reading ≡ Ok next
    → layers_after sources (drop (i + 1) words) next ≡ whole
layers_go_on sources words i word reading next whole is lt w e =
    sym (goes_on (layer_at sources word (layer_file word) reading) next (layers_after sources (drop (i + 1) words)) e) ∙ sym (next_of (λ l. layers_after sources l reading) words i word is lt) ∙ w

pub layers_fault : (sources : Sources) (words : List (List ℕ)) (i : ℕ) (word : List ℕ) (reading : Loaded) (whole : Result Loaded LayerRefusal) (fault : LayerFault) → word ≡ get_or words i word → i < length words → layers_after sources (drop i words) reading ≡ whole → IsLayerFault fault (layer_at sources word (layer_file word) reading)
    → IsLayerFault fault whole
layers_fault sources words i word reading whole fault is lt w h = record {
  told = refused_same (layer_refusal fault) whole (layer_at sources word (layer_file word) reading >>= layers_after sources (drop (i + 1) words)) (sym w ∙ next_of (λ l. layers_after sources l reading) words i word is lt)
      (refused_on (layer_refusal fault) (layer_at sources word (layer_file word) reading) (layers_after sources (drop (i + 1) words)) h.told);
}

-- the configuration

pub layer_same : {A : Type 0} (fault : LayerFault) (m n : Result A LayerRefusal) → m ≡ n → IsLayerFault fault n → IsLayerFault fault m
layer_same fault m n e h = subst (IsLayerFault fault) (sym e) h

pub layer_on : {A B : Type 0} (fault : LayerFault) (m : Result A LayerRefusal) (f : A → Result B LayerRefusal) → IsLayerFault fault m → IsLayerFault fault (m >>= f)
layer_on fault m f h = record { told = refused_on (layer_refusal fault) m f h.told }

told_data : {A : Type 0} (o : Option Refusal) (m : Result A Refusal) → IsRefused o m → IsRefused (option_map no_list o) (refused_as no_list m)
told_data None m h = tt
told_data (Some r) m h = ap (refused_as no_list) h

pub data_fault : {A : Type 0} (fault : DataFault) (made : LayerFault) (m : Result A Refusal) → layer_refusal made ≡ option_map no_list (data_refusal fault) → IsDataFault fault m → IsLayerFault made (refused_as no_list m)
data_fault fault made m e h = record { told = subst (λ o. IsRefused o (refused_as no_list m)) (sym e) (told_data (data_refusal fault) m (said fault m h)) }

abbrev pub first_file : List ℕ
first_file = codes "conf/bblayers.conf"

at_true : (b : Bool) (m n : Result Configured LayerRefusal) → b ≡ true → (elim b [ true ↦ m | false ↦ n ]) ≡ m
at_true true m n h = refl
at_true false m n h = absurd cc

at_false : (b : Bool) (m n : Result Configured LayerRefusal) → b ≡ false → (elim b [ true ↦ m | false ↦ n ]) ≡ n
at_false true m n h = absurd cc
at_false false m n h = refl

pub configured_layered : (sources : Sources) (start first : Loaded) → start ≡ starting_with built_in → is_some (sources first_file Conf) ≡ true → entries sources Conf first_file start ≡ Ok first → configured sources ≡ layered_from sources first
configured_layered sources start first s there e =
    at_true (is_some (sources first_file Conf)) (layered sources) (flat sources) there
    ∙ goes_on (refused_as load (entries sources Conf first_file (starting_with built_in))) first (layered_from sources) (ap (λ l. refused_as load (entries sources Conf first_file l)) (sym s) ∙ ap (refused_as load) e)

pub configured_flat : (sources : Sources) → is_some (sources first_file Conf) ≡ false → configured sources ≡ flat sources
configured_flat sources there = at_false (is_some (sources first_file Conf)) (layered sources) (flat sources) there

some_refused_on : (fault : LoadFault) (b : Bool) (o : Option LoadCause) (m n : Result Configured LayerRefusal) → (is_some o ≡ true → b ≡ true) → IsRefused (option_map load (option_map (refused_at (place_of fault)) o)) m → IsRefused (option_map load (option_map (refused_at (place_of fault)) o)) (elim b [ true ↦ m | false ↦ n ])
some_refused_on fault b None m n f h = tt
some_refused_on fault b (Some c) m n f h = rw (f refl) h

pub configured_fault : (sources : Sources) (start : Loaded) (fault : LoadFault) (made : LayerFault) → start ≡ starting_with built_in → layer_refusal made ≡ option_map load (load_refusal fault) → IsLoadFault fault (entries sources Conf first_file start)
    → (is_some (cause_of fault.kind) ≡ true → is_some (sources first_file Conf) ≡ true) → IsLayerFault made (configured sources)
configured_fault sources start fault made s e h f =
    let first = refused_as load (entries sources Conf first_file (starting_with built_in)) in
    let here : IsRefused (option_map load (load_refusal fault)) first = told_load (load_refusal fault) (entries sources Conf first_file (starting_with built_in)) (load_said fault (entries sources Conf first_file (starting_with built_in)) (subst (λ l. IsLoadFault fault (entries sources Conf first_file l)) s h)) in
    record {
      told = subst (λ o. IsRefused o (configured sources)) (sym e)
          (some_refused_on fault (is_some (sources first_file Conf)) (cause_of fault.kind) (first >>= layered_from sources) (flat sources) f (refused_on (option_map load (load_refusal fault)) first (layered_from sources) here));
    }

-- the lists

pub config_behind : (sources : Sources) (paths : List (List ℕ)) (made : Configured) → configured sources ≡ Ok made → config sources paths ≡ with_lists paths made
config_behind sources paths made e = goes_on (configured sources) made (with_lists paths) e

pub lists_are : (paths words : List (List ℕ)) (made : Configured) → patterns_over made.lines ≡ Ok words → with_lists paths made ≡ Ok (lists_over made words paths)
lists_are paths words made w = goes_on (patterns_over made.lines) words (λ ws. Ok (lists_over made ws paths)) w

pub config_first : (sources : Sources) (paths : List (List ℕ)) (fault : LayerFault) → IsLayerFault fault (configured sources) → IsLayerFault fault (config sources paths)
config_first sources paths fault h = layer_on fault (configured sources) (with_lists paths) h

pub lists_fault : (paths : List (List ℕ)) (made : Configured) (fault : LayerFault) → IsLayerFault fault (patterns_over made.lines) → IsLayerFault fault (with_lists paths made)
lists_fault paths made fault h = layer_on fault (patterns_over made.lines) (λ words. Ok (lists_over made words paths)) h

pub layer_free : {A : Type 0} (fault : LayerFault) (m : Result A LayerRefusal) → layer_refusal fault ≡ None → IsLayerFault fault m
layer_free fault m e = record { told = subst (λ o. IsRefused o m) (sym e) tt }

pub lists_made : (made : Made) (words paths found layers recipes appends : List (List ℕ)) → paths ≡ found → layers ≡ made.layers → recipes ≡ named_files words (codes ".bb") found → appends ≡ in_layer_order layers (named_files words (codes ".bbappend") found)
    → lists_over (configured_meant made) words paths ≡ listed_meant made recipes appends
lists_made made words paths found layers recipes appends p l r a =
    ap (lists_over (configured_meant made) words) p
    ∙ sym (ap (λ x. listed_meant made x appends) r ∙ ap (listed_meant made (named_files words (codes ".bb") found)) (a ∙ ap (λ x. in_layer_order x (named_files words (codes ".bbappend") found)) l))
