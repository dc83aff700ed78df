-- The recipes of a part have good names: its configuration adds tasks of good names alone.
use Rattle.std.proofs.Common.{◌≡◌, refl, sym, ap, subst, ℕ, List, [], ◌∷◌, ◌++◌, map, Bool, true, false, true≢false, Option, Some, None, Result, Ok, Err, is_ok, option_map, codes}
use Rattle.std.specs.Prelude.{is_some}
use Rattle.std.specs.List.{AllByRecursion}
use Rattle.meta_model.specs.declared.event.Status.{Status}
use Rattle.meta_model.specs.declared.entry.EntryLine.{EntryLine}
use Rattle.meta_model.specs.declared.entry.EntryLine.TheVariants.{Set}
use Rattle.meta_model.specs.declared.entry.Op.TheVariants.{Set as Assigned}
use Rattle.meta_model.specs.declared.line.Kind.TheVariants.{Conf}
use Rattle.meta_model.specs.declared.statement.Statement.{Statement}
use Rattle.meta_model.specs.declared.statement.Statement.TheVariants.{Assign, Flag, Export, Unset, UnsetFlag, Include, Require, Inherit, Function, ExportFunctions, AddTask, DelTask}
use Rattle.load_model.specs.LoadRefusal.{◌>>=◌, refused_as}
use Rattle.load_model.specs.Loading.{Sources, Contents, Loaded, sources_of, entries, searched_entries}
use Rattle.load_model.specs.Layers.{LayerRefusal, no_such_layer, load, no_list, built_in, flat_files, statement_in_layer, contents_in_layer, sources_in_layer, layer_named, layer_file, layer_at, layers_after, words_of, starting_with, bitbake_conf, Configured, layered, flat, configured, patterns_over, lists_over, with_lists, Config, config}
use Rattle.plan_model.specs.Names.{AddsGoodTasks, HaveGoodTasks, AddGoodTasks}
use Rattle.plan_model.specs.Sound.{HasGoodNames}
use Rattle.plan_model.proofs.Planning.{ok_parts, ok_as, same_ok}
use Rattle.plan_model.proofs.GoodStatements.{files_add}
use Rattle.plan_model.proofs.GoodLoading.{entries_good, lines_behind, searched_entries_good}
use Rattle.plan_model.proofs.GoodFacts.{set_has_good_names}
use Rattle.load_model.specs.Facts.{recipe_set}
use Rattle.answer_model.specs.Said.{layer_status, set_status}
use Rattle.answer_model.specs.Project.{read_config, read_recipes}
use Rattle.answer_model.specs.RunAsked.{Asked, moved}
use Rattle.plan_model.specs.Inputs.{Files}
use Rattle.multi_config.specs.declared.parts.ConfigTargets.{ConfigTargets}
use Rattle.multi_config.specs.Reading.{before_file, config_file, config_named}
use Rattle.multi_config.specs.Project.{asked_over, asked_part, asked_under, named_over, read_named}

-- files of a layer

in_layer_good : (layer : List ℕ) (s : Statement) → AddsGoodTasks s → AddsGoodTasks (statement_in_layer layer s)
in_layer_good layer (Assign export name op text) h = tt
in_layer_good layer (Flag name flag op text) h = tt
in_layer_good layer (Export name) h = tt
in_layer_good layer (Unset name) h = tt
in_layer_good layer (UnsetFlag name flag) h = tt
in_layer_good layer (Include path) h = tt
in_layer_good layer (Require path) h = tt
in_layer_good layer (Inherit names) h = tt
in_layer_good layer (Function name body) h = tt
in_layer_good layer (ExportFunctions names) h = tt
in_layer_good layer (AddTask names after before) h = h
in_layer_good layer (DelTask names) h = tt

abbrev Adds : List (ℕ × Statement) → Type 0
Adds list = AllByRecursion (λ s. AddsGoodTasks s.1) list

list_in_layer : (layer : List ℕ) (list : List (ℕ × Statement)) → Adds list → Adds (map (λ s. (s.0, statement_in_layer layer s.1)) list)
list_in_layer layer [] h = tt
list_in_layer layer (s ∷ list) h = (in_layer_good layer s.1 h.0, list_in_layer layer list h.1)

layer_adds : (layer : List ℕ) (sources : Sources) → AddGoodTasks sources → AddGoodTasks (sources_in_layer layer sources)
layer_adds layer sources adds path kind list e = by (sources path kind) refl e
  where
    by : (o : Option Contents) → sources path kind ≡ o → option_map (contents_in_layer layer) o ≡ Some (Ok list) → Adds list
    by None f h = absurd (cc)
    by (Some (Err wrong)) f h = absurd (cc)
    by (Some (Ok own)) f h = let s : map (λ s. (s.0, statement_in_layer layer s.1)) own ≡ list = cc in subst Adds s (list_in_layer layer own (adds path kind own f))

module _ (sources : Sources) (adds : AddGoodTasks sources) where
  one_layer_good : (layer : List ℕ) (path : Option (List ℕ)) (old new : Loaded) → HaveGoodTasks old.lines → layer_at sources layer path old ≡ Ok new → HaveGoodTasks new.lines
  one_layer_good layer None old new h e = absurd (true≢false (sym (ap is_ok e)))
  one_layer_good layer (Some path) old new h e = by (is_some (sources path Conf)) e
    where
      by : (b : Bool) → ◌≡◌ {A = Result Loaded LayerRefusal} (elim b [ true ↦ refused_as load (entries (sources_in_layer layer sources) Conf path old) | false ↦ Err (no_such_layer layer) ]) (Ok new) → HaveGoodTasks new.lines
      by true f = entries_good (sources_in_layer layer sources) (layer_adds layer sources adds) Conf path old new h (ok_as load (entries (sources_in_layer layer sources) Conf path old) new f)
      by false f = absurd (true≢false (sym (ap is_ok f)))

  layers_good : (layers : List (List ℕ)) (old new : Loaded) → HaveGoodTasks old.lines → layers_after sources layers old ≡ Ok new → HaveGoodTasks new.lines
  layers_good [] old new h e = subst (λ (l : Loaded). HaveGoodTasks l.lines) (same_ok {E = LayerRefusal} old new e) h
  layers_good (layer ∷ rest) old new h e =
      let next = ok_parts (layer_at sources layer (layer_file layer) old) (λ next. layers_after sources rest next) new e in
      layers_good rest next.0 new (one_layer_good layer (layer_file layer) old next.0 h next.1) next.2

  conf_good : (must : Bool) (old new : Loaded) → HaveGoodTasks old.lines → bitbake_conf sources must old ≡ Ok new → HaveGoodTasks new.lines
  conf_good must old new h e = searched_entries_good sources adds Conf must (codes "conf/bitbake.conf") old new h (ok_as load (searched_entries sources Conf must (codes "conf/bitbake.conf") old) new e)

  layered_good : (made : Configured) → layered sources ≡ Ok made → HaveGoodTasks made.lines
  layered_good made e =
      let fourth = λ (layers : List (List ℕ)) (last : Loaded). let r : Result Configured LayerRefusal = Ok (record { lines = last.lines; layers = layers }) in r in
      let third = λ (layers : List (List ℕ)) (all : Loaded). bitbake_conf sources true all >>= fourth layers in
      let second = λ (first : Loaded) (layers : List (List ℕ)). layers_after sources layers first >>= third layers in
      let named = λ (first : Loaded) (words : List (List ℕ)). second first (map layer_named words) in
      let one = λ (first : Loaded). refused_as no_list (words_of first.lines (codes "BBLAYERS")) >>= named first in
      let start = starting_with built_in in
      let first = ok_parts (refused_as load (entries sources Conf (codes "conf/bblayers.conf") start)) one made e in
      let words = ok_parts (refused_as no_list (words_of first.0.lines (codes "BBLAYERS"))) (named first.0) made first.2 in
      let layers = map layer_named words.0 in
      let all = ok_parts (layers_after sources layers first.0) (third layers) made words.2 in
      let last = ok_parts (bitbake_conf sources true all.0) (fourth layers) made all.2 in
      let a = entries_good sources adds Conf (codes "conf/bblayers.conf") start first.0 (record { each = (tt, (tt, (tt, (tt, tt)))) }) (ok_as load (entries sources Conf (codes "conf/bblayers.conf") start) first.0 first.1) in
      let b = layers_good layers first.0 all.0 a all.1 in
      subst (λ (c : Configured). HaveGoodTasks c.lines) (same_ok {E = LayerRefusal} (record { lines = last.0.lines; layers = layers }) made last.2) (conf_good true all.0 last.0 b last.1)

  flat_good : (made : Configured) → flat sources ≡ Ok made → HaveGoodTasks made.lines
  flat_good made e =
      let start = starting_with (built_in ++ flat_files) in
      let last = ok_parts (bitbake_conf sources false start) (λ last. Ok (record { lines = last.lines; layers = [] })) made e in
      subst (λ (c : Configured). HaveGoodTasks c.lines) (same_ok {E = LayerRefusal} (record { lines = last.0.lines; layers = [] }) made last.2) (conf_good false start last.0 (record { each = (tt, (tt, (tt, (tt, (tt, tt))))) }) last.1)

  configured_good : (made : Configured) → configured sources ≡ Ok made → HaveGoodTasks made.lines
  configured_good made e = by (is_some (sources (codes "conf/bblayers.conf") Conf)) e
    where
      by : (b : Bool) → ◌≡◌ {A = Result Configured LayerRefusal} (elim b [ true ↦ layered sources | false ↦ flat sources ]) (Ok made) → HaveGoodTasks made.lines
      by true f = layered_good made f
      by false f = flat_good made f

  config_good : (paths : List (List ℕ)) (made : Config) → config sources paths ≡ Ok made → HaveGoodTasks made.lines
  config_good paths made e =
      let c = ok_parts (configured sources) (with_lists paths) made e in
      let words = ok_parts (patterns_over c.0.lines) (λ words. let r : Result Config LayerRefusal = Ok (lists_over c.0 words paths) in r) made c.2 in
      subst HaveGoodTasks (ap (λ (k : Config). k.lines) (same_ok {E = LayerRefusal} (lists_over c.0 words.0 paths) made words.2)) (configured_good c.0 c.1)

  -- a configuration that has a name
  named_good : (name : List ℕ) (made new : Config) → HaveGoodTasks made.lines → config_named sources name made ≡ Ok new → HaveGoodTasks new.lines
  named_good [] made new h e = subst (λ (m : Config). HaveGoodTasks m.lines) (same_ok {E = LayerRefusal} made new e) h
  named_good (c ∷ name) made new h e =
      let path = config_file (c ∷ name) in
      let start = before_file (c ∷ name) made in
      let last = ok_parts (refused_as load (searched_entries sources Conf true path start)) (λ loaded. let r : Result Config LayerRefusal = Ok (record made { lines = loaded.lines }) in r) new e in
      let begun : HaveGoodTasks start.lines = lines_behind made.lines (Set (codes "BB_CURRENT_MC") Assigned (c ∷ name) ∷ []) h (tt, tt) in
      subst (λ (m : Config). HaveGoodTasks m.lines) (same_ok {E = LayerRefusal} (record made { lines = last.0.lines }) new last.2)
      (searched_entries_good sources adds Conf true path start last.0 begun (ok_as load (searched_entries sources Conf true path start) last.0 last.1))

pub part_has_good_names : (files : Files) (paths : List (List ℕ)) (part : ConfigTargets) (what : Asked) → asked_part (sources_of files) paths part ≡ Ok what → HasGoodNames what.set.facts
part_has_good_names files paths part what e =
    let sources = sources_of files in
    let adds = files_add files in
    let made = ok_parts (read_named sources paths part.mc) (asked_under sources part.targets) what e in
    let first = ok_parts (read_config sources paths) (named_over sources part.mc) made.0 made.1 in
    let set = ok_parts (read_recipes sources made.0) (asked_over made.0 part.targets) what made.2 in
    let answered = λ (lines : List EntryLine). let r : Result Asked Status = Ok (record { set = set.0; lines = lines; appends = made.0.appends; targets = part.targets }) in r in
    let lines = ok_parts (moved made.0.lines) answered what set.2 in
    let same : record { set = set.0; lines = lines.0; appends = made.0.appends; targets = part.targets } ≡ what = same_ok {E = Status} (record { set = set.0; lines = lines.0; appends = made.0.appends; targets = part.targets }) what lines.2 in
    let default = config_good sources adds paths first.0 (ok_as layer_status (config sources paths) first.0 first.1) in
    let named = named_good sources adds part.mc first.0 made.0 default (ok_as layer_status (config_named sources part.mc first.0) made.0 first.2) in
    subst (λ (w : Asked). HasGoodNames w.set.facts) same
    (set_has_good_names sources made.0.lines made.0.recipes made.0.appends set.0 adds named (ok_as set_status (recipe_set sources made.0.lines made.0.recipes made.0.appends) set.0 set.1))
