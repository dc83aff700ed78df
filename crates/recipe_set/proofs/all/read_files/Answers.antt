use Rattle.std.proofs.Common.{◌≡◌, ◌∙◌, ap, map, List, ℕ, bytes_eq}
use Rattle.std.specs.Map.{lookup}
use Rattle.std.specs.BTreeMap.{get_by_text}
use Rattle.load_model.specs.Loading.{sources_of}
use Rattle.load_model.specs.Recipes.{recipes_read}
use Rattle.load_model.specs.Facts.{all_chosen, set_over}
use Rattle.recipe_facts.specs.Recipe.{recipe_meant}
use Rattle.recipe_facts.specs.Wished.{wished}
use Rattle.std.proofs.lemmas.Result.{IfErr-weaker, IfOk-weaker}
use Rattle.recipe_set.specs.Chosen.{file_meant}
use Rattle.recipe_set.proofs.Setting.{chosen_on, chosen_fault}
use Rattle.recipe_set.proofs.all.read_files.Goals as goal

pub returns-clause-ok : goal.returns-clause-ok
returns-clause-ok g c =
    let read = recipes_read (sources_of (g.L.Layers.files c.args.layers.now)) c.args.known.now.config.now c.args.known.now.appends.now (map file_meant c.args.files.now) in
    let versions = c.args.wishes.versions in
    let named : (t : List ℕ) → get_by_text c.in_ok-versions.versions t ≡ lookup (bytes_eq t) versions = λ t. c.in_ok-versions.ensures t ∙ ap (lookup (bytes_eq t)) c.as_slice.ensures in
    IfOk-weaker c.set_of.result _ _ (λ made h told.
    let p = c.in_ok-picks.ensures.ok told versions named in
    chosen_on read p.recipes (all_chosen versions) (set_over (wished c.args.wishes)) (map recipe_meant c.in_ok-recipes.recipes.items) made p.are (c.in_ok-recipes.ensures.chosen versions p.recipes p.picked) h) c.set_of.ensures.ok

pub returns-clause-err : goal.returns-clause-err
returns-clause-err g c =
    let read = recipes_read (sources_of (g.L.Layers.files c.args.layers.now)) c.args.known.now.config.now c.args.known.now.appends.now (map file_meant c.args.files.now) in
    let versions = c.args.wishes.versions in
    let named : (t : List ℕ) → get_by_text c.in_ok-versions.versions t ≡ lookup (bytes_eq t) versions = λ t. c.in_ok-versions.ensures t ∙ ap (lookup (bytes_eq t)) c.as_slice.ensures in
    IfErr-weaker c.set_of.result _ _ (λ fault h told.
    let p = c.in_ok-picks.ensures.ok told versions named in
    chosen_fault fault read p.recipes (all_chosen versions) (set_over (wished c.args.wishes)) (map recipe_meant c.in_ok-recipes.recipes.items) p.are (c.in_ok-recipes.ensures.chosen versions p.recipes p.picked) h) c.set_of.ensures.err
