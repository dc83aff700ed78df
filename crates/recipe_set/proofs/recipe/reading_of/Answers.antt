use Rattle.std.proofs.Common.{◌∙◌, ap, sym, subst}
use Rattle.load_model.specs.LoadRefusal.{refused_as}
use Rattle.load_model.specs.Loading.{sources_of}
use Rattle.load_model.specs.Recipes.{load, recipe_entries, appends_of, entries_with}
use Rattle.class_inherit.specs.Faults.{IsLoadFault}
use Rattle.recipe_set.specs.Names.{name_meant}
use Rattle.recipe_set.proofs.Setting.{set_load, entries_are}
use Rattle.recipe_set.proofs.recipe.reading_of.Goals as goal

pub returns-in-Ok-loaded-clause-ok : goal.returns-in-Ok-loaded-clause-ok
returns-in-Ok-loaded-clause-ok g c = λ told.
    let sources = sources_of (g.L.Layers.files c.args.layers.now) in
    let config = c.args.known.now.config.now in
    let path = c.args.file.now.0 in
    let name = name_meant c.args.file.now.1 in
    let appends = c.args.known.now.appends.now in
    let own = c.as_slice.ensures ∙ c.in-Ok.ensures ∙ ap (λ p. appends_of p appends) c.as_str-path.ensures in
    ap (refused_as load) (sym (entries_are sources config path name appends)
    ∙ ap (λ p. entries_with sources config p name (appends_of path appends)) (sym c.as_str-path.ensures)
    ∙ ap (entries_with sources config c.as_str-path.result.now name) (sym own) ∙ c.in-Ok-loaded.ensures.ok told)

pub returns-clause-err : goal.returns-clause-err
returns-clause-err g c = λ told.
    let sources = sources_of (g.L.Layers.files c.args.layers.now) in
    let config = c.args.known.now.config.now in
    let path = c.args.file.now.0 in
    let name = name_meant c.args.file.now.1 in
    let appends = c.args.known.now.appends.now in
    let own = c.as_slice.ensures ∙ c.in-Ok.ensures ∙ ap (λ p. appends_of p appends) c.as_str-path.ensures in
    set_load c.in-Err-loaded.fault c.load_told.result (recipe_entries sources config path name appends) c.load_told.ensures.told
    (subst (IsLoadFault c.in-Err-loaded.fault) (ap (λ p. entries_with sources config p name c.as_slice.result.now) c.as_str-path.ensures ∙ ap (entries_with sources config path name) own ∙ entries_are sources config path name appends)
    (c.in-Err-loaded.ensures.err told))
