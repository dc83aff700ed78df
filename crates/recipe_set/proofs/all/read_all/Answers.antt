use Rattle.std.proofs.Common.{◌∙◌}
use Rattle.load_model.specs.Loading.{sources_of}
use Rattle.load_model.specs.Facts.{recipe_set, set_under}
use Rattle.recipe_facts.specs.Wished.{wished}
use Rattle.std.proofs.lemmas.Result.{IfErr-weaker, IfOk-weaker}
use Rattle.recipe_set.proofs.Setting.{set_same, whole_is}
use Rattle.recipe_set.proofs.all.read_all.Goals as goal

pub returns-in-Ok-clause-ok : goal.returns-in-Ok-clause-ok
returns-in-Ok-clause-ok g c =
    let sources = sources_of (g.L.Layers.files c.args.layers.now) in
    IfOk-weaker c.read_sharing.result _ _ (λ made h told. whole_is sources c.args.config.now c.args.recipes.now c.args.appends.now (wished c.in-Ok.wishes) c.in-Ok.ensures.ok ∙ h told) c.read_sharing.ensures.ok

pub returns-in-Ok-clause-err : goal.returns-in-Ok-clause-err
returns-in-Ok-clause-err g c =
    let sources = sources_of (g.L.Layers.files c.args.layers.now) in
    let config = c.args.config.now in
    let recipes = c.args.recipes.now in
    let appends = c.args.appends.now in
    IfErr-weaker c.read_sharing.result _ _ (λ fault h told.
    set_same fault (recipe_set sources config recipes appends) (set_under sources config recipes appends (wished c.in-Ok.wishes)) (whole_is sources config recipes appends (wished c.in-Ok.wishes) c.in-Ok.ensures.ok) (h told)) c.read_sharing.ensures.err
