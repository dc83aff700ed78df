use Rattle.std.proofs.Common.{◌∙◌, sym, subst, []}
use Rattle.std.proofs.lemmas.Result.{IfOk-weaker, IfErr-weaker}
use Rattle.outside_traits.specs.Store.{IsListing}
use Rattle.load_model.specs.Loading.{sources_of}
use Rattle.load_model.specs.Layers.{config, with_lists}
use Rattle.layer_conf.specs.Config.{configured_meant}
use Rattle.layer_conf.proofs.Layering.{config_behind, config_first, layer_same}
use Rattle.layer_conf.proofs.lists.read_layers.Goals as goal

pub returns-in-Err-clause-err : goal.returns-in-Err-clause-err
returns-in-Err-clause-err g c = λ told paths listing. config_first (sources_of (g.L.Layers.files c.args.layers.now)) paths c.in-Err.fault (c.in-Err.ensures.err told)

pub returns-in-Ok-clause-ok : goal.returns-in-Ok-clause-ok
returns-in-Ok-clause-ok g c =
    let made = configured_meant c.in-Ok.made in
    IfOk-weaker c.with_lists.result _ _
    (λ lists h told paths listing. config_behind (sources_of (g.L.Layers.files c.args.layers.now)) paths made (c.in-Ok.ensures.ok told)
    ∙ h told paths (subst (λ f. IsListing [] f paths) (sym c.in-Ok.ensures.same) listing))
    c.with_lists.ensures.ok

pub returns-in-Ok-clause-err : goal.returns-in-Ok-clause-err
returns-in-Ok-clause-err g c =
    let sources = sources_of (g.L.Layers.files c.args.layers.now) in
    let made = configured_meant c.in-Ok.made in
    IfErr-weaker c.with_lists.result _ _
    (λ fault h told paths listing. layer_same fault (config sources paths) (with_lists paths made) (config_behind sources paths made (c.in-Ok.ensures.ok told))
    (h told paths (subst (λ f. IsListing [] f paths) (sym c.in-Ok.ensures.same) listing)))
    c.with_lists.ensures.err
