use Rattle.std.proofs.Common.{◌≡◌, ◌∙◌, ap, sym, subst, ℕ, List, [], Ok}
use Rattle.std.proofs.lemmas.Result.{IfOk-weaker, IfErr-weaker}
use Rattle.outside_traits.specs.Store.{IsListing}
use Rattle.load_model.specs.Loading.{sources_of}
use Rattle.layer_conf.specs.Config.{config_meant}
use Rattle.meta_model.proofs.Passing.{goes_on}
use Rattle.answer_model.specs.Project.{read_config}
use Rattle.project_reading.specs.Answered.{IsRefusedAs}
use Rattle.project_reading.proofs.Told.{told_later}
use Rattle.multi_config.specs.Project.{named_over, read_named}
use Rattle.target_graph.proofs.part.named_config.Goals as goal

pub returns-in-Ok-clause-ok : goal.returns-in-Ok-clause-ok
returns-in-Ok-clause-ok g c =
    let files = g.L.Layers.files c.args.layers.now in
    let later = g.L.Layers.files c.read_config.new.layers in
    let made = config_meant c.in-Ok.config in
    let mc = c.args.name.now in
    IfOk-weaker c.read_named.result (λ a. g.L.Layers.tells → named_over (sources_of later) mc made ≡ Ok (config_meant a))
    (λ a. g.L.Layers.tells → (paths : List (List ℕ)) → IsListing [] files paths → read_named (sources_of files) paths mc ≡ Ok (config_meant a))
    (λ a e told paths listing. goes_on (read_config (sources_of files) paths) made (named_over (sources_of files) mc) (c.in-Ok.ensures.ok told paths listing)
    ∙ ap (λ f. named_over (sources_of f) mc made) (sym c.in-Ok.ensures.same) ∙ e told)
    c.read_named.ensures.ok

pub returns-in-Ok-clause-err : goal.returns-in-Ok-clause-err
returns-in-Ok-clause-err g c =
    let files = g.L.Layers.files c.args.layers.now in
    let later = g.L.Layers.files c.read_config.new.layers in
    let made = config_meant c.in-Ok.config in
    let mc = c.args.name.now in
    IfErr-weaker c.read_named.result (λ status. g.L.Layers.tells → IsRefusedAs status (named_over (sources_of later) mc made))
    (λ status. g.L.Layers.tells → (paths : List (List ℕ)) → IsListing [] files paths → IsRefusedAs status (read_named (sources_of files) paths mc))
    (λ status h told paths listing. told_later status (read_config (sources_of files) paths) (named_over (sources_of files) mc) made (c.in-Ok.ensures.ok told paths listing)
    (subst (λ f. IsRefusedAs status (named_over (sources_of f) mc made)) c.in-Ok.ensures.same (h told)))
    c.read_named.ensures.err
