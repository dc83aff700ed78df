use Rattle.std.proofs.Common.{◌≡◌, ◌∙◌, ap, sym, subst, ℕ, List, [], Ok}
use Rattle.std.specs.Option.{option_copied}
use Rattle.std.proofs.lemmas.Result.{IfOk-weaker, IfErr-weaker}
use Rattle.outside_traits.specs.Store.{IsListing}
use Rattle.load_model.specs.Loading.{sources_of}
use Rattle.layer_conf.specs.Config.{config_meant}
use Rattle.meta_model.proofs.Passing.{goes_on}
use Rattle.answer_model.specs.Project.{read_config}
use Rattle.project_reading.specs.Answered.{IsRefusedAs}
use Rattle.project_reading.proofs.Told.{told_later}
use Rattle.answer_model.specs.RunAsked.{asked, asked_under}
use Rattle.target_graph.specs.Meaning.{asked_meant}
use Rattle.target_graph.proofs.asked.read_asked.Goals as goal

pub returns-in-Ok-clause-ok : goal.returns-in-Ok-clause-ok
returns-in-Ok-clause-ok g c =
    let files = g.L.Layers.files c.args.layers.now in
    let later = g.L.Layers.files c.read_config.new.layers in
    let made = config_meant c.in-Ok.config in
    let words = c.args.words.now in
    let task = option_copied c.args.task in
    IfOk-weaker c.read_under.result (λ a. g.L.Layers.tells → asked_under (sources_of later) made words task ≡ Ok (asked_meant a))
    (λ a. g.L.Layers.tells → (paths : List (List ℕ)) → IsListing [] files paths → asked (sources_of files) paths words task ≡ Ok (asked_meant a))
    (λ a e told paths listing. goes_on (read_config (sources_of files) paths) made (λ m. asked_under (sources_of files) m words task) (c.in-Ok.ensures.ok told paths listing)
    ∙ ap (λ f. asked_under (sources_of f) made words task) (sym c.in-Ok.ensures.same) ∙ e told)
    c.read_under.ensures.ok

pub returns-in-Ok-clause-err : goal.returns-in-Ok-clause-err
returns-in-Ok-clause-err g c =
    let files = g.L.Layers.files c.args.layers.now in
    let later = g.L.Layers.files c.read_config.new.layers in
    let made = config_meant c.in-Ok.config in
    let words = c.args.words.now in
    let task = option_copied c.args.task in
    IfErr-weaker c.read_under.result (λ status. g.L.Layers.tells → IsRefusedAs status (asked_under (sources_of later) made words task))
    (λ status. g.L.Layers.tells → (paths : List (List ℕ)) → IsListing [] files paths → IsRefusedAs status (asked (sources_of files) paths words task))
    (λ status h told paths listing. told_later status (read_config (sources_of files) paths) (λ m. asked_under (sources_of files) m words task) made (c.in-Ok.ensures.ok told paths listing)
    (subst (λ f. IsRefusedAs status (asked_under (sources_of f) made words task)) c.in-Ok.ensures.same (h told)))
    c.read_under.ensures.err
