use Rattle.std.proofs.Common.{◌≡◌, ◌∙◌, ℕ, List, [], Ok}
use Rattle.std.specs.Option.{option_copied}
use Rattle.std.proofs.lemmas.Result.{IfOk-weaker, IfErr-weaker}
use Rattle.outside_traits.specs.Store.{IsListing}
use Rattle.load_model.specs.Loading.{sources_of}
use Rattle.layer_conf.specs.Config.{config_meant}
use Rattle.meta_model.proofs.Passing.{goes_on}
use Rattle.answer_model.specs.Project.{read_config}
use Rattle.project_reading.specs.Answered.{IsRefusedAs}
use Rattle.project_reading.proofs.Told.{told_later}
use Rattle.multi_config.specs.Project.{parts_asked, parts_under}
use Rattle.target_graph.proofs.parts.find_parts.Goals as goal

pub returns-in-Ok-clause-ok : goal.returns-in-Ok-clause-ok
returns-in-Ok-clause-ok g c =
    let files = g.L.Layers.files c.args.layers.now in
    let made = config_meant c.in-Ok.config in
    let words = c.args.words.now in
    let task = option_copied c.args.task in
    IfOk-weaker c.parts_under.result (λ parts. parts_under words task made ≡ Ok parts.items)
    (λ parts. g.L.Layers.tells → (paths : List (List ℕ)) → IsListing [] files paths → parts_asked (sources_of files) paths words task ≡ Ok parts.items)
    (λ parts e told paths listing. goes_on (read_config (sources_of files) paths) made (parts_under words task) (c.in-Ok.ensures.ok told paths listing) ∙ e)
    c.parts_under.ensures.ok

pub returns-in-Ok-clause-err : goal.returns-in-Ok-clause-err
returns-in-Ok-clause-err g c =
    let files = g.L.Layers.files c.args.layers.now in
    let made = config_meant c.in-Ok.config in
    let words = c.args.words.now in
    let task = option_copied c.args.task in
    IfErr-weaker c.parts_under.result (λ status. IsRefusedAs status (parts_under words task made))
    (λ status. g.L.Layers.tells → (paths : List (List ℕ)) → IsListing [] files paths → IsRefusedAs status (parts_asked (sources_of files) paths words task))
    (λ status h told paths listing. told_later status (read_config (sources_of files) paths) (parts_under words task) made (c.in-Ok.ensures.ok told paths listing) h)
    c.parts_under.ensures.err
