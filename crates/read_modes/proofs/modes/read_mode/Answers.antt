use Rattle.std.proofs.Common.{◌≡◌, ◌∙◌, ap, sym, subst, ℕ, List, [], Ok}
use Rattle.std.proofs.lemmas.Result.{IfOk-weaker, IfErr-weaker}
use Rattle.outside_traits.specs.Store.{IsListing}
use Rattle.load_model.specs.Loading.{sources_of}
use Rattle.layer_conf.specs.Config.{config_meant}
use Rattle.meta_model.proofs.Passing.{goes_on}
use Rattle.answer_model.specs.Project.{read_config}
use Rattle.answer_model.specs.Modes.{text_of, mode_text}
use Rattle.project_reading.specs.Answered.{IsRefusedAs}
use Rattle.project_reading.proofs.Told.{told_later}
use Rattle.read_modes.proofs.modes.read_mode.Goals as goal

pub returns-in-Ok-clause-ok : goal.returns-in-Ok-clause-ok
returns-in-Ok-clause-ok g c =
    let files = g.L.Layers.files c.args.layers.now in
    let later = g.L.Layers.files c.read_config.new.layers in
    let made = config_meant c.in-Ok.config in
    let mode = c.args.mode in
    let targets = c.args.targets.now in
    IfOk-weaker c.text_of.result (λ text. g.L.Layers.tells → text_of mode (sources_of later) made targets ≡ Ok text)
    (λ text. g.L.Layers.tells → (paths : List (List ℕ)) → IsListing [] files paths → mode_text mode (sources_of files) paths targets ≡ Ok text)
    (λ text e told paths listing. goes_on (read_config (sources_of files) paths) made (λ m. text_of mode (sources_of files) m targets) (c.in-Ok.ensures.ok told paths listing)
    ∙ ap (λ f. text_of mode (sources_of f) made targets) (sym c.in-Ok.ensures.same) ∙ e told)
    c.text_of.ensures.ok

pub returns-in-Ok-clause-err : goal.returns-in-Ok-clause-err
returns-in-Ok-clause-err g c =
    let files = g.L.Layers.files c.args.layers.now in
    let later = g.L.Layers.files c.read_config.new.layers in
    let made = config_meant c.in-Ok.config in
    let mode = c.args.mode in
    let targets = c.args.targets.now in
    IfErr-weaker c.text_of.result (λ status. g.L.Layers.tells → IsRefusedAs status (text_of mode (sources_of later) made targets))
    (λ status. g.L.Layers.tells → (paths : List (List ℕ)) → IsListing [] files paths → IsRefusedAs status (mode_text mode (sources_of files) paths targets))
    (λ status h told paths listing. told_later status (read_config (sources_of files) paths) (λ m. text_of mode (sources_of files) m targets) made (c.in-Ok.ensures.ok told paths listing)
    (subst (λ f. IsRefusedAs status (text_of mode (sources_of f) made targets)) c.in-Ok.ensures.same (h told)))
    c.text_of.ensures.err
