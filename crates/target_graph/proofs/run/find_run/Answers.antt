use Rattle.std.proofs.Common.{◌≡◌, ℕ, List, []}
use Rattle.std.specs.Option.{option_copied}
use Rattle.outside_traits.specs.Store.{IsListing}
use Rattle.load_model.specs.Loading.{sources_of}
use Rattle.std.proofs.lemmas.Result.{IfErr-weaker}
use Rattle.target_graph.specs.Meaning.{asked_meant}
use Rattle.target_graph.specs.Runs.{HasRun, HasNoRun, IsNoRun}
use Rattle.answer_model.specs.Runs.{IsRun}
use Rattle.target_graph.proofs.Running.{run_asked, ok_and_ok, no_run_asked, asking_refused}
use Rattle.target_graph.proofs.run.find_run.Goals as goal

pub returns-in-Ok-clause-ok : goal.returns-in-Ok-clause-ok
returns-in-Ok-clause-ok g c =
    let files = g.L.Layers.files c.args.layers.now in
    let what = asked_meant c.in-Ok.asked in
    let words = c.args.words.now in
    let task = option_copied c.args.task in
    ok_and_ok c.run_of.result (λ run. asked_meant run.asked ≡ what) (λ run. HasRun what run.graph run.threads)
    (λ run. g.L.Layers.tells → (paths : List (List ℕ)) → IsListing [] files paths → IsRun (sources_of files) paths words task (asked_meant run.asked) run.graph run.threads)
    (λ run same has told paths listing. run_asked files paths words task what (asked_meant run.asked) run.graph run.threads (c.in-Ok.ensures.ok told paths listing) same has)
    c.run_of.ensures.asked c.run_of.ensures.ok

pub returns-in-Ok-clause-err : goal.returns-in-Ok-clause-err
returns-in-Ok-clause-err g c =
    let files = g.L.Layers.files c.args.layers.now in
    let what = asked_meant c.in-Ok.asked in
    let words = c.args.words.now in
    let task = option_copied c.args.task in
    IfErr-weaker c.run_of.result (HasNoRun what)
    (λ status. g.L.Layers.tells → (paths : List (List ℕ)) → IsListing [] files paths → IsNoRun (sources_of files) paths words task status)
    (λ status h told paths listing. no_run_asked files paths words task what status (c.in-Ok.ensures.ok told paths listing) h)
    c.run_of.ensures.err

pub returns-in-Err-clause-err : goal.returns-in-Err-clause-err
returns-in-Err-clause-err g c = λ told paths listing. asking_refused (g.L.Layers.files c.args.layers.now) paths c.args.words.now (option_copied c.args.task) c.in-Err.status (c.in-Err.ensures.err told paths listing)
