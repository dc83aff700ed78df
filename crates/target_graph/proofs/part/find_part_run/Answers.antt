use Rattle.std.proofs.Common.{◌≡◌, ℕ, List, []}
use Rattle.outside_traits.specs.Store.{IsListing}
use Rattle.load_model.specs.Loading.{sources_of}
use Rattle.std.proofs.lemmas.Result.{IfErr-weaker}
use Rattle.multi_config.specs.Plans.{IsPartRun}
use Rattle.target_graph.specs.Meaning.{asked_meant}
use Rattle.target_graph.specs.Runs.{HasRun, HasNoRun, IsNoPartRun}
use Rattle.target_graph.proofs.Running.{ok_and_ok}
use Rattle.target_graph.proofs.PartRuns.{part_run_asked, no_part_run_asked, part_asking_refused}
use Rattle.target_graph.proofs.part.find_part_run.Goals as goal

pub returns-in-Ok-clause-ok : goal.returns-in-Ok-clause-ok
returns-in-Ok-clause-ok g c =
    let files = g.L.Layers.files c.args.layers.now in
    let what = asked_meant c.in-Ok.asked in
    let part = c.args.part.now in
    ok_and_ok c.run_of.result (λ run. asked_meant run.asked ≡ what) (λ run. HasRun what run.graph run.threads)
    (λ run. g.L.Layers.tells → (paths : List (List ℕ)) → IsListing [] files paths → IsPartRun (sources_of files) paths part (asked_meant run.asked) run.graph run.threads)
    (λ run same has told paths listing. part_run_asked files paths part what (asked_meant run.asked) run.graph run.threads (c.in-Ok.ensures.ok told paths listing) same has)
    c.run_of.ensures.asked c.run_of.ensures.ok

pub returns-in-Ok-clause-err : goal.returns-in-Ok-clause-err
returns-in-Ok-clause-err g c =
    let files = g.L.Layers.files c.args.layers.now in
    let what = asked_meant c.in-Ok.asked in
    let part = c.args.part.now in
    IfErr-weaker c.run_of.result (HasNoRun what)
    (λ status. g.L.Layers.tells → (paths : List (List ℕ)) → IsListing [] files paths → IsNoPartRun (sources_of files) paths part status)
    (λ status h told paths listing. no_part_run_asked files paths part what status (c.in-Ok.ensures.ok told paths listing) h)
    c.run_of.ensures.err

pub returns-in-Err-clause-err : goal.returns-in-Err-clause-err
returns-in-Err-clause-err g c = λ told paths listing. part_asking_refused (g.L.Layers.files c.args.layers.now) paths c.args.part.now c.in-Err.status (c.in-Err.ensures.err told paths listing)
