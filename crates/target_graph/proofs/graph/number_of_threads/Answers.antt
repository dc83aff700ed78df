use Rattle.std.proofs.Common.{◌≡◌, ◌∙◌, ap, sym, ◌⊎◌, ℕ, Ok}
use Rattle.meta_model.specs.declared.event.Status.TheVariants.{OutOfMemory}
use Rattle.meta_model.specs.Threads.{AreThreads}
use Rattle.std.proofs.lemmas.Result.{IfErr-weaker}
use Rattle.answer_model.specs.Said.{threads_status}
use Rattle.target_graph.specs.Meaning.{asked_meant}
use Rattle.target_graph.specs.Runs.{IsDeviceStatus, HasNoThreads}
use Rattle.target_graph.proofs.Told.{threads_told}
use Rattle.target_graph.proofs.graph.number_of_threads.Goals as goal

pub returns-in-Ok-clause-err : goal.returns-in-Ok-clause-err
returns-in-Ok-clause-err c =
    let what = asked_meant c.args.asked.now in
    let text = c.as_str.result.now in
    IfErr-weaker c.threads_in.result (λ status. (status ≡ OutOfMemory) ⊎ (((number : ℕ) → AreThreads text number → ⊥) × (status ≡ threads_status text))) (λ status. IsDeviceStatus status ⊎ HasNoThreads what status)
    (λ status h. threads_told what text status (c.in-Ok.ensures.ok ∙ ap Ok (sym c.as_str.ensures)) h)
    c.threads_in.ensures.err
