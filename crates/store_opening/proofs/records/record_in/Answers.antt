use Rattle.std.proofs.lemmas.Result.{IfOk-weaker}
use Rattle.store_opening.proofs.Surveyed.{none_weaker, same_bytes_stored}
use Rattle.store_opening.proofs.records.record_in.Goals as goal

pub returns-in-Ok-clause-none : goal.returns-in-Ok-clause-none
returns-in-Ok-clause-none c =
    IfOk-weaker c.candidate_by.result _ _
    (λ found none. none_weaker found (λ never other good bytes. never other good (same_bytes_stored c.args.bytes.now c.in-Ok.stored other.stored c.in-Ok.ensures.found good.spelled bytes)) none)
    c.candidate_by.ensures.none
