use Rattle.std.proofs.Common.{◌≡◌, map, subst, List, ℕ}
use Rattle.std.proofs.lemmas.Result.{IfOk-weaker}
use Rattle.store_model.specs.Believed.{AreBelieved, Ascend}
use Rattle.record_move.specs.declared.records.OldRecord.{OldRecord}
use Rattle.store_upgrade.specs.Old.{candidate_of, olds_at}
use Rattle.store_upgrade.proofs.olds.olds_in.Goals as goal

pub returns-clause-olds : goal.returns-clause-olds
returns-clause-olds c =
    IfOk-weaker c.believed_of.result _ _
    (λ olds says held are.
    let found = c.in_ok-found.ensures.found held are in
    let w = subst (λ (l : List OldRecord). Ascend (map candidate_of l) → (places : List ℕ) × AreBelieved (map candidate_of l) places × (olds.items ≡ olds_at l places)) c.deref.ensures.value says found.ascend in
    record { found = c.in_ok-found.found.items; are = found; places = w.0; believed = w.1; is = w.2 })
    c.believed_of.ensures.olds
