-- An opening, and a clearing behind it.
use Rattle.std.proofs.Common.{◌≡◌, subst, ℕ, List, Option, Result, Ok, Err}
use Rattle.std.specs.Prelude.{IfOk}
use Rattle.tree_model.specs.declared.hash.Hash.{Hash}
use Rattle.outside_traits.specs.declared.fault.DiskFault.{DiskFault}
use Rattle.outside_traits.specs.Passes.{Passes}
use Rattle.outside_traits.specs.Story.{Story}
use Rattle.outside_traits.proofs.Runs.{passes_so, passes_then}
use Rattle.meta_model.specs.declared.plan.Plan.{Plan}
use Rattle.store_model.specs.declared.signature.EquivRow.{EquivRow}
use Rattle.store_model.specs.Opened.{IsOpened}
use Rattle.store_opening.specs.Opening.{Clears}
use Rattle.store_clean.specs.declared.clearing.Cleaned.{Cleaned}
use Rattle.store_clean.specs.Cleared.{IsDone, IsMoment}
use Rattle.plan_clean.specs.Along.{IsAlong, IsClearedBy, clears, opens, roots_over}

pub opened_along : (plan : Option Plan) (limit : ℕ) (a b : Story) → Passes a b (Clears a.held) → Passes a b (IsAlong plan limit a.held)
opened_along plan limit a b run = passes_so (IsAlong plan limit a.held) run (λ i j c. opens c)

pub cleared_along : (plan : Option Plan) (limit : ℕ) (a b c : Story) (rows : List EquivRow) (roots : List Hash) → roots ≡ roots_over plan rows → IsOpened a.held b.held rows
    → Passes a b (Clears a.held) → Passes b c (λ earlier image. IsMoment rows roots limit b.held image) → Passes a c (IsAlong plan limit a.held)
cleared_along plan limit a b c rows roots are opened first second =
    passes_then (IsAlong plan limit a.held) first second (λ i j cl. opens cl)
    (λ i j k cl m. clears b.held rows opened (subst (λ (r : List Hash). IsMoment rows r limit b.held k) are m))

pub cleared_by : (plan : Option Plan) (limit : ℕ) (a b c : Story) (rows : List EquivRow) (roots : List Hash) (cleaned : Cleaned) → roots ≡ roots_over plan rows → IsOpened a.held b.held rows
    → IsDone rows roots limit b.held c cleaned → IsClearedBy plan limit a.held c cleaned
cleared_by plan limit a b c rows roots cleaned are opened done = record {
  opened = b.held;
  rows = rows;
  is_opened = opened;
  done = subst (λ (r : List Hash). IsDone rows r limit b.held c cleaned) are done;
}

pub cleared_if : (plan : Option Plan) (limit : ℕ) (a b c : Story) (rows : List EquivRow) (roots : List Hash) (r : Result Cleaned DiskFault) → roots ≡ roots_over plan rows → IsOpened a.held b.held rows
    → IfOk r (IsDone rows roots limit b.held c) → IfOk r (IsClearedBy plan limit a.held c)
cleared_if plan limit a b c rows roots (Ok cleaned) are opened done = cleared_by plan limit a b c rows roots cleaned are opened done
cleared_if plan limit a b c rows roots (Err fault) are opened done = done
