-- A task as one whose output is kept as an object, or not.
use Rattle.std.proofs.Common.{◌≡◌, refl, Bool, Some, None, List, ℕ}
use Rattle.meta_model.specs.CleanBuild.{Entries}
use Rattle.meta_model.specs.declared.plan.PlanTask.{PlanTask}
use Rattle.store_model.specs.declared.signature.EquivRow.{EquivRow}
use Rattle.store_model.specs.declared.signature.SigRecord.{SigRecord}
use Rattle.build_store.specs.declared.drafting.Draft.{Draft}
use Rattle.build_store.specs.declared.drafting.NewRecord.{NewRecord}
use Rattle.build_store.specs.declared.fault.StoreFault.TheVariants as fault
use Rattle.build_store.specs.declared.fault.StoreFault.{StoreFault}
use Rattle.build_store.specs.Drafts.{IsDraft, IsNewFor}
use Rattle.build_store.specs.Faults.{IsRefusal}
use Rattle.build_store.specs.View.{IsSignatureOf, as_shared, signed_as, signed_by}
use Rattle.std.specs.Prelude.{Option}

-- as it is, it is itself
pub as_own : (of : PlanTask) → as_shared of.sstate of ≡ of
as_own of = refl

module _ (shared : Bool) (of : PlanTask) (sig : SigRecord) where
  -- its signature is its own still
  pub named_as : IsSignatureOf of sig → IsSignatureOf (as_shared shared of) sig
  named_as is = record { pn = is.pn; task = is.task }

  new_as : (rows : List EquivRow) (tree : Entries) (new : Option NewRecord) → IsNewFor rows (signed_by of sig) tree new → IsNewFor rows (signed_as shared of sig) tree new
  new_as rows tree None is = is
  new_as rows tree (Some made) is = is

  -- a publication is to put the same of it
  pub draft_as : (rows : List EquivRow) (tree : Entries) (draft : Draft) → IsDraft rows (signed_by of sig) tree draft → IsDraft rows (signed_as shared of sig) tree draft
  draft_as rows tree draft is = record { name = is.name; unihash = is.unihash; new = new_as rows tree draft.new is.new; spells = is.spells; agrees = is.agrees }

  -- and is refused for the same
  pub refusal_as : (rows : List EquivRow) (keys : List (List ℕ)) (tree : Entries) (f : StoreFault) → IsRefusal rows keys (signed_by of sig) tree f → IsRefusal rows keys (signed_as shared of sig) tree f
  refusal_as rows keys tree fault.Disk is = is
  refusal_as rows keys tree fault.Memory is = is
  refusal_as rows keys tree (fault.Collision name held given) is = is
  refusal_as rows keys tree (fault.Unsteady pn task held given) is = record { row = is.row; is_row = is.is_row; same = is.same; differ = is.differ; is = is.is }
