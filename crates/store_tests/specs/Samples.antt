-- What a publication may be asked to put.
use Rattle.meta_model.specs.declared.plan.PlanTask.{PlanTask}
use Rattle.meta_model.specs.CleanBuild.{Entries}
use Rattle.store_model.specs.declared.signature.SigRecord.{SigRecord}
use Rattle.store_model.specs.Spelled.{IsSpelled}
use Rattle.store_opening.specs.Paths.{HasPlace, IsOnePart}
use Rattle.build_store.specs.Publication.{AreShort}
use Rattle.build_store.specs.View.{IsSignatureOf}

-- the signature's PN and task are each one part of a path
abbrev pub HasSigPlace : SigRecord → Type 0
HasSigPlace sig = IsOnePart sig.pn × IsOnePart sig.task

-- the task has a place, the signature is its own, and the tree's paths are short
pub record IsSample (task : PlanTask) (sig : SigRecord) (tree : Entries) : Type 0 where
  pub place : HasPlace task
  pub spelled : IsSpelled sig
  pub named : IsSignatureOf task sig
  pub short : AreShort tree
