-- What a probe stands for, and what is known of the outputs of a plan's tasks.
use Rattle.std.specs.Prelude.{◌≡◌, ◌≢◌, ◌<◌, ◌≤◌, ℕ, Bool, true, false, List, Option, Some, None, Result, Ok, Err}
use Rattle.std.specs.Bool.{OnTrue, OnFalse}
use Rattle.std.specs.List.{slice_get}
use Rattle.tree_model.specs.declared.hash.Hash.{Hash}
use Rattle.meta_model.specs.declared.event.Avail.{Avail}
use Rattle.meta_model.specs.declared.event.Avail.TheVariants.{Missing}
use Rattle.meta_model.specs.declared.plan.Plan.{Plan}
use Rattle.meta_model.specs.declared.plan.PlanTask.{PlanTask}
use Rattle.store_model.specs.declared.signature.EquivRow.{EquivRow}
use Rattle.store_model.specs.declared.signature.SigRecord.{SigRecord}
use Rattle.store_model.specs.Rows.{row_at}
use Rattle.store_model.specs.Signatures.{Signed, signatures}
use Rattle.store_model.specs.Spelling.{name_of, signature_bytes}
use Rattle.sig_gen.specs.Signing.{signature_by}
use Rattle.setscene_plan.specs.declared.probe.ProbeFault.{ProbeFault}
use Rattle.setscene_plan.specs.declared.probe.ProbeFault.TheVariants as faults

-- What answers of outputs mean: for the number of a task, a signature and an answer a fact.
abbrev pub Says : Type 1
Says = ℕ → SigRecord → Avail → Type 0

-- by the one meaning an answer means what it means by the other, and maybe more
abbrev pub Follows : Says → Says → Type 0
Follows says other = (t : ℕ) (sig : SigRecord) (there : Avail) → says t sig there → other t sig there

-- What a probe stands for: a plan, and the rows of an index.
pub record View : Type 0 where
  pub plan : Plan
  pub rows : List EquivRow

-- the signature is that of the plan's task of this number, over the rows
pub record IsAskedOf (view : View) (number : ℕ) (sig : SigRecord) : Type 0 where
  pub signed : Signed
  pub is_signed : slice_get (signatures view.rows view.plan.tasks) number ≡ Some signed
  pub is : sig ≡ signed.sig

-- the whole text is that of the signature of a task of the plan, over the rows, and the name is that of it
pub record IsNamedFor (view : View) (name : Hash) (bytes : List ℕ) : Type 0 where
  pub number : ℕ
  pub signed : Signed
  pub is_signed : slice_get (signatures view.rows view.plan.tasks) number ≡ Some signed
  pub spelled : bytes ≡ signature_bytes signed.sig
  pub named : name ≡ name_of signed.sig

-- the row of this name has another text as its signature
pub record HasOther (rows : List EquivRow) (name : Hash) (bytes : List ℕ) : Type 0 where
  pub row : EquivRow
  pub is_row : row_at rows name ≡ Some row
  pub differs : row.sig ≢ bytes

-- What is kept of a task's output is so, as such an answer for its signature means; and unless it is missing, a row has its name.
pub record IsKnown (says : Says) (view : View) (unihashes : List Hash) (t : ℕ) (kept : Option Avail) : Type 0 where
  pub told : (task : PlanTask) (there : Avail) → slice_get view.plan.tasks t ≡ Some task → kept ≡ Some there → says t (signature_by view.plan.tasks unihashes task) there
  pub stored : (task : PlanTask) → slice_get view.plan.tasks t ≡ Some task → kept ≢ Some Missing → row_at view.rows (name_of (signature_by view.plan.tasks unihashes task)) ≢ None

-- whether the answer is that the probe failed
abbrev pub probe_failed : {T : Type 0} → Result T ProbeFault → Bool
probe_failed (Ok x) = false
probe_failed (Err faults.Store) = true
probe_failed (Err faults.Memory) = false

-- What a call does to a count of faults: it rises where the call answers that the probe failed, and else it stays.
pub record Counts (before now : ℕ) (failed : Bool) : Type 0 where
  pub later : before ≤ now
  pub rose : OnTrue failed (before < now)
  pub stayed : OnFalse failed (now ≡ before)
