-- The names of a plan's tasks, and their unihashes.
use Rattle.std.specs.Prelude.{◌≡◌, ℕ, List, Some, length, map}
use Rattle.std.specs.List.{slice_get}
use Rattle.tree_model.specs.declared.hash.Hash.{Hash}
use Rattle.meta_model.specs.declared.plan.PlanTask.{PlanTask}
use Rattle.run_core.specs.Need.{AreOrdered}
use Rattle.store_model.specs.declared.signature.EquivRow.{EquivRow}
use Rattle.store_model.specs.Rows.{uni, IsClear}
use Rattle.store_model.specs.Signatures.{signatures}
use Rattle.store_model.specs.Spelling.{name_of, signature_bytes}
use Rattle.sig_gen.specs.Signing.{signature_by}

-- The names of a plan's tasks over the rows of an index, from scratch: each is that of the task's signature.
abbrev pub names_over : List EquivRow → List PlanTask → List Hash
names_over rows tasks = map (λ s. name_of s.sig) (signatures rows tasks)

-- The unihashes of a plan's tasks over the rows of an index: each is that of the task's name.
abbrev pub unihashes_over : List EquivRow → List PlanTask → List Hash
unihashes_over rows tasks = map (λ s. uni rows (name_of s.sig)) (signatures rows tasks)

-- a task has the name of its signature by these unihashes
abbrev pub IsNamed : List PlanTask → List Hash → List Hash → ℕ → Type 0
IsNamed tasks names unihashes t = (task : PlanTask) → slice_get tasks t ≡ Some task → slice_get names t ≡ Some (name_of (signature_by tasks unihashes task))

-- a task has the unihash of its name
abbrev pub IsHashed : List EquivRow → List Hash → List Hash → ℕ → Type 0
IsHashed rows names unihashes t = (name : Hash) → slice_get names t ≡ Some name → slice_get unihashes t ≡ Some (uni rows name)

-- no row of a task's name has another signature than the task
abbrev pub IsClearAt : List EquivRow → List PlanTask → List Hash → ℕ → Type 0
IsClearAt rows tasks unihashes t = (task : PlanTask) → slice_get tasks t ≡ Some task →
    IsClear rows (name_of (signature_by tasks unihashes task)) (signature_bytes (signature_by tasks unihashes task))

-- each task has its name and its unihash
pub record AreNamed (rows : List EquivRow) (tasks : List PlanTask) (names unihashes : List Hash) : Type 0 where
  pub long : length names ≡ length tasks
  pub wide : length unihashes ≡ length tasks
  pub named : (t : ℕ) → IsNamed tasks names unihashes t
  pub hashed : (t : ℕ) → IsHashed rows names unihashes t

-- Such names are those from scratch.
abbrev pub NamesAreOver : Type 0
NamesAreOver = (rows : List EquivRow) (tasks : List PlanTask) (names unihashes : List Hash) → AreOrdered tasks → AreNamed rows tasks names unihashes → names ≡ names_over rows tasks
