-- Needed tasks as the code has them.
use Rattle.std.specs.Prelude.{ℕ, ◌≡◌, ◌≤◌, ◌==◌, Bool, false, not, List, [], ◌∷◌, Option, Some, None, All, length, map, if◌then◌else◌}
use Rattle.std.specs.Ordering.{nat_cmp, ordering_then}
use Rattle.std.specs.Cmp.Lexicographic.{slice_cmp}
use Rattle.std.specs.declared.cmp.Ordering.{Ordering}
use Rattle.meta_model.specs.declared.plan.PlanTask.{PlanTask}
use Rattle.meta_model.specs.CleanBuild.{needed_of}
use Rattle.meta_model.specs.Layout.{Needed, is_of}
use Rattle.tree_model.specs.Path.{IsPart}
use Rattle.task_worker.specs.declared.parts.Part.{Part}

-- a needed task as a layout takes it
abbrev pub part_needed : Part → Needed
part_needed p = needed_of p.task.now p.output.now

abbrev pub parts_needed : List Part → List Needed
parts_needed parts = map part_needed parts

-- by depth, then by task
abbrev pub depth_cmp : Needed → Needed → Ordering
depth_cmp a b = ordering_then (nat_cmp a.depth b.depth) (slice_cmp nat_cmp a.task b.task)

-- by PN, then by task
abbrev pub name_cmp : Needed → Needed → Ordering
name_cmp a b = ordering_then (slice_cmp nat_cmp a.pn b.pn) (slice_cmp nat_cmp a.task b.task)

-- of the recipe, or of another
abbrev pub is_wanted : Bool → List ℕ → Needed → Bool
is_wanted own pn n = if own then is_of pn n else not (is_of pn n)

-- the needed task, if it is wanted
abbrev pub if_wanted : Bool → List ℕ → Option Needed → List Needed
if_wanted own pn None = []
if_wanted own pn (Some n) = if is_wanted own pn n then n ∷ [] else []

-- a name that is one part of a path
pub record IsName (name : List ℕ) : Type 0 where
  pub part : IsPart name
  pub no_slash : All (λ b. (b == 47) ≡ false) name

-- a needed task whose names are parts of paths, and whose output has no path of more than 3,072 bytes
pub record IsLayable (n : Needed) : Type 0 where
  pub pn : IsName n.pn
  pub task : IsName n.task
  pub short : All (λ e. length e.0 ≤ 3072) n.output

-- the names of a task are parts of paths
pub record HasNames (t : PlanTask) : Type 0 where
  pub pn : IsName t.id.pn
  pub task : IsName t.id.task
