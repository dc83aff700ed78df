-- A plan passes the check just where it is sound.
use Rattle.std.proofs.Common.{◌≡◌, ◌∙◌, sym, ap, subst, ℕ, zero, suc, ◌+◌, ◌<◌, ◌≤◌, arith, Bool, IsTrue, List, length, get_or, All, Option, Some, Result, Ok, Err, IfOk}
use Rattle.std.specs.Prelude.{◌↔◌, AllPairs}
use Rattle.std.specs.List.{AllByRecursion, slice_get}
use Rattle.std.proofs.lemmas.List.Elements.{All-from_recursion}
use Rattle.std.proofs.lemmas.Option.{slice_get-get_or, slice_get_within}
use borrow.Author.Count.{below_more}
use Rattle.meta_model.specs.declared.plan.Plan.{Plan}
use Rattle.meta_model.specs.declared.plan.PlanTask.{PlanTask}
use Rattle.store_model.specs.Premises.{Differ}
use Rattle.plan_model.specs.Sound.{IsSound, IsSoundTask}
use Rattle.plan_model.specs.Spellings.{HasSpellings, TaskFits}
use Rattle.plan_model.proofs.Reached.{all_at, all_from, pair_at, pairs_from}
use Rattle.plan_model.proofs.Spelling.{sound_has_spellings}
use Rattle.target_plan.specs.Checked.{AreChecked, IsChecked, IsInRange}

-- the task of the number is checked
abbrev pub CheckedAt : List PlanTask → ℕ → Type 0
CheckedAt tasks n = (task : PlanTask) → slice_get tasks n ≡ Some task → IsChecked n task

-- the task that was read is that of its number
module _ (tasks : List PlanTask) (number : ℕ) (read : PlanTask) (lt : number < length tasks) (is : read ≡ get_or tasks number read) where
  task_at : slice_get tasks number ≡ Some read
  task_at = slice_get-get_or tasks number read lt ∙ ap (λ (t : PlanTask). Some t) (sym is)

  -- one more task that is checked
  pub checked_more : IsChecked number read → ((n : ℕ) → n < number → CheckedAt tasks n) → (n : ℕ) → n < number + 1 → CheckedAt tasks n
  checked_more checked so_far = below_more (CheckedAt tasks) number so_far (λ task at. subst (λ (t : PlanTask). IsChecked number t) (some_same (sym task_at ∙ at)) checked)
    where
      some_same : {x y : PlanTask} → ◌≡◌ {A = Option PlanTask} (Some x) (Some y) → x ≡ y
      some_same e = cc

  -- a task that fails the check is one of its plan
  pub checked_not : (IsChecked number read → ⊥) → AreChecked tasks → ⊥
  checked_not bad all = bad (all number read task_at)

-- all tasks are checked
pub checked_all : (tasks : List PlanTask) (number : ℕ) → length tasks ≤ number → ((n : ℕ) → n < number → CheckedAt tasks n) → AreChecked tasks
checked_all tasks number all so_far n task at = let within = slice_get_within tasks n task at in so_far n (omega (arith, within, all)) task at

-- a checked task is sound at its number
checked_task : (n : ℕ) (task : PlanTask) → IsChecked n task → IsSoundTask n task
checked_task n task h = record {
  pn = h.names.pn;
  name = h.names.name;
  deps = h.deps.rising;
  below = h.deps.below;
  ascends = h.lines.ascends;
  no_order = h.lines.no_order;
  plain = h.files.plain;
  parts = h.files.parts;
  tree = h.files.tree;
  inner = h.places.inner;
  outer = h.places.outer;
}

-- and a task that is sound at its number passes
sound_task : (n : ℕ) (task : PlanTask) → IsSoundTask n task → IsChecked n task
sound_task n task h = record {
  names = record { pn = h.pn; name = h.name };
  deps = record { rising = h.deps; below = h.below };
  lines = record { ascends = h.ascends; no_order = h.no_order };
  files = record { plain = h.plain; parts = h.parts; tree = h.tree };
  places = record { inner = h.inner; outer = h.outer };
}

-- of one configuration
abbrev SameMc : PlanTask → PlanTask → Type 0
SameMc a b = a.id.mc ≡ b.id.mc

-- all tasks are of one configuration where they are of the first one's
pub of_first : (tasks : List PlanTask) (first : PlanTask) (mc : List ℕ) → 0 < length tasks → first ≡ get_or tasks 0 first → mc ≡ first.id.mc → All (λ t. t.id.mc ≡ mc) tasks ↔ AllPairs SameMc tasks
of_first tasks first mc lt is of = (
  λ all. pairs_from SameMc tasks (λ i j a b lt e f. all_at (λ t. t.id.mc ≡ mc) tasks all i a e ∙ sym (all_at (λ t. t.id.mc ≡ mc) tasks all j b f)),
  λ pairs. all_from (λ t. t.id.mc ≡ mc) tasks (λ n task e. by pairs n task e ∙ sym of),
)
  where
    at : slice_get tasks 0 ≡ Some first
    at = slice_get-get_or tasks 0 first lt ∙ ap (λ (t : PlanTask). Some t) (sym is)

    by : AllPairs SameMc tasks → (n : ℕ) (task : PlanTask) → slice_get tasks n ≡ Some task → task.id.mc ≡ first.id.mc
    by pairs zero task e = ap (λ (t : PlanTask). t.id.mc) (let both : Some task ≡ Some first = sym e ∙ at in let same : task ≡ first = cc in same)
    by pairs (suc n) task e = sym (pair_at SameMc tasks pairs 0 (suc n) first task (omega arith) at e)

module _ (plan : Plan) (seen : List PlanTask) (same : seen ≡ plan.tasks) where
  pub checked_sound : IsInRange plan → AllPairs SameMc seen → AreChecked seen → AllPairs Differ seen → IsSound plan
  checked_sound range one checked differ = record {
    threads = (range.least, range.most);
    few = range.few;
    targets = range.targets;
    mc = subst (AllPairs SameMc) same one;
    differ = subst (AllPairs Differ) same differ;
    tasks = λ n task at. checked_task n task (subst AreChecked same checked n task at);
  }

  -- a sound plan passes each part of the check
  module _ (sound : IsSound plan) where
    pub sound_one : AllPairs SameMc seen
    sound_one = subst (AllPairs SameMc) (sym same) sound.mc

    pub sound_checked : AreChecked seen
    sound_checked = subst AreChecked (sym same) (λ n task at. sound_task n task (sound.tasks n task at))

    pub sound_differ : AllPairs Differ seen
    sound_differ = subst (AllPairs Differ) (sym same) sound.differ

pub sound_in_range : (plan : Plan) → IsSound plan → IsInRange plan
sound_in_range plan sound = record { least = sound.threads.0; most = sound.threads.1; few = sound.few; targets = sound.targets }

-- a program can hold the signatures of a sound plan's tasks
pub known_spellings : (plan : Plan) (seen : List PlanTask) → seen ≡ plan.tasks → AllByRecursion TaskFits seen → IsSound plan → HasSpellings plan
known_spellings plan seen same fits sound = sound_has_spellings plan sound (λ n task at. all_at TaskFits plan.tasks (subst (All TaskFits) same (All-from_recursion TaskFits seen fits)) n task at)

-- what an answer says, in words that say the same
pub in_words : {X P Q : Type 0} (answer : Result Bool X) → (P ↔ Q) → IfOk answer (λ b. IsTrue b ↔ P) → IfOk answer (λ b. IsTrue b ↔ Q)
in_words (Ok b) f h = (λ t. f.0 (h.0 t), λ q. h.1 (f.1 q))
in_words (Err e) f h = tt
