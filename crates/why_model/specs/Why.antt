-- What is told of a plan before a run, as text. (Own rules.)
use Rattle.std.specs.Prelude.{◌≡◌, ◌⊎◌, ℕ, zero, suc, Bool, List, [], ◌∷◌, ◌++◌, Some, codes, flat_map, length, slice_get}
use Rattle.tale_model.specs.Need.{IsIn, IsNeed}
use Rattle.outside_traits.specs.Store.{Store}
use Rattle.meta_model.specs.declared.event.Avail.{Avail}
use Rattle.meta_model.specs.declared.plan.Plan.{Plan}
use Rattle.meta_model.specs.declared.plan.PlanTask.{PlanTask}
use Rattle.store_model.specs.declared.signature.EquivRow.{EquivRow}
use Rattle.store_model.specs.Available.{IsAvailable}
use Rattle.store_model.specs.Signatures.{Signed, signatures}
use Rattle.run_model.specs.Texts.{needs_text, task_label}
use Rattle.why_model.specs.declared.fate.Cause.{Cause}
use Rattle.why_model.specs.declared.fate.Cause.TheVariants as cause
use Rattle.why_model.specs.declared.fate.Fate.{Fate}
use Rattle.why_model.specs.declared.fate.Fate.TheVariants as fate
use Rattle.why_model.specs.Fates.{IsFate, Told}
use Rattle.why_model.specs.Judged.{IsJudged}
use Rattle.why_model.specs.Seen.{narrowed, seen_over}

-- ---- words

-- texts with commas between them
abbrev pub comma_text : List (List ℕ) → List ℕ
comma_text [] = []
comma_text (first ∷ texts) = first ++ flat_map (λ text. codes ", " ++ text) texts

-- why a task would run
abbrev pub cause_text : Cause → List ℕ
cause_text cause.Forced = codes "forced"
cause_text cause.Always = codes "runs each time"
cause_text cause.New = codes "nothing recorded before"
cause_text cause.Gone = codes "its output is gone"
cause_text (cause.Differs names) = codes "differs in " ++ comma_text names

-- what a run would do with a task
abbrev pub fate_text : List PlanTask → Fate → List ℕ
fate_text tasks fate.Found = codes "found"
fate_text tasks fate.Restored = codes "restored"
fate_text tasks fate.MayRestore = codes "may be restored: if a task that needs it runs"
fate_text tasks (fate.Runs why) = codes "run: " ++ cause_text why
fate_text tasks (fate.MayRun waits) = codes "may run:" ++ needs_text tasks waits
fate_text tasks fate.MayNeed = codes "may run: if a task that needs it runs"

-- the line of a task
abbrev pub fate_line : List PlanTask → PlanTask → Fate → List ℕ
fate_line tasks task what = task_label task.id ++ (codes ": " ++ (fate_text tasks what ++ codes "\n"))

-- ---- the text

-- What is written of the task of a number: nothing where a run doesn't need it, else the line of what it would do with it.
abbrev pub IsLine : Told → List Bool → ℕ → List ℕ → Type 0
IsLine told need n line = (s : Signed) → slice_get (signatures told.rows told.plan.tasks) n ≡ Some s →
    ((IsIn need n → ⊥) × (line ≡ []))
    ⊎ (IsIn need n × ((what : Fate) × IsFate told n s what × (line ≡ fate_line told.plan.tasks s.task what)))

-- such a piece for each of the first so many numbers, one behind the other
pub data AreLines (P : ℕ → List ℕ → Type 0) : ℕ → List ℕ → Type 0 where
  none : AreLines P zero []
  more : (n : ℕ) (text line : List ℕ) → AreLines P n text → P n line → AreLines P (suc n) (text ++ line)

-- The text for a plan, what is held, and the options `--no-setscene` and `-f`: over the rows of the believed records a line for each task that a run
-- needs, in the plan's order.
pub record IsWhyText (plan : Plan) (held : Store) (setscene force : Bool) (text : List ℕ) : Type 0 where
  pub rows : List EquivRow
  pub judged : IsJudged held rows
  pub avail : List Avail
  pub need : List Bool
  pub certain : List Bool
  pub needed : IsNeed plan avail need
  pub there : (n : ℕ) (s : Signed) (a : Avail) → IsIn need n → slice_get (signatures rows plan.tasks) n ≡ Some s → slice_get avail n ≡ Some a → IsAvailable held rows setscene s a
  pub is_certain : IsNeed (narrowed (seen_over rows plan.tasks) plan) avail certain
  pub lines : AreLines (IsLine (record { held = held; rows = rows; plan = plan; avail = avail; seen = seen_over rows plan.tasks; certain = certain; force = force }) need) (length plan.tasks) text
