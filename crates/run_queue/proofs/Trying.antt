-- A claim comes to an end: each task that turns out to have no object is one fewer to try.
use Rattle.std.proofs.Common.{◌≡◌, ◌≢◌, ◌∙◌, sym, ap, subst, refl, ℕ, ◌<◌, ◌≤◌, zero, suc, arith, Bool, true, List, [], ◌∷◌, length, set, Some, None, Ok, Err}
use Rattle.std.specs.Prelude.{IfOk, IfSome, Option, Result}
use Rattle.std.specs.List.{slice_get}
use Rattle.std.proofs.lemmas.Option.{slice_get_within}
use Rattle.tree_model.specs.declared.text.Mem.{Mem}
use Rattle.outside_traits.specs.Store.{Store}
use Rattle.meta_model.specs.declared.event.Avail.{Avail}
use Rattle.meta_model.specs.declared.event.Avail.TheVariants as avail
use Rattle.meta_model.specs.declared.plan.Plan.{Plan}
use Rattle.meta_model.specs.declared.plan.PlanTask.{PlanTask}
use Rattle.run_core.specs.Need.{AreOrdered}
use Rattle.tale_model.specs.Need.{IsIn}
use Rattle.store_model.specs.declared.signature.EquivRow.{EquivRow}
use Rattle.store_model.specs.declared.signature.SigRecord.{SigRecord}
use Rattle.store_model.specs.Rows.{row_at}
use Rattle.store_model.specs.Spelling.{name_of}
use Rattle.sig_gen.specs.Signing.{signature_by}
use Rattle.setscene_plan.specs.declared.replan.Replan.{Replan}
use Rattle.setscene_plan.specs.Replans.{IsCurrent, avail_in, need_in, unihashes_in}
use Rattle.run_queue.specs.declared.state.Claim.{Claim}
use Rattle.run_queue.specs.Asking.{Means, answered_of, flat, if_row, meant}
use Rattle.run_queue.specs.Keeps.{IsUpToDate}
use Rattle.run_queue.specs.Seen.{Known, RunView, known_in}
use Rattle.run_queue.specs.Turns.{GivesUp, Looks, Remembers, known_once, tries_left, tries_of, try_once}
use Rattle.run_queue.proofs.Agreement.{some_known}
use Rattle.run_queue.proofs.Known.{up_to_date}
use Rattle.run_queue.proofs.ReadyJobs.{task_at}

-- ---- how many tries are left

try_some : (b : Option Avail) → b ≢ Some avail.Missing → try_once b ≡ 1
try_some None ne = refl
try_some (Some avail.Work) ne = refl
try_some (Some avail.Object) ne = refl
try_some (Some avail.Missing) ne = absurd (ne refl)

tries_at_most : (begun : List (Option Avail)) (t : ℕ) → tries_of (set begun t (Some avail.Missing)) ≤ tries_of begun
tries_at_most [] t = omega arith
tries_at_most (b ∷ begun) zero = omega arith
tries_at_most (b ∷ begun) (suc t) = let rest = tries_at_most begun t in omega (arith, rest)

tries_fewer : (begun : List (Option Avail)) (t : ℕ) → t < length begun → slice_get begun t ≢ Some (Some avail.Missing) → tries_of (set begun t (Some avail.Missing)) < tries_of begun
tries_fewer [] t lt ne = absurd (omega (arith, lt))
tries_fewer (b ∷ begun) zero lt ne = let one = try_some b (λ same. ne (ap Some same)) in omega (arith, one)
tries_fewer (b ∷ begun) (suc t) lt ne = let rest = tries_fewer begun t (omega (arith, lt)) ne in omega (arith, rest)

module _ {D W : Type 0} (old mid new : RunView D W) (looks : Looks old mid) (remembers : old.known ≡ None → Remembers mid) (long : length mid.begun ≡ length mid.plan.tasks) (current : IfSome mid.known (IsUpToDate mid.plan mid.store.rows)) where
  falls : GivesUp mid new → tries_left new < tries_left old
  falls g = by old.known refl
    where
      none : known_once new.known ≡ 0
      none = ap known_once g.unknown

      now : IsUpToDate mid.plan mid.store.rows g.known
      now = some_known (IsUpToDate mid.plan mid.store.rows) mid.known g.known g.is_known current

      within : g.task < length mid.begun
      within = let w = slice_get_within g.known.avail g.task avail.Object g.object in omega (arith, w, now.long, long)

      not_kept : old.known ≡ None → slice_get mid.begun g.task ≢ Some (Some avail.Missing)
      not_kept unknown kept =
          let missing = some_known (λ (k : Known). (t : ℕ) → IsIn k.need t → slice_get mid.begun t ≡ Some (Some avail.Missing) → slice_get k.avail t ≡ Some avail.Missing) mid.known g.known g.is_known (remembers unknown) g.task g.needed kept in
          let n : Some avail.Object ≡ Some avail.Missing = sym g.object ∙ missing in cc

      by : (k : Option Known) → old.known ≡ k → tries_left new < tries_left old
      by (Some k) e =
          let fewer = subst (λ (l : List (Option Avail)). tries_of new.begun ≤ tries_of l) looks.begun (subst (λ (l : List (Option Avail)). tries_of l ≤ tries_of mid.begun) (sym g.begun) (tries_at_most mid.begun g.task)) in
          let some = ap known_once e in
          omega (arith, fewer, none, some)
      by None e =
          let fewer = subst (λ (l : List (Option Avail)). tries_of new.begun < tries_of l) looks.begun (subst (λ (l : List (Option Avail)). tries_of l < tries_of mid.begun) (sym g.begun) (tries_fewer mid.begun g.task within (not_kept e))) in
          omega (arith, fewer, none)

  -- of an answer
  pub turn_falls : (r : Result (Option Claim) Mem) → IfOk r (λ done. done ≡ None → GivesUp mid new) → IfOk r (λ done. done ≡ None → tries_left new < tries_left old)
  turn_falls (Ok answer) gives = λ none. falls (gives none)
  turn_falls (Err e) gives = tt

-- ---- what is remembered

if_missing : (row : Option EquivRow) → if_row row avail.Missing ≡ avail.Missing
if_missing None = refl
if_missing (Some row) = refl

means_missing : (tells : Type 0) (held : Store) (rows : List EquivRow) (setscene : Bool) (task : PlanTask) (sig : SigRecord) (before : Option Avail) (a : Avail) → before ≡ Some avail.Missing → Means tells held rows setscene task sig before a → a ≡ avail.Missing
means_missing tells held rows setscene task sig before a kept means =
    let is : a ≡ if_row (row_at rows (name_of sig)) avail.Missing = subst (λ (b : Option Avail). Means tells held rows setscene task sig b a) kept means in
    is ∙ if_missing (row_at rows (name_of sig))

-- What is known by what the store answers says that each needed task is missing of which that is kept.
pub known_remembers : (tells : Type 0) (held : Store) (rows : List EquivRow) (setscene : Bool) (plan : Plan) (begun : List (Option Avail)) (made : Replan) → AreOrdered plan.tasks → IsCurrent (meant tells held rows setscene plan.tasks begun) (record { plan = plan; rows = rows }) made
    → (t : ℕ) → IsIn (need_in made) t → slice_get begun t ≡ Some (Some avail.Missing) → slice_get (avail_in made) t ≡ Some avail.Missing
known_remembers tells held rows setscene plan begun made ordered is t member kept =
    let now : IsUpToDate plan rows (known_in made) = up_to_date (meant tells held rows setscene plan.tasks begun) (record { plan = plan; rows = rows }) made ordered is in
    let within = slice_get_within (need_in made) t true member in
    let task = task_at plan.tasks t (omega (arith, within, now.need.long)) in
    let there = task_at (avail_in made) t (omega (arith, within, now.need.long, now.long)) in
    there.1 ∙ ap Some (means_missing tells held rows setscene task.0 (signature_by plan.tasks (unihashes_in made) task.0) (answered_of begun t) there.0 (ap flat kept) ((is.needs.known t member).told task.0 there.0 task.1 there.1 task.0 task.1))
