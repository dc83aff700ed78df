-- The record of a task that has ended.
use Rattle.std.proofs.Common.{◌≡◌, ◌∙◌, sym, ap, subst, ℕ, ◌<◌, List, length, Option, Some, slice_get, IfSome, inl, inr, arith}
use Rattle.std.proofs.lemmas.Option.{same_Some, slice_get_cases}
use Rattle.tree_model.specs.declared.hash.Hash.{Hash}
use Rattle.meta_model.specs.declared.plan.Plan.{Plan}
use Rattle.meta_model.specs.declared.plan.PlanTask.{PlanTask}
use Rattle.store_model.specs.Rows.{row_at}
use Rattle.store_model.specs.Spelling.{name_of, signature_bytes}
use Rattle.sig_gen.specs.Signing.{signature_by}
use Rattle.setscene_plan.specs.declared.replan.Replan.{Replan}
use Rattle.setscene_plan.specs.Replans.{IsCurrent, IsSettled, unihashes_in}
use Rattle.setscene_plan.proofs.Settling.{settles}
use Rattle.run_tests.specs.declared.index.Index.{Index}
use Rattle.run_tests.specs.Index.{Puts, no_objects, rows_of, view_of}

if_some : {A : Type 0} (P : A → Type 0) (o : Option A) (x : A) → o ≡ Some x → IfSome o P → P x
if_some P o x e h = subst (λ q. IfSome q P) e h

pub recorded : (old new : Index) (replan : Replan) (task : ℕ) (name : Hash) (sig : List ℕ) → task < length old.plan.now.tasks → IsCurrent no_objects (view_of old) replan
    → IfSome (slice_get old.plan.now.tasks task) (λ own. name ≡ name_of (signature_by old.plan.now.tasks (unihashes_in replan) own))
    → IfSome (slice_get old.plan.now.tasks task) (λ own. sig ≡ signature_bytes (signature_by old.plan.now.tasks (unihashes_in replan) own))
    → new.plan.now ≡ old.plan.now → Puts name sig old.rows new.rows → IsSettled no_objects (view_of new) task replan
recorded old new replan task name sig lt current named signed plan puts =
    subst (λ (p : Plan). IsSettled no_objects (record { plan = p; rows = rows_of new.rows }) task replan) (sym plan) (elim (slice_get_cases old.plan.now.tasks task).1 [
      | inl found ↦ by found.0 found.2
      | inr past ↦ absurd (omega (arith, lt, past.0))
    ])
  where
    by : (own : PlanTask) → slice_get old.plan.now.tasks task ≡ Some own → IsSettled no_objects (record { plan = old.plan.now; rows = rows_of new.rows }) task replan
    by own e = settles no_objects (view_of old) (rows_of new.rows) task replan current (record {
      kept = λ other here gone. here (puts.kept other gone);
      others = λ other apart. puts.others other (λ same. apart (current.made.named task own e ∙ ap Some (sym its ∙ same)));
      own = λ found at row is. puts.here row (ap (λ n. row_at (rows_of new.rows) n) (its ∙ ap (λ t. name_of (signature_by old.plan.now.tasks (unihashes_in replan) t)) (one found at)) ∙ is) ∙ bytes ∙ ap (λ t. signature_bytes (signature_by old.plan.now.tasks (unihashes_in replan) t)) (one found at);
    })
      where
        its : name ≡ name_of (signature_by old.plan.now.tasks (unihashes_in replan) own)
        its = if_some (λ o. name ≡ name_of (signature_by old.plan.now.tasks (unihashes_in replan) o)) (slice_get old.plan.now.tasks task) own e named

        bytes : sig ≡ signature_bytes (signature_by old.plan.now.tasks (unihashes_in replan) own)
        bytes = if_some (λ o. sig ≡ signature_bytes (signature_by old.plan.now.tasks (unihashes_in replan) o)) (slice_get old.plan.now.tasks task) own e signed

        one : (found : PlanTask) → slice_get old.plan.now.tasks task ≡ Some found → own ≡ found
        one found at = same_Some own found (sym e ∙ at)
