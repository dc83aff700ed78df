-- What is known of a plan's tasks is up to date where a replan is.
use Rattle.std.proofs.Common.{◌≡◌, ◌≢◌, ◌∙◌, sym, subst, refl, ℕ, ◌<◌, arith, true, Some, None, slice_get, inl, inr}
use Rattle.std.specs.Prelude.{All, IfSome, Option}
use Rattle.std.proofs.lemmas.Option.{same_Some, slice_get_cases, slice_get_within}
use Rattle.tree_model.specs.declared.hash.Hash.{Hash}
use Rattle.meta_model.specs.declared.event.Avail.TheVariants.{Missing}
use Rattle.meta_model.specs.declared.plan.PlanTask.{PlanTask}
use Rattle.meta_model.specs.declared.plan.Plan.{Plan}
use Rattle.run_core.specs.Need.{AreOrdered}
use Rattle.tale_model.specs.Need.{IsIn, deps_in}
use Rattle.plan_model.specs.Sound.{IsSound}
use Rattle.store_model.specs.Rows.{row_at, IsClear}
use Rattle.store_model.specs.Signatures.{Signed, signatures}
use Rattle.store_model.specs.Spelling.{name_of, signature_bytes}
use Rattle.store_model.specs.declared.signature.SigRecord.{SigRecord}
use Rattle.sig_gen.specs.Signing.{signature_by}
use Rattle.setscene_plan.specs.declared.replan.Replan.{Replan}
use Rattle.setscene_plan.specs.Names.{AreNamed}
use Rattle.setscene_plan.specs.Replans.{IsCurrent, avail_in, names_in, need_in, unihashes_in}
use Rattle.setscene_plan.specs.View.{Says, View}
use Rattle.setscene_plan.proofs.Naming.{signed_is, task_at}
use Rattle.setscene_plan.proofs.Updating.{names_current}
use Rattle.build_store.specs.View.{View as Store}
use Rattle.run_queue.specs.declared.fault.RunFault.{RunFault}
use Rattle.run_queue.specs.Causes.{IsCause}
use Rattle.run_queue.specs.Keeps.{IsState, IsUpToDate}
use Rattle.run_queue.specs.Seen.{Known, RunView, known_in}

module _ (says : Says) (view : View) (kept : Replan) (ordered : AreOrdered view.plan.tasks) (is : IsCurrent says view kept) where
  are_named : AreNamed view.rows view.plan.tasks (names_in kept) (unihashes_in kept)
  are_named = record { long = is.made.long; wide = is.made.wide; named = is.made.named; hashed = is.hashed }

  -- the signature of a task by the unihashes that are kept
  pub own_signature : (t : ℕ) (s : Signed) → slice_get (signatures view.rows view.plan.tasks) t ≡ Some s → signature_by view.plan.tasks (unihashes_in kept) s.task ≡ s.sig
  own_signature t s at = signed_is view.rows view.plan.tasks (names_in kept) (unihashes_in kept) ordered are_named t s at

  pub own_task : (t : ℕ) (s : Signed) → slice_get (signatures view.rows view.plan.tasks) t ≡ Some s → slice_get view.plan.tasks t ≡ Some s.task
  own_task t s at = task_at view.rows view.plan.tasks (names_in kept) (unihashes_in kept) ordered are_named t s at

  stored : (t : ℕ) (name : Hash) → IsIn (need_in kept) t → slice_get (avail_in kept) t ≢ Some Missing → slice_get (names_in kept) t ≡ Some name → row_at view.rows name ≢ None
  stored t name member there at = elim (slice_get_cases view.plan.tasks t).1 [
    | inl found ↦
        let named = is.made.named t found.0 found.2 in
        subst (λ (n : Hash). row_at view.rows n ≢ None) (same_Some (name_of (signature_by view.plan.tasks (unihashes_in kept) found.0)) name (sym named ∙ at)) ((is.needs.known t member).stored found.0 found.2 there)
    | inr past ↦ absurd (omega (arith, past.0, slice_get_within (need_in kept) t true member, is.needs.least.long))
  ]

  pub up_to_date : IsUpToDate view.plan view.rows (known_in kept)
  up_to_date = record {
    names = names_current says view kept ordered is;
    clear = λ t s at. subst (λ (g : SigRecord). IsClear view.rows (name_of g) (signature_bytes g)) (own_signature t s at) (is.clear t s.task (own_task t s at));
    long = is.needs.long;
    need = is.needs.least;
    stored = stored;
  }

-- ---- a state that knows more

pub sound_ordered : (plan : Plan) → IsSound plan → AreOrdered plan.tasks
sound_ordered plan sound t = by (slice_get plan.tasks t) refl
  where
    by : (o : Option PlanTask) → slice_get plan.tasks t ≡ o → All (λ d. d < t) (deps_in o)
    by None e = λ k d lt. absurd (omega (arith, lt))
    by (Some task) e = (sound.tasks t task e).below

pub state_known : {D W : Type 0} (count now : ℕ) (s : RunView D W) (store : Store D) (k : Known) → IsState count s → s.fault ≡ None → now ≡ count → store.faultless ≡ s.store.faultless → IsUpToDate s.plan store.rows k → IsState now (record s { store = store; known = Some k })
state_known count now s store k is none same clean known = record {
  sound = is.sound;
  long = is.long;
  few = is.few;
  among = is.among;
  orderly = is.orderly;
  current = known;
  unharmed = λ n. same ∙ is.unharmed n;
  clean = λ n. clean ∙ is.clean n;
  heard = is.heard;
  unbroken = is.unbroken;
  cause = subst (λ (f : Option RunFault). IfSome f (IsCause now s.plan store.rows s.sink_failed)) (sym none) tt;
}
