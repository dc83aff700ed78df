-- What the store answers of a task's signature is answered of the task of its number.
use Rattle.std.proofs.Common.{◌≡◌, ◌∙◌, sym, ap, subst, refl, ℕ, ◌⊎◌, inl, inr, false, List, Option, Some, None, Ok, Err}
use Rattle.std.specs.Prelude.{IfOk, Result, is_some}
use Rattle.std.proofs.lemmas.Bool.{false≢true}
use Rattle.std.proofs.lemmas.Option.{none-some}
use Rattle.meta_model.specs.CleanBuild.{Entries}
use Rattle.meta_model.specs.declared.plan.PlanTask.{PlanTask}
use Rattle.store_model.specs.declared.signature.EquivRow.{EquivRow}
use Rattle.store_model.specs.Available.{task_folder}
use Rattle.store_model.specs.Readable.{IsReadable}
use Rattle.store_model.specs.Signatures.{Signed}
use Rattle.store_model.specs.Spelling.{name_of}
use Rattle.build_store.specs.Openings.{NoneNamed, OpensTask, open_view}
use Rattle.build_store.specs.Publication.{line_for}
use Rattle.build_store.specs.View.{View, opened_at}
use Rattle.run_queue.specs.Puts.{IsSignedAt, MayOpen}

-- what is answered of the signature, of each that the task of the number has
pub for_own : {X E : Type 0} (r : Result X E) (P : Signed → X → Type 0) (rows : List EquivRow) (tasks : List PlanTask) (t : ℕ) (x : Signed) → ((s : Signed) → IsSignedAt rows tasks t s → s ≡ x) → IfOk r (P x) → IfOk r (λ a. (s : Signed) → IsSignedAt rows tasks t s → P s a)
for_own (Ok a) P rows tasks t x same is = λ s here. subst (λ (y : Signed). P y a) (sym (same s here)) is
for_own (Err e) P rows tasks t x same is = tt

-- nothing stands where none does
pub none_there : {A : Type 0} (x : Option A) → is_some x ≡ false → x ≡ None
none_there None e = refl
none_there (Some a) e = absurd (false≢true (sym e))

module _ {D : Type 0} (old new : View D) (x : Signed) (tree : Entries) (apart : (new ≡ old) ⊎ NoneNamed old.opened (name_of x.sig)) where
  -- what was opened could be
  pub opens_so : OpensTask old new x tree → MayOpen old.rows old.opened x tree
  opens_so opens = record { closed = opens.opened.none; apart = by apart; readable = opens.readable }
    where
      by : (new ≡ old) ⊎ NoneNamed old.opened (name_of x.sig) → NoneNamed old.opened (name_of x.sig)
      by (inl same) = absurd (none-some (open_view x tree) (sym opens.opened.none ∙ ap (λ (v : View D). opened_at v.opened (task_folder x.task)) (sym same) ∙ opens.opened.is_open))
      by (inr none) = none

  -- where the disk was touched it could be too
  pub touched_so : opened_at old.opened (task_folder x.task) ≡ None → IsReadable (line_for old.rows x tree) ⊎ (new.disk ≡ old.disk) → (new.disk ≡ old.disk) ⊎ MayOpen old.rows old.opened x tree
  touched_so closed (inr disk) = inl disk
  touched_so closed (inl readable) = elim apart [
    | inl same ↦ inl (ap (λ (v : View D). v.disk) same)
    | inr none ↦ inr (record { closed = closed; apart = none; readable = readable })
  ]

-- one of these, of each signature that the task of the number has
pub or_own : {A : Type 0} (P : Signed → Type 0) (rows : List EquivRow) (tasks : List PlanTask) (t : ℕ) (x : Signed) → ((s : Signed) → IsSignedAt rows tasks t s → s ≡ x) → A ⊎ P x → A ⊎ ((s : Signed) → IsSignedAt rows tasks t s → P s)
or_own P rows tasks t x same (inl a) = inl a
or_own P rows tasks t x same (inr p) = inr (λ s here. subst P (sym (same s here)) p)
