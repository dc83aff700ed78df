-- The end of a run.
use Rattle.std.proofs.Common.{◌≡◌, ◌∙◌, sym, subst, ℕ, true, List, Some, inl, inr}
use Rattle.std.proofs.lemmas.List.Elements.{All-contains}
use Rattle.meta_model.specs.CleanBuild.{Built}
use Rattle.meta_model.specs.declared.plan.PlanTask.{PlanTask}
use Rattle.meta_model.specs.declared.event.Avail.{Avail}
use Rattle.meta_model.specs.declared.plan.Options.{Options}
use Rattle.tale_model.specs.declared.fate.Fate.{Fate}
use Rattle.tale_model.specs.Choice.{IsOver}
use Rattle.tale_model.specs.Fates.{HoldsFailure, fate_at, is_settled}
use Rattle.tale_model.specs.Need.{IsIn}
use Rattle.store_model.specs.Available.{HoldsClean, work_folder}
use Rattle.outside_traits.specs.Store.{Store}
use Rattle.run_queue.specs.Laws.{ExactAtEnd}

-- where no task failed, a task for which nothing is left to do is settled
settled_over : (options : Options) (tasks : List PlanTask) (avail : List Avail) (fates : List Fate) (t : ℕ) → (HoldsFailure fates → ⊥) → IsOver options tasks avail fates t → is_settled (fate_at fates t) ≡ true
settled_over options tasks avail fates t none (inl settled) = settled
settled_over options tasks avail fates t none (inr held) = absurd (none (held.1.0, held.1.2))

-- what stands holds the clean output
one_built : (image : Store) (folder : List ℕ) (one other : Built) → ◌≡◌ {A = Rattle.std.specs.Prelude.Option Built} (Some one) (Some other) → HoldsClean image folder one → HoldsClean image folder other
one_built image folder one other e holds = let same : one ≡ other = cc in subst (λ (b : Built). HoldsClean image folder b) same holds

pub exact_at_end : ExactAtEnd
exact_at_end o s run at_end none image is_image t task built target is_task is_built =
    let needed : IsIn at_end.need t = All-contains (IsIn at_end.need) s.plan.targets t at_end.needed.closed.targets target in
    let settled = settled_over s.options s.plan.tasks at_end.avail _ t none (at_end.finished.over t needed) in
    let stands = run.stands image is_image t task is_task settled in
    one_built image (work_folder task) stands.built built (sym stands.is_built ∙ is_built) stands.work
