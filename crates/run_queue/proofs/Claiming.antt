-- What a free seat marks for an answer over what is known may come in each course.
use Rattle.std.proofs.Common.{◌≡◌, ◌∙◌, sym, ap, subst, ℕ, arith, Bool, List, length, take, Some, inl, inr}
use Rattle.std.proofs.lemmas.List.{take_all}
use Rattle.meta_model.specs.declared.event.Avail.{Avail}
use Rattle.meta_model.specs.declared.event.Event.{Event}
use Rattle.meta_model.specs.declared.event.Logged.{Logged}
use Rattle.meta_model.specs.declared.plan.Options.{Options}
use Rattle.meta_model.specs.declared.plan.Plan.{Plan}
use Rattle.meta_model.specs.declared.plan.PlanTask.{PlanTask}
use Rattle.tale_model.specs.Need.{IsNeed}
use Rattle.tale_model.specs.declared.fate.Fate.{Fate}
use Rattle.tale_model.specs.declared.fate.Fate.TheVariants as fate
use Rattle.run_core.specs.declared.next.Next.{Next}
use Rattle.run_core.specs.declared.next.Next.TheVariants as next
use Rattle.run_core.specs.Choice.{Agree, MayAnswer}
use Rattle.tale_model.specs.Fates.{IsFree, fates_told, is_settled}
use Rattle.tale_model.specs.History.{Clean}
use Rattle.run_core.specs.History.{marked_for, settled_as, started_as}
use Rattle.run_core.proofs.Agreeing.{answer_across}
use Rattle.run_core.proofs.Steps.{step_may}
use Rattle.run_model.specs.Courses.{IsThere, clean_says}
use Rattle.run_queue.specs.Laws.{ClaimMayCome}
use Rattle.run_queue.proofs.Agreement.{AgreeUnsettled, agreement}
use Rattle.run_queue.proofs.Growing.{course_of_front}

pub agree_waiting : (need other : List Bool) (avail others : List Avail) (fates : List Fate) → AgreeUnsettled need other avail others fates → Agree need other avail others fates
agree_waiting need other avail others fates a = record {
  needed = λ t waits. a.needed t (ap is_settled waits);
  available = λ t waits member. a.available t (λ e. let n : fate.Waiting ≡ fate.Ended = sym waits ∙ e in cc) member;
  unsettled = λ t member. elim (a.unsettled t member) [ inl here ↦ inl here | inr settled ↦ inr (inl settled) ];
}

-- the same is marked over two views that agree
marked_across : (options : Options) (tasks : List PlanTask) (need other : List Bool) (avail others : List Avail) (fates : List Fate) (clean cleans : ℕ → Clean) (seat : ℕ) (event : Event) (answer : Next)
    → Agree need other avail others fates → ((t : ℕ) → cleans t ≡ clean t) → MayAnswer options tasks need avail fates answer → marked_for avail clean seat answer ≡ Some event → marked_for others cleans seat answer ≡ Some event
marked_across options tasks need other avail others fates clean cleans seat event (next.Settle t) a c may is = ap (settled_as t) (sym (a.available t may.0.waits may.0.needed)) ∙ is
marked_across options tasks need other avail others fates clean cleans seat event (next.Start t) a c may is = ap (λ x. Some (started_as seat t x)) (c t) ∙ is
marked_across options tasks need other avail others fates clean cleans seat event next.Wait a c may is = is
marked_across options tasks need other avail others fates clean cleans seat event next.Finished a c may is = is
marked_across options tasks need other avail others fates clean cleans seat event next.Stopped a c may is = is

pub claim_may_come : ClaimMayCome
claim_may_come o s k answer e run orderly known now free may marks course same longer =
    let n : ℕ = length s.tale in
    let is = course_of_front o s.options s.tale e course longer in
    let whole : take n s.tale ≡ s.tale = take_all n s.tale (omega arith) in
    let there : IsThere o s.plan s.options s.tale (course.avail n) =
    subst (λ (p : Plan). IsThere o p s.options s.tale (course.avail n)) same (subst (λ (l : List Logged). IsThere o course.plan s.options l (course.avail n)) whole (is.there n (omega arith))) in
    let needed = subst (λ (p : Plan). IsNeed p (course.avail n) (course.need n)) same (is.needed n (omega arith)) in
    let fates : List Fate = fates_told (length s.plan.tasks) s.tale in
    let agree = agree_waiting k.need (course.need n) k.avail (course.avail n) fates (agreement o s k run orderly known now (course.avail n) (course.need n) there needed) in
    let over = answer_across s.plan.tasks k.need (course.need n) k.avail (course.avail n) fates now.need.closed.dependencies agree s.options answer may in
    let clean : (t : ℕ) → course.clean t ≡ clean_says o.gives s.plan.tasks t = λ t. is.clean t ∙ ap (λ (p : Plan). clean_says o.gives p.tasks t) same in
    let marked = marked_across s.options s.plan.tasks k.need (course.need n) k.avail (course.avail n) fates (clean_says o.gives s.plan.tasks) course.clean e.seat e.event answer agree clean may marks in
    step_may course s.tale e (inl (record {
      free = subst (λ (p : Plan). IsFree (fates_told (length p.tasks) s.tale) e.seat) (sym same) free;
      answer = answer;
      may = subst (λ (p : Plan). MayAnswer course.options p.tasks (course.need n) (course.avail n) (fates_told (length p.tasks) s.tale) answer) (sym same)
          (subst (λ (x : Options). MayAnswer x s.plan.tasks (course.need n) (course.avail n) fates answer) (sym is.options_are) over);
      marks = marked;
    }))
