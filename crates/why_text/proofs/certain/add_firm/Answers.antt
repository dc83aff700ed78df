use Rattle.std.proofs.Common.{◌≡◌, ◌∙◌, sym, subst, List, ℕ, ◌<◌, All, Contains, length, arith}
use Rattle.tale_model.specs.Need.{deps_in}
use Rattle.setscene_plan.specs.Sets.{Adds}
use Rattle.setscene_plan.proofs.Sweeping.{below_object, below_within, below_work, is_in, there}
use Rattle.why_model.specs.Seen.{firm, narrowed, waits_of}
use Rattle.why_text.proofs.CertainTasks.{firm_all, firm_put}
use Rattle.why_text.proofs.certain.add_firm.Goals as goal

pub add_all-requires : goal.add_all-requires
add_all-requires c =
    let task = c.task_at-task.result.now in
    let is : c.firm.result.now ≡ firm task.deps (waits_of c.args.seen.now task) = c.firm.ensures ∙ (λ i. firm (c.as_slice.ensures i) ((c.as_slice-in-Missing.ensures.value ∙ c.in_ok-waits-in-Missing.ensures) i)) in
    let deps : All (λ d. d < length c.args.set.now) task.deps = subst (λ o. All (λ d. d < length c.args.set.now) (deps_in o)) c.task_at-task.ensures (below_within c.args.plan.now.tasks c.args.place (length c.args.set.now) c.requires.ordered (omega arith)) in
    subst (λ (ds : List ℕ). All (λ d. d < length c.args.set.now) ds) (sym is) (firm_all (λ d. d < length c.args.set.now) c.args.seen.now task deps)

pub returns-in_ok-waits-in-Missing : goal.returns-in_ok-waits-in-Missing
returns-in_ok-waits-in-Missing c =
    let task = c.task_at-task.result.now in
    let is : c.firm.result.now ≡ firm task.deps (waits_of c.args.seen.now task) = c.firm.ensures ∙ (λ i. firm (c.as_slice.ensures i) ((c.as_slice-in-Missing.ensures.value ∙ c.in_ok-waits-in-Missing.ensures) i)) in
    firm_put c.args.seen.now c.args.plan.now c.args.avail.now c.args.set.now c.add_all.new.set c.args.place task c.task_at-task.ensures
    (is_in c.args.set.now c.args.place (omega arith) c.if-not-set-place.false)
    (there c.args.avail.now c.args.place _ (omega arith) c.in-Missing.is)
    (subst (λ (ds : List ℕ). Adds (Contains ds) c.args.set.now c.add_all.new.set) is c.add_all.ensures)

pub returns-in-Work : goal.returns-in-Work
returns-in-Work c = below_work (narrowed c.args.seen.now c.args.plan.now).tasks c.args.avail.now c.args.set.now c.args.place (there c.args.avail.now c.args.place _ (omega arith) c.in-Work.is)

pub returns-in-Object : goal.returns-in-Object
returns-in-Object c = below_object (narrowed c.args.seen.now c.args.plan.now).tasks c.args.avail.now c.args.set.now c.args.place (there c.args.avail.now c.args.place _ (omega arith) c.in-Object.is)
