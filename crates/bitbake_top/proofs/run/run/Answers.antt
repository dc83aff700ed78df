use Rattle.std.proofs.Common.{refl, subst}
use Rattle.meta_model.specs.declared.plan.Plan.{Plan}
use Rattle.run_model.specs.Build.{AllClean, TellsDifference}
use Rattle.target_plan.proofs.OnePlan.{plan_of_words_is_wanted}
use Rattle.answer_model.specs.Run.{IsRunPlan}
use Rattle.bitbake_top.proofs.Begun.{all_of_none, all_of_one, found_one, one_plan, refused_cause, refused_found, refused_not_ok, refused_steady, run_cause, run_goes_on, run_is_built, run_is_read, unrun_fails, unrun_is_built, unrun_of_run, unrun_told}
use Rattle.bitbake_top.proofs.Devices.{unchanged_rose}
use Rattle.bitbake_top.proofs.Kept.{at_plan, unbegun_benches, unbegun_broke, unbegun_keeps}
use Rattle.bitbake_top.proofs.Written.{unbegun_text}
use Rattle.bitbake_top.proofs.run.run.Goals as goal

pub returns-in-Ok-clause-keeps : goal.returns-in-Ok-clause-keeps
returns-in-Ok-clause-keeps g c l d b paths lists plan planned gives all reading book may =
    let files = g.L.Layers.files c.args.layers in
    let request = c.args.request.now in
    let held = (g.D.Disk.story c.args.disk).held in
    at_plan gives reading book held request.options _ _ _ _ _ c.in-Ok.plan plan (one_plan files paths request c.in-Ok.plan plan lists (c.in-Ok.ensures.ok l paths lists) planned)
    (c.run_whole-status.ensures.keeps d b gives all reading book) may

pub returns-in-Ok-clause-exactly : goal.returns-in-Ok-clause-exactly
returns-in-Ok-clause-exactly g c l d b paths lists gives all reading book may layers disk benches sink certain =
    let files = g.L.Layers.files c.args.layers in
    let request = c.args.request.now in
    let planned = c.in-Ok.ensures.ok l paths lists in
    let wanted = plan_of_words_is_wanted files paths request.targets request.task request.force c.in-Ok.plan planned in
    let ran = c.run_whole-status.ensures.exactly d b gives all reading book (may c.in-Ok.plan planned) wanted disk benches (unchanged_rose _ _ sink) certain in (
      λ ok. record { plan = c.in-Ok.plan; planned = planned; clean = ran.0 ok },
      λ good. ran.1 (subst (λ (p : Plan). AllClean gives p) (one_plan files paths request good.plan c.in-Ok.plan lists good.planned planned) good.clean),
    )

pub returns-in-Ok-clause-plans : goal.returns-in-Ok-clause-plans
returns-in-Ok-clause-plans g c l paths lists = all_of_one _ (λ p. IsRunPlan (g.L.Layers.files c.args.layers) paths c.args.request.now p) _ _ c.run_whole-status.ensures.plans (c.in-Ok.ensures.ok l paths lists)

pub returns-in-Ok-clause-found : goal.returns-in-Ok-clause-found
returns-in-Ok-clause-found g c begun = found_one _ _ _ c.run_whole-status.ensures.plans begun

pub returns-in-Ok-clause-unrun : goal.returns-in-Ok-clause-unrun
returns-in-Ok-clause-unrun g c none write l paths lists = unrun_of_run (g.L.Layers.files c.args.layers) paths c.args.request.now c.run_whole-status.result.status (c.run_whole-status.ensures.unbegun none) write

pub returns-in-Ok-clause-built : goal.returns-in-Ok-clause-built
returns-in-Ok-clause-built g c e l paths lists = run_is_built _ _ _ c.run_whole-status.result.status c.run_whole-status.ensures.causes e

pub returns-in-Ok-clause-begun : goal.returns-in-Ok-clause-begun
returns-in-Ok-clause-begun g c tale = run_goes_on _ _ _ c.run_whole-status.result.status c.run_whole-status.ensures.causes

pub returns-in-Err-clause-begun : goal.returns-in-Err-clause-begun
returns-in-Err-clause-begun g c tale = absurd (tale c.new-in-Err.ensures.items)

pub returns-in-Ok-clause-no_usage : goal.returns-in-Ok-clause-no_usage
returns-in-Ok-clause-no_usage g c e = run_is_read _ _ _ c.run_whole-status.result.status c.run_whole-status.ensures.causes e

pub returns-in-Ok-clause-causes : goal.returns-in-Ok-clause-causes
returns-in-Ok-clause-causes g c = run_cause _ _ _ _ c.run_whole-status.result.status c.run_whole-status.ensures.causes

pub returns-in-Err-clause-keeps : goal.returns-in-Err-clause-keeps
returns-in-Err-clause-keeps g c l d b paths lists plan planned gives all reading book may =
    let story = g.D.Disk.story c.args.disk in
    unbegun_keeps gives reading book plan c.args.request.now.options c.new-in-Err.result.items c.refuse.result story story _ _ (c.requires.fresh d) may
    (refused_not_ok c.in-Err.status c.refuse.result c.in-Err.ensures.refusal c.refuse.ensures.status) (refused_steady c.in-Err.status c.refuse.result c.in-Err.ensures.refusal c.refuse.ensures.status) c.new-in-Err.ensures.items refl refl

pub returns-in-Err-clause-exactly : goal.returns-in-Err-clause-exactly
returns-in-Err-clause-exactly g c l d b paths lists gives all reading book may layers disk benches sink certain = (
  λ ok. absurd (refused_not_ok c.in-Err.status c.refuse.result c.in-Err.ensures.refusal c.refuse.ensures.status ok),
  λ good. absurd (unrun_fails (g.L.Layers.files c.args.layers) paths c.args.request.now gives c.in-Err.status c.refuse.result _ _ lists (c.in-Err.ensures.err l paths lists) c.refuse.ensures.status c.in-Err.ensures.cause layers certain good),
)

pub returns-in-Err-clause-plans : goal.returns-in-Err-clause-plans
returns-in-Err-clause-plans g c l paths lists = all_of_none (λ p. IsRunPlan (g.L.Layers.files c.args.layers) paths c.args.request.now p) c.new.result.items c.new.ensures.items

pub returns-in-Err-clause-found : goal.returns-in-Err-clause-found
returns-in-Err-clause-found g c begun = absurd (refused_found c.in-Err.status c.refuse.result c.in-Err.ensures.refusal c.refuse.ensures.status begun)

pub returns-in-Err-clause-unrun : goal.returns-in-Err-clause-unrun
returns-in-Err-clause-unrun g c none sink l paths lists =
    unrun_told (g.L.Layers.files c.args.layers) paths c.args.request.now c.in-Err.status c.refuse.result (c.in-Err.ensures.err l paths lists) c.refuse.ensures.status

pub returns-in-Err-clause-built : goal.returns-in-Err-clause-built
returns-in-Err-clause-built g c e l paths lists =
    unrun_is_built (g.L.Layers.files c.args.layers) paths c.args.request.now c.refuse.result
    (unrun_told (g.L.Layers.files c.args.layers) paths c.args.request.now c.in-Err.status c.refuse.result (c.in-Err.ensures.err l paths lists) c.refuse.ensures.status) e

pub returns-in-Err-clause-causes : goal.returns-in-Err-clause-causes
returns-in-Err-clause-causes g c = refused_cause _ _ _ _ _ c.in-Err.status c.refuse.result c.in-Err.ensures.refusal c.refuse.ensures.status c.in-Err.ensures.cause

pub returns-in-Err-clause-text : goal.returns-in-Err-clause-text
returns-in-Err-clause-text g c told = unbegun_text _ _ _ _ _ c.new-in-Err.result.items c.refuse.result c.new-in-Err.ensures.items (c.refuse.ensures.said told)

pub returns-in-Err-clause-broke : goal.returns-in-Err-clause-broke
returns-in-Err-clause-broke g c = unbegun_broke c.new-in-Err.result.items _ _ c.new-in-Err.ensures.items

pub returns-in-Err-clause-benches : goal.returns-in-Err-clause-benches
returns-in-Err-clause-benches g c = unbegun_benches _ c.new-in-Err.result.items c.new-in-Err.ensures.items

pub returns-in-Err-clause-differs : goal.returns-in-Err-clause-differs
returns-in-Err-clause-differs g c = all_of_none (λ (p : Plan). TellsDifference g.D.Disk.tells p (g.D.Disk.story c.args.disk) c.refuse.result) c.new.result.items c.new.ensures.items
