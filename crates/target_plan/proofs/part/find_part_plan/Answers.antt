use Rattle.std.proofs.Common.{subst, refl, inl}
use Rattle.outside_traits.specs.Fault.{Counts}
use Rattle.target_plan.proofs.Parts.{plan_of_part_is_sound}
use Rattle.target_plan.proofs.Planned.{none_failed, of_turned_back, same_plan}
use Rattle.target_plan.proofs.part.find_part_plan.Goals as goal

pub returns-in-Ok-clause-ok : goal.returns-in-Ok-clause-ok
returns-in-Ok-clause-ok g c = same_plan _ c.in-Ok.made c.checked.result c.checked.ensures.same c.in-Ok.ensures.ok

pub returns-in-Ok-clause-err : goal.returns-in-Ok-clause-err
returns-in-Ok-clause-err g c =
    of_turned_back _ c.in-Ok.made c.checked.result c.checked.ensures.err (λ told paths listing. inl (inl refl)) (λ not_sound told paths listing.
    let files = g.L.Layers.files c.args.layers.now in
    absurd (not_sound (plan_of_part_is_sound files paths c.args.part.now c.args.force c.in-Ok.made (g.met.L.Layers.clean c.args.layers.now told) (c.in-Ok.ensures.ok told paths listing))))

pub returns-in-Ok-clause-refusal : goal.returns-in-Ok-clause-refusal
returns-in-Ok-clause-refusal g c = of_turned_back _ c.in-Ok.made c.checked.result c.checked.ensures.err refl (λ not_sound. refl)

pub returns-in-Ok-clause-cause : goal.returns-in-Ok-clause-cause
returns-in-Ok-clause-cause g c = subst (Counts (g.L.Layers.faults c.args.layers.now) (g.L.Layers.faults c.part_planned.new.layers)) (none_failed c.in-Ok.made c.checked.result c.checked.ensures.err) c.in-Ok.ensures.cause
