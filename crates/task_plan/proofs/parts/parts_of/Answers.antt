use Rattle.std.proofs.Common.{◌≡◌, sym, subst, Ok, IfOk, IfErr}
use Rattle.script_gen.specs.Given.{IsKeyOf}
use Rattle.plan_model.specs.Plans.{parts_of}
use Rattle.task_plan.specs.Faults.{IsPlanFault}
use Rattle.task_plan.specs.Meant.{parts_meant}
use Rattle.task_plan.proofs.parts.parts_of.Goals as goal

pub parts_with-requires : goal.parts_with-requires
parts_with-requires g c = subst (λ s. IsKeyOf s c.args.task.now c.in_ok-key.key) (sym c.in_ok-key.ensures.same) (record { is = c.in_ok-key.ensures.ok })

pub returns-clause-ok : goal.returns-clause-ok
returns-clause-ok g c = subst (λ s. IfOk c.parts_with.result (λ made. g.L.Layers.tells → parts_of (g.L.Layers.files c.args.layers.now) c.args.file.now s c.args.task.now c.args.bytes ≡ Ok (parts_meant made))) c.in_ok-key.ensures.same c.parts_with.ensures.ok

pub returns-clause-err : goal.returns-clause-err
returns-clause-err g c = subst (λ s. IfErr c.parts_with.result (λ fault. g.L.Layers.tells → IsPlanFault fault (parts_of (g.L.Layers.files c.args.layers.now) c.args.file.now s c.args.task.now c.args.bytes))) c.in_ok-key.ensures.same c.parts_with.ensures.err
