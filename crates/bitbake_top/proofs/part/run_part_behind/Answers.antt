use Rattle.std.proofs.Common.{subst, ℕ, List}
use Rattle.multi_config.specs.Parts.{Standing, stands}
use Rattle.bitbake_top.specs.Parts.{RanPlan, behind_text}
use Rattle.bitbake_top.proofs.PartEnds.{planned_part, refused_part}
use Rattle.bitbake_top.proofs.part.run_part_behind.Goals as goal

pub returns-in-Ok-clause-part : goal.returns-in-Ok-clause-part
returns-in-Ok-clause-part g c base count lt is =
    let ran = c.run_part_whole-status in
    let from : Standing = stands g.D.Disk.story g.D.Disk.faults g.B.Bench.gives g.B.Bench.place g.B.Bench.faults g.W.Sink.written g.W.Sink.faults 0 c.args.disk c.args.benches.items c.args.sink in
    let to : Standing = stands g.D.Disk.story g.D.Disk.faults g.B.Bench.gives g.B.Bench.place g.B.Bench.faults g.W.Sink.written g.W.Sink.faults 0 ran.result.disk ran.result.benches.items ran.result.sink in
    planned_part g.L.Layers.tells g.D.Disk.tells g.B.Bench.tells g.W.Sink.tells (g.L.Layers.files c.args.layers) c.args.request.now c.args.part.now
    from to base count (g.L.Layers.faults c.args.layers) (g.L.Layers.faults c.find_part_plan.new.layers)
    c.in-Ok.plan ran.result.plans.items ran.result.tales.items ran.result.status c.in-Ok.ensures.sound c.in-Ok.ensures.spellings
    (subst (λ (m : List ℕ). RanPlan g.D.Disk.tells g.B.Bench.tells g.W.Sink.tells c.args.request.now.options m c.in-Ok.plan from to ran.result.plans.items ran.result.tales.items ran.result.status) c.as_str.ensures ran.ensures.ran)
    c.in-Ok.ensures.ok c.in-Ok.ensures.cause.later lt is

pub returns-in-Err-clause-part : goal.returns-in-Err-clause-part
returns-in-Err-clause-part g c base count lt is =
    refused_part g.L.Layers.tells g.D.Disk.tells g.B.Bench.tells g.W.Sink.tells (g.L.Layers.files c.args.layers) c.args.request.now c.args.part.now
    (behind_text base count (stands g.D.Disk.story g.D.Disk.faults g.B.Bench.gives g.B.Bench.place g.B.Bench.faults g.W.Sink.written g.W.Sink.faults (g.L.Layers.faults c.args.layers) c.args.disk c.args.benches.items c.args.sink))
    (g.W.Sink.written c.args.sink) (g.W.Sink.written c.refuse.new.sink) (g.W.Sink.faults c.args.sink) (g.W.Sink.faults c.refuse.new.sink) (g.L.Layers.faults c.find_part_plan.new.layers) c.new.result.items c.new-in-Err.result.items c.in-Err.status c.refuse.result
    c.new.ensures.items c.new-in-Err.ensures.items c.in-Err.ensures.refusal c.refuse.ensures.status c.in-Err.ensures.cause c.in-Err.ensures.err lt is c.refuse.ensures.later c.refuse.ensures.said
