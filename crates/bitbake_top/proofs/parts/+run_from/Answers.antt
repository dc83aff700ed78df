use Rattle.std.proofs.Common.{◌∙◌, sym, subst}
use Rattle.std.proofs.lemmas.List.{nil_from_length}
use Rattle.plan_model.specs.Inputs.{Files}
use Rattle.multi_config.specs.Parts.{Standing, stands}
use Rattle.bitbake_top.specs.Parts.{RanParts}
use Rattle.bitbake_top.proofs.PartSteps.{none_left, one_last, one_more}
use Rattle.bitbake_top.proofs.parts.+run_from.Goals as goal

pub returns-then-not-goes_on-clause-parts : goal.returns-then-not-goes_on-clause-parts
returns-then-not-goes_on-clause-parts g t c =
    let ran = c.run_part-status in
    let before : Standing = stands g.D.Disk.story g.D.Disk.faults g.B.Bench.gives g.B.Bench.place g.B.Bench.faults g.W.Sink.written g.W.Sink.faults (g.L.Layers.faults c.args.layers) c.args.disk c.args.benches.items c.args.sink in
    let now : Standing = stands g.D.Disk.story g.D.Disk.faults g.B.Bench.gives g.B.Bench.place g.B.Bench.faults g.W.Sink.written g.W.Sink.faults (g.L.Layers.faults ran.result.layers) ran.result.disk ran.result.benches.items ran.result.sink in
    one_last g.L.Layers.tells g.D.Disk.tells g.B.Bench.tells g.W.Sink.tells (g.L.Layers.files c.args.layers) c.args.request.now c.in-Some.part.now c.in-Some.rest.now c.args.parts.now before now
    c.args.room.plans.items ran.result.plans.items c.move_one.new.made.items c.args.room.tales.items ran.result.tales.items c.move_one-in-Some.new.made.items ran.result.status
    c.in-Some.ensures.cases.0 ran.ensures.part (sym c.goes_on.ensures ∙ c.if-not-goes_on.true) c.move_one.ensures.items c.move_one-in-Some.ensures.items

pub returns-else-not-goes_on-clause-parts : goal.returns-else-not-goes_on-clause-parts
returns-else-not-goes_on-clause-parts g t c =
    let ran = c.run_part-status in
    let last = c.run_from-last in
    let before : Standing = stands g.D.Disk.story g.D.Disk.faults g.B.Bench.gives g.B.Bench.place g.B.Bench.faults g.W.Sink.written g.W.Sink.faults (g.L.Layers.faults c.args.layers) c.args.disk c.args.benches.items c.args.sink in
    let mid : Standing = stands g.D.Disk.story g.D.Disk.faults g.B.Bench.gives g.B.Bench.place g.B.Bench.faults g.W.Sink.written g.W.Sink.faults (g.L.Layers.faults ran.result.layers) ran.result.disk ran.result.benches.items ran.result.sink in
    let now : Standing = stands g.D.Disk.story g.D.Disk.faults g.B.Bench.gives g.B.Bench.place g.B.Bench.faults g.W.Sink.written g.W.Sink.faults (g.L.Layers.faults last.result.layers) last.result.disk last.result.benches.items last.result.sink in
    one_more g.L.Layers.tells g.D.Disk.tells g.B.Bench.tells g.W.Sink.tells (g.L.Layers.files c.args.layers) c.args.request.now c.in-Some.part.now c.in-Some.rest.now c.args.parts.now before mid now
    c.args.room.plans.items ran.result.plans.items c.move_one.new.made.items last.result.plans.items c.args.room.tales.items ran.result.tales.items c.move_one-in-Some.new.made.items last.result.tales.items
    ran.result.status last.result.status c.status_behind.result
    c.in-Some.ensures.cases.0 ran.ensures.part (sym c.goes_on.ensures ∙ c.if-not-goes_on.false) c.move_one.ensures.items c.move_one-in-Some.ensures.items
    (subst (λ (f : Files). RanParts g.L.Layers.tells g.D.Disk.tells g.B.Bench.tells g.W.Sink.tells f c.args.request.now c.in-Some.rest.now mid now c.move_one.new.made.items last.result.plans.items c.move_one-in-Some.new.made.items last.result.tales.items last.result.status) ran.ensures.files last.ensures.parts)
    c.status_behind.ensures

pub returns-in-None-clause-parts : goal.returns-in-None-clause-parts
returns-in-None-clause-parts g t c =
    none_left g.L.Layers.tells g.D.Disk.tells g.B.Bench.tells g.W.Sink.tells (g.L.Layers.files c.args.layers) c.args.request.now c.args.parts.now
    (stands g.D.Disk.story g.D.Disk.faults g.B.Bench.gives g.B.Bench.place g.B.Bench.faults g.W.Sink.written g.W.Sink.faults (g.L.Layers.faults c.args.layers) c.args.disk c.args.benches.items c.args.sink) c.args.room.plans.items c.args.room.tales.items (nil_from_length c.args.parts.now c.in-None.ensures.cases)
