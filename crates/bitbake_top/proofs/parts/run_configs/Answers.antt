use Rattle.std.proofs.Common.{◌∙◌, ap, sym, subst, ℕ, Ok}
use Rattle.plan_model.specs.Inputs.{Files}
use Rattle.multi_config.specs.Parts.{RanConfigs, Standing, stands, unsplit}
use Rattle.bitbake_top.specs.Parts.{ArePartsOf}
use Rattle.bitbake_top.proofs.Configs.{asked_parts, refused_words}
use Rattle.bitbake_top.proofs.parts.run_configs.Goals as goal

pub returns-in-Ok-clause-ran : goal.returns-in-Ok-clause-ran
returns-in-Ok-clause-ran g c =
    let last = c.run_found in
    let files = g.L.Layers.files c.args.layers in
    let request = c.args.request.now in
    let now : Standing = stands g.D.Disk.story g.D.Disk.faults g.B.Bench.gives g.B.Bench.place g.B.Bench.faults g.W.Sink.written g.W.Sink.faults (g.L.Layers.faults last.result.layers) last.result.disk last.result.benches.items last.result.sink in
    let at : Standing = stands g.D.Disk.story g.D.Disk.faults g.B.Bench.gives g.B.Bench.place g.B.Bench.faults g.W.Sink.written g.W.Sink.faults (g.L.Layers.faults c.args.layers) c.args.disk c.args.benches.items c.args.sink in
    let asked : ArePartsOf g.L.Layers.tells files request c.as_slice-in-Ok.result.now =
    asked_parts g.L.Layers.tells g.W.Sink.tells files request at c.as_slice.result.now _ c.as_slice-in-Ok.result.now c.as_slice.ensures c.as_ref.ensures.value (λ l paths lists. c.in-Ok.ensures.ok l paths lists ∙ ap Ok (sym c.as_slice-in-Ok.ensures.value)) in
    subst (λ (n : ℕ). RanConfigs g.L.Layers.tells g.D.Disk.tells g.B.Bench.tells g.W.Sink.tells files request (stands g.D.Disk.story g.D.Disk.faults g.B.Bench.gives g.B.Bench.place g.B.Bench.faults g.W.Sink.written g.W.Sink.faults n c.args.disk c.args.benches.items c.args.sink) now last.result.plans.items last.result.tales.items last.result.status) c.in-Ok.ensures.cause.stayed
    (subst (λ (f : Files). ArePartsOf g.L.Layers.tells f request c.as_slice-in-Ok.result.now → RanConfigs g.L.Layers.tells g.D.Disk.tells g.B.Bench.tells g.W.Sink.tells f request (stands g.D.Disk.story g.D.Disk.faults g.B.Bench.gives g.B.Bench.place g.B.Bench.faults g.W.Sink.written g.W.Sink.faults (g.L.Layers.faults c.find_parts.new.layers) c.args.disk c.args.benches.items c.args.sink) now
    last.result.plans.items last.result.tales.items last.result.status) c.in-Ok.ensures.same last.ensures.ran asked)

pub returns-in-Err-clause-ran : goal.returns-in-Err-clause-ran
returns-in-Err-clause-ran g c =
    unsplit (refused_words g.L.Layers.tells g.W.Sink.tells (g.L.Layers.files c.args.layers) c.args.request.now
    (stands g.D.Disk.story g.D.Disk.faults g.B.Bench.gives g.B.Bench.place g.B.Bench.faults g.W.Sink.written g.W.Sink.faults (g.L.Layers.faults c.args.layers) c.args.disk c.args.benches.items c.args.sink)
    (g.L.Layers.faults c.find_parts.new.layers) (g.W.Sink.written c.refuse.new.sink) (g.W.Sink.faults c.refuse.new.sink) c.as_slice.result.now _ c.in-Err.status c.refuse.result c.new.result.items c.new-in-Err.result.items
    c.new.ensures.items c.new-in-Err.ensures.items c.as_slice.ensures c.as_ref.ensures.value c.in-Err.ensures.refusal c.refuse.ensures.status c.in-Err.ensures.cause c.in-Err.ensures.err c.refuse.ensures.said)
