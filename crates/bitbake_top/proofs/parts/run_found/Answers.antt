use Rattle.std.proofs.Common.{◌≡◌, inl, inr}
use Rattle.meta_model.specs.declared.event.Status.TheVariants as status
use Rattle.multi_config.specs.Parts.{Standing, stands, unsplit}
use Rattle.bitbake_top.proofs.Configs.{no_room, whole, whole_cause, whole_read}
use Rattle.bitbake_top.proofs.parts.run_found.Goals as goal

pub returns-in-Ok-clause-ran : goal.returns-in-Ok-clause-ran
returns-in-Ok-clause-ran g c asked =
    let last = c.run_from in
    let before : Standing = stands g.D.Disk.story g.D.Disk.faults g.B.Bench.gives g.B.Bench.place g.B.Bench.faults g.W.Sink.written g.W.Sink.faults (g.L.Layers.faults c.args.layers) c.args.disk c.args.benches.items c.args.sink in
    let now : Standing = stands g.D.Disk.story g.D.Disk.faults g.B.Bench.gives g.B.Bench.place g.B.Bench.faults g.W.Sink.written g.W.Sink.faults (g.L.Layers.faults last.result.layers) last.result.disk last.result.benches.items last.result.sink in
    whole g.L.Layers.tells g.D.Disk.tells g.B.Bench.tells g.W.Sink.tells (g.L.Layers.files c.args.layers) c.args.request.now c.args.parts.now before now
    c.in-Ok.room.plans.items last.result.plans.items c.in-Ok.room.tales.items last.result.tales.items last.result.status c.in-Ok.ensures.none.0 c.in-Ok.ensures.none.1 last.ensures.parts asked

pub returns-in-Ok-clause-no_usage : goal.returns-in-Ok-clause-no_usage
returns-in-Ok-clause-no_usage g c =
    let last = c.run_from in
    let before : Standing = stands g.D.Disk.story g.D.Disk.faults g.B.Bench.gives g.B.Bench.place g.B.Bench.faults g.W.Sink.written g.W.Sink.faults (g.L.Layers.faults c.args.layers) c.args.disk c.args.benches.items c.args.sink in
    let now : Standing = stands g.D.Disk.story g.D.Disk.faults g.B.Bench.gives g.B.Bench.place g.B.Bench.faults g.W.Sink.written g.W.Sink.faults (g.L.Layers.faults last.result.layers) last.result.disk last.result.benches.items last.result.sink in
    whole_read g.L.Layers.tells g.D.Disk.tells g.B.Bench.tells g.W.Sink.tells (g.L.Layers.files c.args.layers) c.args.request.now c.args.parts.now before now
    c.in-Ok.room.plans.items last.result.plans.items c.in-Ok.room.tales.items last.result.tales.items last.result.status last.ensures.parts

pub returns-in-Ok-clause-causes : goal.returns-in-Ok-clause-causes
returns-in-Ok-clause-causes g c =
    let last = c.run_from in
    let before : Standing = stands g.D.Disk.story g.D.Disk.faults g.B.Bench.gives g.B.Bench.place g.B.Bench.faults g.W.Sink.written g.W.Sink.faults (g.L.Layers.faults c.args.layers) c.args.disk c.args.benches.items c.args.sink in
    let now : Standing = stands g.D.Disk.story g.D.Disk.faults g.B.Bench.gives g.B.Bench.place g.B.Bench.faults g.W.Sink.written g.W.Sink.faults (g.L.Layers.faults last.result.layers) last.result.disk last.result.benches.items last.result.sink in
    whole_cause g.L.Layers.tells g.D.Disk.tells g.B.Bench.tells g.W.Sink.tells (g.L.Layers.files c.args.layers) c.args.request.now c.args.parts.now before now
    c.in-Ok.room.plans.items last.result.plans.items c.in-Ok.room.tales.items last.result.tales.items last.result.status last.ensures.parts

pub returns-in-Err-clause-ran : goal.returns-in-Err-clause-ran
returns-in-Err-clause-ran g c asked =
    let memory : c.refuse.result ≡ status.OutOfMemory = elim c.refuse.ensures.status [ inl e ↦ e | inr e ↦ e ] in
    unsplit (no_room g.L.Layers.tells g.W.Sink.tells (g.L.Layers.files c.args.layers) c.args.request.now
    (stands g.D.Disk.story g.D.Disk.faults g.B.Bench.gives g.B.Bench.place g.B.Bench.faults g.W.Sink.written g.W.Sink.faults (g.L.Layers.faults c.args.layers) c.args.disk c.args.benches.items c.args.sink)
    (g.W.Sink.written c.refuse.new.sink) (g.W.Sink.faults c.refuse.new.sink) c.refuse.result c.new.result.items c.new-in-Err.result.items c.new.ensures.items c.new-in-Err.ensures.items memory c.refuse.ensures.said)
