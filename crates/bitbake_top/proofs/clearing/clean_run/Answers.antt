use Rattle.std.specs.Prelude.{Some}
use Rattle.bitbake_top.proofs.CleanAnswers.{did_at, ordered_plan, planned_status, refused_clean, refused_status}
use Rattle.bitbake_top.proofs.clearing.clean_run.Goals as goal

pub clear_by-requires-clause-ordered : goal.clear_by-requires-clause-ordered
clear_by-requires-clause-ordered g c = ordered_plan c.in-Ok.plan c.in-Ok.ensures.sound

pub returns-in-Ok-clause-has : goal.returns-in-Ok-clause-has
returns-in-Ok-clause-has g c l paths lists =
    planned_status c.clear_by.result.status (g.L.Layers.files c.args.layers.now) paths c.args.request.now c.clear_by.ensures.status (c.in-Ok.plan, c.in-Ok.ensures.ok l paths lists)

pub returns-in-Ok-clause-did : goal.returns-in-Ok-clause-did
returns-in-Ok-clause-did g c l paths lists plan planned =
    did_at (g.L.Layers.files c.args.layers.now) paths c.args.request.now c.in-Ok.plan plan c.args.limit c.args.dry g.D.Disk.tells g.W.Sink.tells (g.D.Disk.story c.args.disk.now) (g.D.Disk.story c.clear_by.new.disk) c.clear_by.result.cleaned c.clear_by.result.status
    (g.W.Sink.written c.args.sink.now) (g.W.Sink.written c.clear_by.new.sink) lists (c.in-Ok.ensures.ok l paths lists) planned c.clear_by.ensures.did

pub returns-in-Err-clause-has : goal.returns-in-Err-clause-has
returns-in-Err-clause-has g c l paths lists =
    refused_status c.in-Err.status c.refuse.result (g.L.Layers.files c.args.layers.now) paths c.args.request.now c.in-Err.ensures.refusal (c.in-Err.ensures.err l paths lists) c.refuse.ensures.status

pub returns-in-Err-clause-did : goal.returns-in-Err-clause-did
returns-in-Err-clause-did g c l paths lists plan planned =
    refused_clean (Some plan) c.args.limit c.args.dry g.D.Disk.tells g.W.Sink.tells (g.D.Disk.story c.args.disk.now) c.in-Err.status c.refuse.result (g.W.Sink.written c.args.sink.now) (g.W.Sink.written c.refuse.new.sink) c.in-Err.ensures.refusal c.refuse.ensures.status
