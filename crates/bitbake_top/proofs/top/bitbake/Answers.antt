use Rattle.std.proofs.Common.{refl}
use Rattle.bitbake_top.proofs.Begun.{words_not_ok, words_refusal, words_steady}
use Rattle.bitbake_top.proofs.Devices.{unchanged_rose}
use Rattle.bitbake_top.proofs.Drying.{asks_dry, at_dry, dry_exactly}
use Rattle.bitbake_top.proofs.Kept.{unbegun_keeps}
use Rattle.bitbake_top.proofs.Runs.{asks_for, asks_shows, at_request, at_shows}
use Rattle.multi_config.specs.Parts.{Standing, stands}
use Rattle.multi_config.specs.Shown.{ShowsConfigs}
use Rattle.bitbake_top.proofs.top.bitbake.Goals as goal

pub returns-in-Ok-Runs-clause-keeps : goal.returns-in-Ok-Runs-clause-keeps
returns-in-Ok-Runs-clause-keeps g c = at_request _ c.args.words.now _ (asks_for _ _ _ c.in-Ok-Runs.ensures.ok c.in-Ok-Runs.field-0-is) c.run.ensures.keeps

pub returns-in-Ok-Runs-clause-exactly : goal.returns-in-Ok-Runs-clause-exactly
returns-in-Ok-Runs-clause-exactly g c = at_request _ c.args.words.now _ (asks_for _ _ _ c.in-Ok-Runs.ensures.ok c.in-Ok-Runs.field-0-is) c.run.ensures.exactly

pub returns-in-Ok-Runs-clause-plans : goal.returns-in-Ok-Runs-clause-plans
returns-in-Ok-Runs-clause-plans g c = at_request _ c.args.words.now _ (asks_for _ _ _ c.in-Ok-Runs.ensures.ok c.in-Ok-Runs.field-0-is) c.run.ensures.plans

pub returns-in-Ok-Runs-clause-unrun : goal.returns-in-Ok-Runs-clause-unrun
returns-in-Ok-Runs-clause-unrun g c = at_request _ c.args.words.now _ (asks_for _ _ _ c.in-Ok-Runs.ensures.ok c.in-Ok-Runs.field-0-is) c.run.ensures.unrun

pub returns-in-Ok-Runs-clause-built : goal.returns-in-Ok-Runs-clause-built
returns-in-Ok-Runs-clause-built g c request asks = c.run.ensures.built

pub returns-in-Ok-Plans-clause-dry_complete : goal.returns-in-Ok-Plans-clause-dry_complete
returns-in-Ok-Plans-clause-dry_complete g c = at_dry _ c.args.words.now _ (asks_dry _ _ _ c.in-Ok-Plans.ensures.ok c.in-Ok-Plans.field-0-is) (λ l paths lists layers sink memory.
    dry_exactly c.dry.result (g.L.Layers.files c.args.layers) paths _ lists (c.dry.ensures.dry l paths lists) (λ e. unchanged_rose _ _ layers (c.dry.ensures.read_cause e)) (λ e. unchanged_rose _ _ sink (c.dry.ensures.write_cause e)) memory)

pub returns-in-Ok-Plans-clause-dry_text : goal.returns-in-Ok-Plans-clause-dry_text
returns-in-Ok-Plans-clause-dry_text g c = at_dry _ c.args.words.now _ (asks_dry _ _ _ c.in-Ok-Plans.ensures.ok c.in-Ok-Plans.field-0-is) c.dry.ensures.text

pub returns-in-Ok-Plans-clause-dry_front : goal.returns-in-Ok-Plans-clause-dry_front
returns-in-Ok-Plans-clause-dry_front g c = at_dry _ c.args.words.now _ (asks_dry _ _ _ c.in-Ok-Plans.ensures.ok c.in-Ok-Plans.field-0-is) c.dry.ensures.text_front

pub returns-in-Err-clause-keeps : goal.returns-in-Err-clause-keeps
returns-in-Err-clause-keeps g c request asks l d b paths lists plan planned gives all reading book may =
    let story = g.D.Disk.story c.args.disk in
    let refusal = words_refusal c.in-Err.status c.refuse.result c.in-Err.ensures.refusal c.refuse.ensures.status in
    unbegun_keeps gives reading book plan request.options _ c.refuse.result story story _ _ (c.requires.fresh d) may (words_not_ok c.refuse.result refusal) (words_steady c.refuse.result refusal) c.new-in-Err-2.ensures.items refl refl

pub returns-in-Ok-Runs-clause-concludes : goal.returns-in-Ok-Runs-clause-concludes
returns-in-Ok-Runs-clause-concludes g c = at_request _ c.args.words.now _ (asks_for _ _ _ c.in-Ok-Runs.ensures.ok c.in-Ok-Runs.field-0-is) c.run.ensures.concludes

pub returns-in-Ok-Shows-clause-shows : goal.returns-in-Ok-Shows-clause-shows
returns-in-Ok-Shows-clause-shows g c =
    let before : Standing = stands g.D.Disk.story g.D.Disk.faults g.B.Bench.gives g.B.Bench.place g.B.Bench.faults g.W.Sink.written g.W.Sink.faults (g.L.Layers.faults c.args.layers) c.args.disk c.args.benches.items c.args.sink in
    let now : Standing = stands g.D.Disk.story g.D.Disk.faults g.B.Bench.gives g.B.Bench.place g.B.Bench.faults g.W.Sink.written g.W.Sink.faults (g.L.Layers.faults c.show_configs.new.layers) c.args.disk c.args.benches.items c.show_configs.new.sink in
    at_shows (λ what request. ShowsConfigs g.L.Layers.tells g.W.Sink.tells what (g.L.Layers.files c.args.layers) request before now c.show_configs.result) c.args.words.now c.in-Ok-Shows.what c.in-Ok-Shows.request
    (asks_shows _ _ _ _ c.in-Ok-Shows.ensures.ok c.in-Ok-Shows.field-0-is) (c.show_configs.ensures.shows before)
