use Rattle.store_clean.specs.Steps.{node_names}
use Rattle.store_clean.proofs.Stamped.{gone_all, gone_first, gone_next}
use Rattle.store_clean.proofs.stamps.gone_among.Goals as goal

pub loop-file-init : goal.loop-file-init
loop-file-init c = gone_first (node_names c.args.nodes.now) c.args.chosen.now.marks.items c.args.files.now c.new-paths.result.items c.new-paths.ensures.items

pub loop-file-preserved : goal.loop-file-preserved
loop-file-preserved c = gone_next (node_names c.args.nodes.now) c.args.chosen.now.marks.items c.args.files.now c.loop-file.file-index c.file-item.result c.loop-file.paths.items c.note_gone.new.paths.items c.loop-file-test.true c.file-item.is c.loop-file.invariant c.in_ok-note_gone.ensures

pub returns : goal.returns
returns c = gone_all (node_names c.args.nodes.now) c.args.chosen.now.marks.items c.args.files.now c.loop-file.file-index c.loop-file.paths.items c.loop-file-test.false c.loop-file.invariant
