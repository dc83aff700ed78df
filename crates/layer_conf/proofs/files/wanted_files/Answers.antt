use Rattle.std.proofs.Common.{take, filter}
use Rattle.std.proofs.lemmas.List.{take_all}
use Rattle.layer_conf.specs.Globs.{is_wanted}
use Rattle.layer_conf.proofs.Globbing.{stays_ordered, wanted_next}
use Rattle.layer_conf.proofs.files.wanted_files.Goals as goal

pub put_wanted-requires : goal.put_wanted-requires
put_wanted-requires c = stays_ordered c.loop-path.made.items (filter (is_wanted c.args.globs.now c.args.ending.now) (take c.loop-path.path-index c.args.paths.now)) c.loop-path.invariant

pub loop-path-preserved : goal.loop-path-preserved
loop-path-preserved c = wanted_next (is_wanted c.args.globs.now c.args.ending.now) c.args.paths.now c.loop-path.path-index c.path-item.result c.loop-path.made.items c.put_wanted.new.made.items c.path-item.is c.loop-path-test.true c.loop-path.invariant c.in_ok-put_wanted.ensures

pub returns : goal.returns
returns c = rw (take_all _ _ c.loop-path-test.false) at c.loop-path.invariant
