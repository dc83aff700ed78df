use Rattle.std.proofs.Common.{◌≡◌, take, filter}
use Rattle.meta_model.specs.Text.{in_byte_order}
use Rattle.layer_conf.specs.Globs.{is_wanted}
use Rattle.layer_conf.proofs.files.wanted_files.Given as goal

abbrev pub invariant-loop-path : goal.invariant-loop-path
invariant-loop-path l = l.made.items ≡ in_byte_order (filter (is_wanted l.globs l.ending) (take l.path-index l.paths))
