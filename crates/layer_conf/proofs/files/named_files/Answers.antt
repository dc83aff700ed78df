use Rattle.std.proofs.Common.{◌∙◌}
use Rattle.layer_conf.proofs.Globbing.{named_are}
use Rattle.layer_conf.proofs.files.named_files.Goals as goal

pub returns : goal.returns
returns c = λ words e. c.from_vec.ensures ∙ c.in_ok-wanted_files.ensures ∙ named_are c.args.globs.now words c.args.paths.now c.args.ending.now e
