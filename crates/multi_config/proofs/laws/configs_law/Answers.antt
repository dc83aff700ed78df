use Rattle.multi_config.proofs.Crashes.{configs_crash}
use Rattle.multi_config.proofs.Later.{configs_are_exact}
use Rattle.multi_config.proofs.laws.configs_law.Goals as goal

pub returns-clause-exact : goal.returns-clause-exact
returns-clause-exact g c = configs_are_exact g.L.Layers.tells g.D.Disk.tells g.B.Bench.tells g.W.Sink.tells

pub returns-clause-crashes : goal.returns-clause-crashes
returns-clause-crashes g c = configs_crash g.L.Layers.tells g.D.Disk.tells g.B.Bench.tells g.W.Sink.tells
