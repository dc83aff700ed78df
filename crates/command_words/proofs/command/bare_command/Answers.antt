use Rattle.std.proofs.Common.{codes, true}
use Rattle.clap.specs.Simple.{App, new_app}
use Rattle.command_words.proofs.BuildLemmas.{without_help, without_name}
use Rattle.command_words.proofs.command.bare_command.Goals as goal

abbrev start : App
start = new_app (codes "bitbake")

pub returns : goal.returns
returns c =
    let nameless = without_name c.new.result c.no_binary_name.result start c.new.ensures.app c.no_binary_name.ensures in
    without_help c.no_binary_name.result c.disable_help_flag.result (record start { top = record start.top { no_binary_name = true } }) nameless c.disable_help_flag.ensures
