use Rattle.std.proofs.Common.{◌∙◌}
use Rattle.clap.specs.Matches.{found_of}
use Rattle.command_words.proofs.RowLemmas.{given_by_source}
use Rattle.command_words.proofs.reading.is_given.Goals as goal

pub returns : goal.returns
returns c = c.is_from_words.ensures ∙ given_by_source (found_of c.args.matches.now) c.args.name.now c.value_source.result c.value_source.ensures
