use Rattle.std.specs.Str.Parse.{ExplainsUnsignedError, HasUnsignedDigitsIfOk, ParsesUnsigned}
use Rattle.clap.specs.Matches.{found_of}
use Rattle.command_words.proofs.NumberLemmas.{size_read}
use Rattle.command_words.proofs.reading.sample_of.Goals as goal

pub returns : goal.returns
returns c =
    let read = size_read _ (λ bs r. ParsesUnsigned 32 10 bs r × ExplainsUnsignedError 10 bs r × HasUnsignedDigitsIfOk bs r)
    (found_of c.args.matches.now) c.get_one.result c.requires c.get_one.ensures.none c.get_one.ensures.value (λ u x g. g.0) in
    record { number = read.0; range = read.1 }
