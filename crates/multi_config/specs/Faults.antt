-- What a fault of the code says of the words.
use Rattle.std.specs.Prelude.{Option, Some, None}
use Rattle.multi_config.specs.declared.fault.SplitFault.{SplitFault}
use Rattle.multi_config.specs.declared.fault.SplitFault.TheVariants.{NoSuchConfig, NothingProvides, Memory}
use Rattle.multi_config.specs.Words.{WordRefusal, no_such_config, nothing_provides}

-- why a word is refused; want of memory claims nothing
abbrev pub word_refusal : SplitFault → Option WordRefusal
word_refusal (NoSuchConfig name) = Some (no_such_config name)
word_refusal (NothingProvides word) = Some (nothing_provides word)
word_refusal Memory = None
