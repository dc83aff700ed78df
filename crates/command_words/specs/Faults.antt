-- What a failed parse means.
use Rattle.clap.specs.declared.error.kind.ErrorKind.{ErrorKind}
use Rattle.clap.specs.declared.error.kind.ErrorKind.TheVariants.{OutOfMemory}
use Rattle.command_words.specs.declared.fault.WordsFault.{WordsFault}
use Rattle.command_words.specs.declared.fault.WordsFault.TheVariants.{Memory, Usage}

-- a parse fails for want of memory, or for its words
abbrev pub fault_of_kind : ErrorKind → WordsFault
fault_of_kind OutOfMemory = Memory
fault_of_kind _ = Usage
