-- What the parser's own values of quoted texts stand for.
use Rattle.meta_model.specs.declared.entry.Op.{Op}
use Rattle.meta_model.specs.Grammar.{Quoted}
use Rattle.bb_parser.specs.declared.quotes.QuotedText.{QuotedText}

-- a quoted text of the definitions
abbrev pub quoted_of_found : QuotedText → Quoted
quoted_of_found q = record { text = q.text.now; inner = q.inner }

-- an operator and what is quoted behind it
abbrev pub operation_of_found : Op × QuotedText → Op × Quoted
operation_of_found o = (o.0, quoted_of_found o.1)
