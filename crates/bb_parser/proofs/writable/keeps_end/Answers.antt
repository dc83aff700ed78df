use Rattle.std.proofs.Common.{not, ap, sym, ◌∙◌}
use Rattle.bb_parser.proofs.WritableFacts.{keeps-last}
use Rattle.bb_parser.proofs.writable.keeps_end.Goals as goal

pub returns : goal.returns
returns c = ap not c.has_dropped_end.ensures ∙ sym (keeps-last c.args.line.now)
