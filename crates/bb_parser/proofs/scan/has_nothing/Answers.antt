use Rattle.std.proofs.Common.{◌∙◌}
use Rattle.bb_parser.proofs.Fronts.{empty_by_length}
use Rattle.bb_parser.proofs.scan.has_nothing.Goals as goal

pub returns : goal.returns
returns c = c.is_empty.ensures ∙ empty_by_length c.args.bytes.now
