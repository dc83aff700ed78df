use Rattle.std.proofs.Common.{◌∙◌}
use Rattle.bb_parser.proofs.Fronts.{empty_by_length}
use Rattle.bb_parser.proofs.writable.has_none.Goals as goal

pub returns : goal.returns
returns c = c.is_empty.ensures ∙ empty_by_length c.args.names.now
