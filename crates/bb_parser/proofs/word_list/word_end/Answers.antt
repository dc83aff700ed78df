use Rattle.std.proofs.Common.{sym, ◌∙◌}
use Rattle.meta_model.specs.Text.{is_white}
use Rattle.bb_parser.proofs.Fronts.{place-none}
use Rattle.bb_parser.proofs.word_list.word_end.Goals as goal

pub returns-in-None-clause-end : goal.returns-in-None-clause-end
returns-in-None-clause-end c = sym (place-none is_white c.args.line.now (sym c.white_at.ensures.first ∙ c.in-None.is))
