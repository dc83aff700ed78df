use Rattle.std.proofs.Common.{sym, ◌∙◌}
use Rattle.meta_model.specs.Lines.{joining}
use Rattle.bb_lexer.proofs.WholeLines.{whole-Steps, step-joining}
use Rattle.bb_lexer.proofs.step.joining_step.Goals as goal

pub returns-in_ok-push_str-in-None : goal.returns-in_ok-push_str-in-None
returns-in_ok-push_str-in-None c = whole-Steps (joining c.args.begun c.args.text) c.args.number c.args.begun c.args.line.now c.push_str-in-None.new.self c.args.out.now c.whole.new.out c.whole.result
    (step-joining c.args.begun c.args.number c.args.text c.args.line.now c.push_str-in-None.new.self (sym c.begins_comment.ensures ∙ c.if-begins_comment.false) (sym c.in-None.ensures.joined) c.in_ok-push_str-in-None.ensures.ok)
    c.whole.ensures
