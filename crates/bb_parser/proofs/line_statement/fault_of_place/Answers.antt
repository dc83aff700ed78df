use Rattle.std.proofs.Common.{sym, ◌∙◌, refl}
use Rattle.bb_parser.proofs.line_statement.fault_of_place.Goals as goal

pub returns-then-not-may_stand : goal.returns-then-not-may_stand
returns-then-not-may_stand c = rw (sym c.may_stand.ensures ∙ c.if-not-may_stand.true) refl

pub returns-then-is_open : goal.returns-then-is_open
returns-then-is_open c = rw (sym c.may_stand.ensures ∙ c.if-not-may_stand.false, c.if-is_open.true) refl

pub returns-else-is_open : goal.returns-else-is_open
returns-else-is_open c = rw (sym c.may_stand.ensures ∙ c.if-not-may_stand.false, c.if-is_open.false) refl
