use Rattle.std.proofs.Common.{◌≡◌, refl, false, rules}
use Rattle.class_inherit.proofs.Adding.{plain_text}
use Rattle.class_inherit.proofs.Faulting.{expand_ok, expand_err}
use Rattle.class_inherit.proofs.reading.Reading.expand.Goals as goal

pub returns-then-not-holds_opening-clause-ok : goal.returns-then-not-holds_opening-clause-ok
returns-then-not-holds_opening-clause-ok c =
    let none : c.holds_opening.result ≡ false = search rules in
    plain_text c.args.self.now.lines c.args.text.now c.as_bytes.result.now c.in_ok-from_str.field-0 c.holds_opening.result c.as_bytes.ensures.value c.holds_opening.ensures none c.if-text-le-LONGEST.true c.in_ok-from_str.ensures

pub returns-clause-ok : goal.returns-clause-ok
returns-clause-ok c = expand_ok c.expand.result c.store.result.now c.args.self.now.lines c.args.text.now c.args.text.now c.store.ensures refl c.expand.ensures.ok

pub returns-clause-err : goal.returns-clause-err
returns-clause-err c = expand_err c.expand.result c.store.result.now c.args.self.now.lines c.args.text.now c.args.text.now c.store.ensures refl c.expand.ensures.err
