use Rattle.class_inherit.proofs.Firsts.{value_set, value_unset, value_fault}
use Rattle.class_inherit.proofs.calls.words_of_value.Goals as goal

pub returns-in_ok-words-in-Ok-Some-clause-ok : goal.returns-in_ok-words-in-Ok-Some-clause-ok
returns-in_ok-words-in-Ok-Some-clause-ok c =
    value_set c.args.reading.now.lines c.store.result.now c.args.name.now c.in-Ok-Some.text c.as_str.result.now c.in-Ok-Some.field-0 c.in_ok-words-in-Ok-Some.field-0 c.store.ensures c.in-Ok-Some.ensures.ok c.in-Ok-Some.field-0-is c.as_str.ensures c.in_ok-words-in-Ok-Some.ensures

pub returns-in-Ok-None-clause-ok : goal.returns-in-Ok-None-clause-ok
returns-in-Ok-None-clause-ok c = value_unset c.args.reading.now.lines c.store.result.now c.args.name.now c.in-Ok-None.field-0 c.new.result c.store.ensures c.in-Ok-None.ensures.ok c.in-Ok-None.field-0-is c.new.ensures

pub returns-in-Err-clause-err : goal.returns-in-Err-clause-err
returns-in-Err-clause-err c = value_fault c.args.reading.now.lines c.store.result.now c.args.name.now c.in-Err.fault c.store.ensures c.in-Err.ensures.err
