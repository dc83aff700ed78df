use Rattle.class_inherit.proofs.Searching.{path_set, path_unset, path_fault}
use Rattle.class_inherit.proofs.search.path_folders.Goals as goal

pub returns-in_ok-active-in-Ok-Some-clause-ok : goal.returns-in_ok-active-in-Ok-Some-clause-ok
returns-in_ok-active-in-Ok-Some-clause-ok c =
    path_set c.args.reading.now.lines c.store.result.now c.in-Ok-Some.path c.as_str.result.now c.in-Ok-Some.field-0 c.in_ok-active-in-Ok-Some.field-0 c.store.ensures c.in-Ok-Some.ensures.ok c.in-Ok-Some.field-0-is c.as_str.ensures c.in_ok-active-in-Ok-Some.ensures

pub returns-in-Ok-None-clause-ok : goal.returns-in-Ok-None-clause-ok
returns-in-Ok-None-clause-ok c = path_unset c.args.reading.now.lines c.store.result.now c.in-Ok-None.field-0 c.new.result c.store.ensures c.in-Ok-None.ensures.ok c.in-Ok-None.field-0-is c.new.ensures

pub returns-in-Err-clause-err : goal.returns-in-Err-clause-err
returns-in-Err-clause-err c = path_fault c.args.reading.now.lines c.store.result.now c.in-Err.fault c.store.ensures c.in-Err.ensures.err
