use Rattle.std.proofs.Common.{sym, subst, []}
use Rattle.std.specs.List.{AllByRecursion}
use Rattle.store_upgrade.specs.Old.{IsGoodOld}
use Rattle.store_upgrade.proofs.Reread.{AreSoFar, found_all, good_more, so_far_more, so_far_none}
use Rattle.store_upgrade.proofs.reading.olds_among.Goals as goal

pub loop-file-preserved : goal.loop-file-preserved
loop-file-preserved c = record {
  good = good_more c.file-item.result c.loop-file.found.items c.put_old.new.found.items c.in_ok-put_old.ensures c.loop-file.invariant.good;
  so_far = λ held are. so_far_more held c.args.files.now c.loop-file.file-index c.file-item.result c.loop-file.found.items c.put_old.new.found.items c.loop-file-test.true c.file-item.is are (c.loop-file.invariant.so_far held are) c.in_ok-put_old.ensures;
}

pub loop-file-init : goal.loop-file-init
loop-file-init c = record {
  good = subst (AllByRecursion IsGoodOld) (sym (c.in_ok-found.ensures.items)) tt;
  so_far = λ held are. subst (AreSoFar held []) (sym (c.in_ok-found.ensures.items)) (so_far_none held c.args.files.now);
}

pub returns-clause-found : goal.returns-clause-found
returns-clause-found c held are = found_all held c.args.files.now c.loop-file.file-index c.loop-file.found.items c.loop-file-test.false are (c.loop-file.invariant.so_far held are)

pub returns-clause-good : goal.returns-clause-good
returns-clause-good c = c.loop-file.invariant.good
