use Rattle.std.proofs.Common.{subst, List, ℕ}
use Rattle.store_opening.specs.Survey.{Visits}
use Rattle.store_opening.proofs.Surveyed.{surveyed_all, surveyed_more}
use Rattle.store_opening.proofs.records.found_among.Goals as goal

pub loop-file-preserved : goal.loop-file-preserved
loop-file-preserved c = record {
  good = c.in_ok-put_found.ensures.good c.loop-file.invariant.good;
  so_far = λ held all keys. surveyed_more held c.args.keys.now keys c.args.files.now c.loop-file.file-index c.file-item.result c.loop-file.found c.put_found.new.found c.loop-file-test.true c.file-item.is all (c.loop-file.invariant.so_far held all keys)
      (subst (λ (p : List ℕ). Visits c.args.keys.now p c.file-item.result.1 c.loop-file.found c.put_found.new.found) c.as_str.ensures c.in_ok-put_found.ensures.visits);
}

pub returns-clause-found : goal.returns-clause-found
returns-clause-found c held all keys = surveyed_all held c.args.files.now c.loop-file.file-index c.loop-file.found c.loop-file-test.false all (c.loop-file.invariant.so_far held all keys)
