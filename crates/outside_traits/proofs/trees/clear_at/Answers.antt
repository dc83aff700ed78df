use Rattle.std.proofs.Common.{rules}
use Rattle.outside_traits.specs.Store.{ChangesAt}
use Rattle.outside_traits.proofs.Calls.{ChangesAt-same, reads_passes, same_so}
use Rattle.outside_traits.proofs.Steps.{clears_held, clears_nothing}
use Rattle.outside_traits.proofs.trees.clear_at.Goals as goal
use Rattle.outside_traits.proofs.trees.clear_at.Goals.{in-Some, in-None}

pub returns-clause-clears : goal.returns-clause-clears
returns-clause-clears g c told = elim c.match-branch-2.branch [
  | in-Some w ↦ rw (w.disk-is, w.result-is) (clears_held w.remove.result (rw w.in-Some.is at (c.in_ok-read.ensures.told told)) (w.remove.ensures.told told))
  | in-None w ↦ rw (w.disk-is, w.result-is) (clears_nothing (rw w.in-None.is at (c.in_ok-read.ensures.told told)))
]

pub returns-in_err-read-clause-clears : goal.returns-in_err-read-clause-clears
returns-in_err-read-clause-clears g c told = record {
  changes = same_so (ChangesAt c.args.path.now) (ChangesAt-same c.args.path.now) (reads_passes (c.read.ensures.told told));
  untouched = λ none. reads_passes (c.read.ensures.told told);
  gone = search rules;
}
