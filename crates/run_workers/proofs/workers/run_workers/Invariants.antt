use Rattle.run_queue.specs.Seen.{seen}
use Rattle.run_workers.proofs.Picking.{AreAlike, gives_first}
use Rattle.run_workers.proofs.workers.run_workers.Given as goal

abbrev pub ghosts-run_shared : goal.ghosts-run_shared
ghosts-run_shared g a = record {
  first = seen g.D.Disk.story g.W.Sink.written a.state;
  faults = g.W.Sink.faults a.state.sink;
  gives = gives_first g.B.Bench.gives a.benches.items;
  alike = g.B.Bench.tells × AreAlike g.B.Bench.gives (gives_first g.B.Bench.gives a.benches.items) a.benches.items;
}
