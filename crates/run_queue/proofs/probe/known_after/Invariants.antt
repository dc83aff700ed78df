use Rattle.run_queue.specs.Asking.{earlier_in}
use Rattle.run_queue.proofs.probe.known_after.Given as goal

abbrev pub ghosts-settled_by : goal.ghosts-settled_by
ghosts-settled_by g a = record { earlier = earlier_in a.known }
