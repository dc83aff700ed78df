use Rattle.std.proofs.Common.{◌≡◌, ◌≤◌, ◌+◌, drop}
use Rattle.setscene_plan.specs.Asked.{AsksAll, SameMissing, members_among}
use Rattle.setscene_plan.proofs.asking.ask_again.Given as goal

abbrev pub invariant-loop-place : goal.invariant-loop-place
invariant-loop-place g l = record {
  all : AsksAll (g.P.Probe.says l.fn.probe) (g.P.Probe.view l.fn.probe) l.unihashes l.need l.changed l.place l.fn.avail l.avail l.told.items;
  missing : SameMissing l.fn.avail l.avail;
  bound : g.P.Probe.asked l.probe ≤ g.P.Probe.asked l.fn.probe + members_among l.need (drop l.place l.changed);
  same : g.P.Probe.view l.probe ≡ g.P.Probe.view l.fn.probe;
  stays : g.P.Probe.Stays l.fn.probe l.probe;
  still : g.P.Probe.faults l.probe ≡ g.P.Probe.faults l.fn.probe;
}
