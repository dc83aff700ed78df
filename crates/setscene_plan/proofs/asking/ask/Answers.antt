use Rattle.setscene_plan.proofs.Renaming.{asked_of}
use Rattle.setscene_plan.proofs.asking.ask.Goals as goal

pub avail-requires-clause-sig : goal.avail-requires-clause-sig
avail-requires-clause-sig g c =
    asked_of (g.P.Probe.view c.args.probe.now) c.args.plan.now c.args.unihashes.now c.args.task c.in_ok-sig.sig c.requires.plan c.requires.ordered c.requires.task c.requires.over c.in_ok-sig.ensures
