use Rattle.std.proofs.Common.{◌∙◌, sym}
use Rattle.sub_disk.proofs.Faults.{reachable}
use Rattle.device_tests.proofs.sub_tests.in_folder.Goals as goal

pub in_ready-requires-clause-clear : goal.in_ready-requires-clause-clear
in_ready-requires-clause-clear g c κs within = λ told q rest is.
    reachable c.args.place.now (g.D.Disk.story c.make_ready.new.disk).held (c.in-Ok-make_ready.ensures.open told) q rest (sym c.in-Ok.ensures ∙ is)
