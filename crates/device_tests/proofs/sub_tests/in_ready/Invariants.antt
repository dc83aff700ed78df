use Rattle.device_tests.proofs.sub_tests.in_ready.Given as goal

abbrev pub ghosts-part : goal.ghosts-part
ghosts-part g a = record { prefix = a.prefix; start = g.D.Disk.story a.disk; faults = g.D.Disk.faults a.disk }
