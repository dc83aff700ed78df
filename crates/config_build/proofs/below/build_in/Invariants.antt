use Rattle.config_build.proofs.below.build_in.Given as goal

-- the folder's paths begin with the prefix, and the whole disk goes on from where it stands
abbrev pub ghosts-build_below : goal.ghosts-build_below
ghosts-build_below g a = record {
  prefix = a.prefix;
  start = g.D.Disk.story a.disk;
  faults = g.D.Disk.faults a.disk;
}
