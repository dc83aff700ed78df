use Rattle.config_build.proofs.upgrading.upgrade_in.Given as goal

-- the folder's paths begin with the prefix, and the whole disk goes on from where it stands
abbrev pub ghosts-upgrade_below : goal.ghosts-upgrade_below
ghosts-upgrade_below g a = record {
  prefix = a.prefix;
  start = g.D.Disk.story a.disk;
  faults = g.D.Disk.faults a.disk;
}
