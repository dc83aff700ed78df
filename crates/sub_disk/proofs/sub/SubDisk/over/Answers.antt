use Rattle.std.proofs.Common.{◌-◌, ◌^◌, ◌∙◌, ap, min, sym, subst, false}
use Rattle.outside_traits.specs.Story.{IsSound, moment}
use Rattle.sub_disk.specs.Sub.{IsKept, sub_story}
use Rattle.sub_disk.proofs.Faults.{counts_start, place_is}
use Rattle.sub_disk.proofs.Folder.{kept_open, sub_start}
use Rattle.sub_disk.proofs.sub.SubDisk.over.Goals as goal

pub invariant_of-result : goal.invariant_of-result
invariant_of-result g c = record {
  named = c.requires.named;
  place = place_is g.K.Start.prefix c.requires.place;
  room = c.requires.room;
  begun = λ told. c.moment-begin.ensures told ∙ ap (λ s. min (moment s) (2 ^ 64 - 1)) (c.requires.start told);
  counts = counts_start g.K.Start.faults (g.D.Disk.faults c.args.disk) c.requires.counted;
  kept = λ told.
      let is = c.requires.start told in
      let sub = sub_start g.K.Start.prefix g.K.Start.start (c.requires.settled told) (c.requires.clear told) in
      subst (IsKept g.K.Start.prefix 0 false g.K.Start.start) (sym is)
      (kept_open g.K.Start.prefix (place_is g.K.Start.prefix c.requires.place) 0 g.K.Start.start g.K.Start.start sub (subst IsSound is (g.met.D.Disk.sound c.args.disk told)));
}

pub returns-clause-fresh : goal.returns-clause-fresh
returns-clause-fresh g c = λ told. ap (sub_story g.K.Start.prefix (moment g.K.Start.start) 0) (c.requires.start told)
