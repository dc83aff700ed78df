use Rattle.std.proofs.Common.{sym, subst, List}
use Rattle.outside_traits.proofs.Images.{held-image}
use Rattle.build_store.specs.declared.pieces.OpenPublication.{OpenPublication}
use Rattle.build_store.specs.Standing.{AreOn, AreOpen, IsTidy, KnowsOpen}
use Rattle.build_store.proofs.Invariant.{none_stand, none_tidy}
use Rattle.build_store.proofs.KnownKeys.{rows_held}
use Rattle.build_store.proofs.store.store_of.Goals as goal

pub invariant_of-result : goal.invariant_of-result
invariant_of-result g c =
    let rows = c.args.index in
    let story = g.D.Disk.story c.args.disk in
    let none = sym c.new-in-Ok.ensures.items in (
      c.requires.rows,
      λ told. c.requires.keeps told,
      subst (λ (l : List OpenPublication). AreOpen rows l) none (none_stand rows),
      λ told. subst (λ (l : List OpenPublication). AreOn rows story l) none tt,
      λ told faultless. subst (λ (l : List OpenPublication). IsTidy l story) none (none_tidy story (c.requires.clean told) (c.requires.durable told)),
      c.in-Ok.ensures.knows,
      subst (λ (l : List OpenPublication). KnowsOpen c.in-Ok.keys l) none tt,
      λ told. rows_held c.in-Ok.keys rows story.held c.in-Ok.ensures.of ((c.requires.keeps told).stored story.held (held-image story (g.met.D.Disk.sound c.args.disk told))),
    )
