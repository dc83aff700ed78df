use Rattle.std.proofs.Common.{sym, subst, arith, ℕ, List, length, ◌<◌, ◌≤◌}
use Rattle.std.specs.Prelude.{All, Contains}
use Rattle.store_keep.specs.Keep.{IsMarked, LeadsTo, here}
use Rattle.store_keep.specs.Passes.{IsTrail}
use Rattle.store_keep.proofs.Passing.{within_marks}
use Rattle.store_keep.proofs.Trails.{done_enough, done_more, led_further, longer_length, trail_start}
use Rattle.store_keep.proofs.walking.marked_from.Goals as goal
use Rattle.store_keep.proofs.walking.marked_from.Goals.{then-loop-next-test+else-len-room, else-loop-next-test}

pub loop-next-init : goal.loop-next-init
loop-next-init c = record {
  trail = c.in_ok-mark_new.ensures.trail c.args.edges.now c.args.marks.now.items c.args.start
      (subst (λ (l : List ℕ). IsTrail c.args.edges.now c.args.marks.now.items c.args.start l c.args.marks.now.items) (sym c.new-trail.ensures.items) (trail_start c.args.edges.now c.args.marks.now.items c.args.start))
      (here c.args.start);
  start = c.in_ok-mark_new.ensures.marked;
  done = λ j d w less. absurd (omega (arith, less));
  within = omega arith;
}

pub names_of-requires : goal.names_of-requires
names_of-requires c =
    let lt : c.loop-next.next < length c.loop-next.trail.items = omega (arith, c.loop-next-test.true, c.len.ensures, c.loop-next.trail.ok.0) in
    let within = c.loop-next.invariant.trail.within c.index-place.result.now (c.loop-next.next, lt, sym c.index-place.ensures) in
    omega (arith, within, c.requires.long)

pub mark_all_new-requires : goal.mark_all_new-requires
mark_all_new-requires c =
    let lt : c.loop-next.next < length c.loop-next.trail.items = omega (arith, c.loop-next-test.true, c.len.ensures, c.loop-next.trail.ok.0) in
    let record_at : ℕ = c.index-place.result.now in
    let within = c.loop-next.invariant.trail.within record_at (c.loop-next.next, lt, sym c.index-place.ensures) in
    let inside : record_at < length c.args.edges.now = omega (arith, within, c.requires.long) in
    let is = c.names_of.ensures in
    within_marks c.args.edges.now record_at c.names_of.result.now c.loop-next.marks.items c.args.marks.now.items c.requires.earlier is inside c.loop-next.invariant.trail.long c.requires.long

pub loop-next-preserved : goal.loop-next-preserved
loop-next-preserved c =
    let lt : c.loop-next.next < length c.loop-next.trail.items = omega (arith, c.loop-next-test.true, c.len.ensures, c.loop-next.trail.ok.0) in
    let record_at : ℕ = c.index-place.result.now in
    let on : Contains c.loop-next.trail.items record_at = (c.loop-next.next, lt, sym c.index-place.ensures) in
    let within = c.loop-next.invariant.trail.within record_at on in
    let inside : record_at < length c.args.edges.now = omega (arith, within, c.requires.long) in
    let is = c.names_of.ensures in
    let e = c.in_ok-mark_all_new.ensures in
    record {
      trail = e.trail c.args.edges.now c.args.marks.now.items c.args.start c.loop-next.invariant.trail
          (subst (All (LeadsTo c.args.edges.now c.args.start)) (sym is) (led_further c.args.edges.now c.args.start record_at (c.loop-next.invariant.trail.led record_at on)));
      start = e.grows.kept c.args.start c.loop-next.invariant.start;
      done = done_more c.args.edges.now c.loop-next.trail.items c.mark_all_new.new.trail.items c.loop-next.marks.items c.mark_all_new.new.marks.items c.loop-next.next record_at lt c.index-place.ensures c.loop-next.invariant.done e.grows
          (subst (All (IsMarked c.mark_all_new.new.marks.items)) is e.marked);
      within = longer_length c.loop-next.trail.items c.mark_all_new.new.trail.items c.loop-next.marks.items c.mark_all_new.new.marks.items c.loop-next.next lt e.grows;
    }

pub returns-clause-done : goal.returns-clause-done
returns-clause-done c =
    λ few. done_enough c.args.edges.now c.loop-next.trail.items c.loop-next.next c.loop-next.marks.items (all few) c.loop-next.invariant.done
  where
    all : length c.loop-next.trail.items ≤ c.args.room → length c.loop-next.trail.items ≤ c.loop-next.next
    all few = elim c.loop-next-test.branch [
      | then-loop-next-test+else-len-room w ↦ absurd (omega (arith, few, w.if-len-room.false, w.len-in-loop-next.ensures, c.loop-next.trail.ok.0))
      | else-loop-next-test w ↦ omega (arith, w.loop-next-test.false, c.len.ensures, c.loop-next.trail.ok.0)
    ]
