use Rattle.std.proofs.Common.{◌≡◌, ◌∙◌, sym, subst, arith, ap, ℕ, false, List, get_or, length, ◌≤◌, ◌-◌}
use Rattle.std.specs.Prelude.{Contains}
use Rattle.store_keep.specs.Keep.{AreClosed}
use Rattle.store_keep.specs.Passes.{IsTakenBack}
use Rattle.store_keep.specs.Tries.{marked_in}
use Rattle.store_keep.proofs.Trails.{all_within, back_end, closed_now, kept_whole, passed_over}
use Rattle.store_keep.proofs.keeping.try_new.Goals as goal

pub take_back-requires : goal.take_back-requires
take_back-requires c = all_within c.args.edges.now c.args.kept.now.marks.items c.args.place c.in_ok-trail.trail.items c.deref.result.now c.marked_from.new.marks.items c.deref.ensures.value c.in_ok-trail.ensures.trail

-- the marks are those of before
taken_back : (c : goal.After-drop-trail) → c.take_back.new.marks.items ≡ c.args.kept.now.marks.items
taken_back c =
    let old = c.args.kept.now.marks.items in
    let t = c.in_ok-trail.ensures.trail in
    let is = c.deref.ensures.value in
    let back = c.take_back.ensures old t.long t.kept (subst (λ (l : List ℕ). (v : ℕ) → Contains l v → get_or old v false ≡ false) (sym is) t.new) in
    back_end c.args.edges.now old c.marked_from.new.marks.items c.take_back.new.marks.items c.args.place c.in_ok-trail.trail.items t
    (subst (λ (l : List ℕ). IsTakenBack old c.marked_from.new.marks.items l (length l) c.take_back.new.marks.items) is back)

pub returns-then-len-room-clause-tried : goal.returns-then-len-room-clause-tried
returns-then-len-room-clause-tried c =
    passed_over c.args.edges.now c.args.kept.now.marks.items c.marked_from.new.marks.items c.take_back.new.marks.items c.args.limit c.args.place c.in_ok-trail.trail.items c.requires.earlier c.requires.long
    (omega (arith, c.requires.within, c.requires.long)) c.in_ok-trail.ensures.trail c.in_ok-trail.ensures.start
    (omega (arith, c.if-len-room.true, c.len.ensures, c.in_ok-trail.trail.ok.0, c.requires.count, c.requires.fewer)) (taken_back c)

pub returns-then-len-room-clause-count : goal.returns-then-len-room-clause-count
returns-then-len-room-clause-count c = c.requires.count ∙ ap marked_in (sym (taken_back c))

pub returns-then-len-room-clause-closed : goal.returns-then-len-room-clause-closed
returns-then-len-room-clause-closed c = subst (AreClosed c.args.edges.now) (sym (taken_back c)) c.requires.closed

pub returns-clause-tried : goal.returns-clause-tried
returns-clause-tried c =
    let few : length c.in_ok-trail.trail.items ≤ c.args.limit - c.args.kept.now.count = omega (arith, c.if-len-room.false, c.len.ensures, c.in_ok-trail.trail.ok.0) in
    kept_whole c.args.edges.now c.args.kept.now.marks.items c.marked_from.new.marks.items c.args.limit c.args.place c.in_ok-trail.trail.items (omega (arith, c.requires.within, c.requires.long))
    c.in_ok-trail.ensures.trail c.in_ok-trail.ensures.start c.requires.closed (c.in_ok-trail.ensures.done few) (omega (arith, few, c.requires.count, c.requires.fewer))

pub returns-clause-closed : goal.returns-clause-closed
returns-clause-closed c =
    let few : length c.in_ok-trail.trail.items ≤ c.args.limit - c.args.kept.now.count = omega (arith, c.if-len-room.false, c.len.ensures, c.in_ok-trail.trail.ok.0) in
    closed_now c.args.edges.now c.args.kept.now.marks.items c.args.place c.in_ok-trail.trail.items c.marked_from.new.marks.items c.in_ok-trail.ensures.trail (omega (arith, c.requires.within, c.requires.long)) c.in_ok-trail.ensures.start
    c.requires.closed (c.in_ok-trail.ensures.done few)
