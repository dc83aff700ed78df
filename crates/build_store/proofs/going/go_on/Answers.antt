use Rattle.std.proofs.Common.{sym, subst, refl, inl, inr, Some, None}
use Rattle.outside_traits.specs.Passes.{Same}
use Rattle.outside_traits.proofs.Calls.{ends_passes}
use Rattle.outside_traits.proofs.Runs.{passes_none}
use Rattle.build_store.specs.declared.pieces.Reached.{Reached}
use Rattle.build_store.specs.declared.pieces.Reached.TheVariants.{Aside, Taken, Working, Staged, Kept, Stored, Stamped}
use Rattle.build_store.specs.OpenOnes.{IsOnOrDone, LeadsTo, Sweeps, items_of, put_by}
use Rattle.build_store.proofs.AsideRuns.{aside_sweeps, opens_entries, opens_publish, taken_sweeps}
use Rattle.build_store.proofs.EndingRuns.{new_of}
use Rattle.build_store.proofs.GoingRuns.{ending_keeps, finishes_publish, half_file, looking_keeps, on_reached, publishing_same, suits_reached}
use Rattle.build_store.proofs.Sweeps.{ending_sweeps, record_sweeps, stamp_sweeps_kept, stamp_sweeps_stored}
use Rattle.build_store.proofs.going.go_on.Goals as goal

pub work_on-requires-clause-on : goal.work_on-requires-clause-on
work_on-requires-clause-on g c told = λ f.
    let o = c.args.one.now in
    let w = c.requires.on told in
    half_file o w.0 f _ (g.D.Disk.story c.args.disk.now) (on_reached o o.reached (Working c.in-Working.done) (put_by o w.0) (g.D.Disk.story c.args.disk.now) c.in-Working.is w.1)

pub returns-in_err-work_on-in-Working-clause-publishing : goal.returns-in_err-work_on-in-Working-clause-publishing
returns-in_err-work_on-in-Working-clause-publishing g c told = λ f on. c.work_on.ensures.publishing told f

pub returns-in_ok-work_on-in-Working-clause-publishing : goal.returns-in_ok-work_on-in-Working-clause-publishing
returns-in_ok-work_on-in-Working-clause-publishing g c told = λ f on. c.work_on.ensures.publishing told f

pub rename_staged_record-requires-clause-at : goal.rename_staged_record-requires-clause-at
rename_staged_record-requires-clause-at g c told =
    let o = c.args.one.now in
    let w = c.requires.on told in
    (put_by o w.0, refl, on_reached o o.reached (Staged c.in-Staged.ticket) (put_by o w.0) (g.D.Disk.story c.args.disk.now) c.in-Staged.is w.1)

pub returns-in_err-next-in-Staged-clause-publishing : goal.returns-in_err-next-in-Staged-clause-publishing
returns-in_err-next-in-Staged-clause-publishing g c told = λ f on.
    let o = c.args.one.now in
    let at = on_reached o o.reached (Staged c.in-Staged.ticket) (put_by o f) (g.D.Disk.story c.args.disk.now) c.in-Staged.is on in
    finishes_publish (put_by o f) (g.met.D.Disk.sound c.args.disk.now told) at.1
    (c.rename_staged_record.ensures.finishes told (put_by o f) refl (new_of o.new (suits_reached o o.reached (Staged c.in-Staged.ticket) c.in-Staged.is c.requires.suits)) at)

pub returns-in_ok-next-in-Staged-clause-on : goal.returns-in_ok-next-in-Staged-clause-on
returns-in_ok-next-in-Staged-clause-on g c told = λ f file on.
    let o = c.args.one.now in
    c.in_ok-next-in-Staged.ensures.at told (put_by o f) refl (on_reached o o.reached (Staged c.in-Staged.ticket) (put_by o f) (g.D.Disk.story c.args.disk.now) c.in-Staged.is on)

pub returns-in_ok-next-in-Staged-clause-publishing : goal.returns-in_ok-next-in-Staged-clause-publishing
returns-in_ok-next-in-Staged-clause-publishing g c told = λ f on.
    let o = c.args.one.now in
    let at = on_reached o o.reached (Staged c.in-Staged.ticket) (put_by o f) (g.D.Disk.story c.args.disk.now) c.in-Staged.is on in
    finishes_publish (put_by o f) (g.met.D.Disk.sound c.args.disk.now told) at.1
    (c.rename_staged_record.ensures.finishes told (put_by o f) refl (new_of o.new (suits_reached o o.reached (Staged c.in-Staged.ticket) c.in-Staged.is c.requires.suits)) at)

pub put_stamp-requires-clause-at : goal.put_stamp-requires-clause-at
put_stamp-requires-clause-at g c told =
    let o = c.args.one.now in
    let w = c.requires.on told in
    (put_by o w.0, sym c.as_str.ensures, inl (on_reached o o.reached (Kept c.in-Kept.ticket) (put_by o w.0) (g.D.Disk.story c.args.disk.now) c.in-Kept.is w.1))

pub returns-in_err-next-in-Kept-clause-publishing : goal.returns-in_err-next-in-Kept-clause-publishing
returns-in_err-next-in-Kept-clause-publishing g c told = λ f on.
    let o = c.args.one.now in
    let at = on_reached o o.reached (Kept c.in-Kept.ticket) (put_by o f) (g.D.Disk.story c.args.disk.now) c.in-Kept.is on in
    c.put_stamp.ensures.publishing told (put_by o f) (sym c.as_str.ensures) (inl at)

pub returns-in_ok-next-in-Kept-clause-on : goal.returns-in_ok-next-in-Kept-clause-on
returns-in_ok-next-in-Kept-clause-on g c told = λ f file on.
    let o = c.args.one.now in
    c.in_ok-next-in-Kept.ensures.at told (put_by o f) (sym c.as_str.ensures) (inl (on_reached o o.reached (Kept c.in-Kept.ticket) (put_by o f) (g.D.Disk.story c.args.disk.now) c.in-Kept.is on))

pub returns-in_ok-next-in-Kept-clause-publishing : goal.returns-in_ok-next-in-Kept-clause-publishing
returns-in_ok-next-in-Kept-clause-publishing g c told = λ f on.
    let o = c.args.one.now in
    let at = on_reached o o.reached (Kept c.in-Kept.ticket) (put_by o f) (g.D.Disk.story c.args.disk.now) c.in-Kept.is on in
    c.put_stamp.ensures.publishing told (put_by o f) (sym c.as_str.ensures) (inl at)

pub put_stamp-requires-in-Stored-clause-at : goal.put_stamp-requires-in-Stored-clause-at
put_stamp-requires-in-Stored-clause-at g c told =
    let o = c.args.one.now in
    let w = c.requires.on told in
    (put_by o w.0, sym c.as_str-in-Stored.ensures, inr (on_reached o o.reached (Stored c.in-Stored.ticket) (put_by o w.0) (g.D.Disk.story c.args.disk.now) c.in-Stored.is w.1))

pub returns-in_err-next-in-Stored-clause-publishing : goal.returns-in_err-next-in-Stored-clause-publishing
returns-in_err-next-in-Stored-clause-publishing g c told = λ f on.
    let o = c.args.one.now in
    let at = on_reached o o.reached (Stored c.in-Stored.ticket) (put_by o f) (g.D.Disk.story c.args.disk.now) c.in-Stored.is on in
    c.put_stamp-in-Stored.ensures.publishing told (put_by o f) (sym c.as_str-in-Stored.ensures) (inr at)

pub returns-in_ok-next-in-Stored-clause-on : goal.returns-in_ok-next-in-Stored-clause-on
returns-in_ok-next-in-Stored-clause-on g c told = λ f file on.
    let o = c.args.one.now in
    c.in_ok-next-in-Stored.ensures.at told (put_by o f) (sym c.as_str-in-Stored.ensures) (inr (on_reached o o.reached (Stored c.in-Stored.ticket) (put_by o f) (g.D.Disk.story c.args.disk.now) c.in-Stored.is on))

pub returns-in_ok-next-in-Stored-clause-publishing : goal.returns-in_ok-next-in-Stored-clause-publishing
returns-in_ok-next-in-Stored-clause-publishing g c told = λ f on.
    let o = c.args.one.now in
    let at = on_reached o o.reached (Stored c.in-Stored.ticket) (put_by o f) (g.D.Disk.story c.args.disk.now) c.in-Stored.is on in
    c.put_stamp-in-Stored.ensures.publishing told (put_by o f) (sym c.as_str-in-Stored.ensures) (inr at)

pub returns-in_err-end_sync-in-Stamped-clause-publishing : goal.returns-in_err-end_sync-in-Stamped-clause-publishing
returns-in_err-end_sync-in-Stamped-clause-publishing g c told = λ f on.
    publishing_same (put_by c.args.one.now f) (ends_passes (g.met.D.Disk.sound c.args.disk.now told) (c.end_sync.ensures.told told))

pub returns-in_ok-end_sync-in-Stamped-clause-publishing : goal.returns-in_ok-end_sync-in-Stamped-clause-publishing
returns-in_ok-end_sync-in-Stamped-clause-publishing g c told = λ f on.
    publishing_same (put_by c.args.one.now f) (ends_passes (g.met.D.Disk.sound c.args.disk.now told) (c.end_sync.ensures.told told))

pub returns-in_ok-work_on-in-Working-clause-swept : goal.returns-in_ok-work_on-in-Working-clause-swept
returns-in_ok-work_on-in-Working-clause-swept g c told =
    subst (λ (r : Reached). Sweeps c.args.one.now r (Some c.in_ok-work_on-in-Working.field-0) (g.D.Disk.story c.args.disk.now).held (g.D.Disk.story c.work_on.new.disk).held) (sym c.in-Working.is) (c.in_ok-work_on-in-Working.ensures.swept told)

pub returns-in_ok-next-in-Staged-clause-swept : goal.returns-in_ok-next-in-Staged-clause-swept
returns-in_ok-next-in-Staged-clause-swept g c told =
    subst (λ (r : Reached). Sweeps c.args.one.now r (Some (Stored c.in_ok-next-in-Staged.next)) (g.D.Disk.story c.args.disk.now).held (g.D.Disk.story c.rename_staged_record.new.disk).held) (sym c.in-Staged.is)
    (record_sweeps c.args.one.now c.in-Staged.ticket c.in_ok-next-in-Staged.next (g.D.Disk.story c.args.disk.now).held (g.D.Disk.story c.rename_staged_record.new.disk).held (c.in_ok-next-in-Staged.ensures.moves told) (c.in_ok-next-in-Staged.ensures.swept told))

pub returns-in_ok-next-in-Kept-clause-swept : goal.returns-in_ok-next-in-Kept-clause-swept
returns-in_ok-next-in-Kept-clause-swept g c told =
    subst (λ (r : Reached). Sweeps c.args.one.now r (Some (Stamped c.in_ok-next-in-Kept.next)) (g.D.Disk.story c.args.disk.now).held (g.D.Disk.story c.put_stamp.new.disk).held) (sym c.in-Kept.is)
    (stamp_sweeps_kept c.args.one.now c.in-Kept.ticket c.in_ok-next-in-Kept.next (g.D.Disk.story c.args.disk.now).held (g.D.Disk.story c.put_stamp.new.disk).held (rw c.as_str.ensures at (c.in_ok-next-in-Kept.ensures.moves told)) (rw c.as_str.ensures at (c.in_ok-next-in-Kept.ensures.swept told)))

pub returns-in_ok-next-in-Stored-clause-swept : goal.returns-in_ok-next-in-Stored-clause-swept
returns-in_ok-next-in-Stored-clause-swept g c told =
    subst (λ (r : Reached). Sweeps c.args.one.now r (Some (Stamped c.in_ok-next-in-Stored.next)) (g.D.Disk.story c.args.disk.now).held (g.D.Disk.story c.put_stamp-in-Stored.new.disk).held) (sym c.in-Stored.is)
    (stamp_sweeps_stored c.args.one.now c.in-Stored.ticket c.in_ok-next-in-Stored.next (g.D.Disk.story c.args.disk.now).held (g.D.Disk.story c.put_stamp-in-Stored.new.disk).held (rw c.as_str-in-Stored.ensures at (c.in_ok-next-in-Stored.ensures.moves told)) (rw c.as_str-in-Stored.ensures at (c.in_ok-next-in-Stored.ensures.swept told)))

pub returns-in_ok-end_sync-in-Stamped-clause-swept : goal.returns-in_ok-end_sync-in-Stamped-clause-swept
returns-in_ok-end_sync-in-Stamped-clause-swept g c told =
    subst (λ (r : Reached). Sweeps c.args.one.now r None (g.D.Disk.story c.args.disk.now).held (g.D.Disk.story c.end_sync.new.self).held) (sym c.in-Stamped.is)
    (ending_sweeps c.args.one.now c.in-Stamped.ticket (g.D.Disk.story c.args.disk.now).held (g.D.Disk.story c.end_sync.new.self).held (ends_passes (g.met.D.Disk.sound c.args.disk.now told) (c.end_sync.ensures.told told)).held)

pub returns-in_err-work_on-in-Working-clause-keeps : goal.returns-in_err-work_on-in-Working-clause-keeps
returns-in_err-work_on-in-Working-clause-keeps g c told = λ f on.
    c.work_on.ensures.keeps told f

pub returns-in_err-next-in-Staged-clause-keeps : goal.returns-in_err-next-in-Staged-clause-keeps
returns-in_err-next-in-Staged-clause-keeps g c told = λ f on.
    let o = c.args.one.now in
    let at = on_reached o o.reached (Staged c.in-Staged.ticket) (put_by o f) (g.D.Disk.story c.args.disk.now) c.in-Staged.is on in
    ending_keeps (put_by o f) (c.rename_staged_record.ensures.finishes told (put_by o f) refl (new_of o.new (suits_reached o o.reached (Staged c.in-Staged.ticket) c.in-Staged.is c.requires.suits)) at)

pub returns-in_err-next-in-Kept-clause-keeps : goal.returns-in_err-next-in-Kept-clause-keeps
returns-in_err-next-in-Kept-clause-keeps g c told = λ f on.
    let o = c.args.one.now in
    let at = on_reached o o.reached (Kept c.in-Kept.ticket) (put_by o f) (g.D.Disk.story c.args.disk.now) c.in-Kept.is on in
    c.put_stamp.ensures.keeps told (put_by o f) (sym c.as_str.ensures) (inl at)

pub returns-in_err-next-in-Stored-clause-keeps : goal.returns-in_err-next-in-Stored-clause-keeps
returns-in_err-next-in-Stored-clause-keeps g c told = λ f on.
    let o = c.args.one.now in
    let at = on_reached o o.reached (Stored c.in-Stored.ticket) (put_by o f) (g.D.Disk.story c.args.disk.now) c.in-Stored.is on in
    c.put_stamp-in-Stored.ensures.keeps told (put_by o f) (sym c.as_str-in-Stored.ensures) (inr at)

pub returns-in_err-end_sync-in-Stamped-clause-keeps : goal.returns-in_err-end_sync-in-Stamped-clause-keeps
returns-in_err-end_sync-in-Stamped-clause-keeps g c told = λ f on.
    looking_keeps (put_by c.args.one.now f) (ends_passes (g.met.D.Disk.sound c.args.disk.now told) (c.end_sync.ensures.told told))

pub returns-in_ok-work_on-in-Working-clause-keeps : goal.returns-in_ok-work_on-in-Working-clause-keeps
returns-in_ok-work_on-in-Working-clause-keeps g c told = λ f on.
    c.work_on.ensures.keeps told f

pub returns-in_ok-next-in-Staged-clause-keeps : goal.returns-in_ok-next-in-Staged-clause-keeps
returns-in_ok-next-in-Staged-clause-keeps g c told = λ f on.
    let o = c.args.one.now in
    let at = on_reached o o.reached (Staged c.in-Staged.ticket) (put_by o f) (g.D.Disk.story c.args.disk.now) c.in-Staged.is on in
    ending_keeps (put_by o f) (c.rename_staged_record.ensures.finishes told (put_by o f) refl (new_of o.new (suits_reached o o.reached (Staged c.in-Staged.ticket) c.in-Staged.is c.requires.suits)) at)

pub returns-in_ok-next-in-Kept-clause-keeps : goal.returns-in_ok-next-in-Kept-clause-keeps
returns-in_ok-next-in-Kept-clause-keeps g c told = λ f on.
    let o = c.args.one.now in
    let at = on_reached o o.reached (Kept c.in-Kept.ticket) (put_by o f) (g.D.Disk.story c.args.disk.now) c.in-Kept.is on in
    c.put_stamp.ensures.keeps told (put_by o f) (sym c.as_str.ensures) (inl at)

pub returns-in_ok-next-in-Stored-clause-keeps : goal.returns-in_ok-next-in-Stored-clause-keeps
returns-in_ok-next-in-Stored-clause-keeps g c told = λ f on.
    let o = c.args.one.now in
    let at = on_reached o o.reached (Stored c.in-Stored.ticket) (put_by o f) (g.D.Disk.story c.args.disk.now) c.in-Stored.is on in
    c.put_stamp-in-Stored.ensures.keeps told (put_by o f) (sym c.as_str-in-Stored.ensures) (inr at)

pub returns-in_ok-end_sync-in-Stamped-clause-keeps : goal.returns-in_ok-end_sync-in-Stamped-clause-keeps
returns-in_ok-end_sync-in-Stamped-clause-keeps g c told = λ f on.
    looking_keeps (put_by c.args.one.now f) (ends_passes (g.met.D.Disk.sound c.args.disk.now told) (c.end_sync.ensures.told told))

-- ---- an old stamp was put aside

pub returns-in-Aside-clause-on : goal.returns-in-Aside-clause-on
returns-in-Aside-clause-on g c told = λ f file on.
    let o = c.args.one.now in
    on_reached o o.reached (Aside c.in-Aside.ticket) (put_by o f) (g.D.Disk.story c.args.disk.now) c.in-Aside.is on

pub returns-in-Aside-clause-swept : goal.returns-in-Aside-clause-swept
returns-in-Aside-clause-swept g c told =
    subst (λ (r : Reached). Sweeps c.args.one.now r (Some (Taken c.in-Aside.ticket)) (g.D.Disk.story c.args.disk.now).held (g.D.Disk.story c.args.disk.now).held) (sym c.in-Aside.is) (aside_sweeps c.args.one.now c.in-Aside.ticket (g.D.Disk.story c.args.disk.now).held)

pub returns-in-Aside-clause-keeps : goal.returns-in-Aside-clause-keeps
returns-in-Aside-clause-keeps g c told = λ f on. looking_keeps (put_by c.args.one.now f) (passes_none (g.D.Disk.story c.args.disk.now) Same (λ i. refl))

pub returns-in-Aside-clause-publishing : goal.returns-in-Aside-clause-publishing
returns-in-Aside-clause-publishing g c told = λ f on. publishing_same (put_by c.args.one.now f) (passes_none (g.D.Disk.story c.args.disk.now) Same (λ i. refl))

pub take_on-requires-clause-at : goal.take_on-requires-clause-at
take_on-requires-clause-at g c told =
    let o = c.args.one.now in
    let w = c.requires.on told in
    (w.0, on_reached o o.reached (Taken c.in-Taken.ticket) (put_by o w.0) (g.D.Disk.story c.args.disk.now) c.in-Taken.is w.1)

pub returns-in_ok-take_on-in-Taken-clause-leads : goal.returns-in_ok-take_on-in-Taken-clause-leads
returns-in_ok-take_on-in-Taken-clause-leads g c =
    let o = c.args.one.now in
    subst (λ (r : Reached). LeadsTo o r (Some c.in_ok-take_on-in-Taken.field-0)) (sym c.in-Taken.is)
    (subst (λ (n : Reached). LeadsTo o (Taken c.in-Taken.ticket) (Some n)) (sym c.in_ok-take_on-in-Taken.ensures.next) refl)

pub returns-in_ok-take_on-in-Taken-clause-on : goal.returns-in_ok-take_on-in-Taken-clause-on
returns-in_ok-take_on-in-Taken-clause-on g c told = λ f file on.
    let o = c.args.one.now in
    subst (λ (n : Reached). IsOnOrDone (put_by o f) (items_of o) (Some n) (g.D.Disk.story c.take_on.new.disk)) (sym c.in_ok-take_on-in-Taken.ensures.next)
    (c.in_ok-take_on-in-Taken.ensures.half told f (on_reached o o.reached (Taken c.in-Taken.ticket) (put_by o f) (g.D.Disk.story c.args.disk.now) c.in-Taken.is on))

pub returns-in_ok-take_on-in-Taken-clause-swept : goal.returns-in_ok-take_on-in-Taken-clause-swept
returns-in_ok-take_on-in-Taken-clause-swept g c told =
    let o = c.args.one.now in
    let w = c.requires.on told in
    let at = on_reached o o.reached (Taken c.in-Taken.ticket) (put_by o w.0) (g.D.Disk.story c.args.disk.now) c.in-Taken.is w.1 in
    subst (λ (r : Reached). Sweeps o r (Some c.in_ok-take_on-in-Taken.field-0) (g.D.Disk.story c.args.disk.now).held (g.D.Disk.story c.take_on.new.disk).held) (sym c.in-Taken.is)
    (subst (λ (n : Reached). Sweeps o (Taken c.in-Taken.ticket) (Some n) (g.D.Disk.story c.args.disk.now).held (g.D.Disk.story c.take_on.new.disk).held) (sym c.in_ok-take_on-in-Taken.ensures.next)
    (taken_sweeps o w.0 c.in-Taken.ticket (g.D.Disk.story c.args.disk.now).held (g.D.Disk.story c.args.disk.now).held (g.D.Disk.story c.take_on.new.disk).held (c.take_on.ensures.opens told w.0 at).held (c.in_ok-take_on-in-Taken.ensures.swept told)))

pub returns-in_err-take_on-in-Taken-clause-keeps : goal.returns-in_err-take_on-in-Taken-clause-keeps
returns-in_err-take_on-in-Taken-clause-keeps g c told = λ f on.
    let o = c.args.one.now in
    opens_entries (put_by o f) (c.take_on.ensures.opens told f (on_reached o o.reached (Taken c.in-Taken.ticket) (put_by o f) (g.D.Disk.story c.args.disk.now) c.in-Taken.is on))

pub returns-in_err-take_on-in-Taken-clause-publishing : goal.returns-in_err-take_on-in-Taken-clause-publishing
returns-in_err-take_on-in-Taken-clause-publishing g c told = λ f on.
    let o = c.args.one.now in
    opens_publish (put_by o f) (c.take_on.ensures.opens told f (on_reached o o.reached (Taken c.in-Taken.ticket) (put_by o f) (g.D.Disk.story c.args.disk.now) c.in-Taken.is on))

pub returns-in_ok-take_on-in-Taken-clause-keeps : goal.returns-in_ok-take_on-in-Taken-clause-keeps
returns-in_ok-take_on-in-Taken-clause-keeps g c told = λ f on.
    let o = c.args.one.now in
    opens_entries (put_by o f) (c.take_on.ensures.opens told f (on_reached o o.reached (Taken c.in-Taken.ticket) (put_by o f) (g.D.Disk.story c.args.disk.now) c.in-Taken.is on))

pub returns-in_ok-take_on-in-Taken-clause-publishing : goal.returns-in_ok-take_on-in-Taken-clause-publishing
returns-in_ok-take_on-in-Taken-clause-publishing g c told = λ f on.
    let o = c.args.one.now in
    opens_publish (put_by o f) (c.take_on.ensures.opens told f (on_reached o o.reached (Taken c.in-Taken.ticket) (put_by o f) (g.D.Disk.story c.args.disk.now) c.in-Taken.is on))
