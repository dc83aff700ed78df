use Rattle.std.proofs.Common.{sym, ap, subst, refl, List}
use Rattle.outside_traits.specs.Passes.{EachNow}
use Rattle.meta_model.specs.CleanBuild.{Entries}
use Rattle.store_opening.specs.Sound.{IsKept}
use Rattle.build_store.specs.Publication.{IsPublished, publication}
use Rattle.store_model.specs.declared.signature.EquivRow.{EquivRow}
use Rattle.build_store.specs.declared.pieces.OpenPublication.{OpenPublication}
use Rattle.build_store.specs.Keys.{KnowsRows}
use Rattle.build_store.proofs.KnownSteps.{held_at, known_next, known_rows}
use Rattle.build_store.specs.Standing.{AreOn, AreOpen, HoldsOpen, KnowsOpen}
use Rattle.build_store.specs.View.{open_in, opened_at, signed_as}
use Rattle.build_store.proofs.Stepped.{Here, done_on, done_stand, done_tidy, going, gone_closes, gone_known, gone_on, gone_others, gone_stand, here, here_brief, here_entries, here_of, here_on, here_open, here_run, here_tree, left_without, next_on, next_stand, next_tidy, next_view, nothing_landed}
use Rattle.build_store.proofs.tasks.step_at.Goals as goal

pub step_task-requires-clause-of : goal.step_task-requires-clause-of
step_task-requires-clause-of g c =
    let s = signed_as c.args.shared c.args.task.now c.args.sig.now in
    let rows = c.args.index.now in
    let xs = c.args.open_ones.now.items in
    let x = c.index.result.now in
    let h : Here s xs c.args.place x = here s xs c.args.place c.requires.stands x c.index.ensures in
    let stand = c.requires.stand in
    here_of rows s c.requires.spells c.requires.named xs c.args.place x h stand c.requires.rows

pub step_task-requires-clause-on : goal.step_task-requires-clause-on
step_task-requires-clause-on g c told =
    let s = signed_as c.args.shared c.args.task.now c.args.sig.now in
    let rows = c.args.index.now in
    let xs = c.args.open_ones.now.items in
    let x = c.index.result.now in
    let h : Here s xs c.args.place x = here s xs c.args.place c.requires.stands x c.index.ensures in
    let stand = c.requires.stand in
    here_on rows s c.requires.spells c.requires.named xs c.args.place x h stand c.requires.rows (g.D.Disk.story c.args.disk.now) (c.requires.on told)

pub returns-in-Ok-Some-clause-steps : goal.returns-in-Ok-Some-clause-steps
returns-in-Ok-Some-clause-steps g c keys faultless =
    let s = signed_as c.args.shared c.args.task.now c.args.sig.now in
    let rows = c.args.index.now in
    let xs = c.args.open_ones.now.items in
    let x = c.index.result.now in
    let h : Here s xs c.args.place x = here s xs c.args.place c.requires.stands x c.index.ensures in
    let stand = c.requires.stand in
    let ys = c.lead_on.new.open_ones.items in
    let are = c.lead_on.ensures h.before x h.after h.is h.place_is in
    let of = rw c.in-Ok-Some.field-0-is at c.in-Ok-Some.ensures.of in
    going _ _ s c.step_of.result c.step_of.ensures (record {
      tree = x.tree;
      was_open = here_open rows s c.requires.spells c.requires.named xs c.args.place x h stand c.requires.rows;
      books = record { rows = refl; keys = refl; kept = refl; opened = next_view rows s c.requires.spells c.requires.named xs c.args.place x h stand c.requires.rows c.in-Ok-Some.next ys are; faultless = refl };
    })

pub returns-in-Ok-Some-clause-published : goal.returns-in-Ok-Some-clause-published
returns-in-Ok-Some-clause-published g c told =
    let s = signed_as c.args.shared c.args.task.now c.args.sig.now in
    let rows = c.args.index.now in
    let xs = c.args.open_ones.now.items in
    let x = c.index.result.now in
    let h : Here s xs c.args.place x = here s xs c.args.place c.requires.stands x c.index.ensures in
    let stand = c.requires.stand in
    nothing_landed (g.D.Disk.story c.step_task.new.disk) rows (open_in xs) s c.step_of.result c.step_of.ensures

pub returns-in-Ok-Some-clause-others : goal.returns-in-Ok-Some-clause-others
returns-in-Ok-Some-clause-others g c f ne =
    let s = signed_as c.args.shared c.args.task.now c.args.sig.now in
    let rows = c.args.index.now in
    let xs = c.args.open_ones.now.items in
    let x = c.index.result.now in
    let h : Here s xs c.args.place x = here s xs c.args.place c.requires.stands x c.index.ensures in
    let stand = c.requires.stand in
    let ys = c.lead_on.new.open_ones.items in
    let are = c.lead_on.ensures h.before x h.after h.is h.place_is in
    let of = rw c.in-Ok-Some.field-0-is at c.in-Ok-Some.ensures.of in
    ap (λ l. opened_at l f) (next_view rows s c.requires.spells c.requires.named xs c.args.place x h stand c.requires.rows c.in-Ok-Some.next ys are)

pub returns-in-Ok-Some-clause-was_open : goal.returns-in-Ok-Some-clause-was_open
returns-in-Ok-Some-clause-was_open g c =
    let s = signed_as c.args.shared c.args.task.now c.args.sig.now in
    let rows = c.args.index.now in
    let xs = c.args.open_ones.now.items in
    let x = c.index.result.now in
    let h : Here s xs c.args.place x = here s xs c.args.place c.requires.stands x c.index.ensures in
    let stand = c.requires.stand in
    (x.tree, here_open rows s c.requires.spells c.requires.named xs c.args.place x h stand c.requires.rows)

pub returns-in-Ok-Some-clause-publishing : goal.returns-in-Ok-Some-clause-publishing
returns-in-Ok-Some-clause-publishing g c told tree at =
    let s = signed_as c.args.shared c.args.task.now c.args.sig.now in
    let rows = c.args.index.now in
    let xs = c.args.open_ones.now.items in
    let x = c.index.result.now in
    let h : Here s xs c.args.place x = here s xs c.args.place c.requires.stands x c.index.ensures in
    let stand = c.requires.stand in
    here_run rows s c.requires.spells c.requires.named xs c.args.place x h stand c.requires.rows (g.D.Disk.story c.args.disk.now) (g.D.Disk.story c.step_task.new.disk) (c.step_task.ensures.publishing told) tree at

pub returns-in-Ok-Some-clause-stand : goal.returns-in-Ok-Some-clause-stand
returns-in-Ok-Some-clause-stand g c =
    let s = signed_as c.args.shared c.args.task.now c.args.sig.now in
    let rows = c.args.index.now in
    let xs = c.args.open_ones.now.items in
    let x = c.index.result.now in
    let h : Here s xs c.args.place x = here s xs c.args.place c.requires.stands x c.index.ensures in
    let stand = c.requires.stand in
    let ys = c.lead_on.new.open_ones.items in
    let are = c.lead_on.ensures h.before x h.after h.is h.place_is in
    let of = rw c.in-Ok-Some.field-0-is at c.in-Ok-Some.ensures.of in
    next_stand rows s c.requires.spells c.requires.named xs c.args.place x h stand c.requires.rows c.in-Ok-Some.next ys are of

pub returns-in-Ok-Some-clause-on : goal.returns-in-Ok-Some-clause-on
returns-in-Ok-Some-clause-on g c told =
    let s = signed_as c.args.shared c.args.task.now c.args.sig.now in
    let rows = c.args.index.now in
    let xs = c.args.open_ones.now.items in
    let x = c.index.result.now in
    let h : Here s xs c.args.place x = here s xs c.args.place c.requires.stands x c.index.ensures in
    let stand = c.requires.stand in
    let ys = c.lead_on.new.open_ones.items in
    let are = c.lead_on.ensures h.before x h.after h.is h.place_is in
    let of = rw c.in-Ok-Some.field-0-is at c.in-Ok-Some.ensures.of in
    next_on rows s c.requires.spells c.requires.named xs c.args.place x h stand c.requires.rows c.in-Ok-Some.next ys are of (g.D.Disk.story c.args.disk.now) (g.D.Disk.story c.step_task.new.disk) (g.met.D.Disk.sound c.args.disk.now told) (c.step_task.ensures.publishing told) (c.requires.on told) (rw c.in-Ok-Some.field-0-is at (c.in-Ok-Some.ensures.on told))

pub returns-in-Ok-Some-clause-tidy : goal.returns-in-Ok-Some-clause-tidy
returns-in-Ok-Some-clause-tidy g c told was =
    let s = signed_as c.args.shared c.args.task.now c.args.sig.now in
    let rows = c.args.index.now in
    let xs = c.args.open_ones.now.items in
    let x = c.index.result.now in
    let h : Here s xs c.args.place x = here s xs c.args.place c.requires.stands x c.index.ensures in
    let stand = c.requires.stand in
    let ys = c.lead_on.new.open_ones.items in
    let are = c.lead_on.ensures h.before x h.after h.is h.place_is in
    let of = rw c.in-Ok-Some.field-0-is at c.in-Ok-Some.ensures.of in
    next_tidy rows s c.requires.spells c.requires.named xs c.args.place x h stand c.requires.rows c.in-Ok-Some.next ys are (g.D.Disk.story c.args.disk.now) (g.D.Disk.story c.step_task.new.disk) (c.step_task.ensures.publishing told) (rw c.in-Ok-Some.field-0-is at (c.in-Ok-Some.ensures.swept told)) was

pub close_task-requires-clause-of : goal.close_task-requires-clause-of
close_task-requires-clause-of g c =
    let s = signed_as c.args.shared c.args.task.now c.args.sig.now in
    let rows = c.args.index.now in
    let xs = c.args.open_ones.now.items in
    let x = c.index.result.now in
    let h : Here s xs c.args.place x = here s xs c.args.place c.requires.stands x c.index.ensures in
    let stand = c.requires.stand in
    let y = c.remove-one.result in
    let k : Here s xs c.args.place y = here s xs c.args.place c.requires.stands y c.remove-one.ensures.value in
    here_of rows s c.requires.spells c.requires.named xs c.args.place y k stand c.requires.rows

pub returns-in_ok-close_task-in-Ok-None-clause-steps : goal.returns-in_ok-close_task-in-Ok-None-clause-steps
returns-in_ok-close_task-in-Ok-None-clause-steps g c keys faultless =
    let s = signed_as c.args.shared c.args.task.now c.args.sig.now in
    let rows = c.args.index.now in
    let xs = c.args.open_ones.now.items in
    let x = c.index.result.now in
    let h : Here s xs c.args.place x = here s xs c.args.place c.requires.stands x c.index.ensures in
    let stand = c.requires.stand in
    let y = c.remove-one.result in
    let k : Here s xs c.args.place y = here s xs c.args.place c.requires.stands y c.remove-one.ensures.value in
    let ys = c.remove-one.new.self.items in
    let are = left_without xs h.before x h.after c.args.place h.is h.place_is ys c.remove-one.ensures.by_index.2 in
    let are_k = left_without xs k.before y k.after c.args.place k.is k.place_is ys c.remove-one.ensures.by_index.2 in
    record {
      tree = y.tree;
      was_open = here_open rows s c.requires.spells c.requires.named xs c.args.place y k stand c.requires.rows;
      unihash_is = c.in_ok-close_task-in-Ok-None.ensures.unihash;
      rows = c.in_ok-close_task-in-Ok-None.ensures.rows;
      kept = c.in_ok-close_task-in-Ok-None.ensures.kept;
      keys = refl;
      opened = gone_closes rows s c.requires.spells c.requires.named xs c.args.place y k stand c.requires.rows ys are_k;
      faultless = refl;
      agrees = (here_of rows s c.requires.spells c.requires.named xs c.args.place y k stand c.requires.rows).agrees;
    }

pub returns-in_ok-close_task-in-Ok-None-clause-published : goal.returns-in_ok-close_task-in-Ok-None-clause-published
returns-in_ok-close_task-in-Ok-None-clause-published g c told tree at =
    let s = signed_as c.args.shared c.args.task.now c.args.sig.now in
    let rows = c.args.index.now in
    let xs = c.args.open_ones.now.items in
    let x = c.index.result.now in
    let h : Here s xs c.args.place x = here s xs c.args.place c.requires.stands x c.index.ensures in
    let stand = c.requires.stand in
    let published : EachNow (g.D.Disk.story c.step_task.new.disk) (IsPublished (publication rows s x.tree)) = rw c.in-Ok-None.field-0-is at (c.in-Ok-None.ensures.on told) in
    subst (λ (t : Entries). EachNow (g.D.Disk.story c.step_task.new.disk) (IsPublished (publication rows s t))) (here_tree rows s c.requires.spells c.requires.named xs c.args.place x h stand c.requires.rows tree at) published

pub returns-in_ok-close_task-in-Ok-None-clause-others : goal.returns-in_ok-close_task-in-Ok-None-clause-others
returns-in_ok-close_task-in-Ok-None-clause-others g c f ne =
    let s = signed_as c.args.shared c.args.task.now c.args.sig.now in
    let rows = c.args.index.now in
    let xs = c.args.open_ones.now.items in
    let x = c.index.result.now in
    let h : Here s xs c.args.place x = here s xs c.args.place c.requires.stands x c.index.ensures in
    let stand = c.requires.stand in
    let y = c.remove-one.result in
    let k : Here s xs c.args.place y = here s xs c.args.place c.requires.stands y c.remove-one.ensures.value in
    let ys = c.remove-one.new.self.items in
    let are = left_without xs h.before x h.after c.args.place h.is h.place_is ys c.remove-one.ensures.by_index.2 in
    let are_k = left_without xs k.before y k.after c.args.place k.is k.place_is ys c.remove-one.ensures.by_index.2 in
    gone_others rows s c.requires.spells c.requires.named xs c.args.place x h stand c.requires.rows ys are f ne

pub returns-in_ok-close_task-in-Ok-None-clause-was_open : goal.returns-in_ok-close_task-in-Ok-None-clause-was_open
returns-in_ok-close_task-in-Ok-None-clause-was_open g c =
    let s = signed_as c.args.shared c.args.task.now c.args.sig.now in
    let rows = c.args.index.now in
    let xs = c.args.open_ones.now.items in
    let x = c.index.result.now in
    let h : Here s xs c.args.place x = here s xs c.args.place c.requires.stands x c.index.ensures in
    let stand = c.requires.stand in
    (x.tree, here_open rows s c.requires.spells c.requires.named xs c.args.place x h stand c.requires.rows)

pub returns-in_ok-close_task-in-Ok-None-clause-publishing : goal.returns-in_ok-close_task-in-Ok-None-clause-publishing
returns-in_ok-close_task-in-Ok-None-clause-publishing g c told tree at =
    let s = signed_as c.args.shared c.args.task.now c.args.sig.now in
    let rows = c.args.index.now in
    let xs = c.args.open_ones.now.items in
    let x = c.index.result.now in
    let h : Here s xs c.args.place x = here s xs c.args.place c.requires.stands x c.index.ensures in
    let stand = c.requires.stand in
    here_run rows s c.requires.spells c.requires.named xs c.args.place x h stand c.requires.rows (g.D.Disk.story c.args.disk.now) (g.D.Disk.story c.step_task.new.disk) (c.step_task.ensures.publishing told) tree at

pub returns-in_err-close_task-in-Ok-None-clause-others : goal.returns-in_err-close_task-in-Ok-None-clause-others
returns-in_err-close_task-in-Ok-None-clause-others g c f ne =
    let s = signed_as c.args.shared c.args.task.now c.args.sig.now in
    let rows = c.args.index.now in
    let xs = c.args.open_ones.now.items in
    let x = c.index.result.now in
    let h : Here s xs c.args.place x = here s xs c.args.place c.requires.stands x c.index.ensures in
    let stand = c.requires.stand in
    let y = c.remove-one.result in
    let k : Here s xs c.args.place y = here s xs c.args.place c.requires.stands y c.remove-one.ensures.value in
    let ys = c.remove-one.new.self.items in
    let are = left_without xs h.before x h.after c.args.place h.is h.place_is ys c.remove-one.ensures.by_index.2 in
    let are_k = left_without xs k.before y k.after c.args.place k.is k.place_is ys c.remove-one.ensures.by_index.2 in
    gone_others rows s c.requires.spells c.requires.named xs c.args.place x h stand c.requires.rows ys are f ne

pub returns-in_err-close_task-in-Ok-None-clause-was_open : goal.returns-in_err-close_task-in-Ok-None-clause-was_open
returns-in_err-close_task-in-Ok-None-clause-was_open g c =
    let s = signed_as c.args.shared c.args.task.now c.args.sig.now in
    let rows = c.args.index.now in
    let xs = c.args.open_ones.now.items in
    let x = c.index.result.now in
    let h : Here s xs c.args.place x = here s xs c.args.place c.requires.stands x c.index.ensures in
    let stand = c.requires.stand in
    (x.tree, here_open rows s c.requires.spells c.requires.named xs c.args.place x h stand c.requires.rows)

pub returns-in_err-close_task-in-Ok-None-clause-publishing : goal.returns-in_err-close_task-in-Ok-None-clause-publishing
returns-in_err-close_task-in-Ok-None-clause-publishing g c told tree at =
    let s = signed_as c.args.shared c.args.task.now c.args.sig.now in
    let rows = c.args.index.now in
    let xs = c.args.open_ones.now.items in
    let x = c.index.result.now in
    let h : Here s xs c.args.place x = here s xs c.args.place c.requires.stands x c.index.ensures in
    let stand = c.requires.stand in
    here_run rows s c.requires.spells c.requires.named xs c.args.place x h stand c.requires.rows (g.D.Disk.story c.args.disk.now) (g.D.Disk.story c.step_task.new.disk) (c.step_task.ensures.publishing told) tree at

pub returns-in_ok-close_task-in-Ok-None-clause-keeps : goal.returns-in_ok-close_task-in-Ok-None-clause-keeps
returns-in_ok-close_task-in-Ok-None-clause-keeps g c told =
    let s = signed_as c.args.shared c.args.task.now c.args.sig.now in
    let rows = c.args.index.now in
    let xs = c.args.open_ones.now.items in
    let x = c.index.result.now in
    let h : Here s xs c.args.place x = here s xs c.args.place c.requires.stands x c.index.ensures in
    let stand = c.requires.stand in
    let y = c.remove-one.result in
    let k : Here s xs c.args.place y = here s xs c.args.place c.requires.stands y c.remove-one.ensures.value in
    let ys = c.remove-one.new.self.items in
    let are = left_without xs h.before x h.after c.args.place h.is h.place_is ys c.remove-one.ensures.by_index.2 in
    let are_k = left_without xs k.before y k.after c.args.place k.is k.place_is ys c.remove-one.ensures.by_index.2 in
    let published : EachNow (g.D.Disk.story c.step_task.new.disk) (IsPublished (publication rows s x.tree)) = rw c.in-Ok-None.field-0-is at (c.in-Ok-None.ensures.on told) in
    c.in_ok-close_task-in-Ok-None.ensures.keeps (g.D.Disk.story c.step_task.new.disk) (c.step_task.ensures.keeps told) (subst (λ (t : Entries). EachNow (g.D.Disk.story c.step_task.new.disk) (IsPublished (publication rows s t))) (here_tree rows s c.requires.spells c.requires.named xs c.args.place x h stand c.requires.rows y.tree (here_open rows s
    c.requires.spells c.requires.named xs c.args.place y k stand c.requires.rows)) published)

pub returns-in_ok-close_task-in-Ok-None-clause-stand : goal.returns-in_ok-close_task-in-Ok-None-clause-stand
returns-in_ok-close_task-in-Ok-None-clause-stand g c =
    let s = signed_as c.args.shared c.args.task.now c.args.sig.now in
    let rows = c.args.index.now in
    let xs = c.args.open_ones.now.items in
    let x = c.index.result.now in
    let h : Here s xs c.args.place x = here s xs c.args.place c.requires.stands x c.index.ensures in
    let stand = c.requires.stand in
    let y = c.remove-one.result in
    let k : Here s xs c.args.place y = here s xs c.args.place c.requires.stands y c.remove-one.ensures.value in
    let ys = c.remove-one.new.self.items in
    let are = left_without xs h.before x h.after c.args.place h.is h.place_is ys c.remove-one.ensures.by_index.2 in
    let are_k = left_without xs k.before y k.after c.args.place k.is k.place_is ys c.remove-one.ensures.by_index.2 in
    subst (λ l. AreOpen l ys) (sym c.in_ok-close_task-in-Ok-None.ensures.rows) (done_stand rows s c.requires.spells c.requires.named xs c.args.place y k stand c.requires.rows ys are_k)

pub returns-in_ok-close_task-in-Ok-None-clause-on : goal.returns-in_ok-close_task-in-Ok-None-clause-on
returns-in_ok-close_task-in-Ok-None-clause-on g c told =
    let s = signed_as c.args.shared c.args.task.now c.args.sig.now in
    let rows = c.args.index.now in
    let xs = c.args.open_ones.now.items in
    let x = c.index.result.now in
    let h : Here s xs c.args.place x = here s xs c.args.place c.requires.stands x c.index.ensures in
    let stand = c.requires.stand in
    let y = c.remove-one.result in
    let k : Here s xs c.args.place y = here s xs c.args.place c.requires.stands y c.remove-one.ensures.value in
    let ys = c.remove-one.new.self.items in
    let are = left_without xs h.before x h.after c.args.place h.is h.place_is ys c.remove-one.ensures.by_index.2 in
    let are_k = left_without xs k.before y k.after c.args.place k.is k.place_is ys c.remove-one.ensures.by_index.2 in
    subst (λ l. AreOn l (g.D.Disk.story c.step_task.new.disk) ys) (sym c.in_ok-close_task-in-Ok-None.ensures.rows) (done_on rows s c.requires.spells c.requires.named xs c.args.place y k stand c.requires.rows ys are_k (g.D.Disk.story c.args.disk.now) (g.D.Disk.story c.step_task.new.disk) (g.met.D.Disk.sound c.args.disk.now told) (here_run rows s
    c.requires.spells c.requires.named xs c.args.place x h stand c.requires.rows (g.D.Disk.story c.args.disk.now) (g.D.Disk.story c.step_task.new.disk) (c.step_task.ensures.publishing told) y.tree (here_open rows s c.requires.spells c.requires.named xs c.args.place y k stand c.requires.rows)) (c.requires.on told))

pub returns-in_ok-close_task-in-Ok-None-clause-tidy : goal.returns-in_ok-close_task-in-Ok-None-clause-tidy
returns-in_ok-close_task-in-Ok-None-clause-tidy g c told was =
    let s = signed_as c.args.shared c.args.task.now c.args.sig.now in
    let rows = c.args.index.now in
    let xs = c.args.open_ones.now.items in
    let x = c.index.result.now in
    let h : Here s xs c.args.place x = here s xs c.args.place c.requires.stands x c.index.ensures in
    let stand = c.requires.stand in
    let y = c.remove-one.result in
    let k : Here s xs c.args.place y = here s xs c.args.place c.requires.stands y c.remove-one.ensures.value in
    let ys = c.remove-one.new.self.items in
    let are = left_without xs h.before x h.after c.args.place h.is h.place_is ys c.remove-one.ensures.by_index.2 in
    let are_k = left_without xs k.before y k.after c.args.place k.is k.place_is ys c.remove-one.ensures.by_index.2 in
    let published : EachNow (g.D.Disk.story c.step_task.new.disk) (IsPublished (publication rows s x.tree)) = rw c.in-Ok-None.field-0-is at (c.in-Ok-None.ensures.on told) in
    done_tidy rows s c.requires.spells c.requires.named xs c.args.place x h stand c.requires.rows ys are (g.D.Disk.story c.args.disk.now) (g.D.Disk.story c.step_task.new.disk) (g.met.D.Disk.sound c.step_task.new.disk told) (c.step_task.ensures.publishing told) (rw c.in-Ok-None.field-0-is at (c.in-Ok-None.ensures.swept told)) published was

pub returns-in_err-close_task-in-Ok-None-clause-keeps : goal.returns-in_err-close_task-in-Ok-None-clause-keeps
returns-in_err-close_task-in-Ok-None-clause-keeps g c told =
    subst (λ l. IsKept l (g.D.Disk.story c.step_task.new.disk)) (sym c.in_err-close_task-in-Ok-None.ensures.same.0) (c.step_task.ensures.keeps told)

pub returns-in_err-close_task-in-Ok-None-clause-stand : goal.returns-in_err-close_task-in-Ok-None-clause-stand
returns-in_err-close_task-in-Ok-None-clause-stand g c =
    let s = signed_as c.args.shared c.args.task.now c.args.sig.now in
    let rows = c.args.index.now in
    let xs = c.args.open_ones.now.items in
    let x = c.index.result.now in
    let h : Here s xs c.args.place x = here s xs c.args.place c.requires.stands x c.index.ensures in
    let stand = c.requires.stand in
    let y = c.remove-one.result in
    let k : Here s xs c.args.place y = here s xs c.args.place c.requires.stands y c.remove-one.ensures.value in
    let ys = c.remove-one.new.self.items in
    let are = left_without xs h.before x h.after c.args.place h.is h.place_is ys c.remove-one.ensures.by_index.2 in
    let are_k = left_without xs k.before y k.after c.args.place k.is k.place_is ys c.remove-one.ensures.by_index.2 in
    subst (λ l. AreOpen l ys) (sym c.in_err-close_task-in-Ok-None.ensures.same.0) (gone_stand rows s c.requires.spells c.requires.named xs c.args.place x h stand c.requires.rows ys are)

pub returns-in_err-close_task-in-Ok-None-clause-on : goal.returns-in_err-close_task-in-Ok-None-clause-on
returns-in_err-close_task-in-Ok-None-clause-on g c told =
    let s = signed_as c.args.shared c.args.task.now c.args.sig.now in
    let rows = c.args.index.now in
    let xs = c.args.open_ones.now.items in
    let x = c.index.result.now in
    let h : Here s xs c.args.place x = here s xs c.args.place c.requires.stands x c.index.ensures in
    let stand = c.requires.stand in
    let y = c.remove-one.result in
    let k : Here s xs c.args.place y = here s xs c.args.place c.requires.stands y c.remove-one.ensures.value in
    let ys = c.remove-one.new.self.items in
    let are = left_without xs h.before x h.after c.args.place h.is h.place_is ys c.remove-one.ensures.by_index.2 in
    let are_k = left_without xs k.before y k.after c.args.place k.is k.place_is ys c.remove-one.ensures.by_index.2 in
    subst (λ l. AreOn l (g.D.Disk.story c.step_task.new.disk) ys) (sym c.in_err-close_task-in-Ok-None.ensures.same.0) (gone_on rows s c.requires.spells c.requires.named xs c.args.place x h stand c.requires.rows ys are (g.D.Disk.story c.args.disk.now) (g.D.Disk.story c.step_task.new.disk) (g.met.D.Disk.sound c.args.disk.now told) (c.step_task.ensures.publishing told) (c.requires.on told))

pub returns-in-Err-clause-others : goal.returns-in-Err-clause-others
returns-in-Err-clause-others g c f ne =
    let s = signed_as c.args.shared c.args.task.now c.args.sig.now in
    let rows = c.args.index.now in
    let xs = c.args.open_ones.now.items in
    let x = c.index.result.now in
    let h : Here s xs c.args.place x = here s xs c.args.place c.requires.stands x c.index.ensures in
    let stand = c.requires.stand in
    let ys = c.remove.new.self.items in
    let are = left_without xs h.before x h.after c.args.place h.is h.place_is ys c.remove.ensures.by_index.2 in
    gone_others rows s c.requires.spells c.requires.named xs c.args.place x h stand c.requires.rows ys are f ne

pub returns-in-Err-clause-was_open : goal.returns-in-Err-clause-was_open
returns-in-Err-clause-was_open g c =
    let s = signed_as c.args.shared c.args.task.now c.args.sig.now in
    let rows = c.args.index.now in
    let xs = c.args.open_ones.now.items in
    let x = c.index.result.now in
    let h : Here s xs c.args.place x = here s xs c.args.place c.requires.stands x c.index.ensures in
    let stand = c.requires.stand in
    (x.tree, here_open rows s c.requires.spells c.requires.named xs c.args.place x h stand c.requires.rows)

pub returns-in-Err-clause-publishing : goal.returns-in-Err-clause-publishing
returns-in-Err-clause-publishing g c told tree at =
    let s = signed_as c.args.shared c.args.task.now c.args.sig.now in
    let rows = c.args.index.now in
    let xs = c.args.open_ones.now.items in
    let x = c.index.result.now in
    let h : Here s xs c.args.place x = here s xs c.args.place c.requires.stands x c.index.ensures in
    let stand = c.requires.stand in
    here_run rows s c.requires.spells c.requires.named xs c.args.place x h stand c.requires.rows (g.D.Disk.story c.args.disk.now) (g.D.Disk.story c.step_task.new.disk) (c.step_task.ensures.publishing told) tree at

pub returns-in-Err-clause-stand : goal.returns-in-Err-clause-stand
returns-in-Err-clause-stand g c =
    let s = signed_as c.args.shared c.args.task.now c.args.sig.now in
    let rows = c.args.index.now in
    let xs = c.args.open_ones.now.items in
    let x = c.index.result.now in
    let h : Here s xs c.args.place x = here s xs c.args.place c.requires.stands x c.index.ensures in
    let stand = c.requires.stand in
    let ys = c.remove.new.self.items in
    let are = left_without xs h.before x h.after c.args.place h.is h.place_is ys c.remove.ensures.by_index.2 in
    gone_stand rows s c.requires.spells c.requires.named xs c.args.place x h stand c.requires.rows ys are

pub returns-in-Err-clause-on : goal.returns-in-Err-clause-on
returns-in-Err-clause-on g c told =
    let s = signed_as c.args.shared c.args.task.now c.args.sig.now in
    let rows = c.args.index.now in
    let xs = c.args.open_ones.now.items in
    let x = c.index.result.now in
    let h : Here s xs c.args.place x = here s xs c.args.place c.requires.stands x c.index.ensures in
    let stand = c.requires.stand in
    let ys = c.remove.new.self.items in
    let are = left_without xs h.before x h.after c.args.place h.is h.place_is ys c.remove.ensures.by_index.2 in
    gone_on rows s c.requires.spells c.requires.named xs c.args.place x h stand c.requires.rows ys are (g.D.Disk.story c.args.disk.now) (g.D.Disk.story c.step_task.new.disk) (g.met.D.Disk.sound c.args.disk.now told) (c.step_task.ensures.publishing told) (c.requires.on told)

pub returns-in-Ok-Some-clause-entries : goal.returns-in-Ok-Some-clause-entries
returns-in-Ok-Some-clause-entries g c told tree at =
    let s = signed_as c.args.shared c.args.task.now c.args.sig.now in
    let rows = c.args.index.now in
    let xs = c.args.open_ones.now.items in
    let x = c.index.result.now in
    let h : Here s xs c.args.place x = here s xs c.args.place c.requires.stands x c.index.ensures in
    let stand = c.requires.stand in
    here_entries rows s c.requires.spells c.requires.named xs c.args.place x h stand c.requires.rows (g.D.Disk.story c.args.disk.now) (g.D.Disk.story c.step_task.new.disk) (c.step_task.ensures.entries told) tree at

pub returns-in_ok-close_task-in-Ok-None-clause-entries : goal.returns-in_ok-close_task-in-Ok-None-clause-entries
returns-in_ok-close_task-in-Ok-None-clause-entries g c told tree at =
    let s = signed_as c.args.shared c.args.task.now c.args.sig.now in
    let rows = c.args.index.now in
    let xs = c.args.open_ones.now.items in
    let x = c.index.result.now in
    let h : Here s xs c.args.place x = here s xs c.args.place c.requires.stands x c.index.ensures in
    let stand = c.requires.stand in
    here_entries rows s c.requires.spells c.requires.named xs c.args.place x h stand c.requires.rows (g.D.Disk.story c.args.disk.now) (g.D.Disk.story c.step_task.new.disk) (c.step_task.ensures.entries told) tree at

pub returns-in_err-close_task-in-Ok-None-clause-entries : goal.returns-in_err-close_task-in-Ok-None-clause-entries
returns-in_err-close_task-in-Ok-None-clause-entries g c told tree at =
    let s = signed_as c.args.shared c.args.task.now c.args.sig.now in
    let rows = c.args.index.now in
    let xs = c.args.open_ones.now.items in
    let x = c.index.result.now in
    let h : Here s xs c.args.place x = here s xs c.args.place c.requires.stands x c.index.ensures in
    let stand = c.requires.stand in
    here_entries rows s c.requires.spells c.requires.named xs c.args.place x h stand c.requires.rows (g.D.Disk.story c.args.disk.now) (g.D.Disk.story c.step_task.new.disk) (c.step_task.ensures.entries told) tree at

pub returns-in-Err-clause-entries : goal.returns-in-Err-clause-entries
returns-in-Err-clause-entries g c told tree at =
    let s = signed_as c.args.shared c.args.task.now c.args.sig.now in
    let rows = c.args.index.now in
    let xs = c.args.open_ones.now.items in
    let x = c.index.result.now in
    let h : Here s xs c.args.place x = here s xs c.args.place c.requires.stands x c.index.ensures in
    let stand = c.requires.stand in
    here_entries rows s c.requires.spells c.requires.named xs c.args.place x h stand c.requires.rows (g.D.Disk.story c.args.disk.now) (g.D.Disk.story c.step_task.new.disk) (c.step_task.ensures.entries told) tree at

pub step_task-requires-clause-key : goal.step_task-requires-clause-key
step_task-requires-clause-key g c told =
    let s = signed_as c.args.shared c.args.task.now c.args.sig.now in
    let xs = c.args.open_ones.now.items in
    let x = c.index.result.now in
    let h : Here s xs c.args.place x = here s xs c.args.place c.requires.stands x c.index.ensures in
    let held = (g.D.Disk.story c.args.disk.now).held in
    held_at held h.before x h.after (subst (λ (l : List OpenPublication). HoldsOpen l held) h.is (c.requires.keyed told))

pub returns-in-Ok-Some-clause-brief : goal.returns-in-Ok-Some-clause-brief
returns-in-Ok-Some-clause-brief g c told =
    here_brief (signed_as c.args.shared c.args.task.now c.args.sig.now) c.args.open_ones.now.items c.args.place c.requires.stands c.index.result.now c.index.ensures (g.D.Disk.story c.args.disk.now) (g.D.Disk.story c.step_task.new.disk) (c.step_task.ensures.brief told)

pub returns-in_err-close_task-in-Ok-None-clause-brief : goal.returns-in_err-close_task-in-Ok-None-clause-brief
returns-in_err-close_task-in-Ok-None-clause-brief g c told =
    here_brief (signed_as c.args.shared c.args.task.now c.args.sig.now) c.args.open_ones.now.items c.args.place c.requires.stands c.index.result.now c.index.ensures (g.D.Disk.story c.args.disk.now) (g.D.Disk.story c.step_task.new.disk) (c.step_task.ensures.brief told)

pub returns-in_ok-close_task-in-Ok-None-clause-brief : goal.returns-in_ok-close_task-in-Ok-None-clause-brief
returns-in_ok-close_task-in-Ok-None-clause-brief g c told =
    here_brief (signed_as c.args.shared c.args.task.now c.args.sig.now) c.args.open_ones.now.items c.args.place c.requires.stands c.index.result.now c.index.ensures (g.D.Disk.story c.args.disk.now) (g.D.Disk.story c.step_task.new.disk) (c.step_task.ensures.brief told)

pub returns-in-Err-clause-brief : goal.returns-in-Err-clause-brief
returns-in-Err-clause-brief g c told =
    here_brief (signed_as c.args.shared c.args.task.now c.args.sig.now) c.args.open_ones.now.items c.args.place c.requires.stands c.index.result.now c.index.ensures (g.D.Disk.story c.args.disk.now) (g.D.Disk.story c.step_task.new.disk) (c.step_task.ensures.brief told)

pub returns-in-Ok-Some-clause-knows : goal.returns-in-Ok-Some-clause-knows
returns-in-Ok-Some-clause-knows g c = λ keys rows opened.
    let s = signed_as c.args.shared c.args.task.now c.args.sig.now in
    let xs = c.args.open_ones.now.items in
    let x = c.index.result.now in
    let h : Here s xs c.args.place x = here s xs c.args.place c.requires.stands x c.index.ensures in
    let are = c.lead_on.ensures h.before x h.after h.is h.place_is in
    (rows, subst (λ (l : List OpenPublication). KnowsOpen keys l) (sym are) (known_next keys h.before x h.after c.in-Ok-Some.next (subst (λ (l : List OpenPublication). KnowsOpen keys l) h.is opened)))

pub returns-in_ok-close_task-in-Ok-None-clause-knows : goal.returns-in_ok-close_task-in-Ok-None-clause-knows
returns-in_ok-close_task-in-Ok-None-clause-knows g c = λ keys rows opened.
    let s = signed_as c.args.shared c.args.task.now c.args.sig.now in
    let gone = gone_known s c.args.open_ones.now.items c.args.place c.requires.stands c.remove-one.result c.remove-one.ensures.value c.remove-one.new.self.items c.remove-one.ensures.by_index.2 keys opened in
    (subst (λ (r : List EquivRow). KnowsRows keys r) (sym c.in_ok-close_task-in-Ok-None.ensures.rows) (known_rows keys c.args.index.now s c.remove-one.result.tree rows gone.0), gone.1)

pub returns-in_err-close_task-in-Ok-None-clause-knows : goal.returns-in_err-close_task-in-Ok-None-clause-knows
returns-in_err-close_task-in-Ok-None-clause-knows g c = λ keys rows opened.
    let gone = gone_known (signed_as c.args.shared c.args.task.now c.args.sig.now) c.args.open_ones.now.items c.args.place c.requires.stands c.remove-one.result c.remove-one.ensures.value c.remove-one.new.self.items c.remove-one.ensures.by_index.2 keys opened in
    (subst (λ (r : List EquivRow). KnowsRows keys r) (sym c.in_err-close_task-in-Ok-None.ensures.same.0) rows, gone.1)

pub returns-in-Err-clause-knows : goal.returns-in-Err-clause-knows
returns-in-Err-clause-knows g c = λ keys rows opened.
    (rows, (gone_known (signed_as c.args.shared c.args.task.now c.args.sig.now) c.args.open_ones.now.items c.args.place c.requires.stands c.index.result.now c.index.ensures c.remove.new.self.items c.remove.ensures.by_index.2 keys opened).1)
