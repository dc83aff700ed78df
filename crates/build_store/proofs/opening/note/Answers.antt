use Rattle.std.proofs.Common.{◌≡◌, ◌∙◌}
use Rattle.outside_traits.proofs.Calls.{then_same}
use Rattle.store_model.specs.Publication.{work_at}
use Rattle.build_store.proofs.NotingRuns.{notes_by}
use Rattle.build_store.proofs.opening.note.Goals as goal

pub returns-in_err-note_object-clause-same : goal.returns-in_err-note_object-clause-same
returns-in_err-note_object-clause-same g c told = then_same (c.note_in.ensures.same told) (c.note_object.ensures.same told)

pub returns-clause-same : goal.returns-clause-same
returns-clause-same g c told = then_same (c.note_in.ensures.same told) (c.note_object.ensures.same told)

pub returns-clause-noted : goal.returns-clause-noted
returns-clause-noted g c told = λ p folder object tree.
    let at : c.as_str.result.now ≡ work_at c.args.folder.now = c.as_str.ensures ∙ c.in_ok-work.ensures in
    let work = rw (at, c.new-extra.ensures) at (c.in_ok-note_in.ensures.noted told) in
    notes_by p c.args.folder.now c.args.object.now c.args.tree.now c.note_in.new.extra c.note_object.new.extra (g.D.Disk.story c.args.disk.now).held (g.D.Disk.story c.note_in.new.disk).held (g.D.Disk.story c.note_object.new.disk).held folder object tree
    (c.note_in.ensures.same told).held (c.note_object.ensures.same told).held work c.in_ok-note_object.ensures.none (c.in_ok-note_object.ensures.noted told)
