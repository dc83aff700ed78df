use Rattle.std.proofs.Common.{◌≡◌, ◌∙◌, sym, ap, subst}
use Rattle.std.specs.List.{AllByRecursion}
use Rattle.store_model.specs.Readable.{IsRow}
use Rattle.store_opening.specs.Sound.{IsKept}
use Rattle.build_store.specs.Drafts.{row_of_new, rows_behind}
use Rattle.build_store.specs.View.{signed_as}
use Rattle.build_store.proofs.Finished.{keeps_behind, sound_behind}
use Rattle.build_store.proofs.tasks.close_task.Goals as goal

pub returns-in_err-add_row-clause-sound : goal.returns-in_err-add_row-clause-sound
returns-in_err-add_row-clause-sound c = subst (AllByRecursion IsRow) (sym c.in_err-add_row.ensures.err) c.requires.rows

pub returns-clause-sound : goal.returns-clause-sound
returns-clause-sound c =
    let rows : c.add_row.new.index ≡ rows_behind c.args.index.now (row_of_new c.args.one.new) = c.in_ok-add_row.ensures.ok ∙ ap (rows_behind c.args.index.now) c.parts_of-row.ensures.row in
    subst (AllByRecursion IsRow) (sym rows) (sound_behind c.args.index.now (signed_as c.args.shared c.args.task.now c.args.sig.now) c.args.one.tree c.requires.rows c.requires.spells.sound.spelled c.requires.of.fit.is_tree c.requires.of.fit.short c.args.one.new c.requires.of.new)

pub returns-clause-keeps : goal.returns-clause-keeps
returns-clause-keeps c story kept published =
    let rows : c.add_row.new.index ≡ rows_behind c.args.index.now (row_of_new c.args.one.new) = c.in_ok-add_row.ensures.ok ∙ ap (rows_behind c.args.index.now) c.parts_of-row.ensures.row in
    subst (λ l. IsKept l story) (sym rows) (keeps_behind c.args.index.now (signed_as c.args.shared c.args.task.now c.args.sig.now) c.args.one.tree c.requires.rows c.requires.spells.sound.spelled c.requires.of.fit.is_tree c.requires.of.fit.short c.args.one.new c.requires.of.new story kept published)

pub returns-clause-kept : goal.returns-clause-kept
returns-clause-kept c = c.forget.ensures c.args.sig.now
