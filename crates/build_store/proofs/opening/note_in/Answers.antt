use Rattle.std.proofs.Common.{◌≡◌, ◌∙◌, sym, []}
use Rattle.tree_model.specs.Path.{inside}
use Rattle.outside_traits.proofs.Calls.{lists_passes}
use Rattle.build_store.proofs.NotingRuns.{noted_by}
use Rattle.build_store.proofs.opening.note_in.Goals as goal

pub returns-in_err-paths-clause-same : goal.returns-in_err-paths-clause-same
returns-in_err-paths-clause-same g c told = lists_passes (c.list.ensures.told told)

pub returns-in_err-note_extra-clause-same : goal.returns-in_err-note_extra-clause-same
returns-in_err-note_extra-clause-same g c told = lists_passes (c.list.ensures.told told)

pub returns-clause-same : goal.returns-clause-same
returns-clause-same g c told = lists_passes (c.list.ensures.told told)

pub returns-clause-noted : goal.returns-clause-noted
returns-clause-noted g c told =
    let prefix_is : c.as_str.result.now ≡ inside c.args.folder.now [] = c.as_str.ensures ∙ c.in_ok-prefix.ensures in
    let again : c.as_str-2.result.now ≡ c.as_str.result.now = c.as_str-2.ensures ∙ sym c.as_str.ensures in
    let added = rw (again, c.as_slice.ensures) at c.in_ok-note_extra.ensures in
    noted_by c.args.folder.now c.as_str.result.now c.args.tree.now (g.D.Disk.story c.args.disk.now).held c.in_ok-paths.paths c.args.extra.now c.note_extra.new.extra prefix_is (c.in_ok-paths.ensures.told told).answers.0 added
