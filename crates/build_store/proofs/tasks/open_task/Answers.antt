use Rattle.std.proofs.Common.{◌≡◌, ◌∙◌, sym, ap, subst, inl, List, ℕ, Some, None}
use Rattle.std.specs.Prelude.{if◌then◌else◌}
use Rattle.tree_model.specs.declared.hash.Hash.{Hash}
use Rattle.outside_traits.specs.Passes.{EachNow}
use Rattle.stamp_store.specs.Stamp.{IsFolder}
use Rattle.outside_traits.specs.Store.{slashes}
use Rattle.store_model.specs.Publication.{stamp_at}
use Rattle.store_opening.specs.Named.{IsName}
use Rattle.store_opening.proofs.Clean.{folder_is, folder_slashes, name_is_name}
use Rattle.build_store.specs.Publication.{object_for}
use Rattle.build_store.specs.View.{signed_as}
use Rattle.build_store.proofs.Drafted.{line_readable}
use Rattle.build_store.proofs.Stays.{object_name}
use Rattle.build_store.proofs.TaskRuns.{drafted_run, kept_still, opened_of, opened_on}
use Rattle.build_store.proofs.tasks.open_task.Goals as goal

pub open_publication-requires-clause-folder : goal.open_publication-requires-clause-folder
open_publication-requires-clause-folder g c = subst IsFolder (sym c.in_ok-folder.ensures) (folder_is c.args.task.now c.requires.place)

pub open_publication-requires-clause-parts : goal.open_publication-requires-clause-parts
open_publication-requires-clause-parts g c = subst (λ (l : List ℕ). slashes l ≡ 1) (sym c.in_ok-folder.ensures) (folder_slashes c.args.task.now c.requires.place)

pub open_publication-requires-clause-name : goal.open_publication-requires-clause-name
open_publication-requires-clause-name g c = subst IsName (sym c.requires.draft.name) (name_is_name c.args.sig.now)

pub open_publication-requires-clause-object : goal.open_publication-requires-clause-object
open_publication-requires-clause-object g c unihash is =
    let s = signed_as c.args.shared c.args.task.now c.args.sig.now in
    let d = c.requires.draft in
    let obj : c.object_of-object.result ≡ object_for c.args.index.now s c.args.tree = c.object_of-object.ensures ∙ ap (λ (u : Hash). if c.args.shared then Some u else None) d.unihash in
    object_name c.args.index.now s c.args.tree c.requires.rows unihash (sym obj ∙ is)

pub open_publication-requires-clause-settled : goal.open_publication-requires-clause-settled
open_publication-requires-clause-settled g c told =
    subst (λ (l : List ℕ). EachNow (g.D.Disk.story c.args.disk.now) (λ image. image (stamp_at l) ≡ (g.D.Disk.story c.args.disk.now).held (stamp_at l))) (sym c.in_ok-folder.ensures) (c.requires.settled told)

pub returns-clause-of : goal.returns-clause-of
returns-clause-of g c =
    let s = signed_as c.args.shared c.args.task.now c.args.sig.now in
    let d = c.requires.draft in
    let obj : c.object_of-object.result ≡ object_for c.args.index.now s c.args.tree = c.object_of-object.ensures ∙ ap (λ (u : Hash). if c.args.shared then Some u else None) d.unihash in
    opened_of c.args.index.now s c.args.tree c.in_ok-folder.folder c.object_of-object.result c.args.draft c.in_ok-folder.ensures obj d c.requires.text c.in_ok-open_publication.field-0 c.in_ok-open_publication.ensures.parts c.in_ok-open_publication.ensures.fit

pub returns-clause-opened : goal.returns-clause-opened
returns-clause-opened g c told =
    let s = signed_as c.args.shared c.args.task.now c.args.sig.now in
    let d = c.requires.draft in
    let obj : c.object_of-object.result ≡ object_for c.args.index.now s c.args.tree = c.object_of-object.ensures ∙ ap (λ (u : Hash). if c.args.shared then Some u else None) d.unihash in
    let is = opened_of c.args.index.now s c.args.tree c.in_ok-folder.folder c.object_of-object.result c.args.draft c.in_ok-folder.ensures obj d c.requires.text c.in_ok-open_publication.field-0 c.in_ok-open_publication.ensures.parts c.in_ok-open_publication.ensures.fit in
    opened_on c.args.index.now s c.args.tree c.in_ok-open_publication.field-0 is (g.D.Disk.story c.open_publication.new.disk) (c.in_ok-open_publication.ensures.opened told)

pub returns-clause-publishing : goal.returns-clause-publishing
returns-clause-publishing g c told =
    let s = signed_as c.args.shared c.args.task.now c.args.sig.now in
    let d = c.requires.draft in
    let obj : c.object_of-object.result ≡ object_for c.args.index.now s c.args.tree = c.object_of-object.ensures ∙ ap (λ (u : Hash). if c.args.shared then Some u else None) d.unihash in
    drafted_run c.args.index.now s c.args.tree c.in_ok-folder.folder c.object_of-object.result c.args.draft c.in_ok-folder.ensures obj d c.requires.text (g.D.Disk.story c.args.disk.now) (g.D.Disk.story c.open_publication.new.disk) (c.open_publication.ensures.publishing told)

pub returns-in_err-open_publication-clause-publishing : goal.returns-in_err-open_publication-clause-publishing
returns-in_err-open_publication-clause-publishing g c told =
    let s = signed_as c.args.shared c.args.task.now c.args.sig.now in
    let d = c.requires.draft in
    let obj : c.object_of-object.result ≡ object_for c.args.index.now s c.args.tree = c.object_of-object.ensures ∙ ap (λ (u : Hash). if c.args.shared then Some u else None) d.unihash in
    drafted_run c.args.index.now s c.args.tree c.in_ok-folder.folder c.object_of-object.result c.args.draft c.in_ok-folder.ensures obj d c.requires.text (g.D.Disk.story c.args.disk.now) (g.D.Disk.story c.open_publication.new.disk) (c.open_publication.ensures.publishing told)

pub returns-clause-keeps : goal.returns-clause-keeps
returns-clause-keeps g c told =
    let s = signed_as c.args.shared c.args.task.now c.args.sig.now in
    let d = c.requires.draft in
    let obj : c.object_of-object.result ≡ object_for c.args.index.now s c.args.tree = c.object_of-object.ensures ∙ ap (λ (u : Hash). if c.args.shared then Some u else None) d.unihash in
    let run = drafted_run c.args.index.now s c.args.tree c.in_ok-folder.folder c.object_of-object.result c.args.draft c.in_ok-folder.ensures obj d c.requires.text (g.D.Disk.story c.args.disk.now) (g.D.Disk.story c.open_publication.new.disk) (c.open_publication.ensures.publishing told) in
    kept_still c.args.index.now s c.args.tree c.requires.rows (g.D.Disk.story c.args.disk.now) (g.D.Disk.story c.open_publication.new.disk) (c.requires.keeps told) run (c.open_publication.ensures.laid_out told)

pub returns-in_err-open_publication-clause-keeps : goal.returns-in_err-open_publication-clause-keeps
returns-in_err-open_publication-clause-keeps g c told =
    let s = signed_as c.args.shared c.args.task.now c.args.sig.now in
    let d = c.requires.draft in
    let obj : c.object_of-object.result ≡ object_for c.args.index.now s c.args.tree = c.object_of-object.ensures ∙ ap (λ (u : Hash). if c.args.shared then Some u else None) d.unihash in
    let run = drafted_run c.args.index.now s c.args.tree c.in_ok-folder.folder c.object_of-object.result c.args.draft c.in_ok-folder.ensures obj d c.requires.text (g.D.Disk.story c.args.disk.now) (g.D.Disk.story c.open_publication.new.disk) (c.open_publication.ensures.publishing told) in
    kept_still c.args.index.now s c.args.tree c.requires.rows (g.D.Disk.story c.args.disk.now) (g.D.Disk.story c.open_publication.new.disk) (c.requires.keeps told) run (c.open_publication.ensures.laid_out told)

pub returns-clause-readable : goal.returns-clause-readable
returns-clause-readable g c =
    let s = signed_as c.args.shared c.args.task.now c.args.sig.now in
    let d = c.requires.draft in
    inl (line_readable c.args.index.now s c.args.tree c.args.draft.new c.requires.rows c.requires.spelled c.entries-entries.ensures.tree c.requires.short d.agrees d.spells d.new)

pub returns-in_err-open_publication-clause-readable : goal.returns-in_err-open_publication-clause-readable
returns-in_err-open_publication-clause-readable g c =
    let s = signed_as c.args.shared c.args.task.now c.args.sig.now in
    let d = c.requires.draft in
    inl (line_readable c.args.index.now s c.args.tree c.args.draft.new c.requires.rows c.requires.spelled c.entries-entries.ensures.tree c.requires.short d.agrees d.spells d.new)

pub returns-clause-line : goal.returns-clause-line
returns-clause-line g c =
    let s = signed_as c.args.shared c.args.task.now c.args.sig.now in
    let d = c.requires.draft in
    line_readable c.args.index.now s c.args.tree c.args.draft.new c.requires.rows c.requires.spelled c.entries-entries.ensures.tree c.requires.short d.agrees d.spells d.new
