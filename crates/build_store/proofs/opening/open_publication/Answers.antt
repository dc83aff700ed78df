use Rattle.store_opening.proofs.Clean.{name_slashes}
use Rattle.std.proofs.Common.{arith, ◌≡◌, ◌∙◌, sym, ap, subst, refl, false, [], List, ℕ}
use Rattle.tree_model.specs.declared.entry.Entry.TheVariants.{File}
use Rattle.outside_traits.specs.Passes.{EachNow}
use Rattle.outside_traits.specs.Store.{Store}
use Rattle.stamp_store.specs.Stamp.{old_path}
use Rattle.store_model.specs.Publication.{stamp_at}
use Rattle.store_opening.specs.Paths.{IsLaidOut}
use Rattle.build_store.specs.declared.pieces.OpenPublication.{OpenPublication}
use Rattle.build_store.specs.Drafts.{file_of}
use Rattle.build_store.specs.Halves.{IsOn}
use Rattle.build_store.specs.Noting.{AreNoted}
use Rattle.build_store.specs.OpenOnes.{AddsOwn, IsFit, items_of, opened_by, progress_of, put_by}
use Rattle.build_store.specs.Phases.{put_of}
use Rattle.build_store.proofs.AsideRuns.{opens_behind, opens_own, opens_publish, opens_same, settled_same}
use Rattle.build_store.proofs.NotingRuns.{few_items}
use Rattle.build_store.proofs.opening.open_publication.Goals as goal

pub returns-in_err-extra-clause-opens : goal.returns-in_err-extra-clause-opens
returns-in_err-extra-clause-opens g c told = λ f. opens_same (put_of c.args.folder c.args.draft.name c.args.tree c.args.object (file_of c.args.draft.new) f c.args.draft.text) (c.note_few.ensures.same told)

pub returns-in_err-extra-clause-publishing : goal.returns-in_err-extra-clause-publishing
returns-in_err-extra-clause-publishing g c told = λ f.
    let p = put_of c.args.folder c.args.draft.name c.args.tree c.args.object (file_of c.args.draft.new) f c.args.draft.text in
    opens_publish p (opens_same p (c.note_few.ensures.same told))

pub returns-in_err-extra-clause-laid_out : goal.returns-in_err-extra-clause-laid_out
returns-in_err-extra-clause-laid_out g c told = subst (λ (h : Store). IsLaidOut h) (sym (c.note_few.ensures.same told).held) (c.requires.laid_out told)

pub begin-requires-clause-laid_out : goal.begin-requires-clause-laid_out
begin-requires-clause-laid_out g c told = subst (λ (h : Store). IsLaidOut h) (sym (c.note_few.ensures.same told).held) (c.requires.laid_out told)

pub begin-requires-clause-settled : goal.begin-requires-clause-settled
begin-requires-clause-settled g c told =
    subst (λ (l : List ℕ). EachNow (g.D.Disk.story c.note_few.new.disk) (λ image. image (stamp_at l) ≡ (g.D.Disk.story c.note_few.new.disk).held (stamp_at l))) (sym c.as_str-2.ensures) (settled_same c.args.folder (c.note_few.ensures.same told) (c.requires.settled told))

pub returns-in_err-reached-clause-opens : goal.returns-in_err-reached-clause-opens
returns-in_err-reached-clause-opens g c told = λ f.
    let p = put_of c.args.folder c.args.draft.name c.args.tree c.args.object (file_of c.args.draft.new) f c.args.draft.text in
    opens_behind p (c.note_few.ensures.same told) (c.begin.ensures.opens told p (sym c.as_str-2.ensures) refl)

pub returns-in_err-reached-clause-publishing : goal.returns-in_err-reached-clause-publishing
returns-in_err-reached-clause-publishing g c told = λ f.
    let p = put_of c.args.folder c.args.draft.name c.args.tree c.args.object (file_of c.args.draft.new) f c.args.draft.text in
    opens_publish p (opens_behind p (c.note_few.ensures.same told) (c.begin.ensures.opens told p (sym c.as_str-2.ensures) refl))

pub returns-clause-opens : goal.returns-clause-opens
returns-clause-opens g c told = λ f.
    let p = put_of c.args.folder c.args.draft.name c.args.tree c.args.object (file_of c.args.draft.new) f c.args.draft.text in
    opens_behind p (c.note_few.ensures.same told) (c.begin.ensures.opens told p (sym c.as_str-2.ensures) refl)

pub returns-clause-publishing : goal.returns-clause-publishing
returns-clause-publishing g c told = λ f.
    let p = put_of c.args.folder c.args.draft.name c.args.tree c.args.object (file_of c.args.draft.new) f c.args.draft.text in
    opens_publish p (opens_behind p (c.note_few.ensures.same told) (c.begin.ensures.opens told p (sym c.as_str-2.ensures) refl))

pub returns-clause-parts : goal.returns-clause-parts
returns-clause-parts g c = (c.in_ok-extra.extra, (c.in_ok-reached.reached, c.in_ok-reached.ensures.first, c.opened_by.ensures))

pub returns-clause-fit : goal.returns-clause-fit
returns-clause-fit g c = subst IsFit (sym c.opened_by.ensures) (record {
  folder = c.requires.folder;
  parts = c.requires.parts;
  name = c.requires.name;
  object = c.requires.object;
  is_tree = c.entries-entries.ensures.tree;
  short = c.requires.short;
  few = few_items c.args.folder c.in_ok-extra.extra c.args.tree c.args.object c.in_ok-extra.ensures.few;
})

pub returns-clause-noted : goal.returns-clause-noted
returns-clause-noted g c told = λ f.
    let o = (opened_by c.args.folder c.args.object c.args.draft c.args.tree c.in_ok-extra.extra c.in_ok-reached.reached) in
    subst (λ (o : OpenPublication). AreNoted (put_by o f) (items_of o) (g.D.Disk.story c.begin.new.disk).held) (sym c.opened_by.ensures)
    (c.begin.ensures.noted told (put_by o f) (sym c.as_str-2.ensures) refl (items_of o) (c.in_ok-extra.ensures.noted told (put_by o f) (sym c.as_str.ensures) refl refl))

pub returns-clause-opened : goal.returns-clause-opened
returns-clause-opened g c told = λ f.
    let o = (opened_by c.args.folder c.args.object c.args.draft c.args.tree c.in_ok-extra.extra c.in_ok-reached.reached) in
    subst (λ (o : OpenPublication). IsOn (put_by o f) (progress_of o) (g.D.Disk.story c.begin.new.disk)) (sym c.opened_by.ensures)
    (c.in_ok-reached.ensures.on told (put_by o f) (sym c.as_str-2.ensures) refl c.entries-entries.ensures.tree (items_of o) (c.in_ok-extra.ensures.noted told (put_by o f) (sym c.as_str.ensures) refl refl))

pub returns-clause-swept : goal.returns-clause-swept
returns-clause-swept g c told =
    let o = (opened_by c.args.folder c.args.object c.args.draft c.args.tree c.in_ok-extra.extra c.in_ok-reached.reached) in
    let p = (put_of c.args.folder c.args.draft.name c.args.tree c.args.object (file_of c.args.draft.new) (File false []) c.args.draft.text) in
    let same = (c.note_few.ensures.same told).held in
    subst (λ (o : OpenPublication). AddsOwn o (g.D.Disk.story c.args.disk.now).held (g.D.Disk.story c.begin.new.disk).held) (sym c.opened_by.ensures)
    (opens_own o p (g.D.Disk.story c.args.disk.now).held (g.D.Disk.story c.args.disk.now).held (g.D.Disk.story c.begin.new.disk).held refl
    (opens_behind p (c.note_few.ensures.same told) (c.begin.ensures.opens told p (sym c.as_str-2.ensures) refl)).held
    (λ none. (rw c.as_str-2.ensures at (c.in_ok-reached.ensures.swept told)) (ap (λ (h : Store). h (old_path c.args.folder)) same ∙ none)))

pub returns-in_err-reached-clause-brief : goal.returns-in_err-reached-clause-brief
returns-in_err-reached-clause-brief g c told =
    let begun = c.begin.ensures.brief told (λ unihash some. name_slashes unihash (c.requires.object unihash some)) in
    omega (arith, begun, c.note_few.ensures.brief told)

pub returns-clause-brief : goal.returns-clause-brief
returns-clause-brief g c told =
    let begun = c.begin.ensures.brief told (λ unihash some. name_slashes unihash (c.requires.object unihash some)) in
    omega (arith, begun, c.note_few.ensures.brief told)
