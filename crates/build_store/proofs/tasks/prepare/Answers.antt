use Rattle.std.proofs.Common.{◌≡◌, ◌∙◌, sym, ap, subst, true, false, Some, None}
use Rattle.std.specs.Prelude.{if◌then◌else◌}
use Rattle.std.specs.List.{AllByRecursion, list_any}
use Rattle.tree_model.specs.declared.hash.Hash.{Hash}
use Rattle.build_store.specs.Publication.{object_for}
use Rattle.build_store.specs.Standing.{IsClearOf, meets}
use Rattle.build_store.specs.View.{signed_as}
use Rattle.store_model.specs.Spelling.{name_of}
use Rattle.build_store.proofs.Meeting.{meeting}
use Rattle.build_store.proofs.Opened.{not_any}
use Rattle.build_store.proofs.tasks.prepare.Goals as goal

pub returns-then-is_busy-clause-busy : goal.returns-then-is_busy-clause-busy
returns-then-is_busy-clause-busy c tree listed =
    let s = signed_as c.args.shared c.args.task.now c.args.sig.now in
    let xs = c.args.open_ones.now.items in
    let d = c.in_ok-draft.ensures.draft tree listed in
    let obj : c.object_of-object.result ≡ object_for c.args.index.now s tree = c.object_of-object.ensures ∙ ap (λ (u : Hash). if c.args.shared then Some u else None) d.unihash in
    let any : list_any (meets c.in_ok-draft.draft.name c.object_of-object.result) xs ≡ true =
    ap (list_any (meets c.in_ok-draft.draft.name c.object_of-object.result)) (sym c.as_slice.ensures.value) ∙ sym c.is_busy.ensures ∙ c.if-is_busy.true in
    meeting c.args.index.now (name_of c.args.sig.now) (object_for c.args.index.now s tree) xs c.requires.stand
    (ap (λ n. list_any (meets n (object_for c.args.index.now s tree)) xs) (sym d.name) ∙ ap (λ o. list_any (meets c.in_ok-draft.draft.name o) xs) (sym obj) ∙ any)

pub returns-clause-apart : goal.returns-clause-apart
returns-clause-apart c tree listed =
    let s = signed_as c.args.shared c.args.task.now c.args.sig.now in
    let d = c.in_ok-draft.ensures.draft tree listed in
    let obj : c.object_of-object.result ≡ object_for c.args.index.now s tree = c.object_of-object.ensures ∙ ap (λ (u : Hash). if c.args.shared then Some u else None) d.unihash in
    let no : list_any (meets c.in_ok-draft.draft.name c.object_of-object.result) c.args.open_ones.now.items ≡ false =
    ap (list_any (meets c.in_ok-draft.draft.name c.object_of-object.result)) (sym c.as_slice.ensures.value) ∙ sym c.is_busy.ensures ∙ c.if-is_busy.false in
    subst (λ o. AllByRecursion (IsClearOf c.in_ok-draft.draft.name o) c.args.open_ones.now.items) obj (not_any (meets c.in_ok-draft.draft.name c.object_of-object.result) c.args.open_ones.now.items no)
