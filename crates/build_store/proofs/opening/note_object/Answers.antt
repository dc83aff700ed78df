use Rattle.std.proofs.Common.{◌≡◌, ◌∙◌, sym, subst, Some}
use Rattle.std.proofs.lemmas.Result.{on_ok_weaker}
use Rattle.tree_model.specs.declared.hash.Hash.{Hash}
use Rattle.store_model.specs.Available.{object_folder}
use Rattle.build_store.specs.OpenOnes.{NotesIn}
use Rattle.build_store.proofs.opening.note_object.Goals as goal

pub returns-in_ok-folder-in-Some-clause-noted : goal.returns-in_ok-folder-in-Some-clause-noted
returns-in_ok-folder-in-Some-clause-noted g c told =
    let at : c.as_str.result.now ≡ object_folder c.in-Some.unihash = c.as_str.ensures ∙ c.in_ok-folder-in-Some.ensures in
    let held = (g.D.Disk.story c.args.disk.now).held in
    on_ok_weaker c.note_in.result (λ notes unihash is.
    let k : Some c.in-Some.unihash ≡ Some unihash = sym c.in-Some.is ∙ is in
    let same : c.in-Some.unihash ≡ unihash = cc in
    subst (λ (h : Hash). NotesIn (object_folder h) c.args.tree.now held c.args.extra.now c.note_in.new.extra) same (rw at at notes)) (c.note_in.ensures.noted told)
