use Rattle.std.proofs.Common.{◌≡◌, ◌∙◌, sym, ap, subst, Some, List, ℕ, OnOk}
use Rattle.std.proofs.lemmas.Result.{IfErr-weaker}
use Rattle.store_model.specs.Rows.{row_at}
use Rattle.store_model.specs.Spelling.{name_of, signature_bytes, text_name}
use Rattle.build_store.proofs.Texts.{text_name_is}
use Rattle.build_store.specs.Finding.{IsOtherOrOutside}
use Rattle.store_model.specs.Readable.{IsRow}
use Rattle.build_store.specs.View.{signed_by}
use Rattle.build_store.proofs.Found.{clash_there}
use Rattle.build_store.proofs.Restored.{restores_run, restored_by, kept_restored}
use Rattle.build_store.proofs.Rows.{row_has, row_named}
use Rattle.outside_traits.specs.Passes.{Passes}
use Rattle.store_model.specs.Available.{task_folder}
use Rattle.store_model.specs.declared.signature.EquivRow.{EquivRow}
use Rattle.build_store.specs.Publication.{KeepsCopied}
use Rattle.build_store.proofs.restoring.restore.Goals as goal

pub restore_at-requires-clause-row : goal.restore_at-requires-clause-row
restore_at-requires-clause-row g c =
    let is : row_at c.args.index.now (name_of c.args.sig.now) ≡ Some c.in-Some.row.now = ap (row_at c.args.index.now) (sym c.in_ok-own.ensures.name) ∙ sym c.in-Some.ensures in
    row_has IsRow c.args.index.now (name_of c.args.sig.now) c.in-Some.row.now c.requires.rows is

pub returns-in-Some-clause-restored : goal.returns-in-Some-clause-restored
returns-in-Some-clause-restored g c told =
    let is : row_at c.args.index.now (name_of c.args.sig.now) ≡ Some c.in-Some.row.now = ap (row_at c.args.index.now) (sym c.in_ok-own.ensures.name) ∙ sym c.in-Some.ensures in
    let bytes : c.in_ok-own.own.text ≡ signature_bytes c.args.sig.now = c.in_ok-own.ensures.text in
    restored_by c.args.index.now (signed_by c.args.task.now c.args.sig.now) c.in-Some.row.now (g.D.Disk.story c.args.disk.now) (g.D.Disk.story c.restore_at.new.disk) c.requires.rows is (g.met.D.Disk.sound c.args.disk.now told) (c.requires.keeps told) c.restore_at.result
    (subst (λ (l : List ℕ). OnOk c.restore_at.result (c.in-Some.row.now.sig ≡ l)) bytes c.restore_at.ensures.clear) (c.restore_at.ensures.restored told)

pub returns-in-Some-clause-refused : goal.returns-in-Some-clause-refused
returns-in-Some-clause-refused g c =
    let is : row_at c.args.index.now (name_of c.args.sig.now) ≡ Some c.in-Some.row.now = ap (row_at c.args.index.now) (sym c.in_ok-own.ensures.name) ∙ sym c.in-Some.ensures in
    let bytes : c.in_ok-own.own.text ≡ signature_bytes c.args.sig.now = c.in_ok-own.ensures.text in
    IfErr-weaker c.restore_at.result _ _
    (λ f other. clash_there c.args.index.now (name_of c.args.sig.now) (signature_bytes c.args.sig.now) c.in-Some.row.now f is (subst (λ (l : List ℕ). IsOtherOrOutside c.in-Some.row.now l f) bytes other))
    c.restore_at.ensures.refused

pub returns-in-Some-clause-images : goal.returns-in-Some-clause-images
returns-in-Some-clause-images g c told =
    let is : row_at c.args.index.now (name_of c.args.sig.now) ≡ Some c.in-Some.row.now = ap (row_at c.args.index.now) (sym c.in_ok-own.ensures.name) ∙ sym c.in-Some.ensures in
    let bytes : c.in_ok-own.own.text ≡ signature_bytes c.args.sig.now = c.in_ok-own.ensures.text in
    restores_run c.args.index.now (signed_by c.args.task.now c.args.sig.now) c.in-Some.row.now (g.D.Disk.story c.args.disk.now) (g.D.Disk.story c.restore_at.new.disk) c.requires.rows is (g.met.D.Disk.sound c.args.disk.now told) (c.requires.keeps told)
    (c.restore_at.ensures.images told) (λ ne. c.restore_at.ensures.other told (λ e. ne (e ∙ bytes)))

pub returns-in-Some-clause-keeps : goal.returns-in-Some-clause-keeps
returns-in-Some-clause-keeps g c told =
    kept_restored c.args.index.now (signed_by c.args.task.now c.args.sig.now) (g.D.Disk.story c.args.disk.now) (g.D.Disk.story c.restore_at.new.disk) (c.requires.keeps told) (returns-in-Some-clause-images g c told) (c.restore_at.ensures.laid_out told)

pub returns-in-Some-clause-right : goal.returns-in-Some-clause-right
returns-in-Some-clause-right g c told row at =
    let is : row_at c.args.index.now (name_of c.args.sig.now) ≡ Some c.in-Some.row.now = ap (row_at c.args.index.now) (sym c.in_ok-own.ensures.name) ∙ sym c.in-Some.ensures in
    let both : Some c.in-Some.row.now ≡ Some row = sym is ∙ at in
    let same : c.in-Some.row.now ≡ row = cc in
    subst (λ (r : EquivRow). Passes (g.D.Disk.story c.args.disk.now) (g.D.Disk.story c.restore_at.new.disk) (KeepsCopied (task_folder c.args.task.now) r.unihash (g.D.Disk.story c.args.disk.now).held)) same (c.restore_at.ensures.right told)

pub restore_at-requires-clause-named : goal.restore_at-requires-clause-named
restore_at-requires-clause-named g c =
    row_named c.args.index.now c.in_ok-own.own.name c.in-Some.row.now (sym c.in-Some.ensures) ∙ c.in_ok-own.ensures.name ∙ sym (text_name_is c.args.sig.now) ∙ ap text_name (sym c.in_ok-own.ensures.text)
