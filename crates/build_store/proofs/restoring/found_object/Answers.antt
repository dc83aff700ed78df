use Rattle.std.proofs.Common.{◌≡◌, ◌∙◌, sym, ap, subst, Some, List, ℕ, OnOk}
use Rattle.std.proofs.lemmas.Result.{IfErr-weaker}
use Rattle.store_model.specs.Readable.{IsRow}
use Rattle.store_model.specs.Rows.{row_at}
use Rattle.store_model.specs.Spelling.{name_of, signature_bytes, text_name}
use Rattle.build_store.specs.Finding.{IsOtherOrOutside}
use Rattle.build_store.specs.View.{signed_by}
use Rattle.build_store.proofs.Found.{clash_there}
use Rattle.build_store.proofs.RestoringOpens.{all_found, all_stored}
use Rattle.build_store.proofs.Rows.{row_has, row_named}
use Rattle.build_store.proofs.Texts.{text_name_is}
use Rattle.build_store.proofs.restoring.found_object.Goals as goal

pub found_at-requires-clause-row : goal.found_at-requires-clause-row
found_at-requires-clause-row g c =
    let is : row_at c.args.index.now (name_of c.args.sig.now) ≡ Some c.in-Some.row.now = ap (row_at c.args.index.now) (sym c.in_ok-own.ensures.name) ∙ sym c.in-Some.ensures in
    row_has IsRow c.args.index.now (name_of c.args.sig.now) c.in-Some.row.now c.requires.rows is

pub found_at-requires-clause-named : goal.found_at-requires-clause-named
found_at-requires-clause-named g c =
    row_named c.args.index.now c.in_ok-own.own.name c.in-Some.row.now (sym c.in-Some.ensures) ∙ c.in_ok-own.ensures.name ∙ sym (text_name_is c.args.sig.now) ∙ ap text_name (sym c.in_ok-own.ensures.text)

pub returns-in-Some-clause-of : goal.returns-in-Some-clause-of
returns-in-Some-clause-of g c =
    let is : row_at c.args.index.now (name_of c.args.sig.now) ≡ Some c.in-Some.row.now = ap (row_at c.args.index.now) (sym c.in_ok-own.ensures.name) ∙ sym c.in-Some.ensures in
    let bytes : c.in_ok-own.own.text ≡ signature_bytes c.args.sig.now = c.in_ok-own.ensures.text in
    all_stored c.args.index.now (signed_by c.args.task.now c.args.sig.now) c.in-Some.row.now is c.found_at.result (subst (λ (l : List ℕ). OnOk c.found_at.result (c.in-Some.row.now.sig ≡ l)) bytes c.found_at.ensures.clear) c.found_at.ensures.by_row

pub returns-in-Some-clause-found : goal.returns-in-Some-clause-found
returns-in-Some-clause-found g c told =
    let is : row_at c.args.index.now (name_of c.args.sig.now) ≡ Some c.in-Some.row.now = ap (row_at c.args.index.now) (sym c.in_ok-own.ensures.name) ∙ sym c.in-Some.ensures in
    let bytes : c.in_ok-own.own.text ≡ signature_bytes c.args.sig.now = c.in_ok-own.ensures.text in
    all_found c.args.index.now (signed_by c.args.task.now c.args.sig.now) c.in-Some.row.now is (g.D.Disk.story c.args.disk.now).held c.found_at.result
    (subst (λ (l : List ℕ). OnOk c.found_at.result (c.in-Some.row.now.sig ≡ l)) bytes c.found_at.ensures.clear) (c.found_at.ensures.found told)

pub returns-in-Some-clause-refused : goal.returns-in-Some-clause-refused
returns-in-Some-clause-refused g c =
    let is : row_at c.args.index.now (name_of c.args.sig.now) ≡ Some c.in-Some.row.now = ap (row_at c.args.index.now) (sym c.in_ok-own.ensures.name) ∙ sym c.in-Some.ensures in
    let bytes : c.in_ok-own.own.text ≡ signature_bytes c.args.sig.now = c.in_ok-own.ensures.text in
    IfErr-weaker c.found_at.result _ _
    (λ f other. clash_there c.args.index.now (name_of c.args.sig.now) (signature_bytes c.args.sig.now) c.in-Some.row.now f is (subst (λ (l : List ℕ). IsOtherOrOutside c.in-Some.row.now l f) bytes other))
    c.found_at.ensures.refused
