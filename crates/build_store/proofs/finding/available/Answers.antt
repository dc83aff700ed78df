use Rattle.std.proofs.Common.{◌≡◌, ◌∙◌, sym, ap, subst, Some, List, ℕ, OnOk}
use Rattle.std.proofs.lemmas.Result.{IfErr-weaker}
use Rattle.store_model.specs.Rows.{row_at}
use Rattle.store_model.specs.Readable.{IsRow}
use Rattle.store_model.specs.Spelling.{name_of, signature_bytes, text_name}
use Rattle.build_store.proofs.Rows.{row_has, row_named}
use Rattle.build_store.proofs.Texts.{text_name_is}
use Rattle.build_store.specs.View.{signed_by}
use Rattle.build_store.specs.Finding.{IsOtherOrOutside}
use Rattle.build_store.proofs.Found.{found_there, answered_there, clash_there}
use Rattle.build_store.proofs.finding.available.Goals as goal

pub returns-in-Some-clause-found : goal.returns-in-Some-clause-found
returns-in-Some-clause-found g c told =
    let is : row_at c.args.index.now (name_of c.args.sig.now) ≡ Some c.in-Some.row.now = ap (row_at c.args.index.now) (sym c.in_ok-own.ensures.name) ∙ sym c.in-Some.ensures in
    let bytes : c.in_ok-own.own.text ≡ signature_bytes c.args.sig.now = c.in_ok-own.ensures.text in
    found_there c.args.index.now (signed_by c.args.task.now c.args.sig.now) c.in-Some.row.now c.args.setscene (g.D.Disk.story c.args.disk.now).held c.available_at.result is
    (subst (λ (l : List ℕ). OnOk c.available_at.result (c.in-Some.row.now.sig ≡ l)) bytes c.available_at.ensures.clear) (c.available_at.ensures.found told)

pub returns-in-Some-clause-answered : goal.returns-in-Some-clause-answered
returns-in-Some-clause-answered g c =
    let is : row_at c.args.index.now (name_of c.args.sig.now) ≡ Some c.in-Some.row.now = ap (row_at c.args.index.now) (sym c.in_ok-own.ensures.name) ∙ sym c.in-Some.ensures in
    let bytes : c.in_ok-own.own.text ≡ signature_bytes c.args.sig.now = c.in_ok-own.ensures.text in
    answered_there c.args.index.now (signed_by c.args.task.now c.args.sig.now) c.in-Some.row.now c.available_at.result is
    (subst (λ (l : List ℕ). OnOk c.available_at.result (c.in-Some.row.now.sig ≡ l)) bytes c.available_at.ensures.clear)

pub returns-in-Some-clause-refused : goal.returns-in-Some-clause-refused
returns-in-Some-clause-refused g c =
    let is : row_at c.args.index.now (name_of c.args.sig.now) ≡ Some c.in-Some.row.now = ap (row_at c.args.index.now) (sym c.in_ok-own.ensures.name) ∙ sym c.in-Some.ensures in
    let bytes : c.in_ok-own.own.text ≡ signature_bytes c.args.sig.now = c.in_ok-own.ensures.text in
    IfErr-weaker c.available_at.result _ _
    (λ f other. clash_there c.args.index.now (name_of c.args.sig.now) (signature_bytes c.args.sig.now) c.in-Some.row.now f is (subst (λ (l : List ℕ). IsOtherOrOutside c.in-Some.row.now l f) bytes other))
    c.available_at.ensures.refused

pub available_at-requires-clause-row : goal.available_at-requires-clause-row
available_at-requires-clause-row g c = row_has IsRow c.args.index.now c.in_ok-own.own.name c.in-Some.row.now c.requires.rows (sym c.in-Some.ensures)

pub available_at-requires-clause-named : goal.available_at-requires-clause-named
available_at-requires-clause-named g c =
    row_named c.args.index.now c.in_ok-own.own.name c.in-Some.row.now (sym c.in-Some.ensures) ∙ c.in_ok-own.ensures.name ∙ sym (text_name_is c.args.sig.now) ∙ ap text_name (sym c.in_ok-own.ensures.text)
