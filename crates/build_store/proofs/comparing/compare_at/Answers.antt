use Rattle.std.proofs.Common.{◌∙◌, sym}
use Rattle.store_model.specs.Readable.{IsRow}
use Rattle.std.proofs.lemmas.Result.{IfErr-weaker}
use Rattle.build_store.proofs.Rows.{clash, row_has, row_named}
use Rattle.build_store.proofs.comparing.compare_at.Goals as goal

pub returns-in-Some-clause-refused : goal.returns-in-Some-clause-refused
returns-in-Some-clause-refused c =
    IfErr-weaker c.compare_row.result _ _ (λ f other. clash c.args.index.now c.args.name.now c.args.sig.now c.in-Some.row.now f (sym c.in-Some.ensures) other) c.compare_row.ensures.err

pub compare_row-requires-clause-row : goal.compare_row-requires-clause-row
compare_row-requires-clause-row c = row_has IsRow c.args.index.now c.args.name.now c.in-Some.row.now c.requires.rows (sym c.in-Some.ensures)

pub compare_row-requires-clause-named : goal.compare_row-requires-clause-named
compare_row-requires-clause-named c = row_named c.args.index.now c.args.name.now c.in-Some.row.now (sym c.in-Some.ensures) ∙ c.requires.named
