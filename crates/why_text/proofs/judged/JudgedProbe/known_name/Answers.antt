use Rattle.std.proofs.Common.{sym, subst}
use Rattle.std.specs.List.{AllByRecursion}
use Rattle.store_model.specs.Readable.{IsRow}
use Rattle.build_store.proofs.Rows.{named_by}
use Rattle.why_text.proofs.judged.JudgedProbe.known_name.Goals as goal

pub returns : goal.returns
returns g c = named_by c.index.result.now (subst (AllByRecursion IsRow) (sym c.index.ensures.index) c.index.ensures.rows) c.args.sig.now c.name_of.result c.name_of.ensures
