use Rattle.std.proofs.Common.{◌∙◌, ap, sym, Ok}
use Rattle.datastore.specs.Looked.{found_under, found_over}
use Rattle.datastore.proofs.looked.OverLookup.find.Goals as goal

pub returns-in_ok-resolved_under-in-Settled-clause-ok : goal.returns-in_ok-resolved_under-in-Settled-clause-ok
returns-in_ok-resolved_under-in-Settled-clause-ok c =
    let list = c.args.self.now.store.now in
    let name = c.args.name.now in
    ap (λ o. (found_over list o).at name) c.in-Settled.is ∙ ap (λ a. (found_under list a).at name) (sym c.as_slice.ensures) ∙ ap Ok (sym c.in_ok-resolved_under-in-Settled.ensures)
