use Rattle.std.proofs.Common.{◌∙◌, ap, sym, Ok, Err}
use Rattle.std.proofs.lemmas.Result.{err_from_is_err_and}
use Rattle.meta_model.specs.Refusal.{value_cycle, too_deep}
use Rattle.var_expand.specs.Expanding.{known}
use Rattle.var_expand.proofs.Expanding.{known_cycle, known_unfound, known_deep}
use Rattle.var_expand.proofs.going.find_fresh.Goals as goal

pub returns-then-is_among-clause-err : goal.returns-then-is_among-clause-err
returns-then-is_among-clause-err g c =
    known_cycle (g.L.Lookup.finds c.args.from.now) c.args.left c.args.within.now c.args.name.now (sym c.is_among.ensures ∙ c.if-is_among.true) ∙ ap (λ n. Err (value_cycle n)) (sym c.in_ok-from_str.ensures)

pub returns-in_err-found-clause-err : goal.returns-in_err-found-clause-err
returns-in_err-found-clause-err g c =
    let fresh = sym c.is_among.ensures ∙ c.if-is_among.false in
    let p = err_from_is_err_and c.from_residual-in_err-found.result c.from_residual-in_err-found.ensures.1 in
    rw (p.1, p.2) (known_unfound (g.L.Lookup.finds c.args.from.now) c.args.left c.args.within.now c.args.name.now c.in_err-found.field-0.0 fresh c.in_err-found.ensures.err)

pub returns-then-left-eq0-clause-err : goal.returns-then-left-eq0-clause-err
returns-then-left-eq0-clause-err g c =
    let finds = g.L.Lookup.finds c.args.from.now in
    let fresh = sym c.is_among.ensures ∙ c.if-is_among.false in
    ap (λ n. (known finds n c.args.within.now).at c.args.name.now) c.if-left-eq0.true
    ∙ known_deep finds c.args.within.now c.args.name.now c.in-Some.found fresh (c.in_ok-found.ensures.ok ∙ ap Ok c.in-Some.is)
    ∙ ap (λ n. Err (too_deep n)) (sym c.in_ok-innermost_name.ensures)
