use Rattle.std.proofs.Common.{◌∙◌, codes}
use Rattle.load_model.specs.Recipes.{asked_of, text_of, three_values}
use Rattle.meta_model.proofs.Passing.{goes_on}
use Rattle.recipe_set.proofs.Setting.{set_exit, set_on, set_later, not_read_exit, values1, values2, values3}
use Rattle.recipe_set.proofs.recipe.values_in.Goals as goal

pub returns-in_err-pv-clause-err : goal.returns-in_err-pv-clause-err
returns-in_err-pv-clause-err c =
    let path = c.args.path.now in
    let lines = c.args.store.now in
    let fault = c.in_err-pv.field-0.0 in
    set_exit c.from_residual-in_err-pv.result fault (three_values path lines) c.from_residual-in_err-pv.ensures.1
    (set_later fault (asked_of path (text_of lines (codes "PN"))) c.in_ok-pn.pn (values1 path lines) c.in_ok-pn.ensures.ok
    (set_on fault (asked_of path (text_of lines (codes "PV"))) (values2 path lines c.in_ok-pn.pn) c.in_err-pv.ensures.err))

pub returns-in_err-pv-clause-not_read : goal.returns-in_err-pv-clause-not_read
returns-in_err-pv-clause-not_read c = not_read_exit c.from_residual-in_err-pv.result c.in_err-pv.field-0.0 c.from_residual-in_err-pv.ensures.1 c.in_err-pv.ensures.not_read

pub returns-in_err-pr-clause-err : goal.returns-in_err-pr-clause-err
returns-in_err-pr-clause-err c =
    let path = c.args.path.now in
    let lines = c.args.store.now in
    let fault = c.in_err-pr.field-0.0 in
    set_exit c.from_residual-in_err-pr.result fault (three_values path lines) c.from_residual-in_err-pr.ensures.1
    (set_later fault (asked_of path (text_of lines (codes "PN"))) c.in_ok-pn.pn (values1 path lines) c.in_ok-pn.ensures.ok
    (set_later fault (asked_of path (text_of lines (codes "PV"))) c.in_ok-pv.pv (values2 path lines c.in_ok-pn.pn) c.in_ok-pv.ensures.ok
    (set_on fault (asked_of path (text_of lines (codes "PR"))) (values3 c.in_ok-pn.pn c.in_ok-pv.pv) c.in_err-pr.ensures.err)))

pub returns-in_err-pr-clause-not_read : goal.returns-in_err-pr-clause-not_read
returns-in_err-pr-clause-not_read c = not_read_exit c.from_residual-in_err-pr.result c.in_err-pr.field-0.0 c.from_residual-in_err-pr.ensures.1 c.in_err-pr.ensures.not_read

pub returns-clause-ok : goal.returns-clause-ok
returns-clause-ok c =
    let path = c.args.path.now in
    let lines = c.args.store.now in
    goes_on (asked_of path (text_of lines (codes "PN"))) c.in_ok-pn.pn (values1 path lines) c.in_ok-pn.ensures.ok
    ∙ goes_on (asked_of path (text_of lines (codes "PV"))) c.in_ok-pv.pv (values2 path lines c.in_ok-pn.pn) c.in_ok-pv.ensures.ok
    ∙ goes_on (asked_of path (text_of lines (codes "PR"))) c.in_ok-pr.pr (values3 c.in_ok-pn.pn c.in_ok-pv.pv) c.in_ok-pr.ensures.ok
