use Rattle.std.proofs.Common.{◌≡◌, ◌∙◌, ap, sym, subst, [], false, ℕ, List, Option, Some}
use Rattle.meta_model.specs.Forms.{asked_by}
use Rattle.task_model.specs.Keys.{asked_value}
use Rattle.var_expand.specs.Faults.{IsFaultOf}
use Rattle.var_deps.specs.Reading.{view_by}
use Rattle.var_deps.proofs.Passing.{out}
use Rattle.var_deps.proofs.asked.asked_value.Goals as goal

abbrev Asked : Type 0
Asked = Option (List ℕ × List (List ℕ))

pub returns-in_err-found_value-in-Some-clause-err : goal.returns-in_err-found_value-in-Some-clause-err
returns-in_err-found_value-in-Some-clause-err c =
    let view = view_by c.args.seen.now.store.now c.args.seen.now.task [] false [] in
    let fault = c.in_err-found_value-in-Some.field-0.0 in
    let name : List ℕ → Asked = λ n. Some (n, c.in-Some.wanted) in
    let words : List (List ℕ) → Asked = λ w. Some (c.as_str.result.now, w) in
    let at : asked_by c.args.name.now ≡ Some (c.as_str.result.now, c.as_slice.result.now) =
    c.in_ok-asked.ensures ∙ c.in-Some.is ∙ ap name (sym c.as_str.ensures) ∙ ap words (sym c.as_slice.ensures) in
    out c.from_residual-in_err-found_value-in-Some.result fault (asked_value view (asked_by c.args.name.now) c.args.read) c.from_residual-in_err-found_value-in-Some.ensures.1
    (subst (λ a. IsFaultOf fault (asked_value view a c.args.read)) (sym at) (c.in_err-found_value-in-Some.ensures.err c.args.read))

pub returns-in_ok-found_value-in-Some-clause-ok : goal.returns-in_ok-found_value-in-Some-clause-ok
returns-in_ok-found_value-in-Some-clause-ok c =
    let view = view_by c.args.seen.now.store.now c.args.seen.now.task [] false [] in
    let name : List ℕ → Asked = λ n. Some (n, c.in-Some.wanted) in
    let words : List (List ℕ) → Asked = λ w. Some (c.as_str.result.now, w) in
    let at : asked_by c.args.name.now ≡ Some (c.as_str.result.now, c.as_slice.result.now) =
    c.in_ok-asked.ensures ∙ c.in-Some.is ∙ ap name (sym c.as_str.ensures) ∙ ap words (sym c.as_slice.ensures) in
    ap (λ a. asked_value view a c.args.read) at ∙ c.in_ok-found_value-in-Some.ensures.ok c.args.read
