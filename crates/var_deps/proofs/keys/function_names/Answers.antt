use Rattle.std.proofs.Common.{◌≡◌, ◌∙◌, ap, sym, subst, ℕ, List, filter, is_some, codes, IfOk}
use Rattle.std.proofs.lemmas.Result.{IfOk-weaker}
use Rattle.meta_model.specs.Base.{flag, is_left, names, names_in}
use Rattle.meta_model.specs.Text.{in_byte_order}
use Rattle.meta_model.proofs.Ordered.{filter_ascending, ordered_ascending}
use Rattle.name_walk.proofs.Steps.{in_order}
use Rattle.var_deps.proofs.keys.function_names.Goals as goal

pub returns-clause-ordered : goal.returns-clause-ordered
returns-clause-ordered c =
    let store = c.args.store.now in
    let test = λ (t : List ℕ). is_some (flag store t (codes "func")) in
    let ordered = in_order (filter test (names store)) (filter_ascending test (names store) (ordered_ascending (filter (is_left store) (names_in store)))) in
    IfOk-weaker c.flagged.result _ _ (λ made is. ap in_byte_order is ∙ ordered ∙ sym is) c.flagged.ensures.names
