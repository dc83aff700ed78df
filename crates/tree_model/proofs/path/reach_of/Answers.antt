use Rattle.std.proofs.Common.{sym, subst, List, ℕ}
use Rattle.tree_model.specs.Reach.{IsReach}
use Rattle.tree_model.proofs.PathLemmas.{some_rest, unlike_from_none}
use Rattle.tree_model.proofs.path.reach_of.Goals as goal

pub returns-in-Some : goal.returns-in-Some
returns-in-Some c =
    let P : List ℕ → Type 0 = λ z. IsReach c.args.path.now z c.reach_behind.result in
    subst P (sym (some_rest _ _ _ _ c.in-Some.rest c.as_bytes.ensures.value c.as_bytes-2.ensures.value c.in-Some.ensures.cases)) (c.reach_behind.ensures c.args.path.now)

pub returns-in-None : goal.returns-in-None
returns-in-None c = unlike_from_none c.args.other.now c.args.path.now _ _ c.as_bytes.ensures.value c.as_bytes-2.ensures.value c.in-None.ensures.cases
