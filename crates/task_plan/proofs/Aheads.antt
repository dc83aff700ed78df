-- What is made ahead of a plan, node by node.
use Rattle.std.proofs.Common.{◌≡◌, ◌∙◌, sym, subst, ℕ, List, Bool, Option, Some, None, nat_eq, slice_get, IfSome, true, false}
use Rattle.std.specs.Prelude.{cond}
use Rattle.std.specs.Map.{update}
use Rattle.std.proofs.Math.Logic.{⊎_elim}
use Rattle.std.proofs.lemmas.Bool.{cases_eq}
use Rattle.std.proofs.lemmas.Map.{update_here, update_apart}
use Rattle.meta_model.specs.declared.facts.Node.{Node}
use Rattle.load_model.specs.Facts.{RecipeSet}
use Rattle.task_plan.specs.declared.parts.Made.{Made}
use Rattle.task_plan.specs.Ahead.{AreAhead, IsMadeAt, IsMadeOf}

module _ (set : RecipeSet) (nodes : List Node) where
  -- one more is put
  pub one_more_ahead : (old new : ℕ → Option Made) (k : ℕ) (made : Made) → ((q : ℕ) → new q ≡ update nat_eq old k (Some made) q) → AreAhead set nodes old → IsMadeAt set nodes k made → AreAhead set nodes new
  one_more_ahead old new k made put ahead is n found e =
      ⊎_elim
      (λ same.
      let now = put n in
      let here = update_here old k (Some made) in
      let found_is : made ≡ found = (cc) in
      subst (λ m. IsMadeAt set nodes m found) (sym same) (subst (λ x. IsMadeAt set nodes k x) found_is is))
      (λ apart. ahead n found (sym (update_apart old k (Some made) n apart) ∙ sym (put n) ∙ e))
      (cases_eq n k)

  -- what is made of the node with a number is made of that node
  pub made_of : (n : ℕ) (node : Node) (taken : Option Made) → slice_get nodes n ≡ Some node → IfSome taken (IsMadeAt set nodes n) → IfSome taken (IsMadeOf set node)
  made_of n node None at is = tt
  made_of n node (Some made) at is =
      let there = is.at in
      let same : is.node ≡ node = (cc) in
      subst (λ one. IsMadeOf set one made) same is.is
