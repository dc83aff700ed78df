use Rattle.std.proofs.Common.{◌≡◌, List, ℕ, subst}
use Rattle.std.specs.Prelude.{IfOk}
use Rattle.multi_config.proofs.Firsts.{names_reached}
use Rattle.multi_config.proofs.parts.names_of.Goals as goal

pub returns : goal.returns
returns c = subst (λ (l : List (List ℕ)). IfOk c.put_all_named.result (λ names. names.items ≡ l)) (names_reached c.args.places.now c.in_ok-first.first.items c.in_ok-first.ensures) c.put_all_named.ensures
