use Rattle.std.proofs.Common.{◌∙◌, sym, subst, All, List, ℕ, Result, Ok}
use Rattle.std.specs.Prelude.{IfOk}
use Rattle.tree_model.specs.Path.{BeginsWith}
use Rattle.outside_traits.specs.declared.fault.DiskFault.{DiskFault}
use Rattle.sub_disk.specs.Sub.{Cuts}
use Rattle.sub_disk.proofs.cut.cut_list.Goals as goal

pub returns-in_ok-rests_behind-in-Ok-clause-cuts : goal.returns-in_ok-rests_behind-in-Ok-clause-cuts
returns-in_ok-rests_behind-in-Ok-clause-cuts c =
    let prefix = c.args.prefix.now in
    let names = c.in_ok-rests_behind-in-Ok.field-0 in
    subst (λ (r : Result (List (List ℕ)) DiskFault). IfOk r (λ paths. All (λ p. BeginsWith prefix p) paths) → Cuts prefix r (Ok names)) (sym c.in-Ok.is)
    (λ all. c.in_ok-rests_behind-in-Ok.ensures (subst (λ (paths : List (List ℕ)). All (λ p. BeginsWith prefix p) paths) (sym c.as_slice.ensures) all) ∙ c.as_slice.ensures)
