use Rattle.std.proofs.Common.{sym, subst, ℕ, List, []}
use Rattle.std.specs.Prelude.{IfErr}
use Rattle.outside_traits.specs.Store.{IsListing}
use Rattle.answer_model.specs.declared.asked.ShowMode.{ShowMode}
use Rattle.multi_config.specs.Shown.{IsUnshown}
use Rattle.bitbake_top.proofs.shown.shown_text.Goals as goal

pub returns-in-Plan-clause-err : goal.returns-in-Plan-clause-err
returns-in-Plan-clause-err g c =
    subst (λ (m : ShowMode). IfErr c.part_plan_text.result (λ status. g.L.Layers.tells → (paths : List (List ℕ)) → IsListing [] (g.L.Layers.files c.args.layers.now) paths → IsUnshown m (g.L.Layers.files c.args.layers.now) paths c.args.part.now status)) (sym c.in-Plan.is) c.part_plan_text.ensures.err

pub returns-in-Values-clause-err : goal.returns-in-Values-clause-err
returns-in-Values-clause-err g c =
    subst (λ (m : ShowMode). IfErr c.read_part.result (λ status. g.L.Layers.tells → (paths : List (List ℕ)) → IsListing [] (g.L.Layers.files c.args.layers.now) paths → IsUnshown m (g.L.Layers.files c.args.layers.now) paths c.args.part.now status)) (sym c.in-Values.is) c.read_part.ensures.err
