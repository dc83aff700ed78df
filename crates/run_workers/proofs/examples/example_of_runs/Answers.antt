use Rattle.std.proofs.Common.{◌≡◌, refl, [], ◌∷◌, None}
use Rattle.std.specs.Prelude.{codes}
use Rattle.std.proofs.lemmas.Option.{none-some}
use Rattle.tree_model.specs.Folder.{picked}
use Rattle.tree_model.specs.Overlay.{overlaid}
use Rattle.meta_model.specs.Layout.{layout_in_order}
use Rattle.meta_model.specs.Worked.{planned, shell}
use Rattle.run_workers.specs.Rows.{one_plan, one_run}
use Rattle.run_model.specs.Runs.{IsRunOf, RanScripts, RanThese, Runs}
use Rattle.run_workers.proofs.examples.example_of_runs.Goals as goal

is_run : IsRunOf shell one_plan 0 (codes "gen", [])
unfolding layout_in_order overlaid picked
is_run = record { task = planned (codes "a") (codes "do_build") [] 0 (codes "gen"); is_task = refl; outputs = []; numbers = refl; clean = tt; is = refl }

none_ran : (runs : Runs) → [] ≡ runs → RanThese shell one_plan None (0 ∷ []) runs → ⊥
none_ran [] ran these = none-some 0 these.1
none_ran (run ∷ runs) ran these = cc

no_script : (runs : Runs) → [] ≡ runs → RanScripts one_plan None (0 ∷ []) runs → ⊥
no_script [] ran these = none-some 0 these.1
no_script (run ∷ runs) ran these = cc

none_started : (runs : Runs) → one_run ≡ runs → RanScripts one_plan None [] runs → ⊥
none_started [] ran these = cc
none_started (run ∷ runs) ran these = these

pub returns-clause-ended : goal.returns-clause-ended
returns-clause-ended c = record { runs = one_run; ran = refl; these = (is_run, tt) }

pub returns-clause-skipped : goal.returns-clause-skipped
returns-clause-skipped c r = none_ran r.runs r.ran r.these

pub returns-clause-broke : goal.returns-clause-broke
returns-clause-broke c = record { runs = []; ran = refl; these = (refl, refl) }

pub returns-clause-broke_behind : goal.returns-clause-broke_behind
returns-clause-broke_behind c = record { runs = one_run; ran = refl; these = (is_run, tt) }

pub returns-clause-skipped_script : goal.returns-clause-skipped_script
returns-clause-skipped_script c r = no_script r.runs r.ran r.these

pub returns-clause-broken_script : goal.returns-clause-broken_script
returns-clause-broken_script c = record { runs = []; ran = refl; these = (refl, refl) }

pub returns-clause-unprinted : goal.returns-clause-unprinted
returns-clause-unprinted c r = none_started r.runs r.ran r.these
