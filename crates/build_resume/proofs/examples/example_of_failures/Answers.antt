use Rattle.std.proofs.Common.{◌≡◌, refl, ℕ, zero, suc, arith, [], Some, Err}
use Rattle.std.specs.Prelude.{Contains, codes}
use Rattle.std.specs.List.{slice_get}
use Rattle.std.proofs.lemmas.Option.{none-some}
use Rattle.tree_model.specs.Folder.{picked}
use Rattle.tree_model.specs.Overlay.{overlaid}
use Rattle.meta_model.specs.declared.event.Why.TheVariants as why
use Rattle.meta_model.specs.CleanBuild.{Built, clean_build, fails, is_beyond, is_beyond_layout}
use Rattle.meta_model.specs.Layout.{layout_in_order}
use Rattle.meta_model.specs.Worked.{planned, shell}
use Rattle.run_model.specs.Build.{failed_in}
use Rattle.build_resume.specs.Worked.{failing_plan, failing_tale}
use Rattle.build_resume.proofs.examples.example_of_failures.Goals as goal

only_first : (t : ℕ) (built : Built) → slice_get (clean_build shell failing_plan.tasks) t ≡ Some built → Contains (failed_in failing_tale) t
only_first zero built at = (0, omega arith, refl)
only_first (suc t) built at = absurd (none-some built at)

pub returns-clause-told : goal.returns-clause-told
returns-clause-told c t built at cause failed = only_first t built at

pub returns-clause-untold : goal.returns-clause-untold
unfolding is_beyond is_beyond_layout layout_in_order overlaid picked
returns-clause-untold c all =
    let lost = all 0 (record { task = planned (codes "a") (codes "do_build") [] 0 (codes "fail"); outcome = Err (fails (why.Status 3)) }) refl (why.Status 3) refl in
    let none = lost.1 in omega (arith, none)
