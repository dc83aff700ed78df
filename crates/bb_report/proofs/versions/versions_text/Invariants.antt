use Rattle.std.proofs.Common.{◌≡◌, take}
use Rattle.run_model.specs.Texts as texts
use Rattle.bb_report.proofs.versions.versions_text.Given as goal

abbrev pub invariant-loop-recipe : goal.invariant-loop-recipe
invariant-loop-recipe l = l.made ≡ texts.versions_text (take l.recipe-index l.recipe-items)
