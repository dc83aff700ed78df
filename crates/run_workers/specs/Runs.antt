-- What benches ran so far.
use Rattle.std.specs.Prelude.{ℕ, List, [], ◌∷◌, Option, Some, None, Bool, true, false}
use Rattle.meta_model.specs.declared.plan.Plan.{Plan}
use Rattle.meta_model.specs.CleanBuild.{Gives}
use Rattle.run_model.specs.Runs.{Runs, IsRunOf, RanThese, IsScriptOf, RanScripts}
use Rattle.run_workers.specs.declared.worker.Halt.{Halt}
use Rattle.run_workers.specs.declared.worker.Halt.TheVariants as halts

-- the bench ran these tasks, each of them
abbrev pub AllRan : Gives → Plan → List ℕ → Runs → Type 0
AllRan gives plan [] [] = Unit {0}
AllRan gives plan [] (run ∷ runs) = ⊥
AllRan gives plan (t ∷ ts) [] = ⊥
AllRan gives plan (t ∷ ts) (run ∷ runs) = IsRunOf gives plan t run × AllRan gives plan ts runs

-- the bench ran the scripts of these tasks, each of them
abbrev pub AllScripts : Plan → List ℕ → Runs → Type 0
AllScripts plan [] [] = Unit {0}
AllScripts plan [] (run ∷ runs) = ⊥
AllScripts plan (t ∷ ts) [] = ⊥
AllScripts plan (t ∷ ts) (run ∷ runs) = IsScriptOf plan t run.0 × AllScripts plan ts runs

-- all of them, or where a worker halts all of them but maybe the last, if that broke off
abbrev pub RanSoFar : Gives → Plan → Option Halt → Option ℕ → List ℕ → Runs → Type 0
RanSoFar gives plan None broke ts runs = AllRan gives plan ts runs
RanSoFar gives plan (Some halt) broke ts runs = RanThese gives plan broke ts runs

abbrev pub ScriptsSoFar : Plan → Option Halt → Option ℕ → List ℕ → Runs → Type 0
ScriptsSoFar plan None broke ts runs = AllScripts plan ts runs
ScriptsSoFar plan (Some halt) broke ts runs = RanScripts plan broke ts runs

-- whether a worker halts since its bench failed
abbrev pub by_bench : Option Halt → Bool
by_bench (Some halts.Bench) = true
by_bench _ = false
