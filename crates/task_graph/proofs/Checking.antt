-- Recipes whose names all have providers.
use Rattle.std.proofs.Common.{◌≡◌, sym, ◌∙◌, refl, arith, ℕ, zero, suc, ◌<◌, List, [], ◌∷◌, length, Some, None, ◌⊎◌, slice_get, Ok, Err, Result}
use Rattle.std.specs.Result.{IfErr}
use Rattle.meta_model.specs.declared.facts.FactSet.{FactSet}
use Rattle.meta_model.specs.declared.facts.RecipeFacts.{RecipeFacts}
use Rattle.task_graph.specs.declared.fault.GraphFault.{GraphFault}
use Rattle.task_graph.specs.declared.needed.Needed.{Needed}
use Rattle.task_graph.specs.Faults.{IsRefusalOf}
use Rattle.task_graph.specs.Needed.{AreNeeded}
use Rattle.task_graph.specs.Context.{LacksToBuild, LacksToRun}
use Rattle.task_graph.specs.Edges.{LacksAt}
use Rattle.graph_walk.proofs.Finding.{place_within}
use Rattle.task_graph.proofs.Refusals.{refusal_weaker}

there : {A : Type 0} (xs : List A) (k : ℕ) → k < length xs → (x : A) × (slice_get xs k ≡ Some x)
there [] k lt = absurd (omega (arith, lt))
there (x ∷ xs) zero lt = (x, refl)
there (x ∷ xs) (suc k) lt = there xs k (omega (arith, lt))

pub none_needed : {P : Type 0} (facts : FactSet) (all : List Needed) (n : ℕ) (recipe : RecipeFacts) → AreNeeded facts all → slice_get facts.recipes n ≡ Some recipe → slice_get all n ≡ None → P
none_needed facts all n recipe are at none =
    let got = there all n (omega (arith, place_within facts.recipes n recipe at, are.long)) in
    absurd (let f : None ≡ Some got.0 = sym none ∙ got.1 in cc)

pub one_refused : {T : Type 0} (facts : FactSet) (n : ℕ) (recipe : RecipeFacts) (r : Result T GraphFault) → slice_get facts.recipes n ≡ Some recipe → IfErr r (IsRefusalOf (λ refusal. LacksToBuild facts recipe refusal ⊎ LacksToRun facts recipe refusal))
    → IfErr r (IsRefusalOf (LacksAt facts n))
one_refused facts n recipe (Ok u) at h = tt
one_refused facts n recipe (Err fault) at h = refusal_weaker (λ refusal. LacksToBuild facts recipe refusal ⊎ LacksToRun facts recipe refusal) (LacksAt facts n) (λ refusal lacks. (recipe, at, lacks)) fault h
