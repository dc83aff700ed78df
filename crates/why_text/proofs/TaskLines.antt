-- Lines behind one another.
use Rattle.std.proofs.Common.{◌≡◌, ◌∙◌, sym, ap, subst, refl, ℕ, ◌+◌, suc, Bool, List, [], ◌++◌, Some, slice_get, inl, inr, arith}
use Rattle.std.proofs.lemmas.List.{append-nil}
use Rattle.meta_model.specs.declared.plan.PlanTask.{PlanTask}
use Rattle.tale_model.specs.Need.{IsIn}
use Rattle.setscene_plan.proofs.Naming.{signed_task}
use Rattle.std.proofs.lemmas.Option.{same_Some}
use Rattle.why_model.specs.declared.fate.Fate.{Fate}
use Rattle.why_model.specs.Fates.{Told}
use Rattle.why_model.specs.Why.{AreLines, IsLine, fate_line}
use Rattle.why_text.specs.Telling.{IsFateAt, PutsLine}

-- a task that isn't needed has no line
pub no_line : (told : Told) (need : List Bool) (n : ℕ) (text : List ℕ) → (IsIn need n → ⊥) → PutsLine told need n text text
no_line told need n text none = record { line = []; is_line = λ s is. inl (none, refl); is = sym (append-nil text) }

-- one that is needed has that of its fate
pub one_line : (told : Told) (need : List Bool) (n : ℕ) (task : PlanTask) (what : Fate) (old new : List ℕ) → slice_get told.plan.tasks n ≡ Some task → IsIn need n → IsFateAt told n what → new ≡ old ++ fate_line told.plan.tasks task what → PutsLine told need n old new
one_line told need n task what old new at member fate is = record {
  line = fate_line told.plan.tasks task what;
  is_line = λ s signed. inr (member, (what, fate s signed, ap (λ (t : PlanTask). fate_line told.plan.tasks t what) (same_Some task s.task (sym at ∙ signed_task told.rows told.plan.tasks n s signed))));
  is = is;
}

-- one line more
pub more_lines : (told : Told) (need : List Bool) (n : ℕ) (old new : List ℕ) → AreLines (IsLine told need) n old → PutsLine told need n old new → AreLines (IsLine told need) (n + 1) new
more_lines told need n old new lines puts =
    let next : suc n ≡ n + 1 = omega arith in
    subst (λ (k : ℕ). AreLines (IsLine told need) k new) next (subst (AreLines (IsLine told need) (suc n)) (sym puts.is) (AreLines.more n old puts.line lines puts.is_line))

pub no_lines : (told : Told) (need : List Bool) (text : List ℕ) → text ≡ [] → AreLines (IsLine told need) 0 text
no_lines told need text is = subst (AreLines (IsLine told need) 0) (sym is) AreLines.none
