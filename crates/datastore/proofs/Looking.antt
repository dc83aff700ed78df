-- What is found is what the entries give.
use Rattle.std.proofs.Common.{◌≡◌, refl, sym, ◌∙◌, ap, subst, ℕ, true, List, Option, Some, is_some, Result, Ok, Err, IfOk, IfSome, IfErr}
use Rattle.meta_model.proofs.Room.{values_alike, texts_alike}
use Rattle.meta_model.specs.declared.entry.EntryLine.{EntryLine}
use Rattle.meta_model.specs.declared.value.Resolved.{Resolved}
use Rattle.meta_model.specs.Refusal.{Refusal, ◌>>=◌}
use Rattle.meta_model.specs.Overrides.{resolved}
use Rattle.meta_model.specs.Expansion.{IsAlike, value_by, expand_by}
use Rattle.meta_model.specs.Active as entries
use Rattle.var_expand.specs.declared.fault.ExpandFault.{ExpandFault}
use Rattle.var_expand.specs.declared.fault.ExpandFault.TheVariants as expand
use Rattle.var_expand.specs.Faults.{IsFaultOf}
use Rattle.datastore.specs.declared.fault.DataFault.{DataFault}
use Rattle.datastore.specs.declared.looked.Overrides.{Overrides}
use Rattle.datastore.specs.declared.looked.Overrides.TheVariants.{Settled, Refused}
use Rattle.datastore.specs.Faults.{IsDataFault, told_as, refusal_of, refused_by}
use Rattle.datastore.specs.Looked.{AreOf, IsMeant, found_over}

refused_is : (fault : ExpandFault) (m : Result (List (List ℕ)) Refusal) (f : List (List ℕ) → Result (Option Resolved) Refusal) → is_some (refusal_of fault) ≡ true → IsFaultOf fault m → refused_by fault ≡ (m >>= f)
refused_is (expand.ValueCycle name) m f s h = ap (λ k. k >>= f) (sym h)
refused_is (expand.TooDeep name) m f s h = ap (λ k. k >>= f) (sym h)
refused_is (expand.TooLong name) m f s h = ap (λ k. k >>= f) (sym h)
refused_is (expand.Unstable before last) m f s h = ap (λ k. k >>= f) (sym h)
refused_is expand.Memory m f s h = absurd cc

at_is : (list : List EntryLine) (o : Overrides) → IsMeant o (entries.active list) → (name : List ℕ) → (found_over list o).at name ≡ (entries.find_in list).at name
at_is list (Settled active) h name = ap (λ m. m >>= (λ under. Ok (resolved list under name))) (sym h)
at_is list (Refused fault) h name = refused_is fault (entries.active list) (λ under. Ok (resolved list under name)) h.0 h.1

pub found_is : (list : List EntryLine) (o : Overrides) → AreOf list o → (name : List ℕ) → (found_over list o).at name ≡ (entries.find_in list).at name
found_is list o h name = at_is list o h.meant name

all_is : (list : List EntryLine) (o : Overrides) → AreOf list o → IsAlike (found_over list o) (entries.find_in list)
all_is list o h = record { at = found_is list o h; known = λ name wanted. refl }

pub value_is : (list : List EntryLine) (o : Overrides) → AreOf list o → (name : List ℕ) → value_by (found_over list o) name ≡ entries.value list name
value_is list o h name = values_alike (found_over list o) (entries.find_in list) (all_is list o h) name

pub text_is : (list : List EntryLine) (o : Overrides) → AreOf list o → (text : List ℕ) → expand_by (found_over list o) text ≡ entries.expand list text
text_is list o h text = texts_alike (found_over list o) (entries.find_in list) (all_is list o h) text

-- a store's fault says what the fault of expansion says
pub data_fault : {A : Type 0} (fault : ExpandFault) (made : DataFault) (m n : Result A Refusal) → made ≡ told_as fault → m ≡ n → IsFaultOf fault m → IsDataFault made n
data_fault (expand.ValueCycle name) made m n e s h = subst (λ d. IsDataFault d n) (sym e) (sym s ∙ h)
data_fault (expand.TooDeep name) made m n e s h = subst (λ d. IsDataFault d n) (sym e) (sym s ∙ h)
data_fault (expand.TooLong name) made m n e s h = subst (λ d. IsDataFault d n) (sym e) (sym s ∙ h)
data_fault (expand.Unstable before last) made m n e s h = subst (λ d. IsDataFault d n) (sym e) (sym s ∙ h)
data_fault expand.Memory made m n e s h = subst (λ d. IsDataFault d n) (sym e) tt

-- overrides that are kept
pub settled_is : (list now : List EntryLine) (o : Option Overrides) (made : Overrides) → list ≡ now → o ≡ Some made → IfSome o (AreOf list) → AreOf now made
settled_is list now o made e is h = subst (λ l. AreOf l made) e (subst (λ p. IfSome p (AreOf list)) is h)

-- an answer that is what was meant
pub of_meant : {E : Type 0} (list : List EntryLine) (r : Result Overrides E) → IfOk r (λ made. IsMeant made (entries.active list)) → IfOk r (AreOf list)
of_meant list (Ok made) h = record { meant = h }
of_meant list (Err fault) h = tt

-- what is said of a fault that is answered
pub if_err : {T : Type 0} (says : DataFault → Type 0) (r : Result T DataFault) (made : DataFault) → r ≡ Err made → says made → IfErr r says
if_err says r made e h = subst (λ a. IfErr a says) (sym e) h
