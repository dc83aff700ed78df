-- Faults of loading, passed on.
use Rattle.std.proofs.Common.{◌≡◌, refl, sym, ◌∙◌, ap, subst, Option, Some, None, Result, Ok, Err, MatchOption, IfOk, IfErr, List, ℕ}
use Rattle.std.specs.Option.{option_map}
use Rattle.meta_model.specs.declared.entry.EntryLine.{EntryLine}
use Rattle.meta_model.specs.Active.{expand}
use Rattle.meta_model.specs.Refusal.{Refusal}
use Rattle.var_expand.specs.declared.fault.ExpandFault.{ExpandFault}
use Rattle.var_expand.specs.declared.fault.ExpandFault.TheVariants as expand
use Rattle.var_expand.specs.Faults.{IsFaultOf}
use Rattle.datastore.specs.declared.fault.DataFault.{DataFault}
use Rattle.datastore.specs.declared.fault.DataFault.TheVariants as data_fault
use Rattle.datastore.specs.Faults.{IsDataFault, refusal_of, data_refusal}
use Rattle.load_model.specs.LoadRefusal.{LoadCause, no_value, LoadRefusal, refused_at, Place as Where, ◌>>=◌, asked_at}
use Rattle.class_inherit.specs.declared.fault.LoadFault.{LoadFault}
use Rattle.class_inherit.specs.declared.fault.LoadKind.TheVariants.{Memory}
use Rattle.class_inherit.specs.Faults.{cause_of, place_of, IsLoadFault, IsSaid}

-- of the same
pub fault_same : {A : Type 0} (fault : LoadFault) (m n : Result A LoadRefusal) → m ≡ n → IsLoadFault fault n → IsLoadFault fault m
fault_same fault m n e h = subst (IsLoadFault fault) (sym e) h

on_option : {A B : Type 0} (cause : Option LoadCause) (free : Type 0) (place : Where) (m : Result A LoadRefusal) (f : A → Result B LoadRefusal) → MatchOption cause free (λ c. m ≡ Err (refused_at place c)) → MatchOption cause free (λ c. (m >>= f) ≡ Err (refused_at place c))
on_option None free place m f h = h
on_option (Some c) free place m f h = ap (λ r. r >>= f) h

-- a fault of the first answer is one of the whole
pub fault_on : {A B : Type 0} (fault : LoadFault) (m : Result A LoadRefusal) (f : A → Result B LoadRefusal) → IsLoadFault fault m → IsLoadFault fault (m >>= f)
fault_on fault m f h = record { told = on_option (cause_of fault.kind) _ (place_of fault) m f h.told }

-- and of the second, where the first is no refusal
pub fault_behind : {A B : Type 0} (fault : LoadFault) (m : Result A LoadRefusal) (f : A → Result B LoadRefusal) (a : A) → m ≡ Ok a → IsLoadFault fault (f a) → IsLoadFault fault (m >>= f)
fault_behind fault m f a e h = fault_same fault (m >>= f) (f a) (ap (λ k. k >>= f) e) h

said_at : {A : Type 0} (cause found : Option LoadCause) (P : Type 0) (place at : Where) (m : Result A LoadRefusal) → MatchOption found P (λ c. (cause ≡ Some c) × (at ≡ place)) → ((c : LoadCause) → cause ≡ Some c → m ≡ Err (refused_at place c)) → MatchOption found P (λ c. m ≡ Err (refused_at at c))
said_at cause None P place at m h f = h
said_at cause (Some c) P place at m h f = f c h.0 ∙ ap (λ p. Err (refused_at p c)) (sym h.1)

-- a cause that is said of a place
pub fault_said : {A : Type 0} (fault : LoadFault) (place : Where) (cause : Option LoadCause) (m : Result A LoadRefusal) → IsSaid fault place cause → ((c : LoadCause) → cause ≡ Some c → m ≡ Err (refused_at place c)) → IsLoadFault fault m
fault_said fault place cause m h f = record { told = said_at cause (cause_of fault.kind) _ place (place_of fault) m h.said f }

some_same : {A : Type 0} (a b : A) → Some a ≡ Some b → a ≡ b
some_same a b e = cc

-- one cause
pub fault_one : {A : Type 0} (fault : LoadFault) (place : Where) (cause : LoadCause) (m : Result A LoadRefusal) → IsSaid fault place (Some cause) → m ≡ Err (refused_at place cause) → IsLoadFault fault m
fault_one fault place cause m h e = fault_said fault place (Some cause) m h (λ c is. e ∙ ap (λ k. Err (refused_at place k)) (some_same cause c is))

expand_told : {A : Type 0} (fault : ExpandFault) (m : Result A Refusal) (r : Refusal) → IsFaultOf fault m → refusal_of fault ≡ Some r → m ≡ Err r
expand_told (expand.ValueCycle name) m r h e = h ∙ ap Err (some_same _ _ e)
expand_told (expand.TooDeep name) m r h e = h ∙ ap Err (some_same _ _ e)
expand_told (expand.TooLong name) m r h e = h ∙ ap Err (some_same _ _ e)
expand_told (expand.Unstable before last) m r h e = h ∙ ap Err (some_same _ _ e)
expand_told expand.Memory m r h e = absurd cc

data_told : {A : Type 0} (fault : DataFault) (m : Result A Refusal) (r : Refusal) → IsDataFault fault m → data_refusal fault ≡ Some r → m ≡ Err r
data_told (data_fault.Unstable before last) m r h e = h ∙ ap Err (some_same _ _ e)
data_told (data_fault.Expand fault) m r h e = expand_told fault m r h e
data_told data_fault.Memory m r h e = absurd cc

value_told : {A : Type 0} (o : Option Refusal) (m : Result A Refusal) (place : Where) (c : LoadCause) → ((r : Refusal) → o ≡ Some r → m ≡ Err r) → option_map no_value o ≡ Some c → asked_at place m ≡ Err (refused_at place c)
value_told None m place c f e = absurd cc
value_told (Some r) m place c f e = ap (asked_at place) (f r refl) ∙ ap (λ k. Err (refused_at place k)) (some_same (no_value r) c e)

-- a value that can't be given
pub fault_value : {A : Type 0} (said : LoadFault) (fault : DataFault) (place : Where) (m : Result A Refusal) → IsDataFault fault m → IsSaid said place (option_map no_value (data_refusal fault)) → IsLoadFault said (asked_at place m)
fault_value said fault place m h s = fault_said said place (option_map no_value (data_refusal fault)) (asked_at place m) s (λ c e. value_told (data_refusal fault) m place c (λ r. data_told fault m r h) e)

-- an expanded text, over the same entries
pub expand_ok : (r : Result (List ℕ) DataFault) (found lines : List EntryLine) (text meant : List ℕ) → found ≡ lines → text ≡ meant → IfOk r (λ made. expand found text ≡ Ok made) → IfOk r (λ made. expand lines meant ≡ Ok made)
expand_ok r found lines text meant f t h = subst (λ l. IfOk r (λ made. expand l meant ≡ Ok made)) f (subst (λ s. IfOk r (λ made. expand found s ≡ Ok made)) t h)

pub expand_err : (r : Result (List ℕ) DataFault) (found lines : List EntryLine) (text meant : List ℕ) → found ≡ lines → text ≡ meant → IfErr r (λ fault. IsDataFault fault (expand found text)) → IfErr r (λ fault. IsDataFault fault (expand lines meant))
expand_err r found lines text meant f t h = subst (λ l. IfErr r (λ fault. IsDataFault fault (expand l meant))) f (subst (λ s. IfErr r (λ fault. IsDataFault fault (expand found s))) t h)
