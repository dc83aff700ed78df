-- Answers and faults of a store, one after another.
use Rattle.std.proofs.Common.{◌≡◌, sym, subst, ℕ, ◌<◌, List, length, get_or, drop, Result, Ok, IfErr}
use Rattle.std.specs.Prelude.{IsErrAnd}
use Rattle.std.proofs.lemmas.Result.{err_from_is_err_and}
use Rattle.meta_model.specs.Refusal.{Refusal}
use Rattle.var_expand.specs.declared.fault.ExpandFault.{ExpandFault}
use Rattle.var_expand.specs.declared.fault.ExpandFault.TheVariants as expand
use Rattle.var_expand.specs.Faults.{IsFaultOf}
use Rattle.datastore.specs.declared.fault.DataFault.{DataFault}
use Rattle.datastore.specs.declared.fault.DataFault.TheVariants.{Unstable, Expand, Memory}
use Rattle.datastore.specs.Faults.{IsDataFault, IsWantOfMemory, data_refusal}
use Rattle.meta_model.specs.Passing.{◌>>=◌, behind, IsRefused}
use Rattle.meta_model.proofs.Passing.{IsInTurn, goes_on, one_refused}
use Rattle.datastore.proofs.Freezing.{fault_same}

said_expand : {A : Type 0} (fault : ExpandFault) (m : Result A Refusal) → IsFaultOf fault m → IsRefused (data_refusal (Expand fault)) m
said_expand (expand.ValueCycle name) m h = h
said_expand (expand.TooDeep name) m h = h
said_expand (expand.TooLong name) m h = h
said_expand (expand.Unstable before last) m h = h
said_expand expand.Memory m h = tt

pub said : {A : Type 0} (fault : DataFault) (m : Result A Refusal) → IsDataFault fault m → IsRefused (data_refusal fault) m
said (Unstable before last) m h = h
said (Expand fault) m h = said_expand fault m h
said Memory m h = tt

says_expand : {A : Type 0} (fault : ExpandFault) (m : Result A Refusal) → IsRefused (data_refusal (Expand fault)) m → IsFaultOf fault m
says_expand (expand.ValueCycle name) m h = h
says_expand (expand.TooDeep name) m h = h
says_expand (expand.TooLong name) m h = h
says_expand (expand.Unstable before last) m h = h
says_expand expand.Memory m h = tt

pub says : {A : Type 0} (fault : DataFault) (m : Result A Refusal) → IsRefused (data_refusal fault) m → IsDataFault fault m
says (Unstable before last) m h = h
says (Expand fault) m h = says_expand fault m h
says Memory m h = tt

-- a fault of what follows an answer is one of the whole
pub fault_later : {A B : Type 0} (fault : DataFault) (m : Result A Refusal) (a : A) (f : A → Result B Refusal) → m ≡ Ok a → IsDataFault fault (f a) → IsDataFault fault (m >>= f)
fault_later fault m a f e h = fault_same fault (m >>= f) (f a) (goes_on m a f e) h

pub one_fault : {A B : Type 0} (make : B → Result A Refusal) (all : List B → Result (List A) Refusal) → IsInTurn make all
    → (whole : Result (List A) Refusal) (before : List A) (xs : List B) (i : ℕ) (b : B) (fault : DataFault) → b ≡ get_or xs i b → i < length xs → whole ≡ behind before (all (drop i xs)) → IsDataFault fault (make b) → IsDataFault fault whole
one_fault make all is whole before xs i b fault at lt w h = says fault whole (one_refused make all is whole before xs i b (data_refusal fault) at lt w (said fault (make b) h))

-- what is said of a fault that is handed on
pub exit : {T A : Type 0} (r : Result T DataFault) (fault : DataFault) (meant : Result A Refusal) → IsErrAnd r (λ e. e ≡ fault) → IsDataFault fault meant → IfErr r (λ f. IsDataFault f meant)
exit r fault meant made h =
    let p = err_from_is_err_and r made in
    subst (λ a. IfErr a (λ f. IsDataFault f meant)) (sym p.1) (subst (λ f. IsDataFault f meant) (sym p.2) h)

-- of want of memory nothing is said
pub want : {T A : Type 0} (r : Result T DataFault) (meant : Result A Refusal) → IsErrAnd r IsWantOfMemory → IfErr r (λ f. IsDataFault f meant)
want r meant made =
    let p = err_from_is_err_and r made in
    subst (λ a. IfErr a (λ f. IsDataFault f meant)) (sym p.1) (subst (λ f. IsDataFault f meant) (sym p.2) tt)
