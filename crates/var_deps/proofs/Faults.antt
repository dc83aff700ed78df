-- Refusals of a store's keys.
use Rattle.std.proofs.Common.{◌≡◌, sym, ◌∙◌, ap, subst, ℕ, List, Result, Ok, IfErr, codes}
use Rattle.std.specs.Prelude.{IsErrAnd}
use Rattle.std.proofs.lemmas.Result.{err_from_is_err_and}
use Rattle.meta_model.specs.declared.entry.EntryLine.{EntryLine}
use Rattle.meta_model.specs.Refusal.{Refusal, ◌>>=◌}
use Rattle.var_expand.specs.declared.fault.ExpandFault.{ExpandFault}
use Rattle.var_expand.specs.declared.fault.ExpandFault.TheVariants as expand
use Rattle.var_expand.specs.Faults.{IsFaultOf}
use Rattle.datastore.specs.declared.fault.DataFault.{DataFault}
use Rattle.datastore.specs.declared.fault.DataFault.TheVariants.{Unstable, Expand, Memory}
use Rattle.datastore.specs.Faults.{IsDataFault, IsWantOfMemory, told_as}
use Rattle.task_model.specs.Leads.{value_words}
use Rattle.task_model.specs.Keys.{key, key_over}
use Rattle.task_model.proofs.Leaders.{store_view}
use Rattle.var_expand.proofs.Expanding.{fault_on}
use Rattle.meta_model.proofs.Passing.{goes_on}

pub data_fault_on : {A B : Type 0} (fault : DataFault) (m : Result A Refusal) (f : A → Result B Refusal) → IsDataFault fault m → IsDataFault fault (m >>= f)
data_fault_on (Unstable before last) m f h = ap (λ k. k >>= f) h
data_fault_on (Expand fault) m f h = fault_on fault m f h
data_fault_on Memory m f h = tt

-- the value of the first name that says something of all keys is refused
pub first_refused : (store : List EntryLine) (fault : DataFault) → IsDataFault fault (value_words store (codes "BB_BASEHASH_IGNORE_VARS")) → (task : List ℕ) → IsDataFault fault (key store task)
first_refused store fault h task =
    let view = λ (i : List (List ℕ)). value_words store (codes "SSTATETASKS") >>= λ s. Ok (store_view store task i s) in
    data_fault_on fault (value_words store (codes "BB_BASEHASH_IGNORE_VARS") >>= view) key_over (data_fault_on fault (value_words store (codes "BB_BASEHASH_IGNORE_VARS")) view h)

-- ... or that of the second one
pub second_refused : (store : List EntryLine) (ignored : List (List ℕ)) (fault : DataFault) → value_words store (codes "BB_BASEHASH_IGNORE_VARS") ≡ Ok ignored → IsDataFault fault (value_words store (codes "SSTATETASKS")) → (task : List ℕ) → IsDataFault fault (key store task)
second_refused store ignored fault e h task =
    let view = λ (i : List (List ℕ)). value_words store (codes "SSTATETASKS") >>= λ s. Ok (store_view store task i s) in
    data_fault_on fault (value_words store (codes "BB_BASEHASH_IGNORE_VARS") >>= view) key_over
    (subst (IsDataFault fault) (sym (goes_on (value_words store (codes "BB_BASEHASH_IGNORE_VARS")) ignored view e)) (data_fault_on fault (value_words store (codes "SSTATETASKS")) (λ s. Ok (store_view store task ignored s)) h))

-- what is said of a fault that is handed on
pub out_data : {T : Type 0} (r : Result T DataFault) (fault : DataFault) (P : DataFault → Type 0) → IsErrAnd r (λ e. e ≡ fault) → P fault → IfErr r P
out_data r fault P made h =
    let p = err_from_is_err_and r made in
    subst (λ a. IfErr a P) (sym p.1) (subst P (sym p.2) h)

pub want_data : {T : Type 0} (r : Result T DataFault) (P : DataFault → Type 0) → IsErrAnd r IsWantOfMemory → P Memory → IfErr r P
want_data r P made h =
    let p = err_from_is_err_and r made in
    subst (λ a. IfErr a P) (sym p.1) (subst P (sym p.2) h)

-- a store's fault says what the fault of expansion says
pub data_fault : {A : Type 0} (fault : ExpandFault) (made : DataFault) (m n : Result A Refusal) → made ≡ told_as fault → m ≡ n → IsFaultOf fault n → IsDataFault made m
data_fault (expand.ValueCycle name) made m n e s h = subst (λ d. IsDataFault d m) (sym e) (s ∙ h)
data_fault (expand.TooDeep name) made m n e s h = subst (λ d. IsDataFault d m) (sym e) (s ∙ h)
data_fault (expand.TooLong name) made m n e s h = subst (λ d. IsDataFault d m) (sym e) (s ∙ h)
data_fault (expand.Unstable before last) made m n e s h = subst (λ d. IsDataFault d m) (sym e) (s ∙ h)
data_fault expand.Memory made m n e s h = subst (λ d. IsDataFault d m) (sym e) tt

-- a fault of expansion that is handed on
pub out_told : {T A : Type 0} (r : Result T DataFault) (fault : ExpandFault) (m n : Result A Refusal) → IsErrAnd r (λ e. e ≡ told_as fault) → n ≡ m → IsFaultOf fault m → IfErr r (λ f. IsDataFault f n)
out_told r fault m n made e h =
    let p = err_from_is_err_and r made in
    subst (λ a. IfErr a (λ f. IsDataFault f n)) (sym p.1) (data_fault fault p.0 n m p.2 e h)
