-- Answers and refusals, one after another.
use Rattle.std.proofs.Common.{◌≡◌, sym, ap, subst, Result, Ok, IfErr}
use Rattle.std.specs.Prelude.{IsErrAnd}
use Rattle.meta_model.specs.Refusal.{Refusal}
use Rattle.var_expand.specs.declared.fault.ExpandFault.{ExpandFault}
use Rattle.var_expand.specs.declared.fault.ExpandFault.TheVariants as expand
use Rattle.var_expand.specs.Faults.{IsFaultOf}
use Rattle.datastore.specs.declared.fault.DataFault.{DataFault}
use Rattle.datastore.specs.declared.fault.DataFault.TheVariants as data_fault
use Rattle.datastore.specs.Faults.{IsDataFault}
use Rattle.meta_model.proofs.Passing.{goes_on, refused_on, refused_same}
use Rattle.std.proofs.lemmas.Result.{err_from_is_err_and, IfErr-weaker}
use Rattle.task_model.specs.TaskRefusal.{TaskRefusal, ◌>>=◌, asked}
use Rattle.script_gen.specs.declared.fault.ScriptFault.{ScriptFault}
use Rattle.script_gen.specs.declared.fault.ScriptFault.TheVariants.{Memory}
use Rattle.script_gen.specs.Told.{told, told_by}
use Rattle.script_gen.specs.Faults.{IsScriptFault, refusal_of}

-- a refusal of the first answer is one of the whole

pub fault_on : {A B : Type 0} (fault : ScriptFault) (m : Result A TaskRefusal) (f : A → Result B TaskRefusal) → IsScriptFault fault m → IsScriptFault fault (m >>= f)
fault_on fault m f h = refused_on (refusal_of fault) m f h

pub fault_same : {A : Type 0} (fault : ScriptFault) (m n : Result A TaskRefusal) → m ≡ n → IsScriptFault fault n → IsScriptFault fault m
fault_same fault m n e h = refused_same (refusal_of fault) m n e h

-- a refusal of what follows an answer is one of the whole
pub fault_later : {A B : Type 0} (fault : ScriptFault) (m : Result A TaskRefusal) (a : A) (f : A → Result B TaskRefusal) → m ≡ Ok a → IsScriptFault fault (f a) → IsScriptFault fault (m >>= f)
fault_later fault m a f e h = fault_same fault (m >>= f) (f a) (goes_on m a f e) h

-- a value that is asked for

pub asked_ok : {A : Type 0} (m : Result A Refusal) (a : A) → m ≡ Ok a → asked m ≡ Ok a
asked_ok m a e = ap asked e

pub asked_data : {A : Type 0} (fault : DataFault) (m : Result A Refusal) → IsDataFault fault m → IsScriptFault (told fault) (asked m)
asked_data (data_fault.Unstable before last) m h = ap asked h
asked_data (data_fault.Expand (expand.ValueCycle name)) m h = ap asked h
asked_data (data_fault.Expand (expand.TooDeep name)) m h = ap asked h
asked_data (data_fault.Expand (expand.TooLong name)) m h = ap asked h
asked_data (data_fault.Expand (expand.Unstable before last)) m h = ap asked h
asked_data (data_fault.Expand expand.Memory) m h = tt
asked_data data_fault.Memory m h = tt

pub asked_expand : {A : Type 0} (fault : ExpandFault) (m : Result A Refusal) → IsFaultOf fault m → IsScriptFault (told_by fault) (asked m)
asked_expand (expand.ValueCycle name) m h = ap asked h
asked_expand (expand.TooDeep name) m h = ap asked h
asked_expand (expand.TooLong name) m h = ap asked h
asked_expand (expand.Unstable before last) m h = ap asked h
asked_expand expand.Memory m h = tt

-- what is said of a fault that is handed on

pub out : {T A : Type 0} (r : Result T ScriptFault) (fault : ScriptFault) (meant : Result A TaskRefusal) → IsErrAnd r (λ e. e ≡ fault) → IsScriptFault fault meant → IfErr r (λ f. IsScriptFault f meant)
out r fault meant is h =
    let p = err_from_is_err_and r is in
    subst (λ a. IfErr a (λ f. IsScriptFault f meant)) (sym p.1) (subst (λ f. IsScriptFault f meant) (sym p.2) h)

-- of want of memory nothing is said
pub want : {T A : Type 0} (r : Result T ScriptFault) (meant : Result A TaskRefusal) → IsErrAnd r (λ e. e ≡ Memory) → IfErr r (λ f. IsScriptFault f meant)
want r meant is = out r Memory meant is tt

-- what a call answered last says of the whole
pub last_fault : {T A B : Type 0} (r : Result T ScriptFault) (m : Result A TaskRefusal) (n : Result B TaskRefusal) → ((fault : ScriptFault) → IsScriptFault fault m → IsScriptFault fault n) → IfErr r (λ f. IsScriptFault f m) → IfErr r (λ f. IsScriptFault f n)
last_fault r m n f h = IfErr-weaker r (λ fault. IsScriptFault fault m) (λ fault. IsScriptFault fault n) f h
