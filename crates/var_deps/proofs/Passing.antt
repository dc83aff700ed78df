-- Answers and refusals of expansion, one after another.
use Rattle.std.proofs.Common.{◌≡◌, sym, ◌∙◌, ap, subst, Result, Ok, Err, IfErr, OnOk}
use Rattle.std.specs.Prelude.{IsErrAnd}
use Rattle.std.proofs.lemmas.Result.{err_from_is_err_and, IfErr-weaker}
use Rattle.meta_model.specs.Refusal.{Refusal, value_cycle, too_deep, too_long, unstable, ◌>>=◌}
use Rattle.meta_model.proofs.Passing.{goes_on}
use Rattle.var_expand.specs.declared.fault.ExpandFault.{ExpandFault}
use Rattle.var_expand.specs.declared.fault.ExpandFault.TheVariants.{ValueCycle, TooDeep, TooLong, Unstable, Memory}
use Rattle.var_expand.specs.Faults.{IsFaultOf, IsWantOfMemory}
use Rattle.var_expand.proofs.Expanding.{fault_same}

-- a fault of what follows an answer is one of the whole
pub fault_later : {A B : Type 0} (fault : ExpandFault) (m : Result A Refusal) (a : A) (f : A → Result B Refusal) → m ≡ Ok a → IsFaultOf fault (f a) → IsFaultOf fault (m >>= f)
fault_later fault m a f e h = fault_same fault (m >>= f) (f a) (goes_on m a f e) h

-- an answer is no refusal
pub no_fault : {A B : Type 0} (fault : ExpandFault) (m : Result A Refusal) (a : A) (n : Result B Refusal) → m ≡ Ok a → IsFaultOf fault m → IsFaultOf fault n
no_fault (ValueCycle name) m a n e f = absurd cc
no_fault (TooDeep name) m a n e f = absurd cc
no_fault (TooLong name) m a n e f = absurd cc
no_fault (Unstable before last) m a n e f = absurd cc
no_fault Memory m a n e f = tt

-- of a refusal the same is said, whatever the answer would have been
pub refused_any : (A B : Type 0) (fault : ExpandFault) (refusal : Refusal) → IsFaultOf {A = A} fault (Err refusal) → IsFaultOf {A = B} fault (Err refusal)
refused_any A B (ValueCycle name) refusal h = let k : refusal ≡ value_cycle name = cc in ap Err k
refused_any A B (TooDeep name) refusal h = let k : refusal ≡ too_deep name = cc in ap Err k
refused_any A B (TooLong name) refusal h = let k : refusal ≡ too_long name = cc in ap Err k
refused_any A B (Unstable before last) refusal h = let k : refusal ≡ unstable before last = cc in ap Err k
refused_any A B Memory refusal h = tt

-- what is said of a fault that is handed on
pub out : {T A : Type 0} (r : Result T ExpandFault) (fault : ExpandFault) (meant : Result A Refusal) → IsErrAnd r (λ e. e ≡ fault) → IsFaultOf fault meant → IfErr r (λ f. IsFaultOf f meant)
out r fault meant made h =
    let p = err_from_is_err_and r made in
    subst (λ a. IfErr a (λ f. IsFaultOf f meant)) (sym p.1) (subst (λ f. IsFaultOf f meant) (sym p.2) h)

-- of want of memory nothing is said
pub want : {T A : Type 0} (r : Result T ExpandFault) (meant : Result A Refusal) → IsErrAnd r IsWantOfMemory → IfErr r (λ f. IsFaultOf f meant)
want r meant made =
    let p = err_from_is_err_and r made in
    subst (λ a. IfErr a (λ f. IsFaultOf f meant)) (sym p.1) (subst (λ f. IsFaultOf f meant) (sym p.2) tt)

-- what a call answered last says of the whole
pub last_fault : {T A B : Type 0} (r : Result T ExpandFault) (m : Result A Refusal) (n : Result B Refusal) → ((fault : ExpandFault) → IsFaultOf fault m → IsFaultOf fault n) → IfErr r (λ f. IsFaultOf f m) → IfErr r (λ f. IsFaultOf f n)
last_fault r m n f h = IfErr-weaker r (λ fault. IsFaultOf fault m) (λ fault. IsFaultOf fault n) f h

pub last_ok : {T A : Type 0} (r : Result T ExpandFault) (m n : Result A Refusal) (a : A) → n ≡ m → OnOk r (m ≡ Ok a) → OnOk r (n ≡ Ok a)
last_ok (Ok x) m n a e h = e ∙ h
last_ok (Err fault) m n a e h = tt
