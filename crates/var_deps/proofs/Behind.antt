-- Lists that grow at their end.
use Rattle.std.proofs.Common.{◌≡◌, refl, sym, ◌∙◌, ap, ℕ, ◌+◌, ◌<◌, Bool, true, false, List, [], ◌∷◌, ◌++◌, length, get_or, drop, Option, Some, None, Result, Ok, Err, append_assoc, ◌≤◌, if◌then◌else◌}
use Rattle.std.specs.List.{filter_map, cons_option}
use Rattle.std.proofs.lemmas.List.{drop_all}
use Rattle.meta_model.specs.declared.value.Resolved.{Resolved}
use Rattle.meta_model.specs.Refusal.{Refusal, ◌>>=◌}
use Rattle.meta_model.specs.Expansion.{Find}
use Rattle.meta_model.proofs.Passing.{behind_ends, next_of}
use Rattle.var_expand.specs.declared.fault.ExpandFault.{ExpandFault}
use Rattle.var_expand.specs.Faults.{IsFaultOf}
use Rattle.meta_model.specs.References.{looked_up}
use Rattle.task_model.specs.Views.{is_function}
use Rattle.task_model.specs.Leads.{all_looked_up, functions_of}
use Rattle.var_deps.specs.Reading.{function_named, flag_looked_up}
use Rattle.meta_model.specs.Passing.{behind}
use Rattle.var_expand.proofs.Expanding.{fault_on, fault_same}
use Rattle.var_deps.proofs.Passing.{no_fault}

abbrev pub Names : Type 0
Names = List (List ℕ)

pub behind_is : {A : Type 0} (before more : List A) (m : Result (List A) Refusal) → m ≡ Ok more → behind before m ≡ Ok (before ++ more)
behind_is before more m e = ap (behind before) e

-- some more, and behind it the rest
pub behind_two : {A : Type 0} (before made : List A) (m n : Result (List A) Refusal) → behind before m ≡ Ok made → behind before (m >>= λ some. n >>= λ rest. Ok (some ++ rest)) ≡ behind made n
behind_two before made (Ok some) (Ok rest) e = ap Ok (sym (append_assoc before some rest) ∙ ap (λ l. l ++ rest) (cc))
behind_two before made (Ok some) (Err refusal) e = refl
behind_two before made (Err refusal) n e = absurd cc

-- three of them
pub behind_three : {A : Type 0} (before first second : List A) (m n k : Result (List A) Refusal) → behind before m ≡ Ok first → behind first n ≡ Ok second
    → behind before (m >>= λ a. n >>= λ b. k >>= λ c. Ok (a ++ (b ++ c))) ≡ behind second k
behind_three before first second (Ok a) (Ok b) (Ok c) e f =
    let one : before ++ a ≡ first = cc in
    let two : first ++ b ≡ second = cc in
    ap Ok (sym (append_assoc before a (b ++ c)) ∙ ap (λ l. l ++ (b ++ c)) one ∙ sym (append_assoc first b c) ∙ ap (λ l. l ++ c) two)
behind_three before first second (Ok a) (Ok b) (Err refusal) e f = refl
behind_three before first second (Ok a) (Err refusal) k e f = absurd cc
behind_three before first second (Err refusal) n k e f = absurd cc

-- a refusal of what follows an answer is one of the whole
pub fault_then : {A B : Type 0} (fault : ExpandFault) (before made : List A) (m : Result (List A) Refusal) (f : List A → Result B Refusal) → behind before m ≡ Ok made → ((some : List A) → IsFaultOf fault (f some)) → IsFaultOf fault (m >>= f)
fault_then fault before made (Ok some) f e h = h some
fault_then fault before made (Err refusal) f e h = absurd cc

-- A list of which each item gives some. `all` gives what the items give, one behind the other.

abbrev pub IsInTurn : {B : Type 0} → (B → Result Names Refusal) → (List B → Result Names Refusal) → Type 0
IsInTurn {B = B} make all = (b : B) (rest : List B) → all (b ∷ rest) ≡ (make b >>= λ some. all rest >>= λ more. Ok (some ++ more))

-- one item is done
pub one_turn : {B : Type 0} (make : B → Result Names Refusal) (all : List B → Result Names Refusal) → IsInTurn make all
    → (whole : Result Names Refusal) (before made : Names) (xs : List B) (i : ℕ) (x : B) → x ≡ get_or xs i x → i < length xs → whole ≡ behind before (all (drop i xs)) → behind before (make x) ≡ Ok made → whole ≡ behind made (all (drop (i + 1) xs))
one_turn make all is whole before made xs i x at lt w e =
    w ∙ ap (behind before) (next_of all xs i x at lt ∙ is x (drop (i + 1) xs)) ∙ behind_two before made (make x) (all (drop (i + 1) xs)) e

-- a refusal behind a list is one, and the other way round

pub fault_behind : {A : Type 0} (fault : ExpandFault) (before : List A) (m : Result (List A) Refusal) → IsFaultOf fault m → IsFaultOf fault (behind before m)
fault_behind fault before (Ok more) h = no_fault fault (Ok more) more (Ok (before ++ more)) refl h
fault_behind fault before (Err refusal) h = h

pub fault_front : {A : Type 0} (fault : ExpandFault) (before : List A) (m : Result (List A) Refusal) → IsFaultOf fault (behind before m) → IsFaultOf fault m
fault_front fault before (Ok more) h = no_fault fault (behind before (Ok more)) (before ++ more) (Ok more) refl h
fault_front fault before (Err refusal) h = h

-- one item is refused
pub one_fault : {B : Type 0} (make : B → Result Names Refusal) (all : List B → Result Names Refusal) → IsInTurn make all
    → (start before : Names) (xs : List B) (i : ℕ) (x : B) (fault : ExpandFault) → x ≡ get_or xs i x → i < length xs → behind start (all xs) ≡ behind before (all (drop i xs)) → IsFaultOf fault (make x) → IsFaultOf fault (all xs)
one_fault make all is start before xs i x fault at lt w h =
    fault_front fault start (all xs) (fault_same fault (behind start (all xs)) (behind before (make x >>= λ some. all (drop (i + 1) xs) >>= λ more. Ok (some ++ more)))
    (w ∙ ap (behind before) (next_of all xs i x at lt ∙ is x (drop (i + 1) xs)))
    (fault_behind fault before (make x >>= λ some. all (drop (i + 1) xs) >>= λ more. Ok (some ++ more)) (fault_on fault (make x) (λ some. all (drop (i + 1) xs) >>= λ more. Ok (some ++ more)) h)))

-- all items are done
pub all_done : {B : Type 0} (all : List B → Result Names Refusal) → all [] ≡ Ok [] → (whole : Result Names Refusal) (made : Names) (xs : List B) (i : ℕ) → length xs ≤ i → whole ≡ behind made (all (drop i xs)) → whole ≡ Ok made
all_done all none whole made xs i past w = w ∙ ap (λ l. behind made (all l)) (drop_all i xs past) ∙ ap (behind made) none ∙ behind_ends made

-- texts that look names up, functions, flags

pub texts_in_turn : (find : Find) → IsInTurn (looked_up find) (all_looked_up find)
texts_in_turn find text texts = refl

function_step : (m : Result (Option Resolved) Refusal) (n : Result Names Refusal) (name : List ℕ)
    → (m >>= λ found. n >>= λ rest. Ok (if is_function found then name ∷ rest else rest)) ≡ ((m >>= λ found. Ok (if is_function found then name ∷ [] else [])) >>= λ some. n >>= λ more. Ok (some ++ more))
function_step (Ok found) (Ok rest) name = ap Ok (one (is_function found))
  where
    one : (b : Bool) → (if b then name ∷ rest else rest) ≡ (if b then name ∷ [] else []) ++ rest
    one true = refl
    one false = refl
function_step (Ok found) (Err refusal) name = refl
function_step (Err refusal) n name = refl

pub functions_in_turn : (find : Find) → IsInTurn (function_named find) (functions_of find)
functions_in_turn find name names = function_step (find.at name) (functions_of find names) name

pub bind_ok : {A : Type 0} (m : Result A Refusal) → (m >>= λ a. Ok a) ≡ m
bind_ok (Ok a) = refl
bind_ok (Err refusal) = refl

flag_step : (find : Find) (here : Option (List ℕ)) (rest : Names) → all_looked_up find (cons_option here rest) ≡ (flag_looked_up find here >>= λ some. all_looked_up find rest >>= λ more. Ok (some ++ more))
flag_step find None rest = sym (bind_ok (all_looked_up find rest))
flag_step find (Some text) rest = refl

pub flags_in_turn : (find : Find) (get : List ℕ → Option (List ℕ)) → IsInTurn (λ f. flag_looked_up find (get f)) (λ fs. all_looked_up find (filter_map get fs))
flags_in_turn find get f fs = flag_step find (get f) (filter_map get fs)
