-- Answers and refusals of any kind, one after another.
use Rattle.std.proofs.Common.{◌≡◌, refl, sym, ◌∙◌, ap, subst, ℕ, ◌+◌, ◌<◌, ◌≤◌, List, [], ◌∷◌, ◌++◌, length, get_or, drop, Option, Some, None, Result, Ok, Err, IfOk, OnOk, append_assoc, append-nil}
use Rattle.std.proofs.lemmas.List.{drop_more, drop_all}
use Rattle.meta_model.specs.Passing.{◌>>=◌, behind, IsRefused}

-- a refusal of the first answer is one of the whole
pub refused_on : {A B E : Type 0} (o : Option E) (m : Result A E) (f : A → Result B E) → IsRefused o m → IsRefused o (m >>= f)
refused_on None m f h = tt
refused_on (Some r) m f h = ap (λ k. k >>= f) h

-- an answer goes on
pub goes_on : {A B E : Type 0} (m : Result A E) (a : A) (f : A → Result B E) → m ≡ Ok a → (m >>= f) ≡ f a
goes_on m a f e = ap (λ k. k >>= f) e

pub refused_same : {A E : Type 0} (o : Option E) (m n : Result A E) → m ≡ n → IsRefused o n → IsRefused o m
refused_same o m n e h = subst (IsRefused o) (sym e) h

-- lists that go on behind what is there

pub behind_begins : {A E : Type 0} (more : Result (List A) E) → more ≡ behind [] more
behind_begins (Ok rest) = refl
behind_begins (Err refusal) = refl

pub behind_ends : {A E : Type 0} (before : List A) → behind {E = E} before (Ok []) ≡ Ok before
behind_ends before = ap Ok (append-nil before)

-- some more of such a list, behind it the others
pub behind_more : {A E : Type 0} (before some : List A) (more : Result (List A) E) → behind before (behind some more) ≡ behind (before ++ some) more
behind_more before some (Ok rest) = ap Ok (sym (append_assoc before some rest))
behind_more before some (Err refusal) = refl

-- what is left of a list
pub next_of : {B C : Type 0} (all : List B → C) (xs : List B) (i : ℕ) (x : B) → x ≡ get_or xs i x → i < length xs → all (drop i xs) ≡ all (x ∷ drop (i + 1) xs)
next_of all xs i x is lt = ap all (drop_more xs i x lt ∙ ap (λ y. y ∷ drop (i + 1) xs) (sym is))

-- `all` makes an item of the first, and behind it those of the rest
abbrev pub IsInTurn : {A B E : Type 0} → (B → Result A E) → (List B → Result (List A) E) → Type 0
IsInTurn {B = B} make all = (b : B) (rest : List B) → all (b ∷ rest) ≡ (make b >>= λ a. all rest >>= λ more. Ok (a ∷ more))

-- one step of a loop that makes such a list
pub one_turn : {A B E : Type 0} (make : B → Result A E) (all : List B → Result (List A) E) → IsInTurn make all
    → (whole : Result (List A) E) (before : List A) (xs : List B) (i : ℕ) (b : B) (a : A) → b ≡ get_or xs i b → i < length xs → whole ≡ behind before (all (drop i xs)) → make b ≡ Ok a → whole ≡ behind (before ++ a ∷ []) (all (drop (i + 1) xs))
one_turn make all is whole before xs i b a at lt w e =
    w ∙ ap (behind before) (next_of all xs i b at lt ∙ is b (drop (i + 1) xs) ∙ goes_on (make b) a (λ x. all (drop (i + 1) xs) >>= (λ more. Ok (x ∷ more))) e)
    ∙ behind_more before (a ∷ []) (all (drop (i + 1) xs))

-- ... and its fault
pub one_refused : {A B E : Type 0} (make : B → Result A E) (all : List B → Result (List A) E) → IsInTurn make all
    → (whole : Result (List A) E) (before : List A) (xs : List B) (i : ℕ) (b : B) (o : Option E) → b ≡ get_or xs i b → i < length xs → whole ≡ behind before (all (drop i xs)) → IsRefused o (make b) → IsRefused o whole
one_refused make all is whole before xs i b o at lt w h =
    refused_same o whole (behind before (make b >>= (λ a. all (drop (i + 1) xs) >>= (λ more. Ok (a ∷ more)))))
    (w ∙ ap (behind before) (next_of all xs i b at lt ∙ is b (drop (i + 1) xs)))
    (refused_on o (make b >>= (λ a. all (drop (i + 1) xs) >>= (λ more. Ok (a ∷ more)))) (λ rest. Ok (before ++ rest))
    (refused_on o (make b) (λ a. all (drop (i + 1) xs) >>= (λ more. Ok (a ∷ more))) h))

-- ... and its end
pub all_done : {A B E : Type 0} (all : List B → Result (List A) E) → all [] ≡ Ok [] → (whole : Result (List A) E) (made : List A) (xs : List B) (i : ℕ) → length xs ≤ i → whole ≡ behind made (all (drop i xs)) → whole ≡ Ok made
all_done all none whole made xs i past w = w ∙ ap (λ l. behind made (all l)) (drop_all i xs past) ∙ ap (behind made) none ∙ behind_ends made

-- an answer of which two things are said
pub if_ok_both : {T E : Type 0} (r : Result T E) (P R : T → Type 0) (Q : Type 0) → ((x : T) → P x → Q → R x) → IfOk r P → OnOk r Q → IfOk r R
if_ok_both (Ok x) P R Q f p q = f x p q
if_ok_both (Err e) P R Q f p q = tt
