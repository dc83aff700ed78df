-- The shortest name that an operator follows.
use Rattle.std.proofs.Common.{◌≡◌, ℕ, suc, ◌+◌, ◌<◌, Bool, true, false, cond, ◌&&◌, List, [], ◌∷◌, ◌++◌, map, length, take, drop, get_or, refl, ap, Option, Some, None, is_some, find, codes, append_assoc, add-one, drop-cons}
use Rattle.std.proofs.Math.Seq.{take-suc}
use Rattle.std.specs.List.{list_all}
use Rattle.std.specs.Option.{option_map}
use Rattle.meta_model.specs.Text.{cuts, is_letter_digit_or}
use Rattle.meta_model.specs.Names.{is_name}
use Rattle.meta_model.specs.Grammar.{operator}

abbrev pub name_char : ℕ → Bool
name_char c = is_letter_digit_or (codes "-_+.${}/~:") c

-- the cut that is wanted, among those of s with the front before each
abbrev pub wanted : List ℕ × List ℕ → Bool
wanted c = is_name c.0 && is_some (operator c.1)

abbrev pub behind : List ℕ → List ℕ × List ℕ → List ℕ × List ℕ
behind front c = (front ++ c.0, c.1)

abbrev pub found_behind : List ℕ → List ℕ → Option (List ℕ × List ℕ)
found_behind front s = option_map (behind front) (find (λ c. wanted (behind front c)) (cuts s))

chosen : {A B : Type 0} (f : A → B) (b : Bool) (x : A) (r : Option A) → cond b (Some (f x)) (option_map f r) ≡ option_map f (cond b (Some x) r)
chosen f true x r = refl
chosen f false x r = refl

pub find-map : {A B : Type 0} (p : B → Bool) (f : A → B) (xs : List A) → find p (map f xs) ≡ option_map f (find (λ x. p (f x)) xs)
find-map p f [] = refl
find-map p f (x ∷ xs) = rw (find-map p f xs) (chosen f (p (f x)) x (find (λ y. p (f y)) xs))

find-none : {A : Type 0} (p : A → Bool) (xs : List A) → ((x : A) → p x ≡ false) → find p xs ≡ None
find-none p [] h = refl
find-none p (x ∷ xs) h = rw (h x) (find-none p xs h)

and_false : (b : Bool) → b && false ≡ false
and_false true = refl
and_false false = refl

-- a character in front of a cut
abbrev pub with_char : ℕ → List ℕ × List ℕ → List ℕ × List ℕ
with_char c x = (c ∷ x.0, x.1)

same : (front : List ℕ) (c : ℕ) (x : List ℕ × List ℕ) → behind front (with_char c x) ≡ behind (front ++ c ∷ []) x
same front c x = rw append_assoc

both : (front : List ℕ) (c : ℕ) (r : Option (List ℕ × List ℕ)) → option_map (behind front) (option_map (with_char c) r) ≡ option_map (behind (front ++ c ∷ [])) r
both front c None = refl
both front c (Some x) = ap Some (same front c x)

-- one more character in front
pub found_behind-goes : (front : List ℕ) (c : ℕ) (cs : List ℕ) → is_some (operator cs) ≡ false → found_behind front (c ∷ cs) ≡ found_behind (front ++ c ∷ []) cs
found_behind-goes front c cs h = let e = find-map (λ y. wanted (behind front y)) (with_char c) (cuts cs) in
    rw (h, and_false, e, both) (simp append_assoc)

pub found_behind-here : (front : List ℕ) (c : ℕ) (cs : List ℕ) → wanted (front ++ c ∷ [], cs) ≡ true → found_behind front (c ∷ cs) ≡ Some (front ++ c ∷ [], cs)
found_behind-here front c cs h = rw h

not_all : (front : List ℕ) (c : ℕ) (x : List ℕ) → name_char c ≡ false → list_all name_char (front ++ c ∷ x) ≡ false
not_all [] c x h = rw h
not_all (d ∷ front) c x h = rw (not_all front c x h, and_false)

no_name : (front : List ℕ) (c : ℕ) (x : List ℕ) → name_char c ≡ false → is_name (front ++ c ∷ x) ≡ false
no_name front c x h = rw (not_all front c x h, and_false)

-- no name goes past a character that is none of a name
pub found_behind-none : (front : List ℕ) (c : ℕ) (cs : List ℕ) → name_char c ≡ false → found_behind front (c ∷ cs) ≡ None
found_behind-none front c cs h = rw (
  no_name front c [] h,
  find-map (λ y. wanted (behind front y)) (with_char c) (cuts cs),
  find-none (λ x. wanted (behind front (with_char c x))) (cuts cs) (λ x. rw (no_name front c x.0 h)),
)

-- the loop's step, at the place n of the line
pub found_behind-next : (xs : List ℕ) (n : ℕ) → n < length xs → is_some (operator (drop (n + 1) xs)) ≡ false → found_behind (take n xs) (drop n xs) ≡ found_behind (take (n + 1) xs) (drop (n + 1) xs)
found_behind-next xs n h t = let t' = rw add-one at t in
    rw (add-one, drop-cons xs n 0 h, take-suc xs n 0 h) (found_behind-goes (take n xs) (get_or xs n 0) (drop (suc n) xs) t')

pub found_behind-end : (xs : List ℕ) (n : ℕ) → n < length xs → name_char (get_or xs n 0) ≡ false → found_behind (take n xs) (drop n xs) ≡ None
found_behind-end xs n h t = rw (drop-cons xs n 0 h) (found_behind-none (take n xs) (get_or xs n 0) (drop (suc n) xs) t)

list_all-push : (p : ℕ → Bool) (xs : List ℕ) (c : ℕ) → list_all p xs ≡ true → p c ≡ true → list_all p (xs ++ c ∷ []) ≡ true
list_all-push p [] c h t = rw t
list_all-push p (x ∷ xs) c h t = step (p x) (list_all p xs) (list_all p (xs ++ c ∷ [])) h (λ k. list_all-push p xs c k t)
  where
    step : (a b d : Bool) → a && b ≡ true → (b ≡ true → d ≡ true) → a && d ≡ true
    step true b d h k = k h
    step false b d h k = h

pub named-next : (xs : List ℕ) (n : ℕ) → n < length xs → list_all name_char (take n xs) ≡ true → name_char (get_or xs n 0) ≡ true → list_all name_char (take (n + 1) xs) ≡ true
named-next xs n h e t = rw (add-one, take-suc xs n 0 h) (list_all-push name_char (take n xs) (get_or xs n 0) e t)

same_option : {A : Type 0} (r : Option A) → r ≡ option_map (λ x. x) r
same_option None = refl
same_option (Some x) = refl

-- at the loop's start nothing stands in front
pub found_behind-start : (xs : List ℕ) → find wanted (cuts xs) ≡ found_behind [] xs
found_behind-start xs = same_option (find wanted (cuts xs))
