-- Tests joined by `&&` and `||`.
use Rattle.std.proofs.Common.{◌≡◌, refl, sym, ◌∙◌, ℕ, List, Bool, true, false, ◌&&◌, ◌||◌, true≢false, ◌⊎◌, inl, inr, bytes_eq}
use Rattle.std.proofs.lemmas.Slice.Eq.{bytes_eq-Decides}

-- no test is both
pub not_both : {A : Type 0} (b : Bool) → b ≡ true → b ≡ false → A
not_both b t f = absurd (true≢false (sym t ∙ f))

-- a test is one of the two
pub either_way : (b : Bool) → (b ≡ true) ⊎ (b ≡ false)
either_way true = inl refl
either_way false = inr refl

pub and_left : (a b : Bool) → (a && b) ≡ true → a ≡ true
and_left true b e = refl
and_left false b e = e

pub and_right : (a b : Bool) → (a && b) ≡ true → b ≡ true
and_right true b e = e
and_right false b e = not_both false e refl

pub both : (a b : Bool) → a ≡ true → b ≡ true → (a && b) ≡ true
both true b e f = f
both false b e f = e

pub or_left : (a b : Bool) → (a || b) ≡ false → a ≡ false
or_left true b e = e
or_left false b e = refl

pub or_right : (a b : Bool) → (a || b) ≡ false → b ≡ false
or_right true b e = not_both true refl e
or_right false b e = e

pub or_first : (a b : Bool) → a ≡ true → (a || b) ≡ true
or_first true b e = refl
or_first false b e = not_both false e refl

pub or_second : (a b : Bool) → a ≡ false → b ≡ true → (a || b) ≡ true
or_second true b e f = refl
or_second false b e f = f

pub or_later : (a b : Bool) → b ≡ true → (a || b) ≡ true
or_later true b f = refl
or_later false b f = f

pub from_or : (a b : Bool) → (a || b) ≡ true → a ≡ false → b ≡ true
from_or true b e f = not_both true refl f
from_or false b e f = e

-- equal texts are one
pub same_text : (a b : List ℕ) → bytes_eq a b ≡ true → a ≡ b
same_text a b = (bytes_eq-Decides a b).0

pub text_itself : (a : List ℕ) → bytes_eq a a ≡ true
text_itself a = (bytes_eq-Decides a a).1 refl

-- a text differs from another as the other from it
pub differs : (a b : List ℕ) → bytes_eq a b ≡ false → bytes_eq b a ≡ false
differs a b f = ⊎_elim' (either_way (bytes_eq b a)) where
  ⊎_elim' : (bytes_eq b a ≡ true) ⊎ (bytes_eq b a ≡ false) → bytes_eq b a ≡ false
  ⊎_elim' (inl t) = not_both (bytes_eq a b) ((bytes_eq-Decides a b).1 (sym (same_text b a t))) f
  ⊎_elim' (inr e) = e
