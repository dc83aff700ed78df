-- What follows of values, and choices, under names of their own.
use Rattle.std.proofs.Common.{◌≡◌, ◌∙◌, ap, subst, sym, Bool, true, false, Result, Ok, Err, OnOk, IfOk, IfErr, is_ok}
use Rattle.meta_model.specs.Refusal.{Refusal, ◌>>=◌}

abbrev pub told : {A B : Type 0} → Result A Refusal → (A → Result B Refusal) → Result B Refusal
told m f = m >>= f

abbrev pub pick : {A : Type 0} → Bool → A → A → A
pick b x y = elim b [ true ↦ x | false ↦ y ]

pub pick_first : {A : Type 0} (b : Bool) (x y : A) → b ≡ true → pick b x y ≡ x
pick_first b x y e = ap (λ c. pick c x y) e

pub pick_second : {A : Type 0} (b : Bool) (x y : A) → b ≡ false → pick b x y ≡ y
pick_second b x y e = ap (λ c. pick c x y) e

-- a fault that is passed on
pub if_err : {X Y : Type 0} (r : Result X Y) (P Q : Y → Type 0) → ((y : Y) → P y → Q y) → IfErr r P → IfErr r Q
if_err (Ok x) P Q f h = tt
if_err (Err y) P Q f h = f y h

pub passed : {X Y : Type 0} (r : Result X Y) (y fault : Y) (Q : Y → Type 0) → r ≡ Err y → y ≡ fault → Q fault → IfErr r Q
passed r y fault Q e f q = subst (λ x. IfErr x Q) (sym (e ∙ ap Err f)) q

-- what was made by a call, where an answer without a fault says that it had none

pub finished_ok : {X E F R : Type 0} (done : Result X E) (r : Result R F) (now : R) (P : Type 0) (Q : R → Type 0) → IfOk r (λ made. (made ≡ now) × (is_ok done ≡ true)) → OnOk done P → (P → Q now) → IfOk r Q
finished_ok (Ok x) (Ok made) now P Q e h f = subst Q (sym e.0) (f h)
finished_ok (Err y) (Ok made) now P Q e h f = let no = e.1 in absurd cc
finished_ok done (Err y) now P Q e h f = tt

pub finished_err : {X E R : Type 0} (done : Result X E) (r : Result R E) (P Q : E → Type 0) → IfErr r (λ fault. done ≡ Err fault) → IfErr done P → ((fault : E) → P fault → Q fault) → IfErr r Q
finished_err done (Ok x) P Q e h f = tt
finished_err done (Err fault) P Q e h f = f fault (subst (λ d. IfErr d P) e h)
