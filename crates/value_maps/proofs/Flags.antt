-- What one key's change makes of all flags.
use Rattle.std.proofs.Common.{◌≡◌, refl, sym, ◌∙◌, ap, inl, inr, ◌||◌, ◌+◌, ◌<◌, ◌++◌, ◌∷◌, [], length, get_or, take, String, BTreeMap, is_some, Some, None, ℕ, Bool, true, false, cond, List, Option, if◌then◌else◌, bytes_eq}
use Rattle.std.specs.Global.{Global}
use Rattle.std.specs.BTreeMap.{get_by_text, IsOrdered}
use Rattle.std.specs.String.{string_cmp}
use Rattle.std.specs.Map.{update}
use Rattle.std.proofs.lemmas.List.{take_more}
use Rattle.meta_model.proofs.Bools.{either_way, same_text}
use Rattle.meta_model.specs.Text.{is_in}
use Rattle.meta_model.specs.Slot.{Slot, nothing}
use Rattle.value_maps.specs.Picked.{picked}
use Rattle.value_maps.proofs.Sets.{in_end, eq_turned}
use Rattle.value_maps.proofs.Naming.{keys_are}
use Rattle.value_maps.specs.declared.kept.Kept.{Kept}
use Rattle.value_maps.specs.Kept.{flag_kept}

one_of : (f : List ℕ → Option Kept) (k q : List ℕ) (w : Option Kept) (made : Slot → Slot) (b : Bool) → bytes_eq k q ≡ b → flag_kept w ≡ made (flag_kept (f k))
    → flag_kept (cond b w (f q)) ≡ (if b then made (flag_kept (f q)) else flag_kept (f q))
one_of f k q w made true h e = e ∙ ap (λ t. made (flag_kept (f t))) (same_text k q h)
one_of f k q w made false h e = refl

-- a flag is made another
pub flag_put : (f g : List ℕ → Option Kept) (k : List ℕ) (w : Option Kept) (made : Slot → Slot) → ((q : List ℕ) → g q ≡ update bytes_eq f k w q) → flag_kept w ≡ made (flag_kept (f k))
    → (q : List ℕ) → flag_kept (g q) ≡ (if bytes_eq k q then made (flag_kept (f q)) else flag_kept (f q))
flag_put f g k w made u e q = ap flag_kept (u q) ∙ one_of f k q w made (bytes_eq k q) refl e

same_at : (f : List ℕ → Option Kept) (k q : List ℕ) (w : Option Kept) (b : Bool) → bytes_eq k q ≡ b → flag_kept w ≡ flag_kept (f k) → flag_kept (cond b w (f q)) ≡ flag_kept (f q)
same_at f k q w true h e = e ∙ ap (λ t. flag_kept (f t)) (same_text k q h)
same_at f k q w false h e = refl

-- a flag is what it was
pub flag_same : (f g : List ℕ → Option Kept) (k : List ℕ) (w : Option Kept) → ((q : List ℕ) → g q ≡ update bytes_eq f k w q) → flag_kept w ≡ flag_kept (f k)
    → (q : List ℕ) → flag_kept (g q) ≡ flag_kept (f q)
flag_same f g k w u e q = ap flag_kept (u q) ∙ same_at f k q w (bytes_eq k q) refl e

-- the flags whose names are gone through

turn_at : (flags : List ℕ → Option Kept) (x f : List ℕ) (b : Bool) (now old : Slot) → now ≡ (if bytes_eq x f then flag_kept (flags x) else old) → old ≡ (if b then flag_kept (flags f) else nothing) → now ≡ (if b || bytes_eq f x then flag_kept (flags f) else nothing)
turn_at flags x f true now old e h = elim (either_way (bytes_eq x f)) [
  | inl t ↦ rw t at e ∙ ap (λ n. flag_kept (flags n)) (same_text x f t)
  | inr t ↦ rw t at e ∙ h
]
turn_at flags x f false now old e h = elim (either_way (bytes_eq x f)) [
  | inl t ↦ rw (sym (eq_turned x f) ∙ t) (rw t at e ∙ ap (λ n. flag_kept (flags n)) (same_text x f t))
  | inr t ↦ rw (sym (eq_turned x f) ∙ t) (rw t at e ∙ h)
]

pub flags_turn : (flags : List ℕ → Option Kept) (xs : List (List ℕ)) (i : ℕ) (x f : List ℕ) (now old : Slot) → x ≡ get_or xs i x → i < length xs → now ≡ (if bytes_eq x f then flag_kept (flags x) else old)
    → old ≡ (if is_in f (take i xs) then flag_kept (flags f) else nothing) → now ≡ (if is_in f (take (i + 1) xs) then flag_kept (flags f) else nothing)
flags_turn flags xs i x f now old is lt e h =
    turn_at flags x f (is_in f (take i xs)) now old e h ∙ sym (ap (λ b. if b then flag_kept (flags f) else nothing) (ap (is_in f) (take_more xs i x lt ∙ ap (λ z. take i xs ++ z ∷ []) (sym is)) ∙ in_end f x (take i xs)))

all_at : (o : Option Kept) (b : Bool) (now : Slot) → b ≡ is_some o → now ≡ (if b then flag_kept o else nothing) → now ≡ flag_kept o
all_at None true now e h = h
all_at None false now e h = h
all_at (Some kept) true now e h = h
all_at (Some kept) false now e h = absurd cc

pub flags_all : (flags : BTreeMap (String Global) Kept) (names : List (List ℕ)) (f : List ℕ) (now : Slot) → names ≡ picked (λ there. true) flags.entries → IsOrdered string_cmp flags
    → now ≡ (if is_in f names then flag_kept (get_by_text flags f) else nothing) → now ≡ flag_kept (get_by_text flags f)
flags_all flags names f now e ordered h = all_at (get_by_text flags f) (is_in f names) now ((keys_are flags names e ordered).are f) h
