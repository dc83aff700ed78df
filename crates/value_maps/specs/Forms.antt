-- Which names a store notes as forms of others.
use Rattle.std.specs.Prelude.{◌≡◌, ◌<◌, ◌+◌, ℕ, true, List, [], Option, Some, None, length, take, drop, slice_index}
use Rattle.std.specs.Global.{Vec}
use Rattle.meta_model.specs.Text.{colon, is_in}

-- the texts that are noted
module _ {A : Type 0} where
  abbrev pub rests : Option (Vec A) → List A
  rests None = []
  rests (Some noted) = noted.items

-- no text that is noted for a name is lost
abbrev pub KeepsRests : (List ℕ → List (List ℕ)) → (List ℕ → List (List ℕ)) → Type 0
KeepsRests old new = (name rest : List ℕ) → is_in rest (old name) ≡ true → is_in rest (new name) ≡ true

-- the first n bytes of a name are gone through: where one is a colon, what follows it is noted for what stands before it
abbrev pub HasFormsTo : (List ℕ → List (List ℕ)) → List ℕ → ℕ → Type 0
HasFormsTo noted form n = (k : ℕ) → k < n → slice_index form k ≡ colon → is_in (drop (k + 1) form) (noted (take k form)) ≡ true

-- A name is noted for each part of it that a colon follows.
abbrev pub HasForms : (List ℕ → List (List ℕ)) → List ℕ → Type 0
HasForms noted form = HasFormsTo noted form (length form)
