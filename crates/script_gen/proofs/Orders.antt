-- Names that are taken up in byte order.
use Rattle.std.proofs.Common.{◌≡◌, refl, sym, ◌∙◌, ap, subst, ℕ, ◌||◌, Bool, true, false, List, bytes_eq}
use Rattle.meta_model.proofs.Bools.{same_text}
use Rattle.meta_model.specs.Text.{is_in, into_order, in_byte_order}
use Rattle.meta_model.specs.Ascending.{Ascending}
use Rattle.meta_model.proofs.Ordered.{ascending_same, into_ascending, into_in, ordered_ascending, ordered_in}

-- names in byte order stay so in byte order
pub ordered_twice : (xs : List (List ℕ)) → in_byte_order (in_byte_order xs) ≡ in_byte_order xs
ordered_twice xs = ascending_same (in_byte_order (in_byte_order xs)) (in_byte_order xs) (ordered_ascending (in_byte_order xs)) (ordered_ascending xs) (λ t. ordered_in (in_byte_order xs) t)

-- a name that is there already
pub into_there : (name : List ℕ) (names : List (List ℕ)) → in_byte_order names ≡ names → is_in name names ≡ true → names ≡ into_order names name
into_there name names ordered there =
    let ascends : Ascending names = subst Ascending ordered (ordered_ascending names) in
    ascending_same names (into_order names name) ascends (into_ascending names name ascends) (λ t. one t (bytes_eq t name) refl ∙ sym (into_in names name t))
  where
    one : (t : List ℕ) (b : Bool) → bytes_eq t name ≡ b → is_in t names ≡ (bytes_eq t name || is_in t names)
    one t true e = ap (λ n. is_in n names) (same_text t name e) ∙ there ∙ sym (ap (λ b. b || is_in t names) e)
    one t false e = sym (ap (λ b. b || is_in t names) e)

-- names that were put in byte order stay so
pub stays_ordered : (xs ys : List (List ℕ)) → xs ≡ in_byte_order ys → in_byte_order xs ≡ xs
stays_ordered xs ys e = ap in_byte_order e ∙ ordered_twice ys ∙ sym e
