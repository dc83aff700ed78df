-- Names that a walk does besides those that were done.
use Rattle.std.proofs.Common.{◌≡◌, refl, sym, ◌∙◌, ap, ℕ, List, [], ◌∷◌, ◌++◌, append-nil, true, false, ◌||◌, Bool, inl, inr, bytes_eq, if◌then◌else◌}
use Rattle.meta_model.proofs.Bools.{either_way, or_first}
use Rattle.meta_model.specs.Text.{is_in, into_order, in_byte_order}
use Rattle.meta_model.proofs.Ordered.{into_in, into_ascending, ordered_in, ordered_ascending, ascending_same}
use Rattle.name_walk.specs.Walk.{HasGoneOn, done_after, todo_after, with_more}
use Rattle.name_walk.proofs.Places.{done_there, todo_there, done_new}

or_apart : (a b c : Bool) → (a || (b || c)) ≡ ((a || b) || c)
or_apart true b c = refl
or_apart false b c = refl

pub or_swap : (a b c : Bool) → (a || (b || c)) ≡ (b || (a || c))
or_swap true true c = refl
or_swap true false c = refl
or_swap false true c = refl
or_swap false false c = refl

pub in_both : (x : List ℕ) (a b : List (List ℕ)) → is_in x (a ++ b) ≡ (is_in x a || is_in x b)
in_both x [] b = refl
in_both x (y ∷ a) b = ap (λ z. bytes_eq x y || z) (in_both x a b) ∙ or_apart (bytes_eq x y) (is_in x a) (is_in x b)

all_in : (done more : List (List ℕ)) (x : List ℕ) → is_in x (with_more done more) ≡ (is_in x done || is_in x more)
all_in done more x = ordered_in (done ++ more) x ∙ in_both x done more

-- a name that was done is passed over

was_done : (done more : List (List ℕ)) (name : List ℕ) → is_in name done ≡ true → is_in name (with_more done more) ≡ true
was_done done more name h = all_in done more name ∙ or_first (is_in name done) (is_in name more) h

pub passed_done : (done more : List (List ℕ)) (name : List ℕ) → is_in name done ≡ true → with_more done more ≡ done_after name (with_more done more)
passed_done done more name h = done_there name (with_more done more) (was_done done more name h)

pub passed_todo : (led : List ℕ → List (List ℕ)) (done more todo : List (List ℕ)) (name : List ℕ) → is_in name done ≡ true → todo ≡ todo_after led name (with_more done more) todo
passed_todo led done more todo name h = todo_there led name (with_more done more) todo (was_done done more name h)

-- another one is a step over the others

others_alone : (done more : List (List ℕ)) (name : List ℕ) → is_in name done ≡ false → is_in name (with_more done more) ≡ is_in name more
others_alone done more name h = all_in done more name ∙ ap (λ b. b || is_in name more) h

put_besides : (done more : List (List ℕ)) (name : List ℕ) → with_more done (into_order more name) ≡ into_order (with_more done more) name
put_besides done more name =
    ascending_same (with_more done (into_order more name)) (into_order (with_more done more) name) (ordered_ascending (done ++ into_order more name)) (into_ascending (with_more done more) name (ordered_ascending (done ++ more)))
    (λ t. all_in done (into_order more name) t ∙ ap (λ b. is_in t done || b) (into_in more name t) ∙ or_swap (is_in t done) (bytes_eq t name) (is_in t more)
    ∙ ap (λ b. bytes_eq t name || b) (sym (all_in done more t)) ∙ sym (into_in (with_more done more) name t))

pub stepped_done : (done more : List (List ℕ)) (name : List ℕ) → is_in name done ≡ false → with_more done (done_after name more) ≡ done_after name (with_more done more)
stepped_done done more name h = elim (either_way (is_in name more)) [
  | inl t ↦ ap (with_more done) (sym (done_there name more t)) ∙ done_there name (with_more done more) (others_alone done more name h ∙ t)
  | inr f ↦ ap (with_more done) (sym (done_new name more f)) ∙ put_besides done more name ∙ done_new name (with_more done more) (others_alone done more name h ∙ f)
]

pub stepped_todo : (led : List ℕ → List (List ℕ)) (done more todo : List (List ℕ)) (name : List ℕ) → is_in name done ≡ false → todo_after led name more todo ≡ todo_after led name (with_more done more) todo
stepped_todo led done more todo name h = ap (λ b. if b then todo else todo ++ led name) (sym (others_alone done more name h))

-- nothing is done besides yet
pub none_besides : (done : List (List ℕ)) → in_byte_order done ≡ done → with_more done [] ≡ done
none_besides done h = ap in_byte_order (append-nil done) ∙ h

-- a walk goes on from where it stands
pub goes_on_here : (led : List ℕ → List (List ℕ)) (done todo : List (List ℕ)) → in_byte_order done ≡ done → HasGoneOn led done todo done todo
goes_on_here led done todo h = record { ordered = h; walks = λ start walk. walk }
