-- The steps of reading a text.
use Rattle.std.proofs.Common.{◌≡◌, refl, sym, ◌∙◌, ap, arith, ◌<◌, List, [], ◌∷◌, ◌++◌, length, map, true, false, Some, ◌⊎◌, inl, inr, Result, Ok, Err, IfOk, reverse}
use Rattle.std.proofs.lemmas.List.{reverse-append, reverse-reverse}
use Rattle.meta_model.specs.Text.{close_brace}
use Rattle.meta_model.specs.declared.form.Form.{Form}
use Rattle.meta_model.specs.Parts.{Parts, end, plain, reference, form, form_in, Levels, last, before_brace, opened, plain_opening, is_name, joined_with, with_braces, depth}
use Rattle.meta_model.specs.Expansion.{deepest}
use Rattle.var_expand.specs.declared.frame.Frame.{Frame}
use Rattle.var_expand.specs.declared.standing.Standing.{Standing}
use Rattle.var_expand.specs.Standing.{IsPlainInside, in_front, wrapped, flattened}
use Rattle.var_expand.specs.ReadOn.{held, read_on}
use Rattle.var_expand.proofs.Openings.{front_end, wrapped_more, closed_name, closed_form, inner_depth, braces_front, plain_brace, text_end, flat_step, flat_first, flat_next, joined_depth}

map_more : {A B : Type 0} (f : A → B) (xs : List A) (x : A) → map f (xs ++ x ∷ []) ≡ map f xs ++ f x ∷ []
map_more f [] x = refl
map_more f (y ∷ xs) x = ap (λ l. f y ∷ l) (map_more f xs x)

-- one more open reference
pub one_more : (old new : List Frame) (inner empty : Frame) (rest : Levels) → new ≡ old ++ inner ∷ [] → held empty ≡ end
    → with_braces (wrapped (map held new) (in_front (held empty) rest)) ≡ with_braces (wrapped (map held old) (in_front (held inner) (opened rest)))
one_more old new inner empty rest e f =
    ap (λ p. with_braces (wrapped (map held new) (in_front p rest))) f
    ∙ ap (λ l. with_braces (wrapped (map held new) l)) (front_end rest)
    ∙ ap (λ l. with_braces (wrapped l rest)) (ap (map held) e ∙ map_more held old inner)
    ∙ ap with_braces (wrapped_more (map held old) (held inner) rest)

-- one open reference less
pub one_less : (old new : List Frame) (frame inner made : Frame) (rest : Levels) → old ≡ new ++ frame ∷ [] → is_name (held inner) ≡ true
    → held made ≡ joined_with (held frame) (reference (held inner) end)
    → with_braces (wrapped (map held new) (in_front (held made) rest)) ≡ with_braces (wrapped (map held old) (in_front (held inner) (before_brace end rest)))
one_less old new frame inner made rest e n f =
    ap (λ p. with_braces (wrapped (map held new) (in_front p rest))) f
    ∙ sym (ap with_braces (ap (λ l. wrapped l (in_front (held inner) (before_brace end rest))) (ap (map held) e ∙ map_more held new frame)
    ∙ closed_name (map held new) (held frame) (held inner) rest n))

-- one less, which a form closes
pub one_form : (old new : List Frame) (frame inner made : Frame) (f : Form) (rest : Levels) → old ≡ new ++ frame ∷ [] → is_name (held inner) ≡ false → form_in (held inner) ≡ Some f
    → held made ≡ joined_with (held frame) (form f end)
    → with_braces (wrapped (map held new) (in_front (held made) rest)) ≡ with_braces (wrapped (map held old) (in_front (held inner) (before_brace end rest)))
one_form old new frame inner made f rest e n k g =
    ap (λ p. with_braces (wrapped (map held new) (in_front p rest))) g
    ∙ sym (ap with_braces (ap (λ l. wrapped l (in_front (held inner) (before_brace end rest))) (ap (map held) e ∙ map_more held new frame)
    ∙ closed_form (map held new) (held frame) (held inner) f rest n k))

-- a list that isn't empty has a last item
last_one : {A : Type 0} (xs : List A) → 0 < length xs → (ys : List A) × (y : A) × (xs ≡ ys ++ y ∷ [])
last_one [] h = absurd (omega arith)
last_one (x ∷ []) h = ([], x, refl)
last_one (x ∷ (y ∷ xs)) h = let rest = last_one (y ∷ xs) (omega arith) in (x ∷ rest.0, rest.1, ap (λ l. x ∷ l) rest.2)

-- one reference round 64 nested ones is too deep
pub too_deep_inside : (outer : List Frame) (inner : Frame) (rest : Levels) → 0 < length outer → is_name (held inner) ≡ true → depth (held inner) ≡ 64
    → deepest < depth (with_braces (wrapped (map held outer) (in_front (held inner) (before_brace end rest))))
too_deep_inside outer inner rest some n e =
    let ends = last_one outer some in
    let whole : with_braces (wrapped (map held outer) (in_front (held inner) (before_brace end rest))) ≡ with_braces (wrapped (map held ends.0) (in_front (joined_with (held ends.1) (reference (held inner) end)) rest)) =
    ap with_braces (ap (λ l. wrapped l (in_front (held inner) (before_brace end rest))) (ap (map held) ends.2 ∙ map_more held ends.0 ends.1)
    ∙ closed_name (map held ends.0) (held ends.1) (held inner) rest n) in
    let below = inner_depth (map held ends.0) (joined_with (held ends.1) (reference (held inner) end)) rest in
    let here = joined_depth (held ends.1) (reference (held inner) end) in
    rw whole (grind (arith, below, here, e))

-- a brace that closes nothing
pub plain_one : (self : Standing) (whole made : Frame) (none : List Frame) (rest : Levels) → none ≡ [] → IsPlainInside (held self.inner) ⊎ (self.outer.items ≡ [])
    → held whole ≡ joined_with (flattened (map held self.outer.items)) (held self.inner) → held made ≡ joined_with (held whole) (plain close_brace end)
    → with_braces (wrapped (map held none) (in_front (held made) rest)) ≡ read_on self (before_brace end rest)
plain_one self whole made none rest n h e f =
    ap (λ l. with_braces (wrapped (map held l) (in_front (held made) rest))) n
    ∙ braces_front (held made) rest
    ∙ ap (λ p. joined_with p (with_braces rest)) (f ∙ ap (λ p. joined_with p (plain close_brace end)) e)
    ∙ sym (plain_brace (map held self.outer.items) (held self.inner) rest (as_parts h))
  where
    as_parts : IsPlainInside (held self.inner) ⊎ (self.outer.items ≡ []) → IsPlainInside (held self.inner) ⊎ (map held self.outer.items ≡ [])
    as_parts (inl a) = inl a
    as_parts (inr b) = inr (ap (map held) b)

-- where the text ends
pub at_end : {E : Type 0} (self : Standing) (result : Result Frame E) → IfOk result (λ made. held made ≡ joined_with (flattened (map held self.outer.items)) (held self.inner))
    → IfOk result (λ made. held made ≡ read_on self (last end))
at_end self (Ok made) e = e ∙ sym (text_end (map held self.outer.items) (held self.inner))
at_end self (Err fault) e = e

-- frames put together from the outermost on

last_first : {A : Type 0} (old rest : List A) (x : A) → old ≡ rest ++ x ∷ [] → reverse old ≡ x ∷ reverse rest
last_first old rest x e = ap reverse e ∙ reverse-append rest (x ∷ [])

pub flat_begins : (outer turned rest : List Frame) (whole inner : Frame) → turned ≡ reverse outer → turned ≡ rest ++ whole ∷ []
    → joined_with (held whole) (plain_opening (joined_with (flattened (map held (reverse rest))) (held inner))) ≡ joined_with (flattened (map held outer)) (held inner)
flat_begins outer turned rest whole inner e f =
    let all : outer ≡ whole ∷ reverse rest = sym (reverse-reverse outer) ∙ ap reverse (sym e) ∙ last_first turned rest whole f in
    sym (ap (λ l. joined_with (flattened (map held l)) (held inner)) all ∙ flat_first (held whole) (map held (reverse rest)) (held inner))

pub flat_goes_on : (old rest : List Frame) (whole frame opening made inner : Frame) (target : Parts)
    → joined_with (held whole) (plain_opening (joined_with (flattened (map held (reverse old))) (held inner))) ≡ target
    → old ≡ rest ++ frame ∷ [] → held opening ≡ joined_with (held whole) (plain_opening end) → held made ≡ joined_with (held opening) (held frame)
    → joined_with (held made) (plain_opening (joined_with (flattened (map held (reverse rest))) (held inner))) ≡ target
flat_goes_on old rest whole frame opening made inner target h e f g =
    ap (λ p. joined_with p (plain_opening (joined_with (flattened (map held (reverse rest))) (held inner)))) (g ∙ ap (λ p. joined_with p (held frame)) f)
    ∙ flat_next (held whole) (held frame) (map held (reverse rest)) (held inner)
    ∙ ap (λ l. joined_with (held whole) (plain_opening (joined_with (flattened (map held l)) (held inner)))) (sym (last_first old rest frame e))
    ∙ h

pub flat_ends : {E : Type 0} (rest : List Frame) (whole opening inner : Frame) (target : Parts) (result : Result Frame E)
    → joined_with (held whole) (plain_opening (joined_with (flattened (map held (reverse rest))) (held inner))) ≡ target
    → rest ≡ [] → held opening ≡ joined_with (held whole) (plain_opening end)
    → IfOk result (λ made. held made ≡ joined_with (held opening) (held inner)) → IfOk result (λ made. held made ≡ target)
flat_ends rest whole opening inner target (Ok made) h e f g =
    g ∙ ap (λ p. joined_with p (held inner)) f ∙ flat_step (held whole) (held inner)
    ∙ sym (ap (λ l. joined_with (held whole) (plain_opening (joined_with (flattened (map held (reverse l))) (held inner)))) e) ∙ h
flat_ends rest whole opening inner target (Err fault) h e f g = g

pub nothing_left : {A : Type 0} (xs : List A) → length xs ≡ 0 → xs ≡ []
nothing_left [] h = refl
nothing_left (x ∷ xs) h = absurd (omega (arith, h))
