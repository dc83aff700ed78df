-- Names with their values.
use Rattle.std.proofs.Common.{◌≡◌, refl, sym, ◌∙◌, ap, subst, ℕ, ◌+◌, ◌<◌, List, [], ◌∷◌, ◌++◌, length, get_or, drop, filter, true, false, Option, Some, None, MatchOption, Result, Ok, Err, Bor, inl, inr}
use Rattle.std.specs.Str.{IsCharBoundary}
use Rattle.std.specs.Str.Pattern.{FindsTextPrefix}
use Rattle.std.proofs.lemmas.Str.Pattern.{starts_text}
use Rattle.meta_model.proofs.Bools.{either_way}
use Rattle.meta_model.specs.declared.entry.EntryLine.{EntryLine}
use Rattle.meta_model.specs.Refusal.{Refusal}
use Rattle.meta_model.specs.Text.{begins_with}
use Rattle.meta_model.specs.Active.{value}
use Rattle.datastore.specs.declared.fault.DataFault.{DataFault}
use Rattle.datastore.specs.Faults.{IsDataFault}
use Rattle.load_model.specs.LoadRefusal.{◌>>=◌}
use Rattle.load_model.specs.Facts.{with_value, values_behind, valued_names, environment}
use Rattle.meta_model.specs.Passing.{behind}
use Rattle.meta_model.proofs.Passing.{behind_more, next_of}
use Rattle.datastore.proofs.Freezing.{fault_on, fault_same}

pub cut_front : (front name : List ℕ) (r : Option (Bor (List ℕ))) → MatchOption r (FindsTextPrefix front name None) (λ x. (n : ℕ) × FindsTextPrefix front name (Some n) × (x.now ≡ drop n name) × (length x.now + n ≡ length name))
    → MatchOption r (begins_with front name ≡ false) (λ key. (begins_with front name ≡ true) × (key.now ≡ drop (length front) name))
cut_front front name None h = sym (starts_text false front name h)
cut_front front name (Some x) h = (sym (starts_text true front name (h.0, h.1, subst (IsCharBoundary name) (sym h.1.0) h.1.2)), h.2 ∙ ap (λ k. drop k name) h.1.0)

-- values of names, in two parts

abbrev then_values : List EntryLine → List ℕ → List (List ℕ) → Result (List (List ℕ × List ℕ)) Refusal → Result (List (List ℕ × List ℕ)) Refusal
then_values lines front names first = first >>= λ some. behind some (values_behind lines front names)

with_first : (key : List ℕ) (o : Option (List ℕ)) (rest : List (List ℕ × List ℕ)) → with_value key o rest ≡ with_value key o [] ++ rest
with_first key None rest = refl
with_first key (Some text) rest = refl

one_then : (lines : List EntryLine) (front name : List ℕ) (rest : List (List ℕ)) → values_behind lines front (name ∷ rest) ≡ then_values lines front rest (values_behind lines front (name ∷ []))
one_then lines front name rest = at (value lines name) (values_behind lines front rest)
  where
    at : (m : Result (Option (List ℕ)) Refusal) (n : Result (List (List ℕ × List ℕ)) Refusal) → (m >>= (λ text. n >>= (λ others. Ok (with_value (drop (length front) name) text others)))) ≡ ((m >>= (λ text. Ok (with_value (drop (length front) name) text []))) >>= (λ some. behind some n))
    at (Err refusal) n = refl
    at (Ok text) (Err refusal) = refl
    at (Ok text) (Ok others) = ap Ok (with_first (drop (length front) name) text others)

none_then : (n : Result (List (List ℕ × List ℕ)) Refusal) → n ≡ behind [] n
none_then (Ok rest) = refl
none_then (Err refusal) = refl

filtered_then : (lines : List EntryLine) (front name : List ℕ) (rest : List (List ℕ)) → values_behind lines front (filter (begins_with front) (name ∷ rest)) ≡ then_values lines front (filter (begins_with front) rest) (values_behind lines front (filter (begins_with front) (name ∷ [])))
filtered_then lines front name rest = elim (either_way (begins_with front name)) [
  | inl t ↦ rw t (one_then lines front name (filter (begins_with front) rest))
  | inr f ↦ rw f (none_then (values_behind lines front (filter (begins_with front) rest)))
]

behind_then : (before made : List (List ℕ × List ℕ)) (m n : Result (List (List ℕ × List ℕ)) Refusal) → behind before m ≡ Ok made → behind before (m >>= (λ some. behind some n)) ≡ behind made n
behind_then before made (Ok some) n e = let same : before ++ some ≡ made = cc in behind_more before some n ∙ ap (λ l. behind l n) same
behind_then before made (Err refusal) n e = absurd cc

pub values_go_on : (lines : List EntryLine) (front : List ℕ) (whole : Result (List (List ℕ × List ℕ)) Refusal) (before made : List (List ℕ × List ℕ)) (names : List (List ℕ)) (i : ℕ) (x : List ℕ) → x ≡ get_or names i x → i < length names
    → whole ≡ behind before (values_behind lines front (filter (begins_with front) (drop i names))) → behind before (values_behind lines front (filter (begins_with front) (x ∷ []))) ≡ Ok made
    → whole ≡ behind made (values_behind lines front (filter (begins_with front) (drop (i + 1) names)))
values_go_on lines front whole before made names i x is lt w e =
    w ∙ ap (behind before) (next_of (λ l. values_behind lines front (filter (begins_with front) l)) names i x is lt ∙ filtered_then lines front x (drop (i + 1) names))
    ∙ behind_then before made (values_behind lines front (filter (begins_with front) (x ∷ []))) (values_behind lines front (filter (begins_with front) (drop (i + 1) names))) e

pub values_fault : (lines : List EntryLine) (front : List ℕ) (whole : Result (List (List ℕ × List ℕ)) Refusal) (before : List (List ℕ × List ℕ)) (names : List (List ℕ)) (i : ℕ) (x : List ℕ) (fault : DataFault) → x ≡ get_or names i x → i < length names
    → whole ≡ behind before (values_behind lines front (filter (begins_with front) (drop i names))) → IsDataFault fault (values_behind lines front (filter (begins_with front) (x ∷ []))) → IsDataFault fault whole
values_fault lines front whole before names i x fault is lt w h =
    let rest = filter (begins_with front) (drop (i + 1) names) in
    let first = values_behind lines front (filter (begins_with front) (x ∷ [])) in
    fault_same fault whole (behind before (then_values lines front rest first))
    (w ∙ ap (behind before) (next_of (λ l. values_behind lines front (filter (begins_with front) l)) names i x is lt ∙ filtered_then lines front x (drop (i + 1) names)))
    (fault_on fault (then_values lines front rest first) (λ more. Ok (before ++ more)) (fault_on fault first (λ some. behind some (values_behind lines front rest)) h))

-- all names begin with nothing
pub all_begin : (names : List (List ℕ)) → filter (begins_with []) names ≡ names
all_begin [] = refl
all_begin (name ∷ names) = ap (λ l. name ∷ l) (all_begin names)

pub environment_is : (lines : List EntryLine) (names : List (List ℕ)) → names ≡ valued_names lines → environment lines ≡ values_behind lines [] (filter (begins_with []) names)
environment_is lines names e = ap (values_behind lines []) (sym (all_begin names ∙ e))
