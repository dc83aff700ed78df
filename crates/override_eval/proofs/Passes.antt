-- Passes over a text that depends on the active overrides.
use Rattle.std.proofs.Common.{◌≡◌, refl, sym, ap, ◌∙◌, codes, unwrap_or, ℕ, zero, suc, ◌+◌, Bool, true, false, ◌&&◌, List, [], ◌∷◌, Option, Result, Ok, Err, if◌then◌else◌, bytes_eq, add-one}
use Rattle.std.specs.Cmp.Lexicographic.{pointwise}
use Rattle.meta_model.specs.Refusal.{Refusal, unstable, ◌>>=◌}
use Rattle.meta_model.specs.declared.entry.EntryLine.{EntryLine}
use Rattle.meta_model.specs.Text.{texts_eq, colon_pieces}
use Rattle.meta_model.specs.Overrides.{resolved}
use Rattle.meta_model.specs.Expansion.{found_by, value_by}
use Rattle.meta_model.specs.Active.{pass, settled, active}
use Rattle.override_eval.specs.Settled.{pass_of, settled_by, active_by, overrides_under}

pub texts_pointwise : (xs ys : List (List ℕ)) → pointwise bytes_eq xs ys ≡ texts_eq xs ys
texts_pointwise [] [] = refl
texts_pointwise [] (y ∷ ys) = refl
texts_pointwise (x ∷ xs) [] = refl
texts_pointwise (x ∷ xs) (y ∷ ys) = ap (λ b. bytes_eq x y && b) (texts_pointwise xs ys)

-- a pass more
pub settled_step : (pass : List (List ℕ) → Result (List (List ℕ)) Refusal) (n m : ℕ) (before last : List (List ℕ)) → n ≡ m + 1 → texts_eq before last ≡ false → settled_by pass n before last ≡ (pass last >>= settled_by pass m last)
settled_step pass n m before last e h = ap (λ k. settled_by pass k before last) (e ∙ add-one m) ∙ rw h refl

-- the step of the loop over the passes
pub settled_next : (pass : List (List ℕ) → Result (List (List ℕ)) Refusal) (n m : ℕ) (before last next a b l : List (List ℕ)) (same : Bool) (answer : Result (List (List ℕ)) Refusal) → n ≡ m + 1 → a ≡ before → b ≡ last → same ≡ texts_eq a b → same ≡ false → l ≡ last
    → pass l ≡ Ok next → settled_by pass n before last ≡ answer → settled_by pass m last next ≡ answer
settled_next pass n m before last next a b l same answer e f g t u h p i =
    let not_same : texts_eq before last ≡ false = sym (t ∙ ap (λ z. texts_eq z b) f ∙ ap (texts_eq before) g) ∙ u in
    sym (ap (λ r. r >>= settled_by pass m last) (ap pass (sym h) ∙ p)) ∙ sym (settled_step pass n m before last e not_same) ∙ i

-- the passes over entries

two_steps : (value : Result (Option (List ℕ)) Refusal) → ((value >>= λ text. Ok (unwrap_or text [])) >>= λ made. Ok (colon_pieces made)) ≡ (value >>= λ text. Ok (colon_pieces (unwrap_or text [])))
two_steps (Ok text) = refl
two_steps (Err refusal) = refl

one_pass : (list : List EntryLine) (before : List (List ℕ)) → pass_of (overrides_under list) before ≡ pass list before
one_pass list before = two_steps (value_by (found_by (λ name. Ok (resolved list before name))) (codes "OVERRIDES"))

same_next : (first : Result (List (List ℕ)) Refusal) (f g : List (List ℕ) → Result (List (List ℕ)) Refusal) → ((x : List (List ℕ)) → f x ≡ g x) → (first >>= f) ≡ (first >>= g)
same_next (Ok x) f g h = h x
same_next (Err refusal) f g h = refl

same_settled : (list : List EntryLine) (left : ℕ) (before last : List (List ℕ)) → settled_by (pass_of (overrides_under list)) left before last ≡ settled list left before last
same_settled list zero before last = sym (ends (texts_eq before last))
  where
    ends : (same : Bool) → ◌≡◌ {A = Result (List (List ℕ)) Refusal} (elim same [ true ↦ Ok last | false ↦ Err (unstable before last) ]) (if same then Ok last else Err (unstable before last))
    ends true = refl
    ends false = refl
same_settled list (suc left) before last = sym (goes (same_settled list left last) (texts_eq before last))
  where
    goes : ((next : List (List ℕ)) → settled_by (pass_of (overrides_under list)) left last next ≡ settled list left last next)
        → (same : Bool) → ◌≡◌ {A = Result (List (List ℕ)) Refusal} (elim same [ true ↦ Ok last | false ↦ (pass list last >>= λ next. settled list left last next) ]) (if same then Ok last else (pass_of (overrides_under list) last >>= settled_by (pass_of (overrides_under list)) left last))
    goes rest true = refl
    goes rest false = sym (ap (λ r. r >>= settled_by (pass_of (overrides_under list)) left last) (one_pass list last) ∙ same_next (pass list last) (settled_by (pass_of (overrides_under list)) left last) (settled list left last) rest)

pub entries_settle : (list : List EntryLine) → active_by (pass_of (overrides_under list)) ≡ active list
entries_settle list =
    ap (λ r. r >>= settled_by (pass_of (overrides_under list)) 4 []) (one_pass list [])
    ∙ same_next (pass list []) (settled_by (pass_of (overrides_under list)) 4 []) (settled list 4 []) (same_settled list 4 [])
