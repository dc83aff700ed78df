-- Texts with another one put in the place of a part.
use Rattle.std.proofs.Common.{◌≡◌, refl, sym, ◌∙◌, ap, ℕ, suc, zero, ◌+◌, ◌-◌, ◌<◌, ◌≤◌, arith, true, false, List, [], ◌∷◌, ◌++◌, length, take, drop, Option, Some, None, MatchOption, Bor, append_assoc, codes}
use Rattle.std.specs.Str.Pattern.{FindsText, LacksTextAt}
use Rattle.std.proofs.lemmas.Str.Pattern.{starts_text}
use Rattle.std.proofs.lemmas.Slice.Eq.{starts_is}
use Rattle.std.proofs.lemmas.Bool.Decides.{Decides-eqb}
use Rattle.std.proofs.Math.Seq.{drop-append_seam}
use Rattle.meta_model.specs.Text.{begins_with}
use Rattle.load_model.specs.Layers.{with_put, with_folder}

begins_no : (part s : List ℕ) → LacksTextAt part s 0 → begins_with part s ≡ false
begins_no part s h = sym (starts_text false part s h)

begins_yes : (part s after : List ℕ) → s ≡ part ++ after → begins_with part s ≡ true
begins_yes part s after e = (starts_is Decides-eqb s part (begins_with part s) refl).1 after e

pub put_none : (part new s : List ℕ) → ((i : ℕ) → i ≤ length s → LacksTextAt part s i) → with_put part new 0 s ≡ s
put_none part new [] h = refl
put_none part new (c ∷ s) h = rw (begins_no part (c ∷ s) (h 0 (omega arith)), with_put) (ap (λ l. c ∷ l) (put_none part new s (λ i le. h (suc i) (omega arith))))

put_skips : (part new : List ℕ) (k : ℕ) (s : List ℕ) → with_put part new k s ≡ with_put part new 0 (drop k s)
put_skips part new zero s = refl
put_skips part new (suc k) [] = refl
put_skips part new (suc k) (c ∷ s) = put_skips part new k s

no_front : (p : ℕ) (part after : List ℕ) → [] ≡ (p ∷ part) ++ after → ⊥
no_front p part after e = cc

tail_of : (c p : ℕ) (s t : List ℕ) → c ∷ s ≡ p ∷ t → s ≡ t
tail_of c p s t e = ap (drop 1) e

pub put_at : (p : ℕ) (part new s after : List ℕ) (i : ℕ) → ((k : ℕ) → k < i → LacksTextAt (p ∷ part) s k) → drop i s ≡ (p ∷ part) ++ after
    → with_put (p ∷ part) new 0 s ≡ take i s ++ (new ++ with_put (p ∷ part) new 0 after)
put_at p part new [] after zero h e = absurd (no_front p part after e)
put_at p part new [] after (suc i) h e = absurd (no_front p part after e)
put_at p part new (c ∷ s) after zero h e =
    let rest : drop (length part) s ≡ after = ap (drop (length part)) (tail_of c p s (part ++ after) e) ∙ drop-append_seam part after in
    let one : length (p ∷ part) - 1 ≡ length part = omega arith in
    rw (begins_yes (p ∷ part) (c ∷ s) after e, with_put) (ap (λ k. new ++ with_put (p ∷ part) new k s) one ∙ ap (λ l. new ++ l) (put_skips (p ∷ part) new (length part) s ∙ ap (with_put (p ∷ part) new 0) rest))
put_at p part new (c ∷ s) after (suc i) h e =
    rw (begins_no (p ∷ part) (c ∷ s) (h 0 (omega arith)), with_put) (ap (λ l. c ∷ l) (put_at p part new s after i (λ k lt. h (suc k) (omega arith)) e))

abbrev pub SplitText : List ℕ → List ℕ → Option (Bor (List ℕ) × Bor (List ℕ)) → Type 0
SplitText p bs r = MatchOption r (FindsText p bs None) (λ x. (i : ℕ) × (j : ℕ) × FindsText p bs (Some (i, j)) × (x.0.now ≡ take i bs) × (x.1.now ≡ drop j bs) × (i ≤ j) × (length x.0.now ≡ i) × (length x.1.now + j ≡ length bs))

pub cut_layer : (text : List ℕ) (r : Option (Bor (List ℕ) × Bor (List ℕ))) → SplitText (codes "${LAYERDIR}") text r → (layer : List ℕ) → MatchOption r (with_folder layer text ≡ text) (λ x. with_folder layer text ≡ x.0.now ++ (layer ++ with_folder layer x.1.now))
cut_layer text None h layer = put_none (codes "${LAYERDIR}") layer text h
cut_layer text (Some x) h layer =
    put_at 36 (codes "{LAYERDIR}") layer text (drop h.1 text) h.0 h.2.0 h.2.1.split
    ∙ ap (λ l. l ++ (layer ++ with_folder layer (drop h.1 text))) (sym h.3) ∙ ap (λ l. x.0.now ++ (layer ++ with_folder layer l)) (sym h.4)

-- one step of the loop
pub put_step : (layer text rest front after made made' made'' : List ℕ) → with_folder layer rest ≡ front ++ (layer ++ with_folder layer after) → made ++ with_folder layer rest ≡ with_folder layer text
    → made' ≡ made ++ front → made'' ≡ made' ++ layer → made'' ++ with_folder layer after ≡ with_folder layer text
put_step layer text rest front after made made' made'' s h m n =
    ap (λ l. l ++ with_folder layer after) (n ∙ ap (λ l. l ++ layer) m) ∙ append_assoc (made ++ front) layer (with_folder layer after)
    ∙ append_assoc made front (layer ++ with_folder layer after) ∙ ap (λ l. made ++ l) (sym s) ∙ h
