-- A text is written piece by piece.
use Rattle.std.proofs.Common.{◌≡◌, ◌++◌, ◌∙◌, sym, ap, refl, ℕ, List, [], length, ◌-◌, ◌≤◌, subst, arith, take, drop, append_assoc, append-nil, length-drop}
use Rattle.std.proofs.lemmas.List.{take-append-drop, take_all}

-- the text up to this rest is written
pub record IsPartWritten (old now text rest : List ℕ) : Type 0 where
  pub front : List ℕ
  pub cut : text ≡ front ++ rest
  pub is : now ≡ old ++ front

pub part_start : (old text : List ℕ) → IsPartWritten old old text text
part_start old text = record { front = []; cut = refl; is = sym (append-nil old) }

pub part_more : (old now next text rest : List ℕ) (n : ℕ) → IsPartWritten old now text rest → next ≡ now ++ take n rest → IsPartWritten old next text (drop n rest)
part_more old now next text rest n part more = record {
  front = part.front ++ take n rest;
  cut = part.cut ∙ ap (λ l. part.front ++ l) (sym (take-append-drop n rest)) ∙ sym (append_assoc part.front (take n rest) (drop n rest));
  is = more ∙ ap (λ l. l ++ take n rest) part.is ∙ append_assoc old part.front (take n rest);
}

pub part_sliced : (old now next text rest : List ℕ) (n : ℕ) → n ≤ length rest → IsPartWritten old now text rest → next ≡ now ++ take n rest → IsPartWritten old next text (take (length rest - n) (drop n rest))
part_sliced old now next text rest n within part more =
    subst (IsPartWritten old next text) (sym (take_all (length rest - n) (drop n rest) (omega (arith, length-drop n rest)))) (part_more old now next text rest n part more)
