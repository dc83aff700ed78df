-- Where a text is cut at its first byte that doesn't stand as it is, in any way of escaping.
use Rattle.std.proofs.Common.{◌≡◌, sym, refl, ◌∙◌, ap, arith, ℕ, zero, suc, ◌+◌, ◌<◌, Bool, false, List, [], ◌∷◌, ◌++◌, length, take, drop, get_or, Some, None, position, append_assoc, add-one, flat_map}
use Rattle.std.proofs.lemmas.List.Quantifiers.{position-Some}
use Rattle.meta_model.proofs.Unfound.{none_before}

module _ (is_special : ℕ → Bool) (escape : ℕ → List ℕ) (plain : (c : ℕ) → is_special c ≡ false → escape c ≡ c ∷ []) where
  escaped_before : (bs : List ℕ) (i : ℕ) → i < length bs → ((k : ℕ) → k < i → is_special (get_or bs k 0) ≡ false) → flat_map escape bs ≡ take i bs ++ (escape (get_or bs i 0) ++ flat_map escape (drop (suc i) bs))
  escaped_before [] i lt before = absurd (omega arith)
  escaped_before (b ∷ bs) zero lt before = refl
  escaped_before (b ∷ bs) (suc i) lt before =
      ap (λ l. l ++ flat_map escape bs) (plain b (before 0 (omega arith)))
      ∙ ap (λ l. b ∷ l) (escaped_before bs i (omega arith) (λ k h. before (suc k) (omega arith)))

  escaped_plain : (bs : List ℕ) → ((k : ℕ) → k < length bs → is_special (get_or bs k 0) ≡ false) → flat_map escape bs ≡ bs
  escaped_plain [] h = refl
  escaped_plain (b ∷ bs) h = ap (λ l. l ++ flat_map escape bs) (plain b (h 0 (omega arith))) ∙ ap (λ l. b ∷ l) (escaped_plain bs (λ k lt. h (suc k) (omega arith)))

  -- the last piece
  pub escaped_last : (bs made old new whole : List ℕ) → None ≡ position is_special bs → made ++ flat_map escape bs ≡ old ++ flat_map escape whole → new ≡ made ++ bs → new ≡ old ++ flat_map escape whole
  escaped_last bs made old new whole e i n = n ∙ ap (λ l. made ++ l) (sym (escaped_plain bs (none_before is_special bs 0 (sym e)))) ∙ i

  -- one piece and the byte behind it
  pub escaped_step : (rest piece byte after made next new : List ℕ) (i : ℕ) → Some i ≡ position is_special rest → piece ≡ take i rest → next ≡ made ++ piece → byte ≡ escape (get_or rest i 0) → new ≡ next ++ byte → after ≡ drop (i + 1) rest
      → new ++ flat_map escape after ≡ made ++ flat_map escape rest
  escaped_step rest piece byte after made next new i e p n b m a =
      let h = position-Some is_special rest i 0 (sym e) in
      ap (λ l. l ++ flat_map escape after) (m ∙ ap (λ l. l ++ byte) (n ∙ ap (λ l. made ++ l) p) ∙ append_assoc made (take i rest) byte)
      ∙ append_assoc made (take i rest ++ byte) (flat_map escape after)
      ∙ ap (λ l. made ++ l) (append_assoc (take i rest) byte (flat_map escape after)
      ∙ ap (λ l. take i rest ++ (byte ++ flat_map escape l)) (a ∙ ap (λ j. drop j rest) (add-one i))
      ∙ ap (λ l. take i rest ++ (l ++ flat_map escape (drop (suc i) rest))) b
      ∙ sym (escaped_before rest i h.0 h.2))
