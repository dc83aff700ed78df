-- Late names, part by part.
use Rattle.std.proofs.Common.{◌≡◌, ℕ, ◌+◌, Bool, false, ◌||◌, List, [], ◌∷◌, ◌++◌, drop, refl, sym, ap, ◌∙◌, Option, Some, None, is_some, position, option_map, length, ◌<◌, length-drop, arith}
use Rattle.std.specs.List.{list_any, slice_split}
use Rattle.meta_model.specs.declared.entry.Late.{Late}
use Rattle.meta_model.specs.Text.{is_colon, colon}
use Rattle.meta_model.specs.Names.{keyword, late_from, at_keyword, LateName, is_late, late_of_parts, first_part}
use Rattle.bb_parser.proofs.Fronts.{split-head, split-rest, split-none, place-none, place-some}

is_kw : List ℕ → Bool
is_kw part = is_some (keyword part)

late-any : (front : List ℕ) (ps : List (List ℕ)) → is_some (late_from front ps) ≡ list_any is_kw ps
unfolding is_kw
late-any front [] = refl
late-any front (part ∷ rest) = by_case (keyword part) (late_from (front ++ colon ∷ part) rest) (late-any (front ++ colon ∷ part) rest)
  where
    by_case : (k : Option Late) (later : Option LateName) → is_some later ≡ list_any is_kw rest → is_some (at_keyword front rest later k) ≡ (is_some k || list_any is_kw rest)
    by_case None later h = h
    by_case (Some kind) later h = refl

late-parts : (ps : List (List ℕ)) → is_some (late_of_parts ps) ≡ list_any is_kw (drop 1 ps)
late-parts [] = refl
late-parts (p ∷ ps) = late-any p ps

-- a late name has a keyword among the parts behind the first
late-is : (s : List ℕ) → is_late s ≡ list_any is_kw (drop 1 (slice_split is_colon s))
late-is s = late-parts (slice_split is_colon s)

pub late-none : (s : List ℕ) → position is_colon s ≡ None → is_late s ≡ false
late-none s e = late-is s ∙ ap (list_any is_kw) (split-none is_colon s (place-none is_colon s e))

-- the part behind the first colon is one, or a later one is
pub late-next : (s : List ℕ) (i : ℕ) → position is_colon s ≡ Some i → is_late s ≡ (is_some (keyword (first_part (drop (i + 1) s))) || is_late (drop (i + 1) s))
unfolding is_kw
late-next s i e = late-is s ∙ (ap (list_any is_kw) (split-rest is_colon s 0 i e ∙ split-head is_colon (drop (i + 1) s)) ∙ ap (λ b. is_some (keyword (first_part (drop (i + 1) s))) || b) (sym (late-is (drop (i + 1) s))))

-- the same, by what stands behind the first colon
pub late-after : (s next : List ℕ) (r : Option ℕ) → position is_colon s ≡ r → Some next ≡ option_map (λ i. drop (i + 1) s) r
    → (is_late s ≡ (is_some (keyword (first_part next)) || is_late next)) × (length next < length s)
late-after s next None e h = cc
late-after s next (Some i) e h = let n : next ≡ drop (i + 1) s = cc in
    let p = place-some is_colon s i e in
    rw n (late-next s i e, omega (arith, length-drop (i + 1) s, p.0))

pub late-nowhere : (s : List ℕ) (r : Option ℕ) → position is_colon s ≡ r → None ≡ option_map (λ i. drop (i + 1) s) r → is_late s ≡ false
late-nowhere s None e h = late-none s e
late-nowhere s (Some i) e h = cc
