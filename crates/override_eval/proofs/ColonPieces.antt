-- Pieces between colons.
use Rattle.std.proofs.Common.{◌≡◌, refl, ap, sym, ◌∙◌, ℕ, Bool, true, false, cond, not, List, [], ◌∷◌, ◌++◌, append_assoc}
use Rattle.std.specs.List.{slice_split}
use Rattle.meta_model.specs.Text.{is_colon, is_empty, non_empty, colon_pieces}

first_kept : (b : Bool) (piece : List ℕ) (rest : List (List ℕ)) → cond (not b) (piece ∷ rest) rest ≡ cond (not b) (piece ∷ []) [] ++ rest
first_kept true piece rest = refl
first_kept false piece rest = refl

-- the first piece, and the others
pub pieces_cut : (text part after : List ℕ) → slice_split is_colon text ≡ part ∷ slice_split is_colon after → colon_pieces text ≡ non_empty (part ∷ []) ++ colon_pieces after
pieces_cut text part after e = ap non_empty e ∙ first_kept (is_empty part) part (colon_pieces after)

-- the last piece
pub pieces_last : (text : List ℕ) → slice_split is_colon text ≡ text ∷ [] → colon_pieces text ≡ non_empty (text ∷ [])
pieces_last text e = ap non_empty e

-- one step of a loop over the pieces
pub pieces_step : (list rest part after : List ℕ) (pieces pieces' : List (List ℕ)) → slice_split is_colon rest ≡ part ∷ slice_split is_colon after → pieces ++ colon_pieces rest ≡ colon_pieces list → pieces' ≡ pieces ++ non_empty (part ∷ [])
    → pieces' ++ colon_pieces after ≡ colon_pieces list
pieces_step list rest part after pieces pieces' e h p =
    ap (λ l. l ++ colon_pieces after) p
    ∙ append_assoc pieces (non_empty (part ∷ [])) (colon_pieces after)
    ∙ ap (λ l. pieces ++ l) (sym (pieces_cut rest part after e))
    ∙ h
