-- The parts of a name, one after another.
use Rattle.std.proofs.Common.{◌≡◌, sym, ◌∙◌, ap, ℕ, List, [], ◌∷◌, ◌++◌, append_assoc}
use Rattle.std.specs.List.{slice_split}
use Rattle.meta_model.specs.Text.{is_colon}

pub next_part : (whole rest part after : List ℕ) (parts more : List (List ℕ)) → slice_split is_colon rest ≡ part ∷ slice_split is_colon after → parts ++ slice_split is_colon rest ≡ slice_split is_colon whole → more ≡ parts ++ part ∷ [] → more ++ slice_split is_colon after ≡ slice_split is_colon whole
next_part whole rest part after parts more s h n =
    ap (λ p. p ++ slice_split is_colon after) n ∙ append_assoc parts (part ∷ []) (slice_split is_colon after) ∙ ap (λ p. parts ++ p) (sym s) ∙ h

pub last_part : (whole rest : List ℕ) (parts more : List (List ℕ)) → slice_split is_colon rest ≡ rest ∷ [] → parts ++ slice_split is_colon rest ≡ slice_split is_colon whole → more ≡ parts ++ rest ∷ [] → more ≡ slice_split is_colon whole
last_part whole rest parts more s h n = n ∙ ap (λ p. parts ++ p) (sym s) ∙ h
