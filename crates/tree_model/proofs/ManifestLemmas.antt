-- A manifest line by line.
use Rattle.std.proofs.Common.{◌≡◌, ◌∙◌, ◌∷◌, [], sym, ap, refl, ℕ, List, map, Bool, true, false, Some}
use Rattle.std.specs.Prelude.{option_map, find}
use Rattle.std.specs.Str.{bytes_eq}
use Rattle.tree_model.specs.Tree.{entry_at}
use Rattle.tree_model.specs.declared.entry.Entry.{Entry}
use Rattle.tree_model.specs.declared.manifest.ManifestLine.{ManifestLine}
use Rattle.tree_model.specs.Manifest.{line_of}

-- what a manifest says of the entry at a path
said_at : {X : Type 0} (f : Entry → X) (g : ManifestLine → X) → ((e : List ℕ × Entry) → g (line_of e) ≡ f e.1) → (xs : List (List ℕ × Entry)) (q : List ℕ) → option_map f (entry_at xs q) ≡ option_map g (find (λ l. bytes_eq l.path q) (map line_of xs))
said_at f g says [] q = refl
said_at f g says (x ∷ xs) q = by (said_at f g says xs q) (bytes_eq x.0 q) refl
  where
    by : option_map f (entry_at xs q) ≡ option_map g (find (λ l. bytes_eq l.path q) (map line_of xs)) → (t : Bool) → bytes_eq x.0 q ≡ t → option_map f (entry_at (x ∷ xs) q) ≡ option_map g (find (λ l. bytes_eq l.path q) (map line_of (x ∷ xs)))
    by rest true e = simp e (ap (λ v. Some v) (sym (says x)))
    by rest false e = simp e rest

pub said_alike : {X : Type 0} (f : Entry → X) (g : ManifestLine → X) → ((e : List ℕ × Entry) → g (line_of e) ≡ f e.1) → (xs ys : List (List ℕ × Entry)) → map line_of xs ≡ map line_of ys → (q : List ℕ) → option_map f (entry_at xs q) ≡ option_map f (entry_at ys q)
said_alike f g says xs ys same q = said_at f g says xs q ∙ ap (λ ls. option_map g (find (λ l. bytes_eq l.path q) ls)) same ∙ sym (said_at f g says ys q)
