-- The areas of a store are apart: paths that differ at their first byte.
use Rattle.std.proofs.Common.{◌≡◌, ◌≢◌, ◌∙◌, sym, ap, ℕ, List, [], ◌∷◌, ◌++◌, None, get_or, false, eqb}
use Rattle.std.proofs.lemmas.Bool.{false≢true}
use Rattle.std.proofs.lemmas.Bool.Decides.{Decides-eqb}
use Rattle.tree_model.specs.declared.entry.Entry.{Entry}
use Rattle.tree_model.specs.Path.{IsBelow}
use Rattle.outside_traits.specs.Store.{HoldsTree, IsApart, Store}

pub differ : (a b : ℕ) → eqb a b ≡ false → a ≢ b
differ a b no' same = false≢true (sym no' ∙ (Decides-eqb a b).1 same)

pub heads : {c d : ℕ} {ps qs : List ℕ} → (c ∷ ps) ≡ (d ∷ qs) → c ≡ d
heads same = ap (λ (l : List ℕ). get_or l 0 0) same

pub heads_differ : {c d : ℕ} {ps qs : List ℕ} → c ≢ d → (c ∷ ps) ≢ (d ∷ qs)
heads_differ ne same = ne (heads same)

pub apart_by_first : {c d : ℕ} (ps folder : List ℕ) → c ≢ d → IsApart (d ∷ folder) (c ∷ ps)
apart_by_first ps folder ne = record {
  not_folder = heads_differ ne;
  not_above = λ below. heads_differ (λ e. ne (sym e)) below.1;
  not_under = λ below. heads_differ ne below.1;
}

-- a tree stays where its folder and what is above it does
pub tree_stays : (c : ℕ) (ps : List ℕ) (tree : List (List ℕ × Entry)) (i j : Store) → c ≢ 47 → ((qs : List ℕ) → j (c ∷ qs) ≡ i (c ∷ qs)) → HoldsTree (c ∷ ps) tree i → HoldsTree (c ∷ ps) tree j
tree_stays c ps tree i j ne stays was = record {
  entries = λ path. stays (ps ++ 47 ∷ path) ∙ was.entries path;
  outside = record { at = stays ps ∙ was.outside.at; above = above };
}
  where
    above : (q : List ℕ) → IsBelow q (c ∷ ps) → j q ≡ None
    above [] up = absurd (ne (ap (λ (l : List ℕ). get_or l 0 0) up.1))
    above (x ∷ q) up =
        let head : c ≡ x = ap (λ (l : List ℕ). get_or l 0 0) up.1 in
        ap (λ (y : ℕ). j (y ∷ q)) (sym head) ∙ stays q ∙ ap (λ (y : ℕ). i (y ∷ q)) head ∙ was.outside.above (x ∷ q) up
