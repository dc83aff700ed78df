-- The records of roots stay.
use Rattle.std.proofs.Common.{◌≡◌, ◌∙◌, sym, ap, subst, refl, ℕ, suc, ◌<◌, Bool, true, false, List, [], ◌∷◌, length, set, Option, None, Some, inl, inr}
use Rattle.std.specs.Prelude.{if◌then◌else◌}
use Rattle.std.specs.Option.{option_map}
use Rattle.std.proofs.lemmas.Bool.{cases_eq, cases_lt, false≢true}
use Rattle.std.proofs.lemmas.List.{get_or-set_other, get_or_past}
use Rattle.tree_model.specs.declared.hash.Hash.{Hash}
use Rattle.store_model.specs.declared.signature.EquivRow.{EquivRow}
use Rattle.store_model.specs.Rows.{hash_eq, row_at}
use Rattle.store_keep.specs.Keep.{IsMarked, here}
use Rattle.store_keep.specs.Tries.{AreTried, IsTried}
use Rattle.store_keep.proofs.Passing.{set_marked}
use Rattle.store_clean.specs.Naming.{names_of, place_in}
use Rattle.store_clean.specs.Deciding.{mark_of}
use Rattle.store_clean.specs.Laws.{RootsStay}

marked_below : (marks : List Bool) (v : ℕ) → IsMarked marks v → v < length marks
marked_below marks v m = elim (cases_lt v (length marks)) [
  | inl lt ↦ lt
  | inr past ↦ absurd (false≢true (sym (get_or_past marks v false past) ∙ m))
]

set_more : (marks : List Bool) (k v : ℕ) → IsMarked marks v → IsMarked (set marks k true) v
set_more marks k v m = elim (cases_eq v k) [
  | inl same ↦ set_marked marks k v (subst (λ (n : ℕ). n < length marks) same (marked_below marks v m)) m
  | inr ne ↦ get_or-set_other marks k v true false ne ∙ m
]

-- what is marked stays so through each try
stays_through : (edges : List (List ℕ)) (limit : ℕ) (before after : List Bool) (k : ℕ) → IsTried edges limit before k after → (v : ℕ) → IsMarked before v → IsMarked after v
stays_through edges limit before after k (inl same) v m = subst (λ (l : List Bool). IsMarked l v) (sym same.1) m
stays_through edges limit before after k (inr (inl same)) v m = subst (λ (l : List Bool). IsMarked l v) (sym same.1) m
stays_through edges limit before after k (inr (inr with)) v m = elim with.2 [
  | inl kept ↦ subst (λ (l : List Bool). IsMarked l v) (sym kept.1) (with.1.whole v v (set_more before k v m) (here v))
  | inr passed ↦ subst (λ (l : List Bool). IsMarked l v) (sym passed.1) m
]

stays_all : (edges : List (List ℕ)) (limit : ℕ) (before after : List Bool) (order : List ℕ) → AreTried edges limit before order after → (v : ℕ) → IsMarked before v → IsMarked after v
stays_all edges limit before after [] t v m = subst (λ (l : List Bool). IsMarked l v) (sym t) m
stays_all edges limit before after (k ∷ order) t v m = stays_all edges limit t.0 after order t.2 v (stays_through edges limit before t.0 k t.1 v m)

-- a name with a row has a place
place_or_none : (rows : List EquivRow) (name : Hash) → place_in (names_of rows) name ≡ None → row_at rows name ≡ None
place_or_none [] name e = refl
place_or_none (row ∷ rows) name e = by (λ f. place_or_none rows name f) (hash_eq row.name name) refl (place_in (names_of rows) name) refl e
  where
    by : (place_in (names_of rows) name ≡ None → row_at rows name ≡ None) → (b : Bool) → hash_eq row.name name ≡ b → (o : Option ℕ) → place_in (names_of rows) name ≡ o → place_in (names_of (row ∷ rows)) name ≡ None → row_at (row ∷ rows) name ≡ None
    by more true t o p none = absurd (let no : Some 0 ≡ None = sym (ap (λ (b : Bool). if b then Some 0 else option_map suc (place_in (names_of rows) name)) t) ∙ none in cc)
    by more false t None p none = rw t (more p)
    by more false t (Some k) p none = absurd (let no : Some (suc k) ≡ None = sym (ap (λ (b : Bool). if b then Some 0 else option_map suc (place_in (names_of rows) name)) t ∙ ap (option_map suc) p) ∙ none in cc)

pub roots_stay : RootsStay
roots_stay rows roots limit marks decided name root has = by (place_in (names_of rows) name) refl
  where
    by : (o : Option ℕ) → place_in (names_of rows) name ≡ o → mark_of marks (place_in (names_of rows) name) ≡ true
    by None e = absurd (has (place_or_none rows name e))
    by (Some k) e =
        let first : IsMarked decided.first k = (decided.are_roots.each k).1 (name, root, e) in
        let closed : IsMarked decided.kept.first k = decided.kept.closure.whole k k first (here k) in
        ap (mark_of marks) e ∙ stays_all decided.edges limit decided.kept.first marks decided.order decided.kept.tried k closed
