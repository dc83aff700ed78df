-- Trees that are laid on a bench entry by entry.
use Rattle.std.proofs.Common.{◌≡◌, ◌∙◌, sym, ap, subst, refl, ℕ, ◌+◌, ◌<◌, zero, suc, add-one, arith, Bool, true, false, List, [], ◌∷◌, ◌++◌, length, get_or, take, Option, Some, None}
use Rattle.std.specs.Prelude.{IsSome}
use Rattle.std.specs.Str.{bytes_eq}
use Rattle.std.proofs.lemmas.List.{get_or-take, length-take}
use Rattle.std.proofs.lemmas.List.Elements.{All-take}
use Rattle.tree_model.specs.declared.entry.Entry.{Entry}
use Rattle.tree_model.specs.Path.{IsBelow, IsClean}
use Rattle.tree_model.specs.Tree.{IsTree, entry_at}
use Rattle.tree_model.proofs.LawLemmas.{same_trees}
use Rattle.tree_model.proofs.TreeLemmas.{at_cons_other, at_cons_same}
use Rattle.outside_traits.specs.Store.{put}
use Rattle.outside_traits.specs.Bench.{Adds, IsVacant}
use Rattle.outside_traits.proofs.Laid.{found_in, tree_distinct, tree_level}
use Rattle.meta_model.proofs.Bools.{not_both, same_text, text_itself}
use Rattle.meta_model.specs.CleanBuild.{Entries}

-- the first entries of a tree are a tree
front_tree : (tree : Entries) (n : ℕ) → IsTree tree → IsTree (take n tree)
front_tree tree n is = record {
  clean = All-take (λ (e : List ℕ × Entry). IsClean e.0) n tree is.clean;
  ordered = λ i j d lt within.
      let below : j < n = omega (arith, within, length-take n tree) in
      let fits : j < length tree = omega (arith, within, length-take n tree) in
      let first : get_or (take n tree) i d ≡ get_or tree i d = get_or-take n tree i d (omega arith) in
      let second : get_or (take n tree) j d ≡ get_or tree j d = get_or-take n tree j d below in
      rw (first, second) (is.ordered i j d lt fits);
}

-- what stands among the first entries
front_in : (tree : Entries) (n : ℕ) (q : List ℕ) → IsSome (entry_at (take n tree) q) → (k : ℕ) × (k < n) × (k < length tree) × ((d : List ℕ × Entry) → (get_or tree k d).0 ≡ q)
front_in tree n q some =
    let found = found_in (take n tree) q some in
    let below : found.0 < n = omega (arith, found.1, length-take n tree) in
    (found.0, below, omega (arith, found.1, length-take n tree), λ d. ap (λ (e : List ℕ × Entry). e.0) (sym (get_or-take n tree found.0 d below)) ∙ found.2 d)

none_unless : (o : Option Entry) → (IsSome o → ⊥) → o ≡ None
none_unless None never = refl
none_unless (Some e) never = absurd (never refl)

-- the next entry's path is vacant
pub next_vacant : (tree : Entries) (n : ℕ) (e : List ℕ × Entry) → IsTree tree → n < length tree → e ≡ get_or tree n e → IsVacant (take n tree) e.0
next_vacant tree n e is lt here = record {
  at = none_unless (entry_at (take n tree) e.0) (λ some. let f = front_in tree n e.0 some in tree_distinct tree f.0 n e is f.1 lt (f.3 e ∙ ap (λ (x : List ℕ × Entry). x.0) here));
  around = record {
    above = λ q below. none_unless (entry_at (take n tree) q) (λ some. let f = front_in tree n q some in
        tree_level tree f.0 n e is f.2 lt (subst (λ (p : List ℕ). IsBelow p (get_or tree n e).0) (sym (f.3 e)) (subst (λ (x : List ℕ × Entry). IsBelow q x.0) here below)));
    below = λ q below. none_unless (entry_at (take n tree) q) (λ some. let f = front_in tree n q some in
        tree_level tree n f.0 e is lt f.2 (subst (λ (p : List ℕ). IsBelow (get_or tree n e).0 p) (sym (f.3 e)) (subst (λ (x : List ℕ × Entry). IsBelow x.0 q) here below)));
  };
}

-- one more entry behind others whose paths differ from its own
at_last : (xs : Entries) (e : List ℕ × Entry) (q : List ℕ) → entry_at xs e.0 ≡ None → entry_at (xs ++ e ∷ []) q ≡ put (entry_at xs) e.0 (Some e.1) q
at_last [] e q none = by (bytes_eq e.0 q) refl
  where
    by : (b : Bool) → bytes_eq e.0 q ≡ b → entry_at (e ∷ []) q ≡ put (entry_at []) e.0 (Some e.1) q
    by true f = simp f
    by false f = simp f
at_last (x ∷ xs) e q none = by (bytes_eq x.0 q) (bytes_eq x.0 e.0) (bytes_eq e.0 q) refl refl refl (at_last xs e q)
  where
    by : (a b c : Bool) → bytes_eq x.0 q ≡ a → bytes_eq x.0 e.0 ≡ b → bytes_eq e.0 q ≡ c → (entry_at xs e.0 ≡ None → entry_at (xs ++ e ∷ []) q ≡ put (entry_at xs) e.0 (Some e.1) q) → entry_at (x ∷ (xs ++ e ∷ [])) q ≡ put (entry_at (x ∷ xs)) e.0 (Some e.1) q
    by a true c f g h more = let n : ◌≡◌ {A = Option Entry} (Some x.1) None = sym (at_cons_same x xs e.0 (same_text x.0 e.0 g)) ∙ none in absurd (cc)
    by true false true f g h more = absurd (let same = same_text x.0 q f ∙ sym (same_text e.0 q h) in not_both (bytes_eq x.0 e.0) (subst (λ (p : List ℕ). bytes_eq x.0 p ≡ true) same (text_itself x.0)) g)
    by true false false f g h more = simp (f, h)
    by false false true f g h more = simp (f, h) (more (sym (at_cons_other x xs e.0 (λ same. not_both (bytes_eq x.0 e.0) (subst (λ (p : List ℕ). bytes_eq x.0 p ≡ true) same (text_itself x.0)) g)) ∙ none) ∙ simp h)
    by false false false f g h more = simp (f, h) (more (sym (at_cons_other x xs e.0 (λ same. not_both (bytes_eq x.0 e.0) (subst (λ (p : List ℕ). bytes_eq x.0 p ≡ true) same (text_itself x.0)) g)) ∙ none) ∙ simp h)

take_more : {A : Type 0} (xs : List A) (i : ℕ) (d : A) → i < length xs → take (suc i) xs ≡ take i xs ++ get_or xs i d ∷ []
take_more [] i d lt = absurd (omega arith)
take_more (x ∷ xs) zero d lt = refl
take_more (x ∷ xs) (suc i) d lt = ap (λ l. x ∷ l) (take_more xs i d (omega arith))

-- one entry more is laid
pub one_laid : (tree old new : Entries) (n : ℕ) (e : List ℕ × Entry) → IsTree tree → n < length tree → e ≡ get_or tree n e → old ≡ take n tree → Adds e.0 e.1 old new → new ≡ take (n + 1) tree
one_laid tree old new n e is lt here first adds =
    let split : take (n + 1) tree ≡ take n tree ++ get_or tree n e ∷ [] = rw add-one (take_more tree n e lt) in
    let vacant = next_vacant tree n e is lt here in
    same_trees new (take (n + 1) tree) adds.tree (front_tree tree (n + 1) is)
    (λ q. ap (λ (h : List ℕ → Option Entry). h q) adds.entries
    ∙ ap (λ (l : Entries). put (entry_at l) e.0 (Some e.1) q) first
    ∙ sym (at_last (take n tree) e q vacant.at)
    ∙ ap (λ (x : List ℕ × Entry). entry_at (take n tree ++ x ∷ []) q) here
    ∙ ap (λ (l : Entries). entry_at l q) (sym split))
