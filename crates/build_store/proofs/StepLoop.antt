-- Items one after the other.
use Rattle.std.proofs.Common.{◌≡◌, ◌∙◌, sym, ap, subst, refl, ℕ, zero, suc, ◌+◌, ◌<◌, ◌≤◌, List, [], ◌∷◌, ◌++◌, drop, take, false, arith}
use Rattle.std.proofs.Math.Seq.{take-add}
use Rattle.tree_model.specs.declared.entry.Entry.{Entry}
use Rattle.tree_model.specs.declared.entry.Entry.TheVariants.{File}
use Rattle.outside_traits.specs.Passes.{Passes}
use Rattle.outside_traits.specs.Story.{IsSound, Story}
use Rattle.outside_traits.proofs.Runs.{passes_none}
use Rattle.store_opening.specs.Paths.{IsLaidOut}
use Rattle.build_store.specs.declared.pieces.OpenPublication.{OpenPublication}
use Rattle.build_store.specs.Calls.{Works}
use Rattle.build_store.specs.Halves.{IsHalf}
use Rattle.build_store.specs.Items.{Item}
use Rattle.build_store.specs.OpenOnes.{KeepsEntries, items_of, put_by}
use Rattle.build_store.specs.Pieces.{IsPublishing}
use Rattle.build_store.proofs.StepRuns.{keeps_same, keeps_then, works_laid, works_more, works_publish, works_then}

drop_nothing : (n : ℕ) → drop {A = Item} n [] ≡ []
drop_nothing zero = refl
drop_nothing (suc n) = refl

drop_on : (n m : ℕ) (xs : List Item) → drop m (drop n xs) ≡ drop (n + m) xs
drop_on zero m xs = let e : m ≡ zero + m = omega arith in ap (λ (k : ℕ). drop k xs) e
drop_on (suc n) m [] = drop_nothing m ∙ sym (drop_nothing (suc n + m))
drop_on (suc n) m (x ∷ xs) = let e : suc (n + m) ≡ suc n + m = omega arith in drop_on n m xs ∙ ap (λ (k : ℕ). drop k (x ∷ xs)) e

-- from this place on so many items were done
pub record Stepping (o : OpenPublication) (done k : ℕ) (a b : Story) : Type 0 where
  pub count : ℕ
  pub is : done + count ≡ k
  pub works : Passes a b (Works (take count (drop done (items_of o))))
  pub half : (f : Entry) → IsHalf (put_by o f) (drop k (items_of o)) b
  pub keeps : (f : Entry) → Passes a b (KeepsEntries (put_by o f) a.held)

module _ (o : OpenPublication) (done : ℕ) where
  abbrev left : List Item
  left = drop done (items_of o)

  pub stepping_start : (a : Story) → ((f : Entry) → IsHalf (put_by o f) left a) → Stepping o done done a a
  stepping_start a half = record {
    count = 0;
    is = omega arith;
    works = passes_none a (Works []) (λ i. record { others = λ q out. refl });
    half = half;
    keeps = λ f. passes_none a (KeepsEntries (put_by o f) a.held) (keeps_same (put_by o f) a.held);
  }

  more : (k count : ℕ) (a b c : Story) → done + count ≡ k → Passes a b (Works (take count left)) → Passes b c (Works (take 1 (drop k (items_of o)))) → Passes a c (Works (take (count + 1) left))
  more k count a b c is first second =
      let next : take 1 (drop k (items_of o)) ≡ take 1 (drop count left) = ap (λ (l : List Item). take 1 l) (ap (λ (n : ℕ). drop n (items_of o)) (sym is) ∙ sym (drop_on done count (items_of o))) in
      let whole : take count left ++ take 1 (drop k (items_of o)) ≡ take (count + 1) left = ap (λ (l : List Item). take count left ++ l) next ∙ sym (take-add count 1 left) in
      subst (λ (l : List Item). Passes a c (Works l)) whole (works_then (take count left) (take 1 (drop k (items_of o))) first second)

  pub stepping_more : (k : ℕ) (a b c : Story) → Stepping o done k a b → Passes b c (Works (take 1 (drop k (items_of o)))) → ((f : Entry) → IsHalf (put_by o f) (drop (k + 1) (items_of o)) c) → ((f : Entry) → Passes b c (KeepsEntries (put_by o f) b.held)) → Stepping o done (k + 1) a c
  stepping_more k a b c so_far works half keeps = record {
    count = so_far.count + 1;
    is = let is = so_far.is in omega (arith, is);
    works = more k so_far.count a b c so_far.is so_far.works works;
    half = half;
    keeps = λ f. keeps_then (put_by o f) (so_far.keeps f) (keeps f);
  }

  pub stepping_works : (k : ℕ) (a b : Story) → k ≤ done + 64 → Stepping o done k a b → Passes a b (Works (take 64 left))
  stepping_works k a b le so_far = let is = so_far.is in works_more so_far.count 64 (omega (arith, is, le)) left so_far.works

  -- also where the next one is refused
  pub stepping_fails : (k : ℕ) (a b c : Story) → k < done + 64 → Stepping o done k a b → Passes b c (Works (take 1 (drop k (items_of o)))) → Passes a c (Works (take 64 left))
  stepping_fails k a b c lt so_far works = let is = so_far.is in works_more (so_far.count + 1) 64 (omega (arith, is, lt)) left (more k so_far.count a b c so_far.is so_far.works works)

  pub step_publishes : (a b : Story) → IsSound a → ((f : Entry) → IsHalf (put_by o f) left a) → Passes a b (Works (take 64 left)) → (f : Entry) → Passes a b (IsPublishing (put_by o f) a.held)
  step_publishes a b sound half works f = works_publish (put_by o f) 64 left a b sound (half f) works

  pub step_laid : (a b : Story) → ((f : Entry) → IsHalf (put_by o f) left a) → Passes a b (Works (take 64 left)) → IsLaidOut a.held → IsLaidOut b.held
  step_laid a b half works laid = works_laid (put_by o (File false [])) 64 left a b (half (File false [])) works laid
