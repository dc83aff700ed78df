-- Paths of a publication's items, and those round its folders.
use Rattle.std.proofs.Common.{◌≡◌, ◌≢◌, ◌∙◌, sym, ap, subst, refl, ℕ, inl, inr, List, [], ◌∷◌, length, Some, arith, length-append}
use Rattle.std.specs.List.{AllByRecursion}
use Rattle.tree_model.specs.declared.hash.Hash.{Hash}
use Rattle.tree_model.specs.Hash.{hash_text}
use Rattle.tree_model.specs.Path.{IsBelow}
use Rattle.outside_traits.specs.Store.{IsApart, IsAround}
use Rattle.store_model.specs.Available.{object_folder}
use Rattle.store_model.specs.Publication.{work_at, Publication}
use Rattle.store_opening.proofs.Areas.{apart_by_first, differ, heads, heads_differ}
use Rattle.build_store.specs.Calls.{IsRound}
use Rattle.build_store.specs.Items.{IsDue, IsItemOf, IsWithin, Item}

-- a path that begins with another byte is apart
pub apart_at : (c d : ℕ) (rest ps q : List ℕ) → q ≡ c ∷ rest → c ≢ d → IsApart (d ∷ ps) q
apart_at c d rest ps q is ne = subst (IsApart (d ∷ ps)) (sym is) (apart_by_first rest ps ne)

pub not_at : (c d : ℕ) (rest ps q : List ℕ) → q ≡ c ∷ rest → c ≢ d → q ≢ d ∷ ps
not_at c d rest ps q is ne same = heads_differ ne (sym is ∙ same)

pub not_round : (folder q : List ℕ) → IsApart folder q → IsAround folder q → ⊥
not_round folder q apart (inl at) = apart.not_folder at
not_round folder q apart (inr up) = apart.not_above up

pub below_itself : (q : List ℕ) → IsBelow q q → ⊥
below_itself q itself = let e = ap length itself.1 ∙ length-append q (47 ∷ itself.0) in omega arith

both_ways : (p q : List ℕ) → IsBelow p q → IsBelow q p → ⊥
both_ways p q down up = let e = ap length down.1 ∙ length-append p (47 ∷ down.0) in let f = ap length up.1 ∙ length-append q (47 ∷ up.0) in omega arith

-- what stands under a folder is neither the folder nor above it
pub not_around : (folder q : List ℕ) → IsBelow folder q → IsAround folder q → ⊥
not_around folder q below (inl at) = below_itself folder (subst (λ (x : List ℕ). IsBelow folder x) at below)
not_around folder q below (inr up) = both_ways folder q below up

-- what stands above a folder begins as it does
pub begins_above : (c : ℕ) (ps q : List ℕ) → c ≢ 47 → IsBelow q (c ∷ ps) → (rest : List ℕ) × (q ≡ c ∷ rest)
begins_above c ps [] ne up = absurd (ne (heads up.1))
begins_above c ps (x ∷ q) ne up = let first : x ≡ c = sym (heads up.1) in (q, ap (λ (y : ℕ). y ∷ q) first)

pub begins_around : (c : ℕ) (ps q : List ℕ) → c ≢ 47 → IsAround (c ∷ ps) q → (rest : List ℕ) × (q ≡ c ∷ rest)
begins_around c ps q ne (inl at) = (ps, at)
begins_around c ps q ne (inr up) = begins_above c ps q ne up

module _ (p : Publication) where
  -- what begins neither as `work` does nor as `obj` is not round the folders
  pub far_by_first : (c : ℕ) (rest q : List ℕ) → q ≡ c ∷ rest → c ≢ 119 → c ≢ 111 → IsRound p q → ⊥
  far_by_first c rest q is nw nb (inl at) = not_round (work_at p.folder) q (apart_at c 119 rest (111 ∷ 114 ∷ 107 ∷ 47 ∷ p.folder) q is nw) at
  far_by_first c rest q is nw nb (inr w) = not_round (object_folder w.0) q (apart_at c 111 rest (98 ∷ 106 ∷ 47 ∷ hash_text w.0) q is nb) w.2

  pub out_by_first : (c : ℕ) (rest q : List ℕ) → q ≡ c ∷ rest → c ≢ 119 → c ≢ 111 → IsWithin p q → ⊥
  out_by_first c rest q is nw nb (inl in_it) = (apart_at c 119 rest (111 ∷ 114 ∷ 107 ∷ 47 ∷ p.folder) q is nw).not_under in_it
  out_by_first c rest q is nw nb (inr w) = (apart_at c 111 rest (98 ∷ 106 ∷ 47 ∷ hash_text w.0) q is nb).not_under w.2

  -- an item's path lies within
  pub due_within : (items : List Item) (q : List ℕ) → AllByRecursion (IsItemOf p) items → IsDue items q → IsWithin p q
  due_within [] q all due = absurd due
  due_within (item ∷ items) q all (inl same) = subst (IsWithin p) same all.0.within
  due_within (item ∷ items) q all (inr due) = due_within items q all.1 due

  -- what lies within stands round neither folder
  pub within_work : (q : List ℕ) → IsWithin p q → IsAround (work_at p.folder) q → ⊥
  within_work q (inl in_it) around = not_around (work_at p.folder) q in_it around
  within_work q (inr w) around =
      let b = begins_around 119 (111 ∷ 114 ∷ 107 ∷ 47 ∷ p.folder) q (differ 119 47 refl) around in
      (apart_at 119 111 b.0 (98 ∷ 106 ∷ 47 ∷ hash_text w.0) q b.1 (differ 119 111 refl)).not_under w.2

  pub within_object : (unihash : Hash) → p.object ≡ Some unihash → (q : List ℕ) → IsWithin p q → IsAround (object_folder unihash) q → ⊥
  within_object unihash is q (inl in_it) around =
      let b = begins_around 111 (98 ∷ 106 ∷ 47 ∷ hash_text unihash) q (differ 111 47 refl) around in
      (apart_at 111 119 b.0 (111 ∷ 114 ∷ 107 ∷ 47 ∷ p.folder) q b.1 (differ 111 119 refl)).not_under in_it
  within_object unihash is q (inr w) around =
      let k : Some w.0 ≡ Some unihash = sym w.1 ∙ is in
      let same : w.0 ≡ unihash = cc in
      not_around (object_folder unihash) q (subst (λ (u : Hash). IsBelow (object_folder u) q) same w.2) around
