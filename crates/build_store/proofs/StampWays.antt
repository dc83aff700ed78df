-- What is in the way of a stamp goes.
use Rattle.std.proofs.Common.{◌≡◌, ◌∙◌, sym, ap, subst, refl, ℕ, ◌⊎◌, inl, inr, List, [], ◌∷◌, Option, Some, None, append_assoc, arith}
use Rattle.std.specs.Prelude.{Contains, IsSome}
use Rattle.std.specs.Option.{is_some}
use Rattle.std.proofs.lemmas.Bool.{false≢true}
use Rattle.tree_model.specs.declared.entry.Entry.{Entry}
use Rattle.tree_model.specs.Path.{IsBelow, inside}
use Rattle.outside_traits.specs.Passes.{Passes, Same}
use Rattle.outside_traits.specs.Store.{IsAround, IsFree, IsListing, IsOpen, MakesWay, Store}
use Rattle.outside_traits.specs.Story.{Story}
use Rattle.outside_traits.proofs.Calls.{same_so, same_then}
use Rattle.outside_traits.proofs.Puts.{path_cases}
use Rattle.outside_traits.proofs.Runs.{passes_so, passes_then}
use Rattle.store_model.specs.Publication.{stamp_at}
use Rattle.store_opening.specs.Survey.{TakesOut}
use Rattle.store_opening.proofs.Areas.{differ}
use Rattle.store_opening.proofs.Opened.{begins_or}
use Rattle.build_store.specs.Calls.{ClearsBelow, FreesStamp}
use Rattle.build_store.proofs.Around.{begins_above}

-- ---- where a path stands

below_or : (a b : List ℕ) → IsBelow a b ⊎ (IsBelow a b → ⊥)
below_or a b = elim (begins_or (inside a []) b) [
  | inl w ↦ inl (w.0, w.1 ∙ append_assoc a (47 ∷ []) w.0)
  | inr never ↦ inr (λ w. never (w.0, w.1 ∙ sym (append_assoc a (47 ∷ []) w.0)))
]

around_or : (path q : List ℕ) → IsAround path q ⊎ (IsAround path q → ⊥)
around_or path q = elim (path_cases q path) [
  | inl same ↦ inl (inl same)
  | inr ne ↦ elim (below_or q path) [
    | inl up ↦ inl (inr up)
    | inr never ↦ inr (λ at. elim at [ inl same ↦ ne same | inr up ↦ never up ])
  ]
]

held_none : (held : Store) (q : List ℕ) → held q ≡ None → IsSome (held q) → ⊥
held_none held q none some = false≢true (sym (ap is_some none) ∙ some)

-- ---- what is listed below a path goes

pub below_same : (path : List ℕ) {a b : Story} → Passes a b Same → Passes a b (ClearsBelow path a.held)
below_same path {a} run = same_so (ClearsBelow path a.held) (λ i. record { others = λ q out. refl; none = λ q none. refl }) run

module _ (path prefix : List ℕ) (paths : List (List ℕ)) (a b c : Story) (is : prefix ≡ inside path []) (listing : IsListing prefix a.held paths) (same : Passes a b Same) where
  here : IsListing (inside path []) a.held paths
  here = subst (λ (q : List ℕ). IsListing q a.held paths) is listing

  pub below_clears : Passes b c (TakesOut paths) → Passes a c (ClearsBelow path a.held)
  below_clears takes = same_then (λ i. record { others = λ q out. refl; none = λ q none. refl }) same (passes_so (ClearsBelow path a.held) takes (λ i j t. record {
    others = λ q out. t.others q (λ has. let at = (here.are_held q has).0 in out (at.0, at.1 ∙ append_assoc path (47 ∷ []) at.0));
    none = λ q none. t.others q (λ has. held_none a.held q none (here.are_held q has).1);
  }))

  pub below_gone : Passes b c (TakesOut paths) → ((q : List ℕ) → Contains paths q → c.held q ≡ None) → (q : List ℕ) → IsBelow path q → c.held q ≡ None
  below_gone takes gone q down = by (a.held q) refl
    where
      by : (o : Option Entry) → a.held q ≡ o → c.held q ≡ None
      by None e = takes.held.others q (λ has. held_none a.held q e (here.are_held q has).1) ∙ ap (λ (h : Store). h q) same.held ∙ e
      by (Some x) e = gone q (here.all q (down.0, down.1 ∙ sym (append_assoc path (47 ∷ []) down.0)) (ap is_some e))

-- where nothing is held below a path nothing is listed
pub none_listed : (path prefix : List ℕ) (paths : List (List ℕ)) (held : Store) → prefix ≡ inside path [] → IsListing prefix held paths → ((q : List ℕ) → IsBelow path q → held q ≡ None) → paths ≡ []
none_listed path prefix [] held is listing none = refl
none_listed path prefix (p ∷ paths) held is listing none =
    let listed = (subst (λ (q : List ℕ). IsListing q held (p ∷ paths)) is listing).are_held p (0, omega arith, refl) in
    absurd (held_none held p (none p (listed.0.0, listed.0.1 ∙ append_assoc path (47 ∷ []) listed.0.0)) listed.1)

-- ---- what is in the way of a stamp

pub frees_above : (folder : List ℕ) (held i j : Store) → held (stamp_at folder) ≡ None → MakesWay (stamp_at folder) held i j → FreesStamp folder held i j
frees_above folder held i j none way = record {
  others = λ q out. elim (path_cases q (stamp_at folder)) [
    | inl same ↦ way.around q (inl same) (ap held same ∙ none)
    | inr ne ↦ way.others q (λ at. elim at [ inl same ↦ ne same | inr up ↦ out (inl up) ])
  ];
  none = λ q free. elim (around_or (stamp_at folder) q) [ inl at ↦ way.around q at free | inr out ↦ way.others q out ];
}

frees_below : (folder : List ℕ) (held i j : Store) → ClearsBelow (stamp_at folder) held i j → FreesStamp folder held i j
frees_below folder held i j clears = record { others = λ q out. clears.others q (λ down. out (inr down)); none = clears.none }

module _ (folder : List ℕ) where
  pub above_run : {a b : Story} → a.held (stamp_at folder) ≡ None → Passes a b (MakesWay (stamp_at folder) a.held) → Passes a b (FreesStamp folder a.held)
  above_run {a} none way = passes_so (FreesStamp folder a.held) way (λ i j w. frees_above folder a.held i j none w)

  pub frees_run : {a b c : Story} → Passes a b (FreesStamp folder a.held) → Passes b c (ClearsBelow (stamp_at folder) b.held) → Passes a c (FreesStamp folder a.held)
  frees_run {a} {b} first second = passes_then (FreesStamp folder a.held) first second (λ i j r. r) (λ i j k r clears. let s = frees_below folder b.held j k clears in record {
    others = λ q out. s.others q out ∙ r.others q out;
    none = λ q free. s.none q (first.held.none q free ∙ free) ∙ r.none q free;
  })

  pub stamp_is_free : {b c : Story} → IsOpen (stamp_at folder) b.held → Passes b c (ClearsBelow (stamp_at folder) b.held) → ((q : List ℕ) → IsBelow (stamp_at folder) q → c.held q ≡ None) → IsFree c.held (stamp_at folder)
  stamp_is_free way run gone = record { above = λ q up. run.held.none q (way.above q up) ∙ way.above q up; below = gone }

-- a stamp's path is free where all that begins as `stamp` does stays
pub free_after : (folder : List ℕ) (i j : Store) → ((rest : List ℕ) → j (115 ∷ rest) ≡ i (115 ∷ rest)) → IsFree i (stamp_at folder) → IsFree j (stamp_at folder)
free_after folder i j same free = record {
  above = λ q up. let b = begins_above 115 (116 ∷ 97 ∷ 109 ∷ 112 ∷ 47 ∷ folder) q (differ 115 47 refl) up in ap j b.1 ∙ same b.0 ∙ ap i (sym b.1) ∙ free.above q up;
  below = λ q down. ap j down.1 ∙ same _ ∙ ap i (sym down.1) ∙ free.below q down;
}
