-- One item of an open publication is done: its entry is put, or its path removed.
use Rattle.std.proofs.Common.{◌≡◌, ◌∙◌, sym, ap, subst, ℕ, ◌+◌, ◌-◌, ◌<◌, ◌≤◌, inl, inr, List, [], ◌∷◌, length, get_or, drop, take, Some, None, Result, Ok, Err, OnOk, false, arith}
use Rattle.std.proofs.lemmas.Bool.{cases_lt}
use Rattle.tree_model.specs.declared.entry.Entry.{Entry}
use Rattle.tree_model.specs.declared.entry.Entry.TheVariants.{File}
use Rattle.tree_model.specs.Path.{IsClean}
use Rattle.outside_traits.specs.declared.fault.DiskFault.{DiskFault}
use Rattle.outside_traits.specs.Answers.{Removes}
use Rattle.outside_traits.specs.Passes.{Passes}
use Rattle.outside_traits.specs.Store.{ChangesAt, IsFree, PutsEntry, Store}
use Rattle.outside_traits.specs.Story.{Story}
use Rattle.outside_traits.proofs.Held.{removes_ok}
use Rattle.outside_traits.proofs.Runs.{passes_so}
use Rattle.build_store.specs.declared.pieces.OpenPublication.{OpenPublication}
use Rattle.build_store.specs.Calls.{Works}
use Rattle.build_store.specs.Halves.{IsHalf}
use Rattle.build_store.specs.Items.{Item, makes, path_of, writing}
use Rattle.build_store.specs.OpenOnes.{IsFit, KeepsEntries, items_of, put_by}
use Rattle.build_store.proofs.ItemPlaces.{at_last, at_removal, at_shared, at_work, length_items, next_item}
use Rattle.build_store.proofs.StepRuns.{half_next, item_next, item_writes, keeps_one, works_next}
use Rattle.build_store.proofs.Stepping.{may_be_written}
use Rattle.build_store.proofs.Written.{object_paths_clean, object_paths_short, work_paths_clean, work_paths_short}

-- what is written stands at a clean path, short enough
abbrev pub IsFine : List ℕ → Type 0
IsFine path = IsClean path × (length path ≤ 3600)

module _ (o : OpenPublication) (fit : IsFit o) (k : ℕ) (lt : k < length (items_of o)) (d : Item) where
  fine_work : length o.extra ≤ k → k - length o.extra < length o.tree → IsFine (path_of (get_or (items_of o) k d))
  fine_work le more =
      let e : List ℕ × Entry = ([], File false []) in
      let at = ap path_of (at_work o.folder o.extra o.tree o.object k d e le more) in
      subst IsFine (sym at) (work_paths_clean o.tree fit.is_tree fit.short o.folder fit.folder (k - length o.extra) e more, work_paths_short o.tree fit.is_tree fit.short o.folder fit.folder (k - length o.extra) e more)

  fine_shared : length o.extra ≤ k → length o.tree ≤ k - length o.extra → IsFine (path_of (get_or (items_of o) k d))
  fine_shared le more =
      let e : List ℕ × Entry = ([], File false []) in
      let place = k - length o.extra - length o.tree in
      let count = length_items o.folder o.extra o.tree o.object in
      let w = at_shared o.object o.tree place (omega (arith, lt, le, more, count)) d e in
      let at = ap path_of (at_last o.folder o.extra o.tree o.object k d le more ∙ w.1.2) in
      subst IsFine (sym at) (object_paths_clean o.tree fit.is_tree fit.short w.1.0 (fit.object w.1.0 w.1.1) place e w.0, object_paths_short o.tree fit.is_tree fit.short w.1.0 (fit.object w.1.0 w.1.1) place e w.0)

  pub fine_path : (e : Entry) → makes (get_or (items_of o) k d) ≡ Some e → IsFine (path_of (get_or (items_of o) k d))
  fine_path e is = elim (cases_lt k (length o.extra)) [
    | inl first ↦ absurd (let at : None ≡ Some e = sym (ap makes (at_removal o.folder o.extra o.tree o.object k d [] first)) ∙ is in cc)
    | inr le ↦ elim (cases_lt (k - length o.extra) (length o.tree)) [
      | inl more ↦ fine_work le more
      | inr last ↦ fine_shared le last
    ]
  ]

-- every publication of it is open, with these items left
abbrev pub AreHalf : OpenPublication → ℕ → Story → Type 0
AreHalf o k a = (f : Entry) → IsHalf (put_by o f) (drop k (items_of o)) a

module _ (o : OpenPublication) (k : ℕ) (lt : k < length (items_of o)) (d : Item) (path : List ℕ) (path_is : path ≡ path_of (get_or (items_of o) k d)) where
  module _ (entry : Entry) (entry_is : Some entry ≡ makes (get_or (items_of o) k d)) where
    put_changes : (held i j : Store) → PutsEntry path entry held i j → ChangesAt (path_of (get_or (items_of o) k d)) i j
    put_changes held i j puts = subst (λ (q : List ℕ). ChangesAt q i j) path_is (record { others = puts.others })

    put_run : (a b : Story) → Passes a b (PutsEntry path entry a.held) → Passes a b (ChangesAt (path_of (get_or (items_of o) k d)))
    put_run a b run = passes_so (ChangesAt (path_of (get_or (items_of o) k d))) run (put_changes a.held)

    pub put_works : (a b : Story) → Passes a b (PutsEntry path entry a.held) → Passes a b (Works (take 1 (drop k (items_of o))))
    put_works a b run = works_next (items_of o) k d a b lt (put_run a b run)

    pub put_half : (a b : Story) → AreHalf o k a → Passes a b (PutsEntry path entry a.held) → b.held path ≡ Some entry → AreHalf o (k + 1) b
    put_half a b half run made f = half_next (put_by o f) (items_of o) k d a b lt (half f) (put_run a b run) (ap b.held (sym path_is) ∙ made ∙ entry_is)

    pub put_keeps : (a b : Story) → AreHalf o k a → Passes a b (PutsEntry path entry a.held) → (f : Entry) → Passes a b (KeepsEntries (put_by o f) a.held)
    put_keeps a b half run f = keeps_one (put_by o f) (get_or (items_of o) k d) a b (item_next (put_by o f) (items_of o) k d a lt (half f)) run (put_changes a.held)
        (λ i j puts e is held.
        let same : Some e ≡ Some entry = sym is ∙ sym entry_is in
        ap j (sym path_is) ∙ puts.right (ap a.held path_is ∙ held ∙ same) ∙ ap i path_is)

    pub put_free : (a : Story) → IsFit o → AreHalf o k a → IsFree a.held path
    put_free a fit half =
        let item = get_or (items_of o) k d in
        let f : Entry = File false [] in
        let whole = next_item (items_of o) k d lt ∙ ap (λ (x : Item). x ∷ drop (k + 1) (items_of o)) (item_writes item entry (sym entry_is)) in
        let at : IsHalf (put_by o f) (writing (path_of item) entry ∷ drop (k + 1) (items_of o)) a = subst (λ (l : List Item). IsHalf (put_by o f) l a) whole (half f) in
        subst (IsFree a.held) (sym path_is) (may_be_written (put_by o f) (path_of item) entry (drop (k + 1) (items_of o)) a fit.is_tree at)

    pub put_fine : IsFit o → IsFine path
    put_fine fit = subst IsFine (sym path_is) (fine_path o fit k lt d entry (sym entry_is))

  module _ (entry_is : None ≡ makes (get_or (items_of o) k d)) where
    gone_run : (a b : Story) → Passes a b (ChangesAt path) → Passes a b (ChangesAt (path_of (get_or (items_of o) k d)))
    gone_run a b run = subst (λ (q : List ℕ). Passes a b (ChangesAt q)) path_is run

    pub gone_works : (a b : Story) → Passes a b (ChangesAt path) → Passes a b (Works (take 1 (drop k (items_of o))))
    gone_works a b run = works_next (items_of o) k d a b lt (gone_run a b run)

    pub gone_half : (a b : Story) → AreHalf o k a → Passes a b (ChangesAt path) → b.held path ≡ None → AreHalf o (k + 1) b
    gone_half a b half run made f = half_next (put_by o f) (items_of o) k d a b lt (half f) (gone_run a b run) (ap b.held (sym path_is) ∙ made ∙ entry_is)

    pub gone_keeps : (a b : Story) → AreHalf o k a → Passes a b (ChangesAt path) → (f : Entry) → Passes a b (KeepsEntries (put_by o f) a.held)
    gone_keeps a b half run f = keeps_one (put_by o f) (get_or (items_of o) k d) a b (item_next (put_by o f) (items_of o) k d a lt (half f)) (gone_run a b run) (λ i j c. c)
        (λ i j c e is held. absurd (let n : None ≡ Some e = entry_is ∙ is in cc))

pub removed_gone : {p : List ℕ} {a b : Story} (r : Result (Unit {0}) DiskFault) → Removes p a b r → OnOk r (b.held p ≡ None)
removed_gone (Ok v) did = removes_ok did
removed_gone (Err e) did = tt
