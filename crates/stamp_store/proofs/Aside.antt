-- A held path is renamed after a sync, and removed where it was renamed to.
use Rattle.std.proofs.Common.{◌≡◌, ◌≢◌, ◌∙◌, sym, ap, subst, refl, arith, get_or, ◌⊎◌, inl, inr, None, Ok, Err, OnOk, Option, Result, List, ℕ}
use Rattle.tree_model.specs.declared.entry.Entry.{Entry}
use Rattle.outside_traits.specs.declared.fault.DiskFault.{DiskFault}
use Rattle.outside_traits.specs.Store.{ChangesAt, Moves, Store}
use Rattle.outside_traits.specs.Story.{IsImage, IsSound, Story}
use Rattle.outside_traits.specs.Passes.{Passes, Same}
use Rattle.outside_traits.specs.Answers.{Removes, Renames, Syncs}
use Rattle.outside_traits.proofs.Calls.{removes_passes, renames_passes, same_then}
use Rattle.outside_traits.proofs.Held.{removes_others}
use Rattle.outside_traits.proofs.Runs.{each_now, passes_so, passes_then}
use Rattle.stamp_store.specs.Stamp.{TakesAway, old_path, stamp_path}

pub places_differ : (folder : List ℕ) → stamp_path folder ≢ old_path folder
places_differ folder same = let e : ◌≡◌ {A = ℕ} 115 116 = ap (λ (l : List ℕ). get_or l 0 0) same in omega arith

pub takes_nothing : (folder : List ℕ) (i : Store) → TakesAway folder i i
takes_nothing folder i = record { others = λ q not_stamp not_old. refl; source = inl refl }

takes_move : (folder : List ℕ) (x : Option Entry) (i j : Store) → Moves (stamp_path folder) (old_path folder) x i j → TakesAway folder i j
takes_move folder x i j move = record { others = move.others; source = move.source }

takes_more : (folder : List ℕ) (i j k : Store) → TakesAway folder i j → ChangesAt (old_path folder) j k → TakesAway folder i k
takes_more folder i j k takes change =
    let kept : k (stamp_path folder) ≡ j (stamp_path folder) = change.others (stamp_path folder) (places_differ folder) in
    record { others = λ q not_stamp not_old. change.others q not_old ∙ takes.others q not_stamp not_old; source = by kept takes.source }
  where
    by : k (stamp_path folder) ≡ j (stamp_path folder) → (j (stamp_path folder) ≡ i (stamp_path folder)) ⊎ (j (stamp_path folder) ≡ None) → (k (stamp_path folder) ≡ i (stamp_path folder)) ⊎ (k (stamp_path folder) ≡ None)
    by kept (inl same) = inl (kept ∙ same)
    by kept (inr none) = inr (kept ∙ none)

pub renamed_aside : (folder : List ℕ) {a b c : Story} {T : Type 0} {r : Result T DiskFault} → IsSound b → Passes a b Same → Renames (stamp_path folder) (old_path folder) b c r → Passes a c (TakesAway folder)
renamed_aside folder {a} {b} sound run renamed = same_then (takes_nothing folder) run (passes_so (TakesAway folder) (renames_passes sound renamed) (takes_move folder (b.held (stamp_path folder))))

pub removed_aside : (folder : List ℕ) {a b c : Story} {T : Type 0} {r : Result T DiskFault} → Passes a b (TakesAway folder) → Removes (old_path folder) b c r → Passes a c (TakesAway folder)
removed_aside folder run removed = passes_then (TakesAway folder) run (removes_passes removed) (λ i j w. w) (λ i j k w change. takes_more folder i j k w change)

-- after a removal that no sync follows each image is what is held, but for that path
pub images_last : (p : List ℕ) {a b c : Story} {T U : Type 0} {v : T} (r : Result U DiskFault) → Syncs a b (Ok v) → Removes p b c r → OnOk r ((image : Store) → IsImage c image → ChangesAt p c.held image)
images_last p {a} {b} {c} (Err e) synced removed = tt
images_last p {a} {b} {c} (Ok v) synced removed = λ image img.
    each_now (λ i. i ≡ b.held) (ChangesAt p c.held) (λ i at. subst (λ (s : Story). IsImage s i → i ≡ s.held) (sym synced.answers) (λ same. same) at) (removes_passes removed)
    (λ i j same change. record { others = λ q ne. change.others q ne ∙ ap (λ (h : Store). h q) same ∙ sym ((removes_others removed).others q ne) }) image img
