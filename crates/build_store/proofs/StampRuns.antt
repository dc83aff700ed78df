-- What is in the way of a stamp goes, and the stamp is renamed to its place.
use Rattle.std.proofs.Common.{◌≡◌, ◌∙◌, sym, ap, subst, refl, ℕ, ◌⊎◌, inl, inr, List, ◌∷◌, None}
use Rattle.tree_model.specs.Hash.{hash_text}
use Rattle.tree_model.specs.Path.{inside}
use Rattle.outside_traits.specs.Passes.{EachNow, Passes}
use Rattle.outside_traits.specs.Phases.{kept, stored}
use Rattle.outside_traits.specs.Store.{Store}
use Rattle.outside_traits.specs.Story.{IsSound, Story}
use Rattle.outside_traits.proofs.Images.{held-image}
use Rattle.outside_traits.proofs.Runs.{passes_so, passes_then}
use Rattle.stamp_store.specs.Stamp.{staged_path}
use Rattle.store_model.specs.Paths.{key_path, record_path}
use Rattle.store_model.specs.Publication.{stamp_at, Publication}
use Rattle.store_opening.specs.Paths.{staged_record_path}
use Rattle.store_opening.proofs.Areas.{differ, heads_differ}
use Rattle.build_store.specs.Calls.{Finishes, FreesStamp, KeepsBut, MovesOnly}
use Rattle.build_store.specs.Ending.{IsAt, KeepsPut}
use Rattle.build_store.specs.OpenOnes.{KeepsEntries}
use Rattle.build_store.specs.Pieces.{IsPublishing}
use Rattle.build_store.specs.Publication.{settled}
use Rattle.build_store.proofs.GoingRuns.{finishes_publish, finishes_settled, in_a_row, unstamped_at}
use Rattle.build_store.proofs.PhaseSteps.{folders_by, phases_stay}
use Rattle.build_store.proofs.Piecing.{finishes_at, frees_keeps, freeing_is_publishing}
use Rattle.build_store.proofs.Rounding.{frees_there}
use Rattle.build_store.proofs.StepRuns.{passes_from}

module _ (p : Publication) (folder : List ℕ) (own : p.folder ≡ folder) where
  frees_own : (held i j : Store) → FreesStamp folder held i j → FreesStamp p.folder held i j
  frees_own held i j frees = subst (λ (f : List ℕ). FreesStamp f held i j) (sym own) frees

  -- all that a publication at its end has put stays
  freeing_keeps_put : (held i j : Store) → FreesStamp folder held i j → KeepsPut p i j
  freeing_keeps_put held i j frees = record {
    folders = folders_by p i j (λ qs. frees_there folder held i j 119 (119 ∷ qs) (differ 119 115 refl) (qs, refl) frees) (λ qs. frees_there folder held i j 111 (111 ∷ qs) (differ 111 115 refl) (qs, refl) frees);
    staged_record = frees_there folder held i j 116 (staged_record_path p.name) (differ 116 115 refl) (109 ∷ 112 ∷ 47 ∷ 114 ∷ 101 ∷ 99 ∷ 50 ∷ 47 ∷ hash_text p.name, refl) frees;
    record_at = frees_there folder held i j 114 (record_path p.name) (differ 114 115 refl) (101 ∷ 99 ∷ 50 ∷ 47 ∷ hash_text p.name, refl) frees;
    key = frees_there folder held i j 107 (key_path p.key) (differ 107 115 refl) (101 ∷ 121 ∷ 47 ∷ hash_text p.key, refl) frees;
    staged_stamp = frees_there folder held i j 116 (staged_path p.folder) (differ 116 115 refl) (109 ∷ 112 ∷ 47 ∷ 115 ∷ 116 ∷ 97 ∷ 109 ∷ 112 ∷ 47 ∷ p.folder, refl) frees;
    stamp = frees_keeps p.folder held i j (frees_own held i j frees);
  }

  pub freed_at : (k : ℕ) {a b : Story} → Passes a b (FreesStamp folder a.held) → IsAt p (kept k) a ⊎ IsAt p (stored k) a → IsAt p (kept k) b ⊎ IsAt p (stored k) b
  freed_at k {a} {b} run (inl is) = inl (phases_stay p (kept k) a b is (passes_so (KeepsPut p) run (freeing_keeps_put a.held)))
  freed_at k {a} {b} run (inr is) = inr (phases_stay p (stored k) a b is (passes_so (KeepsPut p) run (freeing_keeps_put a.held)))

  pub unstamped_own : (a : Story) (k : ℕ) → IsSound a → IsAt p (kept k) a ⊎ IsAt p (stored k) a → a.held (stamp_at folder) ≡ None
  unstamped_own a k sound is = ap (λ (f : List ℕ). a.held (stamp_at f)) (sym own) ∙ unstamped_at p a k is a.held (held-image a sound)

  pub freeing_publishes : {a b : Story} → IsSound a → EachNow a (λ image. image (stamp_at p.folder) ≡ None) → Passes a b (FreesStamp folder a.held) → Passes a b (IsPublishing p a.held)
  freeing_publishes {a} sound gone run = passes_from (λ i. i (stamp_at p.folder) ≡ None) (IsPublishing p a.held) sound gone run (λ i j none frees. freeing_is_publishing p a.held i j none (frees_own a.held i j frees))

  pub stamp_publishes : {a b c : Story} (k : ℕ) → IsSound a → IsSound b → IsAt p (kept k) a ⊎ IsAt p (stored k) a → Passes a b (FreesStamp folder a.held) → Passes b c (Finishes p) → Passes a c (IsPublishing p a.held)
  stamp_publishes {a} {b} {c} k sound sound_b is first second =
      let gone = unstamped_at p a k is in
      let gone_b = unstamped_at p b k (freed_at k first is) in
      in_a_row p a b c sound_b gone_b (freeing_publishes sound gone first) (finishes_publish (settled p) sound_b gone_b (passes_so (Finishes (settled p)) second (finishes_settled p)))

  pub freeing_entries : {a b : Story} → Passes a b (FreesStamp folder a.held) → Passes a b (KeepsEntries p a.held)
  freeing_entries {a} run = passes_so (KeepsEntries p a.held) run (λ i j frees. record {
    work = λ path e at is. frees_there folder a.held i j 119 (119 ∷ 111 ∷ 114 ∷ 107 ∷ 47 ∷ inside p.folder path) (differ 119 115 refl) (111 ∷ 114 ∷ 107 ∷ 47 ∷ inside p.folder path, refl) frees;
    shared = λ unihash some path e at is. frees_there folder a.held i j 111 (111 ∷ 98 ∷ 106 ∷ 47 ∷ inside (hash_text unihash) path) (differ 111 115 refl) (98 ∷ 106 ∷ 47 ∷ inside (hash_text unihash) path, refl) frees;
  })

  pub stamp_entries : {a b c : Story} → Passes a b (FreesStamp folder a.held) → Passes b c (Finishes p) → Passes a c (KeepsEntries p a.held)
  stamp_entries {a} {b} {c} first second = passes_then (KeepsEntries p a.held) (freeing_entries first) second (λ i j r. r) (λ i j k r finishes. record {
    work = λ path e at is. let rest = 111 ∷ 114 ∷ 107 ∷ 47 ∷ inside p.folder path in finishes_at p a.held j k finishes 119 rest (119 ∷ rest) refl (differ 119 116 refl) (differ 119 115 refl) (differ 119 114 refl) ∙ r.work path e at is;
    shared = λ unihash some path e at is. let rest = 98 ∷ 106 ∷ 47 ∷ inside (hash_text unihash) path in finishes_at p a.held j k finishes 111 rest (111 ∷ rest) refl (differ 111 116 refl) (differ 111 115 refl) (differ 111 114 refl) ∙ r.shared unihash some path e at is;
  })

-- of what is under `tmp/` nothing else moves
pub moves_behind : (folder : List ℕ) (held i j k : Store) → FreesStamp folder held i j → MovesOnly (staged_path folder) (stamp_at folder) j k → KeepsBut (staged_path folder) i k
moves_behind folder held i j k frees moves q below other =
    moves q other (λ same. heads_differ (differ 116 115 refl) (sym below.1 ∙ same)) ∙ frees_there folder held i j 116 q (differ 116 115 refl) (109 ∷ 112 ∷ 47 ∷ below.0, below.1) frees
