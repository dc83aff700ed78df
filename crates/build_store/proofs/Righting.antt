-- What is right already stays through each phase of a publication.
use Rattle.std.proofs.Common.{◌≡◌, ◌≢◌, ◌∙◌, refl, ℕ, List, ◌∷◌, Option}
use Rattle.tree_model.specs.declared.entry.Entry.{Entry}
use Rattle.tree_model.specs.declared.hash.Hash.{Hash}
use Rattle.tree_model.specs.Hash.{hash_text}
use Rattle.tree_model.specs.Path.{inside}
use Rattle.tree_model.specs.Tree.{entry_at}
use Rattle.outside_traits.specs.Store.{ChangesAt, LaysTree, Moves, Store}
use Rattle.outside_traits.specs.Story.{Story}
use Rattle.outside_traits.specs.Passes.{Passes, Same}
use Rattle.outside_traits.proofs.Calls.{same_so}
use Rattle.outside_traits.proofs.Runs.{passes_so, passes_then}
use Rattle.meta_model.specs.CleanBuild.{Entries}
use Rattle.stamp_store.specs.Stamp.{TakesAway, staged_path, stamp_path}
use Rattle.store_model.specs.Available.{object_folder}
use Rattle.store_model.specs.Publication.{work_at}
use Rattle.store_opening.proofs.Areas.{apart_by_first, differ, heads_differ}
use Rattle.build_store.specs.Calls.{FreesStamp}
use Rattle.build_store.specs.Phases.{Stages}
use Rattle.build_store.specs.Publication.{KeepsCopied, KeepsRight}
use Rattle.build_store.proofs.Rounding.{frees_there}

module _ (folder : List ℕ) (object : Option Hash) (tree : Entries) where
  -- all under `work` and `obj` stays
  elsewhere : (h i j : Store) → ((rest : List ℕ) → j (119 ∷ rest) ≡ i (119 ∷ rest)) → ((rest : List ℕ) → j (111 ∷ rest) ≡ i (111 ∷ rest)) → KeepsRight folder object tree h i j
  elsewhere h i j work objects = record {
    work = λ path is. work (111 ∷ 114 ∷ 107 ∷ 47 ∷ inside folder path);
    shared = λ unihash is path at. objects (98 ∷ 106 ∷ 47 ∷ inside (hash_text unihash) path);
  }

  rights_join : (a b i j k : Store) → KeepsRight folder object tree a a b → KeepsRight folder object tree a i j → KeepsRight folder object tree b j k → KeepsRight folder object tree a i k
  rights_join a b i j k held first second = record {
    work = λ path is. second.work path (held.work path is ∙ is) ∙ first.work path is;
    shared = λ unihash is path at. second.shared unihash is path (held.shared unihash is path at ∙ at) ∙ first.shared unihash is path at;
  }

  -- a run that leaves what is right
  abbrev pub Rights : Story → Story → Type 0
  Rights a b = Passes a b (KeepsRight folder object tree a.held)

  pub rights_then : {a b c : Story} → Rights a b → Rights b c → Rights a c
  rights_then {a} {b} {c} first second = passes_then (KeepsRight folder object tree a.held) first second (λ i j r. r) (λ i j k r s. rights_join a.held b.held i j k first.held r s)

  pub rights_same : {a b : Story} → Passes a b Same → Rights a b
  rights_same {a} run = same_so (KeepsRight folder object tree a.held) (λ i. elsewhere a.held i i (λ rest. refl) (λ rest. refl)) run

  -- ---- the phases

  by_work : (h i j : Store) → LaysTree (work_at folder) tree h i j → KeepsRight folder object tree h i j
  by_work h i j lays = record {
    work = lays.right;
    shared = λ unihash is path at. let rest = 98 ∷ 106 ∷ 47 ∷ inside (hash_text unihash) path in lays.round.apart (111 ∷ rest) (apart_by_first rest (111 ∷ 114 ∷ 107 ∷ 47 ∷ folder) (differ 111 119 refl));
  }

  pub rights_by_work : {a b : Story} → Passes a b (LaysTree (work_at folder) tree a.held) → Rights a b
  rights_by_work {a} run = passes_so (KeepsRight folder object tree a.held) run (by_work a.held)

  -- the stamp is taken away
  pub rights_by_aside : {a b : Story} → Passes a b (TakesAway folder) → Rights a b
  rights_by_aside {a} run = passes_so (KeepsRight folder object tree a.held) run (λ i j move.
      elsewhere a.held i j
      (λ rest. move.others (119 ∷ rest) (heads_differ (differ 119 115 refl)) (heads_differ (differ 119 116 refl)))
      (λ rest. move.others (111 ∷ rest) (heads_differ (differ 111 115 refl)) (heads_differ (differ 111 116 refl))))

  -- what is in its way goes
  pub rights_by_freeing : {a b : Story} → Passes a b (FreesStamp folder a.held) → Rights a b
  rights_by_freeing {a} run = passes_so (KeepsRight folder object tree a.held) run (λ i j frees.
      elsewhere a.held i j
      (λ rest. frees_there folder a.held i j 119 (119 ∷ rest) (differ 119 115 refl) (rest, refl) frees)
      (λ rest. frees_there folder a.held i j 111 (111 ∷ rest) (differ 111 115 refl) (rest, refl) frees))

  -- it comes to its place
  pub rights_by_stamp : {x : Option Entry} {a b : Story} → Passes a b (Moves (staged_path folder) (stamp_path folder) x) → Rights a b
  rights_by_stamp {x} {a} run = passes_so (KeepsRight folder object tree a.held) run (λ i j move.
      elsewhere a.held i j
      (λ rest. move.others (119 ∷ rest) (heads_differ (differ 119 116 refl)) (heads_differ (differ 119 115 refl)))
      (λ rest. move.others (111 ∷ rest) (heads_differ (differ 111 116 refl)) (heads_differ (differ 111 115 refl))))

  pub rights_by_staging : {a b : Story} → Passes a b (ChangesAt (staged_path folder)) → Rights a b
  rights_by_staging {a} run = passes_so (KeepsRight folder object tree a.held) run (λ i j change.
      elsewhere a.held i j
      (λ rest. change.others (119 ∷ rest) (heads_differ (differ 119 116 refl)))
      (λ rest. change.others (111 ∷ rest) (heads_differ (differ 111 116 refl))))

  by_stages : (name : Hash) (file : Option Entry) (h i j : Store) → Stages name file i j → KeepsRight folder object tree h i j
  by_stages name file h i j stages = elsewhere h i j (λ rest. same 119 rest (differ 119 116 refl) (differ 119 114 refl)) (λ rest. same 111 rest (differ 111 116 refl) (differ 111 114 refl))
    where
      same : (c : ℕ) (rest : List ℕ) → c ≢ 116 → c ≢ 114 → j (c ∷ rest) ≡ i (c ∷ rest)
      same c rest nt nr = stages.others (c ∷ rest) (λ below. heads_differ nt below.1) (λ some. heads_differ nr)

-- ---- the object

-- ---- a task that is restored

-- where the object has the tree, what the work folder has of the object is right
pub copied_by : (folder : List ℕ) (unihash : Hash) (object : Option Hash) (tree : Entries) (h i j : Store) → ((path : List ℕ) → h (inside (object_folder unihash) path) ≡ entry_at tree path) → KeepsRight folder object tree h i j → KeepsCopied folder unihash h i j
copied_by folder unihash object tree h i j holds rights = record { work = λ path is. rights.work path (is ∙ holds path) }

pub copied_same : {a b : Story} (folder : List ℕ) (unihash : Hash) → Passes a b Same → Passes a b (KeepsCopied folder unihash a.held)
copied_same {a} folder unihash run = same_so (KeepsCopied folder unihash a.held) (λ i. record { work = λ path is. refl }) run

-- the object was read, and put back
pub copied_back : {a b c : Story} (folder : List ℕ) (unihash : Hash) (object : Option Hash) (tree : Entries) → ((path : List ℕ) → a.held (inside (object_folder unihash) path) ≡ entry_at tree path)
    → Passes a b Same → Rights folder object tree b c → Passes a c (KeepsCopied folder unihash a.held)
copied_back {a} folder unihash object tree holds looked run =
    passes_so (KeepsCopied folder unihash a.held) (rights_then folder object tree (rights_same folder object tree looked) run) (λ i j rights. copied_by folder unihash object tree a.held i j holds rights)
