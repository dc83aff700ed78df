-- What others have stays through each phase of a publication.
use Rattle.std.proofs.Common.{◌≡◌, ◌≢◌, ◌∙◌, sym, ap, refl, ℕ, ◌⊎◌, List, [], ◌∷◌, ◌++◌, inl, inr, None, Option}
use Rattle.std.specs.Prelude.{codes}
use Rattle.tree_model.specs.declared.entry.Entry.{Entry}
use Rattle.tree_model.specs.declared.hash.Hash.{Hash}
use Rattle.tree_model.specs.Hash.{hash_text}
use Rattle.tree_model.specs.Path.{IsAtOrBelow, IsBelow}
use Rattle.outside_traits.specs.Store.{AgreesRound, ChangesAt, IsApart, Moves, Store}
use Rattle.outside_traits.specs.Story.{Story}
use Rattle.outside_traits.specs.Passes.{Passes, Same}
use Rattle.outside_traits.proofs.Calls.{same_so}
use Rattle.outside_traits.proofs.Folders.{under_same}
use Rattle.outside_traits.proofs.Runs.{passes_then}
use Rattle.stamp_store.specs.Stamp.{TakesAway, staged_path, stamp_path}
use Rattle.build_store.specs.Calls.{FreesStamp}
use Rattle.build_store.specs.Publication.{KeepsOthers}
use Rattle.store_model.specs.Publication.{stamp_at, work_at}
use Rattle.store_opening.proofs.Areas.{apart_by_first, differ, heads, heads_differ}
use Rattle.store_opening.proofs.Doomed.{no_slash}
use Rattle.build_store.proofs.Apart.{apart_under}

-- what lies in a folder, or above one, begins as it does
pub begins : (c : ℕ) (ps q : List ℕ) → IsAtOrBelow (c ∷ ps) q → (rest : List ℕ) × (q ≡ c ∷ rest)
begins c ps q (inl at) = (ps, at)
begins c ps q (inr down) = (ps ++ 47 ∷ down.0, down.1)

above_begins : (c : ℕ) (ps q : List ℕ) → c ≢ 47 → IsBelow q (c ∷ ps) → (rest : List ℕ) × (q ≡ c ∷ rest)
above_begins c ps [] ne up = absurd (ne (heads up.1))
above_begins c ps (x ∷ q) ne up = let first : x ≡ c = sym (heads up.1) in (q, ap (λ (y : ℕ). y ∷ q) first)

-- stores that agree on what begins with a byte
same_there : (c : ℕ) (i j : Store) (q : List ℕ) → ((rest : List ℕ) → j (c ∷ rest) ≡ i (c ∷ rest)) → (rest : List ℕ) × (q ≡ c ∷ rest) → j q ≡ i q
same_there c i j q same at = ap j at.1 ∙ same at.0 ∙ ap i (sym at.1)

-- what doesn't begin as `stamp` does isn't in the way of one
pub frees_there : (folder : List ℕ) (h i j : Store) (c : ℕ) (q : List ℕ) → c ≢ 115 → (rest : List ℕ) × (q ≡ c ∷ rest) → FreesStamp folder h i j → j q ≡ i q
frees_there folder h i j c q ne at frees = frees.others q (λ way. elim way [
  | inl up ↦ let b = above_begins 115 (116 ∷ 97 ∷ 109 ∷ 112 ∷ 47 ∷ folder) q (differ 115 47 refl) up in heads_differ ne (sym at.1 ∙ b.1)
  | inr down ↦ heads_differ ne (sym at.1 ∙ down.1)
])

-- a stamp that is another one
pub another : (folder : List ℕ) (held : Store) (other : List ℕ) → IsApart folder other ⊎ ((other ≢ folder) × (held (stamp_at other) ≡ None)) → other ≢ folder
another folder held other (inl apart) = apart.not_folder
another folder held other (inr w) = w.0

module _ (folder : List ℕ) (object : Option Hash) where
  -- other stamps stay, and all under `work` and `obj`
  elsewhere : (h i j : Store) → ((other : List ℕ) → other ≢ folder → j (stamp_at other) ≡ i (stamp_at other)) → j (codes "stamp") ≡ i (codes "stamp") → ((rest : List ℕ) → j (119 ∷ rest) ≡ i (119 ∷ rest)) → ((rest : List ℕ) → j (111 ∷ rest) ≡ i (111 ∷ rest)) → KeepsOthers folder object h i j
  elsewhere h i j stamps top work objects = record {
    stamps = λ other w. stamps other (another folder h other w);
    top = λ none. top;
    work = λ q at apart. same_there 119 i j q work (begins 119 (111 ∷ 114 ∷ 107 ∷ []) q at);
    objects = λ q at apart. same_there 111 i j q objects (begins 111 (98 ∷ 106 ∷ []) q at);
    above_work = λ q up none. same_there 119 i j q work (above_begins 119 (111 ∷ 114 ∷ 107 ∷ 47 ∷ folder) q (differ 119 47 refl) up);
    above_object = λ unihash is q up none. same_there 111 i j q objects (above_begins 111 (98 ∷ 106 ∷ 47 ∷ hash_text unihash) q (differ 111 47 refl) up);
  }

  pub others_same : (h i : Store) → KeepsOthers folder object h i i
  others_same h i = elsewhere h i i (λ other ne. refl) refl (λ rest. refl) (λ rest. refl)

  pub others_join : (ha hb i j k : Store) → KeepsOthers folder object ha ha hb → KeepsOthers folder object ha i j → KeepsOthers folder object hb j k → KeepsOthers folder object ha i k
  others_join ha hb i j k held first second = record {
    stamps = λ other w. second.stamps other (still other w) ∙ first.stamps other w;
    top = λ none. second.top (held.top none ∙ none) ∙ first.top none;
    work = λ q at apart. second.work q at apart ∙ first.work q at apart;
    objects = λ q at apart. second.objects q at apart ∙ first.objects q at apart;
    above_work = λ q up none. second.above_work q up (held.above_work q up none ∙ none) ∙ first.above_work q up none;
    above_object = λ unihash is q up none. second.above_object unihash is q up (held.above_object unihash is q up none ∙ none) ∙ first.above_object unihash is q up none;
  }
    where
      still : (other : List ℕ) → IsApart folder other ⊎ ((other ≢ folder) × (ha (stamp_at other) ≡ None)) → IsApart folder other ⊎ ((other ≢ folder) × (hb (stamp_at other) ≡ None))
      still other (inl apart) = inl apart
      still other (inr w) = inr (w.0, held.stamps other (inr w) ∙ w.1)

  -- a run that leaves what others have
  abbrev pub Leaves : Story → Story → Type 0
  Leaves a b = Passes a b (KeepsOthers folder object a.held)

  pub leaves_then : {a b c : Story} → Leaves a b → Leaves b c → Leaves a c
  leaves_then {a} {b} {c} first second = passes_then (KeepsOthers folder object a.held) first second (λ i j r. r) (λ i j k r s. others_join a.held b.held i j k first.held r s)

  pub leaves_same : {a b : Story} → Passes a b Same → Leaves a b
  leaves_same {a} run = same_so (KeepsOthers folder object a.held) (others_same a.held) run

  -- ---- the phases

  pub by_work : (h i j : Store) → AgreesRound (work_at folder) h i j → KeepsOthers folder object h i j
  by_work h i j round = record {
    stamps = λ other w. round.apart (stamp_at other) (apart_by_first (116 ∷ 97 ∷ 109 ∷ 112 ∷ 47 ∷ other) (111 ∷ 114 ∷ 107 ∷ 47 ∷ folder) (differ 115 119 refl));
    top = λ none. round.apart (codes "stamp") (apart_by_first (116 ∷ 97 ∷ 109 ∷ 112 ∷ []) (111 ∷ 114 ∷ 107 ∷ 47 ∷ folder) (differ 115 119 refl));
    work = λ q at apart. round.apart q apart;
    objects = λ q at apart. same_there 111 i j q objects (begins 111 (98 ∷ 106 ∷ []) q at);
    above_work = λ q up none. round.around q (inr up) none;
    above_object = λ unihash is q up none. same_there 111 i j q objects (above_begins 111 (98 ∷ 106 ∷ 47 ∷ hash_text unihash) q (differ 111 47 refl) up);
  }
    where
      objects : (rest : List ℕ) → j (111 ∷ rest) ≡ i (111 ∷ rest)
      objects rest = round.apart (111 ∷ rest) (apart_by_first rest (111 ∷ 114 ∷ 107 ∷ 47 ∷ folder) (differ 111 119 refl))

  -- what is in its way goes
  pub by_freeing : (h i j : Store) → FreesStamp folder h i j → KeepsOthers folder object h i j
  by_freeing h i j frees = record {
    stamps = stamps;
    top = λ none. frees.none (codes "stamp") none;
    work = λ q at apart. frees_there folder h i j 119 q (differ 119 115 refl) (begins 119 (111 ∷ 114 ∷ 107 ∷ []) q at) frees;
    objects = λ q at apart. frees_there folder h i j 111 q (differ 111 115 refl) (begins 111 (98 ∷ 106 ∷ []) q at) frees;
    above_work = λ q up none. frees.none q none;
    above_object = λ unihash is q up none. frees.none q none;
  }
    where
      stamps : (other : List ℕ) → IsApart folder other ⊎ ((other ≢ folder) × (h (stamp_at other) ≡ None)) → j (stamp_at other) ≡ i (stamp_at other)
      stamps other (inr w) = frees.none (stamp_at other) w.1
      stamps other (inl apart) = let far = apart_under (codes "stamp") folder other apart in frees.others (stamp_at other) (λ way. elim way [ inl up ↦ far.not_above up | inr down ↦ far.not_under down ])

  -- the stamp is taken away
  pub by_aside : (h i j : Store) → TakesAway folder i j → KeepsOthers folder object h i j
  by_aside h i j move =
      elsewhere h i j
      (λ other ne. move.others (stamp_at other) (λ same. ne (under_same (codes "stamp") other folder same)) (heads_differ (differ 115 116 refl)))
      (move.others (codes "stamp") (no_slash (codes "stamp") folder) (heads_differ (differ 115 116 refl)))
      (λ rest. move.others (119 ∷ rest) (heads_differ (differ 119 115 refl)) (heads_differ (differ 119 116 refl)))
      (λ rest. move.others (111 ∷ rest) (heads_differ (differ 111 115 refl)) (heads_differ (differ 111 116 refl)))

  -- it is staged
  pub by_staging : (h i j : Store) → ChangesAt (staged_path folder) i j → KeepsOthers folder object h i j
  by_staging h i j change =
      elsewhere h i j
      (λ other ne. change.others (stamp_at other) (heads_differ (differ 115 116 refl)))
      (change.others (codes "stamp") (heads_differ (differ 115 116 refl)))
      (λ rest. change.others (119 ∷ rest) (heads_differ (differ 119 116 refl)))
      (λ rest. change.others (111 ∷ rest) (heads_differ (differ 111 116 refl)))

  -- it comes to its place
  pub by_stamp : (x : Option Entry) (h i j : Store) → Moves (staged_path folder) (stamp_path folder) x i j → KeepsOthers folder object h i j
  by_stamp x h i j move =
      elsewhere h i j
      (λ other ne. move.others (stamp_at other) (heads_differ (differ 115 116 refl)) (λ same. ne (under_same (codes "stamp") other folder same)))
      (move.others (codes "stamp") (heads_differ (differ 115 116 refl)) (no_slash (codes "stamp") folder))
      (λ rest. move.others (119 ∷ rest) (heads_differ (differ 119 116 refl)) (heads_differ (differ 119 115 refl)))
      (λ rest. move.others (111 ∷ rest) (heads_differ (differ 111 116 refl)) (heads_differ (differ 111 115 refl)))
