-- Each call of a publication in pieces is a publication, at each moment.
use Rattle.std.proofs.Common.{◌≡◌, ◌≢◌, ◌∙◌, sym, subst, refl, ℕ, ◌⊎◌, inl, inr, List, [], ◌∷◌, Some, None}
use Rattle.std.specs.Prelude.{codes}
use Rattle.std.specs.List.{AllByRecursion}
use Rattle.tree_model.specs.declared.hash.Hash.{Hash}
use Rattle.tree_model.specs.Hash.{hash_text}
use Rattle.tree_model.specs.Path.{IsBelow}
use Rattle.outside_traits.specs.Store.{IsApart, Store}
use Rattle.outside_traits.proofs.Folders.{under_same}
use Rattle.stamp_store.specs.Stamp.{old_path, staged_path}
use Rattle.store_opening.specs.Paths.{staged_record_path}
use Rattle.store_model.specs.Available.{object_folder}
use Rattle.store_model.specs.Paths.{record_path}
use Rattle.build_store.specs.Publication.{IsForeign, KeepsOthers, Publishes}
use Rattle.store_model.specs.Publication.{stamp_at, work_at, Publication}
use Rattle.store_opening.proofs.Areas.{differ, heads_differ}
use Rattle.store_opening.proofs.Doomed.{no_slash}
use Rattle.build_store.proofs.Rounding.{another, begins, by_freeing, frees_there}
use Rattle.build_store.specs.Calls.{Finishes, FreesStamp, IsRound, KeepsStaged, Opens, Works}
use Rattle.build_store.specs.Items.{IsItemOf, IsWithin, Item}
use Rattle.build_store.specs.Pieces.{FinishesIsPublishing, IsPublishing, OpensIsPublishing, WorksIsPublishing}
use Rattle.build_store.proofs.Around.{apart_at, begins_above, below_itself, due_within, far_by_first, not_around, not_at, not_round, out_by_first}

-- what is foreign to a publication
module _ (p : Publication) (q : List ℕ) (foreign : IsForeign p q) where
  not_old : q ≢ old_path p.folder
  not_old same = foreign.temporary (111 ∷ 108 ∷ 100 ∷ 47 ∷ p.folder, same)

  foreign_round : IsRound p q → ⊥
  foreign_round (inl at) = not_round (work_at p.folder) q foreign.work at
  foreign_round (inr w) = not_round (object_folder w.0) q (foreign.shared w.0 w.1) w.2

  foreign_within : IsWithin p q → ⊥
  foreign_within (inl in_it) = foreign.work.not_under in_it
  foreign_within (inr w) = (foreign.shared w.0 w.1).not_under w.2

-- a path that begins with a byte, none of the others
not_stamp : (p : Publication) (c : ℕ) (rest q : List ℕ) → q ≡ c ∷ rest → c ≢ 115 → q ≢ stamp_at p.folder
not_stamp p c rest q is ne = not_at c 115 rest (116 ∷ 97 ∷ 109 ∷ 112 ∷ 47 ∷ p.folder) q is ne

not_old_at : (p : Publication) (c : ℕ) (rest q : List ℕ) → q ≡ c ∷ rest → c ≢ 116 → q ≢ old_path p.folder
not_old_at p c rest q is ne = not_at c 116 rest (109 ∷ 112 ∷ 47 ∷ 111 ∷ 108 ∷ 100 ∷ 47 ∷ p.folder) q is ne

not_staged : (p : Publication) (c : ℕ) (rest q : List ℕ) → q ≡ c ∷ rest → c ≢ 116 → q ≢ staged_path p.folder
not_staged p c rest q is ne = not_at c 116 rest (109 ∷ 112 ∷ 47 ∷ 115 ∷ 116 ∷ 97 ∷ 109 ∷ 112 ∷ 47 ∷ p.folder) q is ne

not_staged_record : (p : Publication) (c : ℕ) (rest q : List ℕ) → q ≡ c ∷ rest → c ≢ 116 → q ≢ staged_record_path p.name
not_staged_record p c rest q is ne = not_at c 116 rest (109 ∷ 112 ∷ 47 ∷ 114 ∷ 101 ∷ 99 ∷ 50 ∷ 47 ∷ hash_text p.name) q is ne

not_record : (p : Publication) (c : ℕ) (rest q : List ℕ) → q ≡ c ∷ rest → c ≢ 114 → q ≢ record_path p.name
not_record p c rest q is ne = not_at c 114 rest (101 ∷ 99 ∷ 50 ∷ 47 ∷ hash_text p.name) q is ne

-- ---- opening

module _ (p : Publication) (held old new : Store) (opens : Opens p held old new) where
  pub opens_own : Publishes p old new
  opens_own = record {
    others = λ q foreign. opens.others q foreign.stamp.not_folder (not_old p q foreign) (foreign_round p q foreign);
    stored = inl (opens.others (record_path p.name) (heads_differ (differ 114 115 refl)) (heads_differ (differ 114 116 refl)) (far_by_first p 114 (101 ∷ 99 ∷ 50 ∷ 47 ∷ hash_text p.name) (record_path p.name) refl (differ 114 119 refl) (differ 114 111 refl)));
    honest = elim opens.honest [ inl untouched ↦ inl untouched | inr gone ↦ inr (inl gone) ];
  }

  -- a path that is apart from the work folder, or from the object
  by_work : (q rest : List ℕ) → q ≡ 119 ∷ rest → IsApart (work_at p.folder) q → new q ≡ old q
  by_work q rest is apart = opens.others q (not_stamp p 119 rest q is (differ 119 115 refl)) (not_old_at p 119 rest q is (differ 119 116 refl)) round
    where
      round : IsRound p q → ⊥
      round (inl at) = not_round (work_at p.folder) q apart at
      round (inr w) = not_round (object_folder w.0) q (apart_at 119 111 rest (98 ∷ 106 ∷ 47 ∷ hash_text w.0) q is (differ 119 111 refl)) w.2

  by_object : (q rest : List ℕ) → q ≡ 111 ∷ rest → ((unihash : Hash) → p.object ≡ Some unihash → IsApart (object_folder unihash) q) → new q ≡ old q
  by_object q rest is apart = opens.others q (not_stamp p 111 rest q is (differ 111 115 refl)) (not_old_at p 111 rest q is (differ 111 116 refl)) round
    where
      round : IsRound p q → ⊥
      round (inl at) = not_round (work_at p.folder) q (apart_at 111 119 rest (111 ∷ 114 ∷ 107 ∷ 47 ∷ p.folder) q is (differ 111 119 refl)) at
      round (inr w) = not_round (object_folder w.0) q (apart w.0 w.1) w.2

  pub opens_others : KeepsOthers p.folder p.object held old new
  opens_others = record {
    stamps = λ other w. opens.others (stamp_at other) (λ same. another p.folder held other w (under_same (codes "stamp") other p.folder same)) (heads_differ (differ 115 116 refl))
        (far_by_first p 115 (116 ∷ 97 ∷ 109 ∷ 112 ∷ 47 ∷ other) (stamp_at other) refl (differ 115 119 refl) (differ 115 111 refl));
    top = λ none. opens.others (codes "stamp") (no_slash (codes "stamp") p.folder) (heads_differ (differ 115 116 refl)) (far_by_first p 115 (116 ∷ 97 ∷ 109 ∷ 112 ∷ []) (codes "stamp") refl (differ 115 119 refl) (differ 115 111 refl));
    work = λ q at apart. let b = begins 119 (111 ∷ 114 ∷ 107 ∷ []) q at in by_work q b.0 b.1 apart;
    objects = λ q at apart. let b = begins 111 (98 ∷ 106 ∷ []) q at in by_object q b.0 b.1 apart;
    above_work = λ q up none. opens.round q (inl (inr up)) none;
    above_object = λ unihash is q up none. opens.round q (inr (unihash, is, inr up)) none;
  }

  pub opens_staged : KeepsStaged p old new
  opens_staged = record {
    temporary = λ q below no_old no_stamp no_record. let rest = 109 ∷ 112 ∷ 47 ∷ below.0 in opens.others q (not_stamp p 116 rest q below.1 (differ 116 115 refl)) no_old (far_by_first p 116 rest q below.1 (differ 116 119 refl) (differ 116 111 refl));
    records = λ q below ne. let rest = 101 ∷ 99 ∷ 50 ∷ 47 ∷ below.0 in opens.others q (not_stamp p 114 rest q below.1 (differ 114 115 refl)) (not_old_at p 114 rest q below.1 (differ 114 116 refl)) (far_by_first p 114 rest q below.1 (differ 114 119 refl) (differ 114 111 refl));
    keys = λ q below ne. let rest = 101 ∷ 121 ∷ 47 ∷ below.0 in opens.others q (not_stamp p 107 rest q below.1 (differ 107 115 refl)) (not_old_at p 107 rest q below.1 (differ 107 116 refl)) (far_by_first p 107 rest q below.1 (differ 107 119 refl) (differ 107 111 refl));
  }

pub opens_is_publishing : OpensIsPublishing
opens_is_publishing p held old new opens = record { own = opens_own p held old new opens; others = opens_others p held old new opens; staged = opens_staged p held old new opens }

-- ---- a step

module _ (p : Publication) (items : List Item) (held old new : Store) (all : AllByRecursion (IsItemOf p) items) (works : Works items old new) where
  pub works_at : (q : List ℕ) → (IsWithin p q → ⊥) → new q ≡ old q
  works_at q out = works.others q (λ due. out (due_within p items q all due))

  works_stamp : new (stamp_at p.folder) ≡ old (stamp_at p.folder)
  works_stamp = works_at (stamp_at p.folder) (out_by_first p 115 (116 ∷ 97 ∷ 109 ∷ 112 ∷ 47 ∷ p.folder) (stamp_at p.folder) refl (differ 115 119 refl) (differ 115 111 refl))

  pub works_own : old (stamp_at p.folder) ≡ None → Publishes p old new
  works_own none = record {
    others = λ q foreign. works_at q (foreign_within p q foreign);
    stored = inl (works_at (record_path p.name) (out_by_first p 114 (101 ∷ 99 ∷ 50 ∷ 47 ∷ hash_text p.name) (record_path p.name) refl (differ 114 119 refl) (differ 114 111 refl)));
    honest = inr (inl (works_stamp ∙ none));
  }

  works_work : (q rest : List ℕ) → q ≡ 119 ∷ rest → (IsBelow (work_at p.folder) q → ⊥) → new q ≡ old q
  works_work q rest is out = works_at q within
    where
      within : IsWithin p q → ⊥
      within (inl in_it) = out in_it
      within (inr w) = (apart_at 119 111 rest (98 ∷ 106 ∷ 47 ∷ hash_text w.0) q is (differ 119 111 refl)).not_under w.2

  works_object : (q rest : List ℕ) → q ≡ 111 ∷ rest → ((unihash : Hash) → p.object ≡ Some unihash → IsBelow (object_folder unihash) q → ⊥) → new q ≡ old q
  works_object q rest is out = works_at q within
    where
      within : IsWithin p q → ⊥
      within (inl in_it) = (apart_at 111 119 rest (111 ∷ 114 ∷ 107 ∷ 47 ∷ p.folder) q is (differ 111 119 refl)).not_under in_it
      within (inr w) = out w.0 w.1 w.2

  pub works_others : KeepsOthers p.folder p.object held old new
  works_others = record {
    stamps = λ other w. works_at (stamp_at other) (out_by_first p 115 (116 ∷ 97 ∷ 109 ∷ 112 ∷ 47 ∷ other) (stamp_at other) refl (differ 115 119 refl) (differ 115 111 refl));
    top = λ none. works_at (codes "stamp") (out_by_first p 115 (116 ∷ 97 ∷ 109 ∷ 112 ∷ []) (codes "stamp") refl (differ 115 119 refl) (differ 115 111 refl));
    work = λ q at apart. let b = begins 119 (111 ∷ 114 ∷ 107 ∷ []) q at in works_work q b.0 b.1 apart.not_under;
    objects = λ q at apart. let b = begins 111 (98 ∷ 106 ∷ []) q at in works_object q b.0 b.1 (λ unihash is. (apart unihash is).not_under);
    above_work = λ q up none. let b = begins_above 119 (111 ∷ 114 ∷ 107 ∷ 47 ∷ p.folder) q (differ 119 47 refl) up in works_work q b.0 b.1 (λ in_it. not_around (work_at p.folder) q in_it (inr up));
    above_object = λ unihash is q up none. let b = begins_above 111 (98 ∷ 106 ∷ 47 ∷ hash_text unihash) q (differ 111 47 refl) up in
        works_object q b.0 b.1 (λ other is' in_it.
        let k : Some other ≡ Some unihash = sym is' ∙ is in
        let same : other ≡ unihash = cc in
        not_around (object_folder unihash) q (subst (λ (u : Hash). IsBelow (object_folder u) q) same in_it) (inr up));
  }

  pub works_staged : KeepsStaged p old new
  works_staged = record {
    temporary = λ q below no_old no_stamp no_record. works_at q (out_by_first p 116 (109 ∷ 112 ∷ 47 ∷ below.0) q below.1 (differ 116 119 refl) (differ 116 111 refl));
    records = λ q below ne. works_at q (out_by_first p 114 (101 ∷ 99 ∷ 50 ∷ 47 ∷ below.0) q below.1 (differ 114 119 refl) (differ 114 111 refl));
    keys = λ q below ne. works_at q (out_by_first p 107 (101 ∷ 121 ∷ 47 ∷ below.0) q below.1 (differ 107 119 refl) (differ 107 111 refl));
  }

pub works_is_publishing : WorksIsPublishing
works_is_publishing p items held old new all none works = record { own = works_own p items held old new all works none; others = works_others p items held old new all works; staged = works_staged p items held old new all works }

-- ---- what is in the way of the stamp goes

stamp_itself : (folder : List ℕ) → IsBelow (stamp_at folder) (stamp_at folder) ⊎ IsBelow (stamp_at folder) (stamp_at folder) → ⊥
stamp_itself folder (inl at) = below_itself (stamp_at folder) at
stamp_itself folder (inr at) = below_itself (stamp_at folder) at

-- the stamp's own path stays
pub frees_keeps : (folder : List ℕ) (held old new : Store) → FreesStamp folder held old new → new (stamp_at folder) ≡ old (stamp_at folder)
frees_keeps folder held old new frees = frees.others (stamp_at folder) (stamp_itself folder)

pub freeing_is_publishing : (p : Publication) (held old new : Store) → old (stamp_at p.folder) ≡ None → FreesStamp p.folder held old new → IsPublishing p held old new
freeing_is_publishing p held old new none frees = record {
  own = record {
    others = λ q foreign. frees.others q (λ way. elim way [ inl up ↦ foreign.stamp.not_above up | inr down ↦ foreign.stamp.not_under down ]);
    stored = inl (frees_there p.folder held old new 114 (record_path p.name) (differ 114 115 refl) (101 ∷ 99 ∷ 50 ∷ 47 ∷ hash_text p.name, refl) frees);
    honest = inr (inl (frees_keeps p.folder held old new frees ∙ none));
  };
  others = by_freeing p.folder p.object held old new frees;
  staged = record {
    temporary = λ q below a b c. frees_there p.folder held old new 116 q (differ 116 115 refl) (109 ∷ 112 ∷ 47 ∷ below.0, below.1) frees;
    records = λ q below ne. frees_there p.folder held old new 114 q (differ 114 115 refl) (101 ∷ 99 ∷ 50 ∷ 47 ∷ below.0, below.1) frees;
    keys = λ q below ne. frees_there p.folder held old new 107 q (differ 107 115 refl) (101 ∷ 121 ∷ 47 ∷ below.0, below.1) frees;
  };
}

-- ---- the end

module _ (p : Publication) (held old new : Store) (finishes : Finishes p old new) where
  pub finishes_at : (c : ℕ) (rest q : List ℕ) → q ≡ c ∷ rest → c ≢ 116 → c ≢ 115 → c ≢ 114 → new q ≡ old q
  finishes_at c rest q is nt ns nr = finishes.others q (not_staged p c rest q is nt) (not_staged_record p c rest q is nt) (not_stamp p c rest q is ns) (λ new_one. not_record p c rest q is nr)

  pub finishes_own : old (stamp_at p.folder) ≡ None → Publishes p old new
  finishes_own none = record {
    others = λ q foreign. finishes.others q (λ same. foreign.temporary (115 ∷ 116 ∷ 97 ∷ 109 ∷ 112 ∷ 47 ∷ p.folder, same)) (λ same. foreign.temporary (114 ∷ 101 ∷ 99 ∷ 50 ∷ 47 ∷ hash_text p.name, same)) foreign.stamp.not_folder foreign.stored;
    stored = finishes.stored;
    honest = elim finishes.stamp [ inl same ↦ inr (inl (same ∙ none)) | inr is ↦ inr (inr is) ];
  }

  pub finishes_others : KeepsOthers p.folder p.object held old new
  finishes_others = record {
    stamps = λ other w. let rest = 116 ∷ 97 ∷ 109 ∷ 112 ∷ 47 ∷ other in
        finishes.others (stamp_at other) (not_staged p 115 rest (stamp_at other) refl (differ 115 116 refl)) (not_staged_record p 115 rest (stamp_at other) refl (differ 115 116 refl)) (λ same. another p.folder held other w (under_same (codes "stamp") other p.folder same)) (λ new_one. heads_differ (differ 115 114 refl));
    top = λ none. let rest = 116 ∷ 97 ∷ 109 ∷ 112 ∷ [] in finishes.others (codes "stamp") (not_staged p 115 rest (codes "stamp") refl (differ 115 116 refl)) (not_staged_record p 115 rest (codes "stamp") refl (differ 115 116 refl)) (no_slash (codes "stamp") p.folder) (λ new_one. heads_differ (differ 115 114 refl));
    work = λ q at apart. let b = begins 119 (111 ∷ 114 ∷ 107 ∷ []) q at in finishes_at 119 b.0 q b.1 (differ 119 116 refl) (differ 119 115 refl) (differ 119 114 refl);
    objects = λ q at apart. let b = begins 111 (98 ∷ 106 ∷ []) q at in finishes_at 111 b.0 q b.1 (differ 111 116 refl) (differ 111 115 refl) (differ 111 114 refl);
    above_work = λ q up none. let b = begins_above 119 (111 ∷ 114 ∷ 107 ∷ 47 ∷ p.folder) q (differ 119 47 refl) up in finishes_at 119 b.0 q b.1 (differ 119 116 refl) (differ 119 115 refl) (differ 119 114 refl);
    above_object = λ unihash is q up none. let b = begins_above 111 (98 ∷ 106 ∷ 47 ∷ hash_text unihash) q (differ 111 47 refl) up in finishes_at 111 b.0 q b.1 (differ 111 116 refl) (differ 111 115 refl) (differ 111 114 refl);
  }

  pub finishes_staged : KeepsStaged p old new
  finishes_staged = record {
    temporary = λ q below no_old no_stamp no_record. let rest = 109 ∷ 112 ∷ 47 ∷ below.0 in finishes.others q no_stamp no_record (not_stamp p 116 rest q below.1 (differ 116 115 refl)) (λ new_one. not_record p 116 rest q below.1 (differ 116 114 refl));
    records = λ q below ne. let rest = 101 ∷ 99 ∷ 50 ∷ 47 ∷ below.0 in finishes.others q (not_staged p 114 rest q below.1 (differ 114 116 refl)) (not_staged_record p 114 rest q below.1 (differ 114 116 refl)) (not_stamp p 114 rest q below.1 (differ 114 115 refl)) (λ new_one. ne);
    keys = λ q below ne. finishes_at 107 (101 ∷ 121 ∷ 47 ∷ below.0) q below.1 (differ 107 116 refl) (differ 107 115 refl) (differ 107 114 refl);
  }

pub finishes_is_publishing : FinishesIsPublishing
finishes_is_publishing p held old new none finishes = record { own = finishes_own p held old new finishes none; others = finishes_others p held old new finishes; staged = finishes_staged p held old new finishes }
