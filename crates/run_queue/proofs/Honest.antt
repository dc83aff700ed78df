-- No stamp comes to lie through a publication whose record may be held before its stamp is.
use Rattle.std.proofs.Common.{◌≡◌, ◌≢◌, ◌∙◌, sym, ap, subst, refl, ℕ, ◌⊎◌, inl, inr, true, List, ◌∷◌, Some, None}
use Rattle.std.specs.Prelude.{codes}
use Rattle.tree_model.specs.declared.entry.Entry.{Entry}
use Rattle.tree_model.specs.declared.hash.Hash.{Hash}
use Rattle.tree_model.specs.Hash.{hash_text}
use Rattle.tree_model.specs.Path.{inside}
use Rattle.outside_traits.specs.Store.{Store}
use Rattle.outside_traits.proofs.Puts.{path_cases}
use Rattle.meta_model.specs.declared.plan.PlanTask.{PlanTask}
use Rattle.store_model.specs.Available.{task_folder}
use Rattle.store_model.specs.Lines.{KeepsWork}
use Rattle.store_model.specs.Paths.{key_path, record_path}
use Rattle.store_model.specs.Premises.{Differ}
use Rattle.store_model.specs.Publication.{Publication, stamp_at, work_at}
use Rattle.store_opening.specs.Paths.{HasPlace}
use Rattle.store_opening.proofs.Areas.{apart_by_first, differ, heads_differ}
use Rattle.build_store.specs.Publication.{IsForeign, IsPublished, IsUntouched, Publishes}
use Rattle.build_store.proofs.Others.{others_untouched}
use Rattle.run_model.specs.Stands.{IsHonest, IsTold}
use Rattle.run_queue.proofs.Aside.{keeps_untouched}

-- where the publication's record is new, none is held under its name, or it is held already
abbrev pub MayHaveRecord : Publication → Store → Type 0
MayHaveRecord p image = p.is_new ≡ true → (image (record_path p.name) ≡ None) ⊎ (image (record_path p.name) ≡ Some p.file)

pub foreign_record : (p : Publication) (path : List ℕ) → (p.is_new ≡ true → inside (codes "rec2") path ≢ record_path p.name) → IsForeign p (inside (codes "rec2") path)
foreign_record p path other = record {
  temporary = λ below. heads_differ (differ 114 116 refl) below.1;
  work = apart_by_first (101 ∷ 99 ∷ 50 ∷ 47 ∷ path) (111 ∷ 114 ∷ 107 ∷ 47 ∷ p.folder) (differ 114 119 refl);
  stamp = apart_by_first (101 ∷ 99 ∷ 50 ∷ 47 ∷ path) (116 ∷ 97 ∷ 109 ∷ 112 ∷ 47 ∷ p.folder) (differ 114 115 refl);
  stored = other;
  key = λ new. heads_differ (differ 114 107 refl);
  shared = λ unihash is. apart_by_first (101 ∷ 99 ∷ 50 ∷ 47 ∷ path) (98 ∷ 106 ∷ 47 ∷ hash_text unihash) (differ 114 111 refl);
}

-- so is a key, unless it is the publication's and is written
pub foreign_key : (p : Publication) (path : List ℕ) → (p.writes_key ≡ true → inside (codes "key") path ≢ key_path p.key) → IsForeign p (inside (codes "key") path)
foreign_key p path other = record {
  temporary = λ below. heads_differ (differ 107 116 refl) below.1;
  work = apart_by_first (101 ∷ 121 ∷ 47 ∷ path) (111 ∷ 114 ∷ 107 ∷ 47 ∷ p.folder) (differ 107 119 refl);
  stamp = apart_by_first (101 ∷ 121 ∷ 47 ∷ path) (116 ∷ 97 ∷ 109 ∷ 112 ∷ 47 ∷ p.folder) (differ 107 115 refl);
  stored = λ new. heads_differ (differ 107 114 refl);
  key = other;
  shared = λ unihash is. apart_by_first (101 ∷ 121 ∷ 47 ∷ path) (98 ∷ 106 ∷ 47 ∷ hash_text unihash) (differ 107 111 refl);
}

-- a record that was held stays
record_stays : (p : Publication) (old new : Store) → Publishes p old new → MayHaveRecord p old → (name : Hash) (file : Entry) → old (record_path name) ≡ Some file → new (record_path name) ≡ Some file
record_stays p old new publishes may name file is = by (path_cases (record_path name) (record_path p.name))
  where
    put_again : record_path name ≡ record_path p.name → new (record_path p.name) ≡ Some p.file → (old (record_path p.name) ≡ None) ⊎ (old (record_path p.name) ≡ Some p.file) → new (record_path name) ≡ Some file
    put_again same put (inl none) = absurd (let n : None ≡ Some file = sym none ∙ sym (ap old same) ∙ is in cc)
    put_again same put (inr held) = ap new same ∙ put ∙ sym held ∙ sym (ap old same) ∙ is

    at_own : record_path name ≡ record_path p.name → (new (record_path p.name) ≡ old (record_path p.name)) ⊎ ((p.is_new ≡ true) × (new (record_path p.name) ≡ Some p.file) × (new (key_path p.key) ≡ Some p.key_file)) → new (record_path name) ≡ Some file
    at_own same (inl stays) = ap new same ∙ stays ∙ sym (ap old same) ∙ is
    at_own same (inr put) = put_again same put.1 (may put.0)

    by : (record_path name ≡ record_path p.name) ⊎ (record_path name ≢ record_path p.name) → new (record_path name) ≡ Some file
    by (inl same) = at_own same publishes.stored
    by (inr ne) = publishes.others (record_path name) (foreign_record p (hash_text name) (λ new. ne)) ∙ is

keeps_then : (folder : List ℕ) (held old new : Store) → KeepsWork folder held old → KeepsWork folder old new → KeepsWork folder held new
keeps_then folder held old new a b = record { stamp = b.stamp ∙ a.stamp; work = λ q at. b.work q at ∙ a.work q at }

-- what a stamp tells of stays, where the stamp and the work folder do
told_stays : (p r : Publication) (old new : Store) → Publishes p old new → MayHaveRecord p old → KeepsWork r.folder old new → IsTold r old → IsTold r new
told_stays p r old new publishes may keeps told = record {
  stamp = keeps.stamp ∙ told.stamp;
  stored = record_stays p old new publishes may r.name r.file told.stored;
  at = keeps.work (work_at r.folder) (inl refl) ∙ told.at;
  entries = λ path. keeps.work (inside (work_at r.folder) path) (inr (path, refl)) ∙ told.entries path;
}

kept_stays : (p : Publication) (held old new : Store) (other : PlanTask) → Publishes p old new → MayHaveRecord p old → KeepsWork (task_folder other) old new → IsHonest held old other → IsHonest held new other
kept_stays p held old new other publishes may keeps (inl was) = inl (keeps_then (task_folder other) held old new was keeps)
kept_stays p held old new other publishes may keeps (inr (inl none)) = inr (inl (keeps.stamp ∙ none))
kept_stays p held old new other publishes may keeps (inr (inr told)) =
    inr (inr (told.0, told.1, told_stays p told.0 old new publishes may (subst (λ (f : List ℕ). KeepsWork f old new) (sym told.1) keeps) told.2))

own_stays : (p : Publication) (held old new : Store) (task : PlanTask) → p.folder ≡ task_folder task → Publishes p old new → MayHaveRecord p old → IsHonest held old task → IsHonest held new task
own_stays p held old new task folder publishes may was = by publishes.honest
  where
    by : IsUntouched p.folder old new ⊎ ((new (stamp_at p.folder) ≡ None) ⊎ IsPublished p new) → IsHonest held new task
    by (inl untouched) = kept_stays p held old new task publishes may (subst (λ (f : List ℕ). KeepsWork f old new) folder (keeps_untouched p.folder old new untouched)) was
    by (inr (inl none)) = inr (inl (subst (λ (f : List ℕ). new (stamp_at f) ≡ None) folder none))
    by (inr (inr is)) = inr (inr (p, folder, record { stamp = is.stamp; stored = is.stored; at = is.work.outside.at; entries = is.work.entries }))

-- No stamp of a task lies in a changed store where none did, be it the publication's task or another one.
pub honest_stays : (p : Publication) (held old new : Store) (task other : PlanTask) → HasPlace task → HasPlace other → p.folder ≡ task_folder task → (other ≡ task) ⊎ Differ other task → Publishes p old new → MayHaveRecord p old → IsHonest held old other → IsHonest held new other
honest_stays p held old new task other place place' folder (inl same) publishes may was =
    subst (IsHonest held new) (sym same) (own_stays p held old new task folder publishes may (subst (IsHonest held old) same was))
honest_stays p held old new task other place place' folder (inr apart) publishes may was =
    kept_stays p held old new other publishes may (others_untouched p task other old new place place' apart folder publishes) was
