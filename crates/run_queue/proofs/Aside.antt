-- What a publication, or a restoring, leaves of other tasks, and of records.
use Rattle.std.proofs.Common.{◌≡◌, ◌≢◌, ◌∙◌, sym, ap, subst, refl, ℕ, ◌⊎◌, inl, inr, true, List, [], ◌∷◌, ◌++◌, Some, None, append_assoc, arith}
use Rattle.std.specs.Prelude.{codes, Option}
use Rattle.std.proofs.lemmas.Bool.{cases_eq}
use Rattle.tree_model.specs.declared.hash.Hash.{Hash}
use Rattle.tree_model.specs.Hash.{hash_text}
use Rattle.tree_model.specs.Path.{BeginsWith, IsAtOrBelow, IsBelow, inside}
use Rattle.outside_traits.specs.Store.{HoldsTree, IsApart, IsOpen, Store}
use Rattle.outside_traits.proofs.Folders.{above_under, under_same}
use Rattle.outside_traits.proofs.Puts.{path_cases}
use Rattle.meta_model.specs.CleanBuild.{Entries}
use Rattle.meta_model.specs.declared.plan.PlanTask.{PlanTask}
use Rattle.store_model.specs.Available.{object_folder, task_folder, work_folder}
use Rattle.store_model.specs.Premises.{Differ}
use Rattle.build_store.specs.Laws.{KeepsObject}
use Rattle.store_model.specs.Lines.{KeepsWork}
use Rattle.store_opening.specs.Paths.{HasPlace}
use Rattle.store_model.specs.Paths.{key_path, record_path}
use Rattle.outside_traits.specs.Store.{slashes}
use Rattle.build_store.specs.Publication.{IsForeign, IsUntouched, Publishes, KeepsOthers}
use Rattle.store_model.specs.Publication.{Publication, stamp_at, work_at}
use Rattle.store_opening.proofs.Areas.{apart_by_first, differ, heads_differ}
use Rattle.store_opening.proofs.Clean.{folder_slashes}
use Rattle.store_opening.proofs.Opened.{begins_or}
use Rattle.build_store.proofs.Apart.{apart_by_count, apart_under}
use Rattle.build_store.proofs.Others.{others_untouched}
use Rattle.store_opening.proofs.Slashes.{slashes_inside}
use Rattle.run_model.specs.Own.{IsOfFolder}
use Rattle.run_queue.specs.Stands.{IsClearOfStamps, KeepsFolders}

-- ---- paths above folders

-- nothing stands above a path of one part
one_part : (path q : List ℕ) → slashes path ≡ 0 → IsBelow q path → ⊥
one_part path q none below = let m = ap slashes below.1 ∙ slashes_inside q below.0 in omega (arith, m, none)

-- above `PN/TASK` stands `PN` alone
pub above_parts : (pn task q : List ℕ) → slashes pn ≡ 0 → slashes task ≡ 0 → IsBelow q (inside pn task) → q ≡ pn
above_parts pn task q a b below = by (above_under pn task q below)
  where
    by : IsBelow q pn ⊎ ((q ≡ pn) ⊎ ((r : List ℕ) × (q ≡ inside pn r) × IsBelow r task)) → q ≡ pn
    by (inl up) = absurd (one_part pn q a up)
    by (inr (inl same)) = same
    by (inr (inr in_it)) = absurd (one_part task in_it.0 b in_it.2)

-- above a folder of one part stands nothing else than that part, or what is under it
pub above_top : (top folder q : List ℕ) → slashes top ≡ 0 → IsBelow q (inside top folder) → (q ≡ top) ⊎ ((r : List ℕ) × (q ≡ inside top r) × IsBelow r folder)
above_top top folder q a below = by (above_under top folder q below)
  where
    by : IsBelow q top ⊎ ((q ≡ top) ⊎ ((r : List ℕ) × (q ≡ inside top r) × IsBelow r folder)) → (q ≡ top) ⊎ ((r : List ℕ) × (q ≡ inside top r) × IsBelow r folder)
    by (inl up) = absurd (one_part top q a up)
    by (inr other) = other

-- ---- paths that a publication doesn't touch

foreign_record : (p : Publication) (path : List ℕ) → (p.is_new ≡ true → inside (codes "rec2") path ≢ record_path p.name) → IsForeign p (inside (codes "rec2") path)
foreign_record p path other = record {
  temporary = λ below. heads_differ (differ 114 116 refl) below.1;
  work = apart_by_first (101 ∷ 99 ∷ 50 ∷ 47 ∷ path) (111 ∷ 114 ∷ 107 ∷ 47 ∷ p.folder) (differ 114 119 refl);
  stamp = apart_by_first (101 ∷ 99 ∷ 50 ∷ 47 ∷ path) (116 ∷ 97 ∷ 109 ∷ 112 ∷ 47 ∷ p.folder) (differ 114 115 refl);
  stored = other;
  key = λ new. heads_differ (differ 114 107 refl);
  shared = λ unihash is. apart_by_first (101 ∷ 99 ∷ 50 ∷ 47 ∷ path) (98 ∷ 106 ∷ 47 ∷ hash_text unihash) (differ 114 111 refl);
}

foreign_work : (p : Publication) (ps : List ℕ) → IsApart (work_at p.folder) (119 ∷ ps) → IsForeign p (119 ∷ ps)
foreign_work p ps apart = record {
  temporary = λ below. heads_differ (differ 119 116 refl) below.1;
  work = apart;
  stamp = apart_by_first ps (116 ∷ 97 ∷ 109 ∷ 112 ∷ 47 ∷ p.folder) (differ 119 115 refl);
  stored = λ new. heads_differ (differ 119 114 refl);
  key = λ new. heads_differ (differ 119 107 refl);
  shared = λ unihash is. apart_by_first ps (98 ∷ 106 ∷ 47 ∷ hash_text unihash) (differ 119 111 refl);
}

-- where no object is put, nothing of the objects is touched
foreign_objects : (p : Publication) (ps : List ℕ) → p.object ≡ None → IsForeign p (111 ∷ ps)
foreign_objects p ps none = record {
  temporary = λ below. heads_differ (differ 111 116 refl) below.1;
  work = apart_by_first ps (111 ∷ 114 ∷ 107 ∷ 47 ∷ p.folder) (differ 111 119 refl);
  stamp = apart_by_first ps (116 ∷ 97 ∷ 109 ∷ 112 ∷ 47 ∷ p.folder) (differ 111 115 refl);
  stored = λ new. heads_differ (differ 111 114 refl);
  key = λ new. heads_differ (differ 111 107 refl);
  shared = λ unihash is. absurd (let n : None ≡ Some unihash = sym none ∙ is in cc);
}

-- `work/PN` is apart from the work folder of a task of another recipe
recipes_apart : (pn task other : List ℕ) → slashes pn ≡ 0 → slashes task ≡ 0 → slashes other ≡ 0 → other ≢ pn → IsApart (work_at (inside pn task)) (inside (codes "work") other)
recipes_apart pn task other a b c ne = record {
  not_folder = λ same. let e = ap slashes (under_same (codes "work") other (inside pn task) same) ∙ slashes_inside pn task in omega (arith, a, b, c, e);
  not_above = λ up. elim (above_top (codes "work") (inside pn task) (inside (codes "work") other) refl up) [
    | inl same ↦ let e = sym (slashes_inside (codes "work") other) ∙ ap slashes same in omega (arith, e)
    | inr in_it ↦ ne (under_same (codes "work") other in_it.0 in_it.1 ∙ above_parts pn task in_it.0 a b in_it.2)
  ];
  not_under = λ under. let e = ap slashes under.1 ∙ slashes_inside (work_at (inside pn task)) under.0 in let f = slashes_inside (codes "work") (inside pn task) in let g = slashes_inside pn task in let h = slashes_inside (codes "work") other in omega (arith, a, b, c, e, f, g, h);
}

-- ---- stamps that don't lie

below_work : (folder q : List ℕ) → IsAtOrBelow (work_at folder) q → IsAtOrBelow (codes "work") q
below_work folder q (inl at) = inr (folder, at)
below_work folder q (inr down) = inr (inside folder down.0, down.1 ∙ append_assoc (codes "work") (47 ∷ folder) (47 ∷ down.0))

pub keeps_untouched : (folder : List ℕ) (old new : Store) → IsUntouched folder old new → KeepsWork folder old new
keeps_untouched folder old new u = record { stamp = u.stamp; work = λ q at. u.work q (below_work folder q at) }

-- ---- folders of other tasks that hold a tree

-- Nothing comes to stand above the work folder of another task. `held` is what was held before the publication, `earlier` the image of
-- which the changed one tells that what was empty above a folder is so still.
pub open_on : (p : Publication) (held old earlier new : Store) (task other : PlanTask) → HasPlace task → HasPlace other → p.folder ≡ task_folder task → Differ other task → Publishes p old new → KeepsOthers p.folder p.object held earlier new
    → IsOpen (work_folder other) held → IsOpen (work_folder other) old → IsOpen (work_folder other) earlier → IsOpen (work_folder other) new
open_on p held old earlier new task other place place' folder apart publishes round h a b = record {
  at = (others_untouched p task other old new place place' apart folder publishes).work (work_folder other) (inl refl) ∙ a.at;
  above = λ q up. by q up (above_top (codes "work") (task_folder other) q refl up);
}
  where
    -- a path round the publication's folder
    near : (q : List ℕ) → IsBelow q (work_folder other) → IsBelow q (work_at (task_folder task)) → new q ≡ None
    near q up in_way = round.above_work q (subst (λ (f : List ℕ). IsBelow q (work_at f)) (sym folder) in_way) (h.above q up) ∙ b.above q up

    at_recipe : (q : List ℕ) → IsBelow q (work_folder other) → q ≡ inside (codes "work") other.id.pn → (other.id.pn ≡ task.id.pn) ⊎ (other.id.pn ≢ task.id.pn) → new q ≡ None
    at_recipe q up is (inl same) = near q up (subst (λ (l : List ℕ). IsBelow l (work_at (task_folder task))) (sym (is ∙ ap (inside (codes "work")) same)) (task.id.task, sym (append_assoc (codes "work") (47 ∷ task.id.pn) (47 ∷ task.id.task))))
    at_recipe q up is (inr ne) =
        subst (λ (l : List ℕ). new l ≡ None) (sym is) (
        publishes.others (inside (codes "work") other.id.pn) (foreign_work p (111 ∷ 114 ∷ 107 ∷ 47 ∷ other.id.pn)
        (subst (λ (f : List ℕ). IsApart (work_at f) (inside (codes "work") other.id.pn)) (sym folder) (recipes_apart task.id.pn task.id.task other.id.pn place.pn.alone place.task.alone place'.pn.alone ne)))
        ∙ a.above (inside (codes "work") other.id.pn) (subst (λ (l : List ℕ). IsBelow l (work_folder other)) is up))

    by : (q : List ℕ) → IsBelow q (work_folder other) → (q ≡ codes "work") ⊎ ((r : List ℕ) × (q ≡ inside (codes "work") r) × IsBelow r (task_folder other)) → new q ≡ None
    by q up (inl top) = near q up (subst (λ (l : List ℕ). IsBelow l (work_at (task_folder task))) (sym top) (task_folder task, refl))
    by q up (inr in_it) = at_recipe q up (in_it.1 ∙ ap (inside (codes "work")) (above_parts other.id.pn other.id.task in_it.0 place'.pn.alone place'.task.alone in_it.2)) (path_cases other.id.pn task.id.pn)

-- a tree that the work folder holds is held still
pub work_on : (p : Publication) (held old earlier new : Store) (task other : PlanTask) (tree : Entries) → HasPlace task → HasPlace other → p.folder ≡ task_folder task → Differ other task → Publishes p old new → KeepsOthers p.folder p.object held earlier new
    → IsOpen (work_folder other) held → IsOpen (work_folder other) earlier → HoldsTree (work_folder other) tree old → HoldsTree (work_folder other) tree new
work_on p held old earlier new task other tree place place' folder apart publishes round h b holds = record {
  entries = λ path. (others_untouched p task other old new place place' apart folder publishes).work (inside (work_folder other) path) (inr (path, refl)) ∙ holds.entries path;
  outside = open_on p held old earlier new task other place place' folder apart publishes round h holds.outside b;
}

-- the same of an object whose folder stays
pub object_on : (p : Publication) (held old earlier new : Store) (unihash : Hash) (tree : Entries) → slashes (hash_text unihash) ≡ 0 → KeepsObject unihash old new → Publishes p old new → KeepsOthers p.folder p.object held earlier new
    → IsOpen (object_folder unihash) held → IsOpen (object_folder unihash) earlier → HoldsTree (object_folder unihash) tree old → HoldsTree (object_folder unihash) tree new
object_on p held old earlier new unihash tree plain keeps publishes round h b holds = record {
  entries = λ path. keeps.object (inside (object_folder unihash) path) (inr (path, refl)) ∙ holds.entries path;
  outside = record {
    at = keeps.object (object_folder unihash) (inl refl) ∙ holds.outside.at;
    above = λ q up. elim (above_top (codes "obj") (hash_text unihash) q refl up) [
      | inl top ↦ top_of q up top p.object refl
      | inr in_it ↦ absurd (one_part (hash_text unihash) in_it.0 plain in_it.2)
    ];
  };
}
  where
    top_of : (q : List ℕ) → IsBelow q (object_folder unihash) → q ≡ codes "obj" → (o : Option Hash) → p.object ≡ o → new q ≡ None
    top_of q up top (Some own) is = round.above_object own is q (subst (λ (l : List ℕ). IsBelow l (object_folder own)) (sym top) (hash_text own, refl)) (h.above q up) ∙ b.above q up
    top_of q up top None is = subst (λ (l : List ℕ). new l ≡ None) (sym top) (publishes.others (codes "obj") (foreign_objects p (98 ∷ 106 ∷ []) is) ∙ holds.outside.above (codes "obj") (subst (λ (l : List ℕ). IsBelow l (object_folder unihash)) top up))

-- ---- folders

-- Nothing comes to stand in the way of folders where nothing did at first. `held` is what was held before the publication, `earlier` the image of
-- which the changed one tells what was empty above a folder.
pub folders_on : (p : Publication) (first held earlier new : Store) (task : PlanTask) → HasPlace task → p.folder ≡ task_folder task → KeepsOthers p.folder p.object held earlier new → KeepsFolders first held → KeepsFolders first earlier → KeepsFolders first new
folders_on p first held earlier new task place folder keeps h e = record {
  work = λ none. keeps.above_work (codes "work") (p.folder, refl) (h.work none) ∙ e.work none;
  objects = λ none. at_objects none p.object refl;
  parts = λ part plain none. at_part part plain none (path_cases part task.id.pn);
  top = λ none. keeps.top (h.top none) ∙ e.top none;
  stamps = λ path ne none. keeps.stamps path (inr (λ same. ne (ap slashes (same ∙ folder) ∙ folder_slashes task place), h.stamps path ne none)) ∙ e.stamps path ne none;
}
  where
    at_objects : first (codes "obj") ≡ None → (o : Option Hash) → p.object ≡ o → new (codes "obj") ≡ None
    at_objects none (Some unihash) is = keeps.above_object unihash is (codes "obj") (hash_text unihash, refl) (h.objects none) ∙ e.objects none
    at_objects none None is = keeps.objects (codes "obj") (inl refl) (λ unihash some. absurd (let n : None ≡ Some unihash = sym is ∙ some in cc)) ∙ e.objects none

    at_part : (part : List ℕ) → slashes part ≡ 0 → first (inside (codes "work") part) ≡ None → (part ≡ task.id.pn) ⊎ (part ≢ task.id.pn) → new (inside (codes "work") part) ≡ None
    at_part part plain none (inl same) =
        keeps.above_work (inside (codes "work") part)
        (subst (λ (f : List ℕ). IsBelow (inside (codes "work") part) (work_at f)) (sym folder) (task.id.task, ap (λ (l : List ℕ). inside (codes "work") (inside l task.id.task)) (sym same) ∙ sym (append_assoc (codes "work") (47 ∷ part) (47 ∷ task.id.task))))
        (h.parts part plain none) ∙ e.parts part plain none
    at_part part plain none (inr ne) =
        keeps.work (inside (codes "work") part) (inr (part, refl))
        (subst (λ (f : List ℕ). IsApart (work_at f) (inside (codes "work") part)) (sym folder) (recipes_apart task.id.pn task.id.task part place.pn.alone place.task.alone plain ne)) ∙ e.parts part plain none

-- ---- paths that are none of a publication's own

-- What a publication leaves of a path that isn't under `tmp/`, at or under the work folder or the object, the stamp or a new record, nor above
-- the work folder, or in the way of stamps, unless nothing was held there at first; nor was anything at `obj`.
pub aside_stays : (p : Publication) (task : PlanTask) (first old new : Store) (q : List ℕ) → HasPlace task → p.folder ≡ task_folder task → Publishes p old new → KeepsFolders first old → KeepsFolders first new → first (codes "obj") ≡ None
    → (IsBelow (codes "tmp") q → ⊥) → (IsOfFolder task q → ⊥) → (IsBelow q (work_folder task) → first q ≡ None) → (p.is_new ≡ true → q ≢ record_path p.name) → (p.writes_key ≡ true → q ≢ key_path p.key) → ((unihash : Hash) → p.object ≡ Some unihash → (slashes (hash_text unihash) ≡ 0) × (IsAtOrBelow (object_folder unihash) q → ⊥)) → IsClearOfStamps first q → new q ≡ old q
aside_stays p task first old new q place folder publishes before after no_object temporary own above stored keyed shared clear = by_top (path_cases q (codes "stamp"))
  where
    work : q ≢ codes "work" → q ≢ inside (codes "work") task.id.pn → IsApart (work_folder task) q
    work a b = record {
      not_folder = λ same. own (inl (inl same));
      not_above = λ up. elim (above_top (codes "work") (task_folder task) q refl up) [
        | inl top ↦ a top
        | inr in_it ↦ b (in_it.1 ∙ ap (inside (codes "work")) (above_parts task.id.pn task.id.task in_it.0 place.pn.alone place.task.alone in_it.2))
      ];
      not_under = λ under. own (inl (inr under));
    }

    object : q ≢ codes "obj" → (unihash : Hash) → p.object ≡ Some unihash → IsApart (object_folder unihash) q
    object c unihash is = record {
      not_folder = λ same. (shared unihash is).1 (inl same);
      not_above = λ up. elim (above_top (codes "obj") (hash_text unihash) q refl up) [
        | inl top ↦ c top
        | inr in_it ↦ one_part (hash_text unihash) in_it.0 (shared unihash is).0 in_it.2
      ];
      not_under = λ under. (shared unihash is).1 (inr under);
    }

    -- the path is apart from the stamp, or nothing is held there
    stamp : q ≢ codes "stamp" → BeginsWith (codes "stamp/") q ⊎ (BeginsWith (codes "stamp/") q → ⊥) → IsApart (stamp_at (task_folder task)) q ⊎ ((path : List ℕ) × (q ≡ stamp_at path) × (slashes path ≢ 1) × (first q ≡ None))
    stamp top (inl b) = elim (cases_eq (slashes b.0) 1) [
      | inl one ↦ inl (subst (IsApart (stamp_at (task_folder task))) (sym b.1)
          (apart_under (codes "stamp") (task_folder task) b.0 (apart_by_count (task_folder task) b.0 (folder_slashes task place ∙ sym one) (λ same. own (inr (b.1 ∙ ap stamp_at same))))))
      | inr ne ↦ inr (b.0, b.1, ne, elim (clear.under b.0 b.1) [ inl one ↦ absurd (ne one) | inr none ↦ none ])
    ]
    stamp top (inr never) = inl (record {
      not_folder = λ same. never (task_folder task, same);
      not_above = λ up. elim (above_top (codes "stamp") (task_folder task) q refl up) [ inl e ↦ top e | inr in_it ↦ never (in_it.0, in_it.1) ];
      not_under = λ under. never (inside (task_folder task) under.0, under.1 ∙ append_assoc (codes "stamp") (47 ∷ task_folder task) (47 ∷ under.0));
    })

    foreign : IsApart (stamp_at (task_folder task)) q → q ≢ codes "work" → q ≢ inside (codes "work") task.id.pn → q ≢ codes "obj" → IsForeign p q
    foreign apart a b c = record {
      temporary = temporary;
      work = subst (λ (f : List ℕ). IsApart (work_at f) q) (sym folder) (work a b);
      stamp = subst (λ (f : List ℕ). IsApart (stamp_at f) q) (sym folder) apart;
      stored = stored;
      key = keyed;
      shared = object c;
    }

    -- what is above the work folder
    at_top : q ≡ codes "work" → first (codes "work") ≡ None
    at_top same = sym (ap first same) ∙ above (subst (λ (l : List ℕ). IsBelow l (work_folder task)) (sym same) (task_folder task, refl))

    at_recipe : q ≡ inside (codes "work") task.id.pn → first (inside (codes "work") task.id.pn) ≡ None
    at_recipe same = sym (ap first same) ∙ above (subst (λ (l : List ℕ). IsBelow l (work_folder task)) (sym same) (task.id.task, sym (append_assoc (codes "work") (47 ∷ task.id.pn) (47 ∷ task.id.task))))

    by : IsApart (stamp_at (task_folder task)) q → (q ≡ codes "work") ⊎ (q ≢ codes "work") → (q ≡ inside (codes "work") task.id.pn) ⊎ (q ≢ inside (codes "work") task.id.pn) → (q ≡ codes "obj") ⊎ (q ≢ codes "obj") → new q ≡ old q
    by apart (inl same) b c = let none = at_top same in ap new same ∙ after.work none ∙ sym (ap old same ∙ before.work none)
    by apart (inr a) (inl same) c = let none = at_recipe same in ap new same ∙ after.parts task.id.pn place.pn.alone none ∙ sym (ap old same ∙ before.parts task.id.pn place.pn.alone none)
    by apart (inr a) (inr b) (inl same) = ap new same ∙ after.objects no_object ∙ sym (ap old same ∙ before.objects no_object)
    by apart (inr a) (inr b) (inr c) = publishes.others q (foreign apart a b c)

    by_stamp : IsApart (stamp_at (task_folder task)) q ⊎ ((path : List ℕ) × (q ≡ stamp_at path) × (slashes path ≢ 1) × (first q ≡ None)) → new q ≡ old q
    by_stamp (inl apart) = by apart (path_cases q (codes "work")) (path_cases q (inside (codes "work") task.id.pn)) (path_cases q (codes "obj"))
    by_stamp (inr w) = let none = sym (ap first w.1) ∙ w.3 in ap new w.1 ∙ after.stamps w.0 w.2 none ∙ sym (ap old w.1 ∙ before.stamps w.0 w.2 none)

    by_top : (q ≡ codes "stamp") ⊎ (q ≢ codes "stamp") → new q ≡ old q
    by_top (inl same) = let none = sym (ap first same) ∙ clear.top same in ap new same ∙ after.top none ∙ sym (ap old same ∙ before.top none)
    by_top (inr other) = by_stamp (stamp other (begins_or (codes "stamp/") q))

-- `obj` isn't at or below an object
pub not_top : (unihash : Hash) → IsAtOrBelow (object_folder unihash) (codes "obj") → ⊥
not_top unihash (inl same) = let e : 111 ∷ 98 ∷ 106 ∷ [] ≡ 111 ∷ 98 ∷ 106 ∷ 47 ∷ hash_text unihash = same in cc
not_top unihash (inr down) = let e : 111 ∷ 98 ∷ 106 ∷ [] ≡ 111 ∷ 98 ∷ 106 ∷ 47 ∷ (hash_text unihash ++ 47 ∷ down.0) = down.1 in cc

pub in_objects : (unihash : Hash) (q : List ℕ) → IsAtOrBelow (object_folder unihash) q → IsAtOrBelow (codes "obj") q
in_objects unihash q (inl same) = inr (hash_text unihash, same)
in_objects unihash q (inr down) = inr (inside (hash_text unihash) down.0, down.1 ∙ append_assoc (codes "obj") (47 ∷ hash_text unihash) (47 ∷ down.0))

-- An object stays that is apart from the publication's.
pub object_stays : (p : Publication) (old new : Store) (unihash : Hash) (q : List ℕ) → Publishes p old new → ((own : Hash) → p.object ≡ Some own → IsApart (object_folder own) q) → IsAtOrBelow (object_folder unihash) q → new q ≡ old q
object_stays p old new unihash q publishes apart below = by below
  where
    foreign : (rest : List ℕ) → q ≡ 111 ∷ rest → IsForeign p q
    foreign rest is = subst (IsForeign p) (sym is) (record {
      temporary = λ under. heads_differ (differ 111 116 refl) under.1;
      work = apart_by_first rest (111 ∷ 114 ∷ 107 ∷ 47 ∷ p.folder) (differ 111 119 refl);
      stamp = apart_by_first rest (116 ∷ 97 ∷ 109 ∷ 112 ∷ 47 ∷ p.folder) (differ 111 115 refl);
      stored = λ new_one. heads_differ (differ 111 114 refl);
      key = λ writes. heads_differ (differ 111 107 refl);
      shared = λ own some. subst (IsApart (object_folder own)) is (apart own some);
    })

    by : IsAtOrBelow (object_folder unihash) q → new q ≡ old q
    by (inl same) = publishes.others q (foreign (98 ∷ 106 ∷ 47 ∷ hash_text unihash) same)
    by (inr under) = publishes.others q (foreign (98 ∷ 106 ∷ 47 ∷ (hash_text unihash ++ 47 ∷ under.0)) under.1)
