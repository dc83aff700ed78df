-- What a publication at its end has put stays, whatever others do.
use Rattle.std.proofs.Common.{◌≡◌, ◌≢◌, ◌∙◌, sym, ap, subst, refl, ℕ, inl, List, ◌∷◌, Option, Some, None, get_or}
use Rattle.std.specs.Prelude.{codes}
use Rattle.tree_model.specs.declared.hash.Hash.{Hash}
use Rattle.tree_model.specs.Hash.{hash_text}
use Rattle.tree_model.specs.Path.{inside}
use Rattle.outside_traits.specs.Store.{HoldsTree, IsApart, Store}
use Rattle.outside_traits.proofs.Folders.{under_same}
use Rattle.stamp_store.specs.Stamp.{old_path, staged_path}
use Rattle.store_model.specs.Available.{object_folder}
use Rattle.store_model.specs.Paths.{key_path, record_path}
use Rattle.store_model.specs.Publication.{Publication}
use Rattle.store_opening.specs.Paths.{staged_record_path}
use Rattle.store_opening.proofs.Areas.{differ}
use Rattle.build_store.specs.Ending.{HasFolders}
use Rattle.build_store.specs.Halves.{AreApart}
use Rattle.build_store.specs.Pieces.{OthersKeepPut}
use Rattle.build_store.specs.Publication.{KeepsOthers}
use Rattle.build_store.proofs.Quieting.{staged_differ}
use Rattle.build_store.proofs.FoldersStay.{tree_far, tree_in}

module _ (p r : Publication) (held old new : Store) (apart : AreApart r p) (first : HasFolders p held) (others : KeepsOthers r.folder r.object held old new) where
  shared_kept : (unihash : Hash) → p.object ≡ Some unihash → HoldsTree (object_folder unihash) p.tree old → HoldsTree (object_folder unihash) p.tree new
  shared_kept unihash is was = by r.object refl
    where
      by : (o : Option Hash) → r.object ≡ o → HoldsTree (object_folder unihash) p.tree new
      by None e = tree_in (codes "obj") (hash_text unihash) refl old new (λ q at. others.objects q at (λ u some. absurd (let n : None ≡ Some u = sym e ∙ some in cc))) p.tree was
      by (Some one) e = tree_far (codes "obj") (hash_text one) (hash_text unihash) refl (apart.objects one unihash e is) held old new
          (λ q at a. others.objects q at (λ u some. let k : Some one ≡ Some u = sym e ∙ some in let same : one ≡ u = cc in subst (λ (h : Hash). IsApart (object_folder h) q) same a))
          (λ q up none. others.above_object one e q up none) p.tree (first.shared unihash is).outside was

  folders_kept : HasFolders p old → HasFolders p new
  folders_kept was = record {
    work = tree_far (codes "work") r.folder p.folder refl apart.folders held old new others.work others.above_work p.tree first.work.outside was.work;
    shared = λ unihash is. shared_kept unihash is (was.shared unihash is);
  }

-- paths under `tmp/` whose areas differ
pub areas : (i x y : ℕ) (xs ys : List ℕ) → get_or xs i 0 ≡ x → get_or ys i 0 ≡ y → x ≢ y → xs ≢ ys
areas i x y xs ys at_x at_y ne same = ne (sym at_x ∙ ap (λ (l : List ℕ). get_or l i 0) same ∙ at_y)

pub others_keep_put : OthersKeepPut
others_keep_put p r held old new apart first did = record {
  folders = folders_kept p r held old new apart first did.others;
  staged_record = did.staged.temporary (staged_record_path p.name) (114 ∷ 101 ∷ 99 ∷ 50 ∷ 47 ∷ hash_text p.name, refl)
      (areas 4 114 111 (staged_record_path p.name) (old_path r.folder) refl refl (differ 114 111 refl))
      (λ same. staged_differ r.folder p.name (sym same))
      (λ same. apart.names (sym (ap (inside (codes "rec2")) (under_same (codes "tmp/rec2") (hash_text p.name) (hash_text r.name) same))));
  record_at = did.staged.records (record_path p.name) (hash_text p.name, refl) (λ same. apart.names (sym same));
  key = did.staged.keys (key_path p.key) (hash_text p.key, refl) (λ writes same. apart.keys writes (sym same));
  staged_stamp = did.staged.temporary (staged_path p.folder) (115 ∷ 116 ∷ 97 ∷ 109 ∷ 112 ∷ 47 ∷ p.folder, refl)
      (areas 4 115 111 (staged_path p.folder) (old_path r.folder) refl refl (differ 115 111 refl))
      (λ same. apart.folders.not_folder (under_same (codes "tmp/stamp") p.folder r.folder same))
      (staged_differ p.folder r.name);
  stamp = did.others.stamps p.folder (inl apart.folders);
}
