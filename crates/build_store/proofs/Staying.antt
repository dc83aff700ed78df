-- Open publications stay, whatever others do.
use Rattle.std.proofs.Common.{◌≡◌, ◌∙◌, sym, subst, refl, ℕ, ◌⊎◌, inl, inr, Bool, true, false, List, [], ◌∷◌, ◌++◌, Option, Some, None, arith}
use Rattle.std.specs.Prelude.{codes, find}
use Rattle.std.specs.Str.{bytes_eq}
use Rattle.tree_model.specs.declared.hash.Hash.{Hash}
use Rattle.tree_model.specs.declared.manifest.ManifestLine.{ManifestLine}
use Rattle.tree_model.specs.Hash.{hash_text}
use Rattle.tree_model.specs.Manifest.{manifest_lines}
use Rattle.tree_model.specs.Path.{IsAtOrBelow, IsBelow, inside}
use Rattle.outside_traits.specs.Passes.{Passes}
use Rattle.outside_traits.specs.Store.{IsApart, IsOpen, Store}
use Rattle.outside_traits.specs.Story.{Story}
use Rattle.outside_traits.proofs.Runs.{each_now}
use Rattle.meta_model.proofs.Bools.{either_way, same_text}
use Rattle.meta_model.specs.CleanBuild.{Entries}
use Rattle.store_model.specs.declared.signature.EquivRow.{EquivRow}
use Rattle.store_model.specs.Available.{object_folder}
use Rattle.store_model.specs.Rows.{hash_eq, is_row_for, row_at}
use Rattle.store_model.specs.Signatures.{Signed}
use Rattle.store_model.specs.Spelling.{name_of}
use Rattle.build_store.specs.Publication.{KeepsOthers, publication}
use Rattle.store_model.specs.Publication.{stamp_at, work_at, Publication}
use Rattle.build_store.specs.Halves.{IsAside}
use Rattle.build_store.proofs.AsideRuns.{noted_same}
use Rattle.build_store.proofs.FoldersStay.{open_far, open_in, path_far, path_in}
use Rattle.build_store.specs.Items.{IsLaidBut, Item}
use Rattle.build_store.specs.Pieces.{HalvesStay, PublicationStays}

-- where each path of the folder stays, it stays laid
laid_by : (folder : List ℕ) (tree : Entries) (left : List Item) (old new : Store) → ((path : List ℕ) → new (inside folder path) ≡ old (inside folder path)) → IsOpen folder new → IsLaidBut folder tree left old → IsLaidBut folder tree left new
laid_by folder tree left old new same outside was = record {
  entries = λ path. elim (was.entries path) [
    | inl e ↦ inl (same path ∙ e)
    | inr due ↦ inr due
  ];
  outside = outside;
}

module _ (p : Publication) (left : List Item) (folder : List ℕ) (object : Option Hash) (old new : Store) (apart : IsApart folder p.folder) (keeps : KeepsOthers folder object old old new) where
  work_stays : IsLaidBut (work_at p.folder) p.tree left old → IsLaidBut (work_at p.folder) p.tree left new
  work_stays was = laid_by (work_at p.folder) p.tree left old new
      (path_far (codes "work") folder p.folder refl apart old old new keeps.work keeps.above_work)
      (open_far (codes "work") folder p.folder refl apart old old new keeps.work keeps.above_work was.outside was.outside) was

  object_stays : (unihash : Hash) → ((one : Hash) → object ≡ Some one → IsApart (hash_text one) (hash_text unihash)) → IsLaidBut (object_folder unihash) p.tree left old → IsLaidBut (object_folder unihash) p.tree left new
  object_stays unihash far was = by object refl
    where
      by : (o : Option Hash) → object ≡ o → IsLaidBut (object_folder unihash) p.tree left new
      by None e =
          let same : (q : List ℕ) → IsAtOrBelow (codes "obj") q → new q ≡ old q = λ q at. keeps.objects q at (λ u some. absurd (let n : None ≡ Some u = sym e ∙ some in cc)) in
          laid_by (object_folder unihash) p.tree left old new (path_in (codes "obj") (hash_text unihash) refl old new same) (open_in (codes "obj") (hash_text unihash) refl old new same was.outside) was
      by (Some one) e =
          let same : (q : List ℕ) → IsAtOrBelow (codes "obj") q → IsApart (object_folder one) q → new q ≡ old q =
          λ q at a. keeps.objects q at (λ u some. let k : Some one ≡ Some u = sym e ∙ some in let is : one ≡ u = cc in subst (λ (h : Hash). IsApart (object_folder h) q) is a) in
          let above : (q : List ℕ) → IsBelow q (object_folder one) → old q ≡ None → new q ≡ old q = λ q up none. keeps.above_object one e q up none in
          laid_by (object_folder unihash) p.tree left old new
          (path_far (codes "obj") (hash_text one) (hash_text unihash) refl (far one e) old old new same above)
          (open_far (codes "obj") (hash_text one) (hash_text unihash) refl (far one e) old old new same above was.outside was.outside) was

  object_same : (unihash : Hash) → ((one : Hash) → object ≡ Some one → IsApart (hash_text one) (hash_text unihash)) → (path : List ℕ) → new (inside (object_folder unihash) path) ≡ old (inside (object_folder unihash) path)
  object_same unihash far = by object refl
    where
      by : (o : Option Hash) → object ≡ o → (path : List ℕ) → new (inside (object_folder unihash) path) ≡ old (inside (object_folder unihash) path)
      by None e = path_in (codes "obj") (hash_text unihash) refl old new (λ q at. keeps.objects q at (λ u some. absurd (let n : None ≡ Some u = sym e ∙ some in cc)))
      by (Some one) e = path_far (codes "obj") (hash_text one) (hash_text unihash) refl (far one e) old old new
          (λ q at a. keeps.objects q at (λ u some. let k : Some one ≡ Some u = sym e ∙ some in let is : one ≡ u = cc in subst (λ (h : Hash). IsApart (object_folder h) q) is a))
          (λ q up none. keeps.above_object one e q up none)

-- one whose stamp was put aside
pub aside_stays : (p : Publication) (k : ℕ) (items : List Item) (folder : List ℕ) (object : Option Hash) (a b : Story) → IsApart folder p.folder → ((one other : Hash) → object ≡ Some one → p.object ≡ Some other → IsApart (hash_text one) (hash_text other))
    → Passes a b (KeepsOthers folder object a.held) → IsAside p k items a → IsAside p k items b
aside_stays p k items folder object a b apart objects run is = record {
  past = omega (arith, is.past, run.later);
  gone = λ i left. let w = run.above k i is.past left in w.2.stamps p.folder (inl apart) ∙ is.gone w.0 w.1;
  noted = noted_same p items a.held b.held
      (path_far (codes "work") folder p.folder refl apart a.held a.held b.held run.held.work run.held.above_work)
      (λ unihash some. object_same p items folder object a.held b.held apart run.held unihash (λ one e. objects one unihash e some)) is.noted;
}

pub halves_stay : HalvesStay
halves_stay p left folder object a b apart objects run half = record {
  unstamped = each_now (λ i. i (stamp_at p.folder) ≡ None) (λ i. i (stamp_at p.folder) ≡ None) half.unstamped run (λ i j none keeps. keeps.stamps p.folder (inl apart) ∙ none);
  items = half.items;
  order = half.order;
  work = work_stays p left folder object a.held b.held apart run.held half.work;
  shared = λ unihash is. object_stays p left folder object a.held b.held apart run.held unihash (λ one e. objects one unihash e is) (half.shared unihash is);
}

-- ---- what is put

pub find_last : {A : Type 0} (q : A → Bool) (xs : List A) (y : A) → q y ≡ false → find q (xs ++ y ∷ []) ≡ find q xs
find_last q [] y f = rw f refl
find_last q (x ∷ xs) y f = by (q x) refl (find_last q xs y f)
  where
    by : (b : Bool) → q x ≡ b → find q (xs ++ y ∷ []) ≡ find q xs → find q (x ∷ xs ++ y ∷ []) ≡ find q (x ∷ xs)
    by true e more = simp e
    by false e more = simp e more

pub not_for : (s : Signed) (lines : List ManifestLine) (row : EquivRow) → (row.pn ≡ s.sig.pn → row.task ≡ s.sig.task → ⊥) → is_row_for s.sig.pn s.sig.task lines row ≡ false
not_for s lines row ne = by (either_way (bytes_eq row.pn s.sig.pn)) (either_way (bytes_eq row.task s.sig.task))
  where
    by : (bytes_eq row.pn s.sig.pn ≡ true) ⊎ (bytes_eq row.pn s.sig.pn ≡ false) → (bytes_eq row.task s.sig.task ≡ true) ⊎ (bytes_eq row.task s.sig.task ≡ false) → is_row_for s.sig.pn s.sig.task lines row ≡ false
    by (inl a) (inl b) = absurd (ne (same_text row.pn s.sig.pn a) (same_text row.task s.sig.task b))
    by (inr a) second = rw a refl
    by (inl a) (inr b) = rw a (rw b refl)

pub publication_stays : PublicationStays
publication_stays rows row s tree other differ' =
    let at : row_at (rows ++ row ∷ []) (name_of s.sig) ≡ row_at rows (name_of s.sig) = find_last (λ r. hash_eq r.name (name_of s.sig)) rows row other in
    let first : find (is_row_for s.sig.pn s.sig.task (manifest_lines tree)) (rows ++ row ∷ []) ≡ find (is_row_for s.sig.pn s.sig.task (manifest_lines tree)) rows = find_last (is_row_for s.sig.pn s.sig.task (manifest_lines tree)) rows row (not_for s (manifest_lines tree) row differ') in
    by at first
  where
    by : row_at (rows ++ row ∷ []) (name_of s.sig) ≡ row_at rows (name_of s.sig) → find (is_row_for s.sig.pn s.sig.task (manifest_lines tree)) (rows ++ row ∷ []) ≡ find (is_row_for s.sig.pn s.sig.task (manifest_lines tree)) rows
        → publication (rows ++ row ∷ []) s tree ≡ publication rows s tree
    by a f = simp a (simp f refl)
