-- A publication leaves other tasks alone.
use Rattle.std.proofs.Common.{◌≡◌, ◌∙◌, sym, ap, subst, refl, ℕ, ◌⊎◌, inl, inr, List, [], ◌∷◌, ◌++◌, Option, Some, None, arith}
use Rattle.std.specs.Prelude.{codes}
use Rattle.tree_model.specs.declared.hash.Hash.{Hash}
use Rattle.tree_model.specs.declared.manifest.ManifestLine.{ManifestLine}
use Rattle.tree_model.specs.Hash.{hash_text}
use Rattle.tree_model.specs.Path.{IsAtOrBelow, IsBelow, inside}
use Rattle.outside_traits.specs.Store.{IsApart, Store, slashes}
use Rattle.meta_model.specs.CleanBuild.{Gives}
use Rattle.store_model.specs.declared.signature.EquivRow.{EquivRow}
use Rattle.store_model.specs.Available.{Matches, object_folder, task_folder, work_folder}
use Rattle.store_model.specs.Origins.{Book, Line, Reading}
use Rattle.store_model.specs.Spelling.{name_of}
use Rattle.store_model.specs.Valid.{IsNamedAlike, IsValidBook, IsValidLine, StandsIn}
use Rattle.store_model.proofs.Digests.{same_name_text}
use Rattle.store_model.proofs.Standing.{one_place, split_last, stands_earlier, stands_further}
use Rattle.store_model.specs.Lines.{HasLine, KeepsWork}
use Rattle.build_store.specs.Laws.{HasLinePlace, IsOfTask, KeepsOutput, OthersInWorkStay, OthersObjectsStay, OthersStay, OthersUntouched}
use Rattle.build_store.specs.Publication.{IsForeign, KeepsOthers, Publishes}
use Rattle.store_model.specs.Publication.{stamp_at, work_at, Publication}
use Rattle.build_store.proofs.Apart.{apart_by_count, apart_under, apart_within, same_parts}
use Rattle.build_store.proofs.FoldersStay.{in_top, tree_far}
use Rattle.store_opening.proofs.Areas.{apart_by_first, differ, heads_differ}
use Rattle.store_opening.proofs.Clean.{name_is_name, name_slashes}
use Rattle.build_store.proofs.Rounding.{begins}
use Rattle.store_opening.proofs.Slashes.{slashes_inside}

-- ---- folders of tasks

-- the folders of two tasks are apart
parts_apart : (pn task pm other : List ℕ) → slashes pn ≡ 0 → slashes task ≡ 0 → slashes pm ≡ 0 → slashes other ≡ 0 → (pm ≡ pn → other ≡ task → ⊥) → IsApart (inside pn task) (inside pm other)
parts_apart pn task pm other a b c d differ' = apart_by_count (inside pn task) (inside pm other) (let e = slashes_inside pn task in let f = slashes_inside pm other in omega (arith, a, b, c, d, e, f))
    (λ same. let parts = same_parts pm pn other task c a same in differ' parts.0 parts.1)

-- a stamp is foreign to a publication of another folder
foreign_stamp : (p : Publication) (folder : List ℕ) → IsApart p.folder folder → IsForeign p (stamp_at folder)
foreign_stamp p folder apart = record {
  temporary = λ below. heads_differ (differ 115 116 refl) below.1;
  work = apart_by_first (116 ∷ 97 ∷ 109 ∷ 112 ∷ 47 ∷ folder) (111 ∷ 114 ∷ 107 ∷ 47 ∷ p.folder) (differ 115 119 refl);
  stamp = apart_under (codes "stamp") p.folder folder apart;
  stored = λ new. heads_differ (differ 115 114 refl);
  key = λ writes. heads_differ (differ 115 107 refl);
  shared = λ unihash is. apart_by_first (116 ∷ 97 ∷ 109 ∷ 112 ∷ 47 ∷ folder) (98 ∷ 106 ∷ 47 ∷ hash_text unihash) (differ 115 111 refl);
}

-- so is what begins as a work folder does, where it is apart from the publication's
foreign_work : (p : Publication) (ps : List ℕ) → IsApart (work_at p.folder) (119 ∷ ps) → IsForeign p (119 ∷ ps)
foreign_work p ps apart = record {
  temporary = λ below. heads_differ (differ 119 116 refl) below.1;
  work = apart;
  stamp = apart_by_first ps (116 ∷ 97 ∷ 109 ∷ 112 ∷ 47 ∷ p.folder) (differ 119 115 refl);
  stored = λ new. heads_differ (differ 119 114 refl);
  key = λ writes. heads_differ (differ 119 107 refl);
  shared = λ unihash is. apart_by_first ps (98 ∷ 106 ∷ 47 ∷ hash_text unihash) (differ 119 111 refl);
}

-- and what begins as an object does, where it is apart from the publication's
foreign_object : (p : Publication) (ps : List ℕ) → ((unihash : Hash) → p.object ≡ Some unihash → IsApart (object_folder unihash) (111 ∷ ps)) → IsForeign p (111 ∷ ps)
foreign_object p ps apart = record {
  temporary = λ below. heads_differ (differ 111 116 refl) below.1;
  work = apart_by_first ps (111 ∷ 114 ∷ 107 ∷ 47 ∷ p.folder) (differ 111 119 refl);
  stamp = apart_by_first ps (116 ∷ 97 ∷ 109 ∷ 112 ∷ 47 ∷ p.folder) (differ 111 115 refl);
  stored = λ new. heads_differ (differ 111 114 refl);
  key = λ writes. heads_differ (differ 111 107 refl);
  shared = apart;
}

foreign_at : (p : Publication) (c : ℕ) (ps q : List ℕ) → IsAtOrBelow (c ∷ ps) q → ((rest : List ℕ) → IsAtOrBelow (c ∷ ps) (c ∷ rest) → IsForeign p (c ∷ rest)) → IsForeign p q
foreign_at p c ps q at foreign = let b = begins c ps q at in subst (IsForeign p) (sym b.1) (foreign b.0 (subst (IsAtOrBelow (c ∷ ps)) b.1 at))

pub keeps_work : (p : Publication) (folder : List ℕ) (old new : Store) → IsApart p.folder folder → Publishes p old new → KeepsWork folder old new
keeps_work p folder old new apart publishes = record {
  stamp = publishes.others (stamp_at folder) (foreign_stamp p folder apart);
  work = λ q at. publishes.others q (foreign_at p 119 (111 ∷ 114 ∷ 107 ∷ 47 ∷ folder) q at (λ rest in_it. foreign_work p rest (apart_within (work_at p.folder) (work_at folder) (119 ∷ rest) (apart_under (codes "work") p.folder folder apart) in_it)));
}

pub others_untouched : OthersUntouched
others_untouched p of other old new place place' differ' is publishes =
    keeps_work p (inside other.id.pn other.id.task) old new
    (subst (λ (f : List ℕ). IsApart f (inside other.id.pn other.id.task)) (sym is)
    (parts_apart of.id.pn of.id.task other.id.pn other.id.task place.pn.alone place.task.alone place'.pn.alone place'.task.alone differ'))
    publishes

-- ---- objects

-- the unihash of a line of a valid book is the name of a line of its PN and task
record IsNameIn (book : Book) (line : Line) : Type 0 where
  first : Line
  behind : Book
  stands : StandsIn book behind first
  pn : first.sig.pn ≡ line.sig.pn
  task : first.sig.task ≡ line.sig.task
  name : line.unihash ≡ name_of first.sig

module _ (gives : Gives) (reading : Reading) (book : Book) (valid : IsValidBook gives reading book) where
  named_in : (before : Book) (line : Line) → StandsIn book before line → IsNameIn book line
  named_in before line s = by (valid before line s).named
    where
      by : (line.unihash ≡ name_of line.sig) ⊎ IsNamedAlike before line → IsNameIn book line
      by (inl own) = record { first = line; behind = before; stands = s; pn = refl; task = refl; name = own }
      by (inr alike) = record { first = alike.first; behind = alike.behind; stands = stands_earlier book before alike.behind line alike.first s alike.stands; pn = alike.alike.pn; task = alike.alike.task; name = alike.name }

  -- unihashes of lines of two tasks are two
  pub texts_apart : (line other : Line) → HasLine book line → HasLine book other → (other.sig.pn ≡ line.sig.pn → other.sig.task ≡ line.sig.task → ⊥) → IsApart (hash_text line.unihash) (hash_text other.unihash)
  texts_apart line other at at' differ' =
      let a = named_in at.0 line at.1 in
      let b = named_in at'.0 other at'.1 in
      let text : hash_text line.unihash ≡ hash_text (name_of a.first.sig) = ap hash_text a.name in
      let text' : hash_text other.unihash ≡ hash_text (name_of b.first.sig) = ap hash_text b.name in
      apart_by_count (hash_text line.unihash) (hash_text other.unihash)
      (ap slashes text ∙ name_slashes (name_of a.first.sig) (name_is_name a.first.sig) ∙ sym (ap slashes text' ∙ name_slashes (name_of b.first.sig) (name_is_name b.first.sig)))
      (λ same.
      let name = same_name_text b.first.sig a.first.sig (sym text' ∙ same ∙ text) in
      let one = (one_place book b.behind a.behind b.first a.first (λ before l s. (valid before l s).new) b.stands a.stands name).1 in
      differ' (sym b.pn ∙ ap (λ (l : Line). l.sig.pn) one ∙ a.pn) (sym b.task ∙ ap (λ (l : Line). l.sig.task) one ∙ a.task))

  -- so are their objects
  objects_apart : (line other : Line) → HasLine book line → HasLine book other → (other.sig.pn ≡ line.sig.pn → other.sig.task ≡ line.sig.task → ⊥) → IsApart (object_folder line.unihash) (object_folder other.unihash)
  objects_apart line other at at' differ' = apart_under (codes "obj") (hash_text line.unihash) (hash_text other.unihash) (texts_apart line other at at' differ')

  pub keeps_output : (p : Publication) (line other : Line) (old new : Store) → IsOfTask p line → Publishes p old new → HasLine book line → HasLine book other → HasLinePlace line → HasLinePlace other → (other.sig.pn ≡ line.sig.pn → other.sig.task ≡ line.sig.task → ⊥) → KeepsOutput other old new
  keeps_output p line other old new of publishes at at' place place' differ' = record {
    folder = keeps_work p (inside other.sig.pn other.sig.task) old new
        (subst (λ (f : List ℕ). IsApart f (inside other.sig.pn other.sig.task)) (sym of.folder)
        (parts_apart line.sig.pn line.sig.task other.sig.pn other.sig.task place.pn.alone place.task.alone place'.pn.alone place'.task.alone differ'))
        publishes;
    shared = record {
      object = λ q in_it. publishes.others q (foreign_at p 111 (98 ∷ 106 ∷ 47 ∷ hash_text other.unihash) q in_it
          (λ rest below. foreign_object p rest (λ unihash is. apart_within (object_folder unihash) (object_folder other.unihash) (111 ∷ rest)
          (subst (λ (h : Hash). IsApart (object_folder h) (object_folder other.unihash)) (sym (of.object unihash is)) (objects_apart line other at at' differ')) below)));
    };
  }

-- a valid book with a line that is valid behind it
pub longer_valid : (gives : Gives) (reading : Reading) (book : Book) (line : Line) → IsValidBook gives reading book → IsValidLine gives reading book line → IsValidBook gives reading (book ++ line ∷ [])
longer_valid gives reading book line lines valid before l s = by (split_last book before line l s)
  where
    by : ((before ≡ book) × (l ≡ line)) ⊎ StandsIn book before l → IsValidLine gives reading before l
    by (inr t) = lines before l t
    by (inl e) =
        let P : Book → Type 0 = λ b. IsValidLine gives reading b l in
        let Q : Line → Type 0 = λ x. IsValidLine gives reading book x in
        subst P (sym e.0) (subst Q (sym e.1) valid)

pub others_stay : OthersStay
others_stay p line other old new of publishes gives reading book valid (inl has) has' place place' differ' = keeps_output gives reading book valid p line other old new of publishes has has' place place' differ'
others_stay p line other old new of publishes gives reading book valid (inr behind) has' place place' differ' =
    keeps_output gives reading (book ++ line ∷ []) (longer_valid gives reading book line valid behind) p line other old new of publishes
    (book, record { rest = []; is = refl })
    (has'.0, stands_further (book ++ line ∷ []) book (line ∷ []) has'.0 other refl has'.1) place place' differ'

-- ---- what is available

module _ (top f other : List ℕ) (plain : slashes top ≡ 0) (apart : IsApart f other) (held old new : Store) (same : (q : List ℕ) → IsAtOrBelow top q → IsApart (inside top f) q → new q ≡ old q) (above : (q : List ℕ) → IsBelow q (inside top f) → held q ≡ None → new q ≡ old q) where
  matches_still : (lines : List ManifestLine) → Matches held (inside top other) lines → Matches old (inside top other) lines → Matches new (inside top other) lines
  matches_still lines then' was = record { tree = was.tree; is_tree = was.is_tree; holds = tree_far top f other plain apart held old new same above was.tree then'.holds.outside was.holds; manifest = was.manifest }

pub others_in_work_stay : OthersInWorkStay
others_in_work_stay of object held old new keeps place rows s place' differ' then' was =
    let apart = parts_apart of.id.pn of.id.task s.task.id.pn s.task.id.task place.pn.alone place.task.alone place'.pn.alone place'.task.alone differ' in
    record {
      kept = was.kept;
      row = was.row;
      stored = was.stored;
      stamp = keeps.stamps (task_folder s.task) (inl apart) ∙ was.stamp;
      folder =
          let one : then'.row ≡ was.row = (let a = then'.stored.is_row in let b = was.stored.is_row in let k : Some then'.row ≡ Some was.row = sym a ∙ b in cc) in
          matches_still (codes "work") (task_folder of) (task_folder s.task) refl apart held old new keeps.work keeps.above_work was.row.manifest (subst (λ (r : EquivRow). Matches held (work_folder s.task) r.manifest) one then'.folder) was.folder;
    }

object_still : (unihash other : Hash) (object : Option Hash) (folder : List ℕ) (held old new : Store) → KeepsOthers folder object held old new → ((u : Hash) → object ≡ Some u → u ≡ unihash) → IsApart (hash_text unihash) (hash_text other) → (lines : List ManifestLine) → Matches held (object_folder other) lines → Matches old (object_folder other) lines → Matches new (object_folder other) lines
object_still unihash other object folder held old new keeps is apart lines then' was = matches_still (codes "obj") (hash_text unihash) (hash_text other) refl apart held old new same (by object refl) lines then' was
  where
    same : (q : List ℕ) → IsAtOrBelow (codes "obj") q → IsApart (object_folder unihash) q → new q ≡ old q
    same q at far' = keeps.objects q at (λ u some. subst (λ (h : Hash). IsApart (object_folder h) q) (sym (is u some)) far')

    by : (o : Option Hash) → object ≡ o → (q : List ℕ) → IsBelow q (object_folder unihash) → held q ≡ None → new q ≡ old q
    by None e q up none = keeps.objects q (in_top (codes "obj") (hash_text unihash) q refl up) (λ u some. absurd (let k : None ≡ Some u = sym e ∙ some in cc))
    by (Some u) e q up none = keeps.above_object u e q (subst (λ (h : Hash). IsBelow q (object_folder h)) (sym (is u e)) up) none

pub others_objects_stay : OthersObjectsStay
others_objects_stay line other folder object held old new keeps is gives reading book valid (inl has) has' differ' lines then' was =
    object_still line.unihash other.unihash object folder held old new keeps is (texts_apart gives reading book valid line other has has' differ') lines then' was
others_objects_stay line other folder object held old new keeps is gives reading book valid (inr behind) has' differ' lines then' was =
    object_still line.unihash other.unihash object folder held old new keeps is
    (texts_apart gives reading (book ++ line ∷ []) (longer_valid gives reading book line valid behind) line other (book, record { rest = []; is = refl }) (has'.0, stands_further (book ++ line ∷ []) book (line ∷ []) has'.0 other refl has'.1) differ') lines then' was
