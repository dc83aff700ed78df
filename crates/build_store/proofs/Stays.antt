-- The records of the index stay through a publication.
use Rattle.std.proofs.Common.{◌≡◌, ◌≢◌, ◌∙◌, sym, ap, subst, refl, Bool, true, false, List, [], ◌∷◌, ◌++◌, Option, Some, None}
use Rattle.std.specs.Prelude.{codes, find, is_none, if◌then◌else◌}
use Rattle.std.specs.List.{AllByRecursion}
use Rattle.std.proofs.lemmas.Bool.{false≢true}
use Rattle.tree_model.specs.declared.hash.Hash.{Hash}
use Rattle.tree_model.specs.Hash.{IsHash, hash_text}
use Rattle.std.specs.Option.{option_map}
use Rattle.tree_model.specs.Manifest.{manifest_lines}
use Rattle.outside_traits.specs.Store.{Store}
use Rattle.outside_traits.specs.Story.{IsImage, Story}
use Rattle.outside_traits.specs.Passes.{Passes}
use Rattle.outside_traits.proofs.Folders.{under_same}
use Rattle.outside_traits.proofs.Runs.{each_now}
use Rattle.meta_model.specs.CleanBuild.{Entries}
use Rattle.store_model.specs.declared.signature.EquivRow.{EquivRow}
use Rattle.store_model.specs.declared.signature.SigRecord.{SigRecord}
use Rattle.store_model.specs.Recording.{recorded}
use Rattle.store_model.specs.Rows.{hash_eq, hash_or, is_row_for, row_at, unihash_or}
use Rattle.store_model.specs.Signatures.{Signed}
use Rattle.store_model.specs.Spelling.{name_of, short_name}
use Rattle.store_model.proofs.Listing.{find_nothing, find_splits, hash_itself}
use Rattle.store_model.proofs.Ordered.{each_append, each_middle}
use Rattle.store_opening.specs.Named.{IsName}
use Rattle.store_opening.specs.Paths.{IsLaidOut}
use Rattle.store_model.specs.Paths.{key_path, record_path}
use Rattle.store_model.specs.Publication.{Publication}
use Rattle.build_store.specs.Publication.{IsForeign, Publishes, object_for, publication, unihash_for}
use Rattle.store_model.specs.Readable.{IsHeld, IsRow}
use Rattle.store_opening.specs.Sound.{IsKept}
use Rattle.store_opening.proofs.Areas.{apart_by_first, differ, heads_differ}
use Rattle.store_opening.proofs.Clean.{hash_is_name, name_is_name, short_is_name}
use Rattle.build_store.proofs.Digests.{same_digest}
use Rattle.build_store.proofs.Rows.{row_has}

-- ---- unihashes are digests

row_unihash : (row : EquivRow) → IsRow row → IsName row.unihash
row_unihash row known = hash_is_name row.unihash (subst (λ (h : Hash). IsHash h) (ap (λ r. r.unihash) (sym known.is)) known.spelled.unihash)

pub unihash_name : (rows : List EquivRow) (s : Signed) (tree : Entries) → AllByRecursion IsRow rows → IsName (unihash_for rows s tree)
unihash_name rows s tree all = by (row_at rows (name_of s.sig)) refl
  where
    first : (o : Option EquivRow) → find (is_row_for s.sig.pn s.sig.task (manifest_lines tree)) rows ≡ o → IsName (hash_or (name_of s.sig) (option_map (λ (r : EquivRow). r.unihash) o))
    first None e = name_is_name s.sig
    first (Some row) e =
        let found = find_splits (is_row_for s.sig.pn s.sig.task (manifest_lines tree)) rows row e in
        row_unihash row (each_middle IsRow found.0.front row found.0.rest (subst (AllByRecursion IsRow) found.0.is all))

    by : (o : Option EquivRow) → row_at rows (name_of s.sig) ≡ o → IsName (unihash_or (recorded rows s tree).unihash o)
    by None e = first (find (is_row_for s.sig.pn s.sig.task (manifest_lines tree)) rows) refl
    by (Some row) e = row_unihash row (row_has IsRow rows (name_of s.sig) row all e)

pub object_name : (rows : List EquivRow) (s : Signed) (tree : Entries) → AllByRecursion IsRow rows → (unihash : Hash) → object_for rows s tree ≡ Some unihash → IsName unihash
object_name rows s tree all unihash is = by s.task.sstate is
  where
    by : (b : Bool) → (if b then Some (unihash_for rows s tree) else None) ≡ Some unihash → IsName unihash
    by true e = let same : unihash_for rows s tree ≡ unihash = cc in subst IsName same (unihash_name rows s tree all)
    by false e = let k : None ≡ Some unihash = e in absurd (cc)

-- ---- records stay

pub each_both : {A : Type 0} (P Q R : A → Type 0) (xs : List A) → AllByRecursion P xs → AllByRecursion Q xs → ((x : A) → P x → Q x → R x) → AllByRecursion R xs
each_both P Q R [] p q both = tt
each_both P Q R (x ∷ xs) p q both = (both x p.0 q.0, each_both P Q R xs p.1 q.1 both)

-- where no row has the name of a signature, no row's record stands where that of the signature does
abbrev pub IsOther : Bool → Hash → EquivRow → Type 0
IsOther new name row = new ≡ true → record_path row.name ≢ record_path name

others_are : (rows : List EquivRow) (sig : SigRecord) → AllByRecursion IsRow rows → AllByRecursion (IsOther (is_none (row_at rows (name_of sig))) (name_of sig)) rows
others_are rows sig all = by (row_at rows (name_of sig)) refl
  where
    old : (row : EquivRow) (xs : List EquivRow) → AllByRecursion (IsOther (is_none (Some row)) (name_of sig)) xs
    old row [] = tt
    old row (x ∷ xs) = (λ new. absurd (false≢true new), old row xs)

    by : (o : Option EquivRow) → row_at rows (name_of sig) ≡ o → AllByRecursion (IsOther (is_none o) (name_of sig)) rows
    by (Some row) e = old row rows
    by None e = each_both IsRow (λ r. hash_eq r.name (name_of sig) ≡ false) (IsOther true (name_of sig)) rows all (find_nothing (λ r. hash_eq r.name (name_of sig)) rows e)
        (λ row known not new same.
        let text : hash_text row.name ≡ hash_text (name_of sig) = under_same (codes "rec2") (hash_text row.name) (hash_text (name_of sig)) same in
        let name : row.name ≡ short_name known.stored.sig = ap (λ r. r.name) known.is in
        let equal : row.name ≡ name_of sig = name ∙ same_digest (short_name known.stored.sig) (name_of sig) (short_is_name known.stored.sig) (name_is_name sig) (ap hash_text (sym name) ∙ text) in
        false≢true (sym not ∙ hash_itself row.name (name_of sig) equal))

-- a key that isn't written is foreign to a publication
pub foreign_key_path : (p : Publication) (name : Hash) → (p.writes_key ≡ true → key_path name ≢ key_path p.key) → IsForeign p (key_path name)
foreign_key_path p name other = record {
  temporary = λ below. heads_differ (differ 107 116 refl) below.1;
  work = apart_by_first (101 ∷ 121 ∷ 47 ∷ hash_text name) (111 ∷ 114 ∷ 107 ∷ 47 ∷ p.folder) (differ 107 119 refl);
  stamp = apart_by_first (101 ∷ 121 ∷ 47 ∷ hash_text name) (116 ∷ 97 ∷ 109 ∷ 112 ∷ 47 ∷ p.folder) (differ 107 115 refl);
  stored = λ new. heads_differ (differ 107 114 refl);
  key = other;
  shared = λ unihash is. apart_by_first (101 ∷ 121 ∷ 47 ∷ hash_text name) (98 ∷ 106 ∷ 47 ∷ hash_text unihash) (differ 107 111 refl);
}

-- each record that isn't the publication's own stays, and its key, where none is written
pub held_stays : (p : Publication) (rows : List EquivRow) (i k : Store) → p.writes_key ≡ false → AllByRecursion (IsOther p.is_new p.name) rows → Publishes p i k → AllByRecursion (IsHeld i) rows → AllByRecursion (IsHeld k) rows
held_stays p rows i k no_key others publishes all = each_both (IsHeld i) (IsOther p.is_new p.name) (IsHeld k) rows all others (λ row h other. record {
  known = h.known;
  held = publishes.others (record_path row.name) (record {
    temporary = λ below. heads_differ (differ 114 116 refl) below.1;
    work = apart_by_first (101 ∷ 99 ∷ 50 ∷ 47 ∷ hash_text row.name) (111 ∷ 114 ∷ 107 ∷ 47 ∷ p.folder) (differ 114 119 refl);
    stamp = apart_by_first (101 ∷ 99 ∷ 50 ∷ 47 ∷ hash_text row.name) (116 ∷ 97 ∷ 109 ∷ 112 ∷ 47 ∷ p.folder) (differ 114 115 refl);
    stored = other;
    key = λ writes. heads_differ (differ 114 107 refl);
    shared = λ unihash is. apart_by_first (101 ∷ 99 ∷ 50 ∷ 47 ∷ hash_text row.name) (98 ∷ 106 ∷ 47 ∷ hash_text unihash) (differ 114 111 refl);
  }) ∙ h.held;
  key_held = publishes.others (key_path h.known.stored.sig.key) (foreign_key_path p h.known.stored.sig.key (λ writes. absurd (false≢true (sym no_key ∙ writes)))) ∙ h.key_held;
})

module _ (rows : List EquivRow) (s : Signed) (tree : Entries) (all : AllByRecursion IsRow rows) where
  pub kept_after : (a b : Story) → IsKept rows a → Passes a b (Publishes (publication rows s tree)) → IsLaidOut b.held → IsKept rows b
  kept_after a b was run laid = record {
    laid_out = laid;
    stored = each_now (λ i. AllByRecursion (IsHeld i) rows) (λ k. AllByRecursion (IsHeld k) rows) was.stored run (λ i k held publishes. held_stays (publication rows s tree) rows i k refl (others_are rows s.sig all) publishes held);
  }

-- and one more
pub kept_more : (rows : List EquivRow) (row : EquivRow) (b : Story) → IsKept rows b → ((image : Store) → IsImage b image → IsHeld image row) → IsKept (rows ++ row ∷ []) b
kept_more rows row b was new = record { laid_out = was.laid_out; stored = λ image img. each_append (IsHeld image) rows (row ∷ []) (was.stored image img) (new image img, tt) }
