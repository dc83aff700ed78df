-- A restoring is opened as the publication of the same task, as one without an object.
use Rattle.std.proofs.Common.{◌≡◌, ◌∙◌, sym, ap, subst, refl, ℕ, Bool, true, false, List, [], ◌∷◌, ◌++◌, inl, inr, Option, Some, None, Result, Ok, Err, OnOk}
use Rattle.std.specs.Prelude.{Contains, IfOk, IfSome, MatchOption, is_none, if◌then◌else◌}
use Rattle.std.specs.Bool.{OnTrue}
use Rattle.tree_model.specs.declared.manifest.ManifestLine.{ManifestLine}
use Rattle.tree_model.specs.Manifest.{manifest_lines}
use Rattle.outside_traits.specs.Passes.{Passes, Same}
use Rattle.outside_traits.specs.Store.{HoldsTree, Store}
use Rattle.outside_traits.specs.Story.{Story}
use Rattle.outside_traits.proofs.Calls.{same_so, same_then}
use Rattle.outside_traits.proofs.Runs.{passes_so}
use Rattle.meta_model.specs.CleanBuild.{Entries}
use Rattle.store_model.specs.declared.signature.EquivRow.{EquivRow}
use Rattle.store_model.specs.Available.{IsStored, Matches, object_folder, task_folder}
use Rattle.store_model.specs.Publication.{record_file}
use Rattle.store_model.specs.Rows.{row_at, unihash_or}
use Rattle.store_model.specs.Signatures.{Signed}
use Rattle.store_model.specs.Recording.{recorded}
use Rattle.store_model.specs.Spelling.{key_bytes, key_name, name_of, signature_bytes}
use Rattle.store_model.specs.Valid.{key_file, stored_of}
use Rattle.record_move.specs.Known.{key_named}
use Rattle.build_store.specs.declared.fault.StoreFault.{StoreFault}
use Rattle.build_store.specs.declared.fault.StoreFault.TheVariants as fault
use Rattle.build_store.specs.declared.restoring.FoundObject.{FoundObject}
use Rattle.build_store.specs.Faults.{IsClash, IsRefusal}
use Rattle.build_store.specs.Keys.{KnowsKeyOf, KnowsRows, is_new_key, keys_with}
use Rattle.build_store.specs.Openings.{OpensOne, OpensRestoring, OpensTask, open_view}
use Rattle.build_store.specs.Pieces.{IsPublishing}
use Rattle.build_store.specs.Publication.{HasNoObject, IsAgreed, IsObjectOf, KeepsOthers, Restores, first_publication, line_for, publication, restoration, stored_for}
use Rattle.build_store.specs.Restoring.{IsFound, IsFoundBy, IsFoundIn, IsObject, RestoringIsPublishing}
use Rattle.build_store.specs.View.{OpenViews, SameBooks, View, kept_with, opened_at, unshared}
use Rattle.store_model.specs.Readable.{IsReadable}
use Rattle.build_store.proofs.KnownKeys.{known_one}
use Rattle.build_store.proofs.Rounding.{others_same}
use Rattle.build_store.proofs.Rows.{row_has}
use Rattle.build_store.proofs.Texts.{text_key_is}

-- ---- what is put

pub restoring_is_publishing : RestoringIsPublishing
restoring_is_publishing rows s row tree at manifest =
    let by : record_file (stored_of (line_for rows (unshared s) tree)) ≡ record_file (record { sig = s.sig; manifest = manifest_lines tree; unihash = row.unihash }) =
    ap (λ (x : Option EquivRow). record_file (record { sig = s.sig; manifest = manifest_lines tree; unihash = unihash_or (recorded rows (unshared s) tree).unihash x })) at in
    let file : record_file (stored_of (line_for rows (unshared s) tree)) ≡ record_file (stored_for s.sig row) =
    by ∙ ap (λ (m : List ManifestLine). record_file (record { sig = s.sig; manifest = m; unihash = row.unihash })) (sym manifest) in
    let new : is_none (row_at rows (name_of s.sig)) ≡ false = ap is_none at in
    λ i. record { folder = task_folder s.task; name = name_of s.sig; file = file i; is_new = new i; tree = tree; object = None; key = key_name s.sig.key; key_file = key_file s.sig.key; writes_key = false }

-- ---- an object is found

same_row : (rows : List EquivRow) (s : Signed) (row other : EquivRow) → row_at rows (name_of s.sig) ≡ Some row → row_at rows (name_of s.sig) ≡ Some other → other ≡ row
same_row rows s row other is at = let p = is in let q = at in cc

pub found_of : (held : Store) (rows : List EquivRow) (s : Signed) (row : EquivRow) → row_at rows (name_of s.sig) ≡ Some row → row.sig ≡ signature_bytes s.sig → (found : Option FoundObject) →
    MatchOption found (Matches held (object_folder row.unihash) row.manifest → ⊥) (λ f. IsObject row held f.tree) → IsFoundIn held rows s found
found_of held rows s row is sig None never = λ other tree o.
    let same : other ≡ row = same_row rows s row other is o.stored.is_row in
    never (record {
      tree = tree;
      is_tree = o.is_tree;
      holds = subst (λ (r : EquivRow). HoldsTree (object_folder r.unihash) tree held) same o.holds;
      manifest = ap (λ (r : EquivRow). r.manifest) (sym same) ∙ o.manifest;
    })
found_of held rows s row is sig (Some f) o = (row, record { stored = record { is_row = is; sig = sig }; is_tree = o.is_tree; holds = o.holds; manifest = o.manifest })

-- no row has the name, so there is no object
pub found_none : (held : Store) (rows : List EquivRow) (s : Signed) → row_at rows (name_of s.sig) ≡ None → HasNoObject held rows s
found_none held rows s none other tree o = let p = none in let q = o.stored.is_row in absurd (cc)

-- by whatever was answered of the row
module _ (rows : List EquivRow) (s : Signed) (row : EquivRow) (is : row_at rows (name_of s.sig) ≡ Some row) where
  pub all_stored : (r : Result (Option FoundObject) StoreFault) → OnOk r (row.sig ≡ signature_bytes s.sig) → IfOk r (λ found. IfSome found (IsFoundBy row)) →
      IfOk r (λ found. IfSome found (λ f. (other : EquivRow) × IsStored rows s other × IsFoundBy other f))
  all_stored (Ok None) sig by = tt
  all_stored (Ok (Some f)) sig by = (row, record { is_row = is; sig = sig }, by)
  all_stored (Err e) sig by = tt

  pub all_found : (held : Store) (r : Result (Option FoundObject) StoreFault) → OnOk r (row.sig ≡ signature_bytes s.sig) →
      IfOk r (λ found. MatchOption found (Matches held (object_folder row.unihash) row.manifest → ⊥) (λ f. IsObject row held f.tree)) → IfOk r (IsFoundIn held rows s)
  all_found held (Ok found) sig by = found_of held rows s row is sig found by
  all_found held (Err e) sig by = tt

-- the key of a row that is stored is known, and no other one under its name
module _ (keys : List (List ℕ)) (rows : List EquivRow) (s : Signed) (row : EquivRow) (knows : KnowsRows keys rows) (stored : IsStored rows s row) where
  its_key : KnowsKeyOf keys (signature_bytes s.sig)
  its_key = subst (λ (t : List ℕ). KnowsKeyOf keys t) stored.sig (row_has (λ (r : EquivRow). KnowsKeyOf keys r.sig) rows (name_of s.sig) row knows stored.is_row)

  not_new : is_new_key keys s.sig ≡ false
  not_new = ap (λ n. is_none (key_named keys n)) (sym (text_key_is s.sig)) ∙ ap is_none its_key

  pub found_known : (found : FoundObject) → IsFoundBy row found → IsFound rows keys s found
  found_known found by = record { row = row; stored = stored; by_row = by; known = not_new; one_key = known_one keys s.sig its_key }

pub all_known : (keys : List (List ℕ)) (rows : List EquivRow) (s : Signed) → KnowsRows keys rows → (r : Result (Option FoundObject) StoreFault) →
    IfOk r (λ found. IfSome found (λ f. (row : EquivRow) × IsStored rows s row × IsFoundBy row f)) → IfOk r (λ found. IfSome found (IsFound rows keys s))
all_known keys rows s knows (Ok None) by = tt
all_known keys rows s knows (Ok (Some f)) by = found_known keys rows s by.0 knows by.1 f by.2
all_known keys rows s knows (Err e) by = tt

-- ---- a restoring is opened

module _ (rows : List EquivRow) (keys : List (List ℕ)) (s : Signed) (found : FoundObject) (is : IsFound rows keys s found) where
  pub its_manifest : is.row.manifest ≡ manifest_lines found.tree
  its_manifest = is.by_row.manifest ∙ is.by_row.listed

  -- it is refused only where the row of the name has another signature
  pub refused_by : (f : StoreFault) → IsRefusal rows keys (unshared s) found.tree f → IsClash rows (name_of s.sig) (signature_bytes s.sig) f
  refused_by fault.Disk r = tt
  refused_by fault.Memory r = tt
  refused_by (fault.Collision name held given) r = elim r [
    | inl clash ↦ clash
    | inr k ↦ absurd (k.differ (is.one_key held (ap (key_named keys) (sym k.name_is) ∙ k.held_is) ∙ sym k.given_is))
  ]
  refused_by (fault.Unsteady pn task held given) u = absurd (u.differ (ap (λ (r : EquivRow). r.manifest) (same_row rows s is.row u.row is.stored.is_row u.is_row) ∙ its_manifest))

  -- no key is written
  pub same_keys : keys_with keys s.sig ≡ keys
  same_keys = ap (λ (b : Bool). if b then keys ++ key_bytes s.sig.key ∷ [] else keys) is.known

  pub put_is : (row : EquivRow) → row_at rows (name_of s.sig) ≡ Some row → first_publication keys rows (unshared s) found.tree ≡ restoration s row found.tree
  put_is row at =
      let same : row ≡ is.row = same_row rows s is.row row is.stored.is_row at in
      ap (λ (b : Bool). record (publication rows (unshared s) found.tree) { writes_key = b }) is.known
      ∙ restoring_is_publishing rows s row found.tree at (ap (λ (r : EquivRow). r.manifest) same ∙ its_manifest)

  -- it is the object that was found
  pub its_object : (held : Store) → IsFoundIn held rows s (Some found) → IsObjectOf held rows s is.row found.tree
  its_object held w = subst (λ (r : EquivRow). IsObjectOf held rows s r found.tree) (same_row rows s is.row w.0 is.stored.is_row w.1.stored.is_row) w.1

-- what only looks leaves what others have
pub others_looked : (folder : List ℕ) (a b : Story) → Passes a b Same → Passes a b (KeepsOthers folder None a.held)
others_looked folder a b looked = same_so (KeepsOthers folder None a.held) (others_same folder None a.held) looked

-- what is put is put behind a look
module _ (s : Signed) (row : EquivRow) (tree : Entries) (rows : List EquivRow) (a b c : Story) (looked : Passes a b Same) (object : IsObjectOf a.held rows s row tree) (run : Passes b c (IsPublishing (restoration s row tree) b.held)) where
  pub restores_behind : Passes a c (Restores a.held rows s)
  restores_behind = same_then (λ i. inl refl) looked (passes_so (Restores a.held rows s) run (λ i j p. inr (record { row = row; tree = tree; object = object; publishes = p.own })))

  pub others_behind : Passes a c (KeepsOthers (task_folder s.task) None a.held)
  others_behind = same_then (others_same (task_folder s.task) None a.held) looked (passes_so (KeepsOthers (task_folder s.task) None a.held) run (λ i j p. subst (λ (h : Store). KeepsOthers (task_folder s.task) None h i j) looked.held p.others))

-- opened behind a look it is opened
pub opens_behind : {D : Type 0} (old mid new : View D) (s : Signed) (tree : Entries) → SameBooks old mid → OpensTask mid new s tree → OpensTask old new s tree
opens_behind old mid new s tree same opens = record {
  opened = subst (λ v. Opened v) same.opened opens.opened;
  kept = opens.kept ∙ ap (λ k. kept_with s k) same.kept;
  keys = opens.keys ∙ ap (λ k. keys_with k s.sig) same.keys;
  one_key = λ row has. opens.one_key row (subst (λ (l : List EquivRow). Contains l row) (sym same.rows) has);
  beside = λ folder one at. opens.beside folder one (ap (λ v. opened_at v folder) same.opened ∙ at);
  faultless = opens.faultless ∙ same.faultless;
  agrees = subst (λ (l : List EquivRow). IsAgreed l s tree) same.rows opens.agrees;
  readable = subst (λ (l : List EquivRow). IsReadable (line_for l s tree)) same.rows opens.readable;
}
  where
    Opened : OpenViews → Type 0
    Opened v = OpensOne (task_folder s.task) (open_view s tree) v new.opened

pub opened_all : {D : Type 0} (tells : Type 0) (story : D → Story) (old mid new : View D) (s : Signed) (found : FoundObject) → SameBooks old mid → (is : IsFound old.rows old.keys s found) → (tells → IsObjectOf (story old.disk).held old.rows s is.row found.tree) →
    (r : Result Bool StoreFault) → IfOk r (λ opens. (opens ≡ true) × OpensTask mid new (unshared s) found.tree) → IfOk r (λ opens. OnTrue opens (OpensRestoring tells story old new s))
opened_all tells story old mid new s found same is object (Ok true) w = record {
  row = is.row;
  tree = found.tree;
  opens = opens_behind old mid new (unshared s) found.tree same w.1;
  stored = is.stored;
  manifest = its_manifest old.rows old.keys s found is;
  object = object;
}
opened_all tells story old mid new s found same is object (Ok false) w = tt
opened_all tells story old mid new s found same is object (Err e) w = tt
