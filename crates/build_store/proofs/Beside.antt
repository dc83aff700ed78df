-- Open publications beside each other: what a step of one leaves of the others.
use Rattle.std.proofs.Common.{◌≡◌, ◌≢◌, ◌∙◌, sym, ap, subst, refl, ℕ, ◌||◌, Bool, true, false, List, Option, Some, None, if◌then◌else◌}
use Rattle.std.specs.Prelude.{codes, is_none}
use Rattle.std.specs.List.{AllByRecursion}
use Rattle.std.specs.Option.{is_some}
use Rattle.std.specs.Str.{bytes_eq}
use Rattle.std.proofs.lemmas.Bool.{false≢true}
use Rattle.tree_model.specs.declared.hash.Hash.{Hash}
use Rattle.tree_model.specs.Hash.{hash_text}
use Rattle.tree_model.specs.Manifest.{manifest_lines}
use Rattle.outside_traits.specs.Passes.{Passes}
use Rattle.outside_traits.specs.Story.{IsSound, Story}
use Rattle.outside_traits.specs.Store.{IsApart, slashes}
use Rattle.outside_traits.proofs.Folders.{under_same}
use Rattle.meta_model.proofs.Bools.{text_itself}
use Rattle.meta_model.specs.CleanBuild.{Entries}
use Rattle.store_model.specs.declared.signature.EquivRow.{EquivRow}
use Rattle.store_model.specs.declared.signature.SigRecord.{SigRecord}
use Rattle.store_model.specs.Available.{task_folder}
use Rattle.store_model.specs.Paths.{record_path}
use Rattle.store_model.specs.Publication.{record_file, Publication}
use Rattle.store_model.specs.Readable.{IsRow}
use Rattle.store_model.specs.Rows.{hash_eq, new_unihash, row_at, unihash_or}
use Rattle.store_model.specs.Signatures.{Signed}
use Rattle.store_model.specs.Spelling.{key_name, name_of, signature_bytes}
use Rattle.store_model.specs.Valid.{key_file}
use Rattle.sig_gen.specs.Sound.{Spells}
use Rattle.sig_gen.proofs.ShortLaws.{signature_again}
use Rattle.store_opening.specs.Named.{IsName}
use Rattle.store_opening.proofs.Clean.{name_is_name, name_slashes}
use Rattle.build_store.specs.declared.pieces.OpenPublication.{OpenPublication}
use Rattle.build_store.specs.Drafts.{IsNewFor}
use Rattle.build_store.specs.Halves.{AreApart}
use Rattle.build_store.specs.OpenOnes.{progress_of}
use Rattle.build_store.specs.OpenTasks.{IsOpenOf}
use Rattle.build_store.specs.Pieces.{IsPublishing}
use Rattle.build_store.specs.Publication.{IsAgreed, object_for, publication, unihash_for}
use Rattle.build_store.specs.Standing.{IsClearOf, IsBeside, IsFor, IsOther, Stands, objects_meet}
use Rattle.build_store.proofs.Apart.{apart_by_count}
use Rattle.build_store.proofs.Digests.{same_digest}
use Rattle.build_store.proofs.Several.{each_two}
use Rattle.build_store.proofs.OpenStaying.{open_ones_stay}
use Rattle.build_store.proofs.Stays.{object_name}
use Rattle.store_model.proofs.Listing.{hash_itself}
use Rattle.store_model.proofs.Ordered.{each_weaker}

or_first : (a b : Bool) → (a || b) ≡ false → a ≡ false
or_first true b e = e
or_first false b e = refl

or_second : (a b : Bool) → (a || b) ≡ false → b ≡ false
or_second true b e = absurd (cc)
or_second false b e = e

-- ---- one signature

-- the bytes are the spelling of one signature
pub one_spelled : (a b : SigRecord) → Spells (signature_bytes a) a → Spells (signature_bytes b) b → signature_bytes a ≡ signature_bytes b → a ≡ b
one_spelled a b sa sb same =
    let read : Some b ≡ Some a = sym (signature_again (signature_bytes b) b sb) ∙ signature_again (signature_bytes b) a (record { sound = sa.sound; is = sym same }) in
    let again : a ≡ b = cc in
    again

-- ---- the publication of the task at hand

pub if_some : (b : Bool) (u : Hash) → is_some (if b then Some u else None) ≡ b
if_some true u = refl
if_some false u = refl

module _ (rows : List EquivRow) (o : OpenPublication) (s t : Signed) (for_s : IsFor s o) (spells : Spells (signature_bytes s.sig) s.sig) (of : IsOpenOf rows t o.tree o) where
  abbrev tree : Entries
  tree = o.tree

  sig_same : t.sig ≡ s.sig
  sig_same = one_spelled t.sig s.sig of.spells spells (sym of.sig ∙ for_s.sig)

  unihash_same : unihash_for rows t tree ≡ unihash_for rows s tree
  unihash_same = ap (λ (g : SigRecord). unihash_or (new_unihash rows (name_of g) g.pn g.task (manifest_lines tree)) (row_at rows (name_of g))) sig_same

  shared_same : t.task.sstate ≡ s.task.sstate
  shared_same = sym (if_some t.task.sstate (unihash_for rows t tree)) ∙ ap is_some (sym of.object) ∙ for_s.shared

  object_same : object_for rows t tree ≡ object_for rows s tree
  object_same = (λ i. if shared_same i then Some (unihash_same i) else None)

  -- what is open is that of the task at hand
  pub own_of : IsOpenOf rows s tree o
  own_of = record {
    folder = for_s.folder;
    name = of.name ∙ ap name_of sig_same;
    sig = for_s.sig;
    gave = refl;
    unihash = of.unihash ∙ unihash_same;
    object = of.object ∙ object_same;
    new = subst (λ (g : SigRecord). IsNewFor rows (record { task = s.task; sig = g }) tree o.new) sig_same of.new;
    spells = spells;
    agrees = subst (λ (g : SigRecord). IsAgreed rows (record { task = s.task; sig = g }) tree) sig_same of.agrees;
    fit = of.fit;
    suits = of.suits;
  }

  abbrev put_by_parts : List ℕ → SigRecord → Hash → Option Hash → Publication
  put_by_parts folder g unihash object = record {
    folder = folder;
    name = name_of g;
    file = record_file (record { sig = g; manifest = manifest_lines tree; unihash = unihash });
    is_new = is_none (row_at rows (name_of g));
    tree = tree;
    object = object;
    key = key_name g.key;
    key_file = key_file g.key;
    writes_key = false;
  }

  pub publication_same : publication rows t tree ≡ publication rows s tree
  publication_same = (λ i. put_by_parts (folder_same i) (sig_same i) (unihash_same i) (object_same i))
    where
      folder_same : task_folder t.task ≡ task_folder s.task
      folder_same = sym of.folder ∙ for_s.folder

-- ---- what others do

-- it has neither the folder of what is put nor its record nor its object
abbrev pub IsFreeOf : List EquivRow → Signed → Entries → OpenPublication → Type 0
IsFreeOf rows s tree other = (other.folder ≢ task_folder s.task) × (other.name ≢ name_of s.sig) × ((unihash : Hash) → object_for rows s tree ≡ Some unihash → other.object ≡ Some unihash → ⊥)

module _ (rows : List EquivRow) where
  pub free_of : (one other : OpenPublication) (s : Signed) → IsOpenOf rows s one.tree one → IsBeside one other → IsFreeOf rows s one.tree other
  free_of one other s of beside = (λ e. beside.0 (e ∙ sym of.folder), λ e. beside.1 (e ∙ sym of.name), λ unihash is at. beside.2 unihash (of.object ∙ is) at)

  pub all_free_of : (one : OpenPublication) (s : Signed) → IsOpenOf rows s one.tree one → (xs : List OpenPublication) → AllByRecursion (IsBeside one) xs → AllByRecursion (IsFreeOf rows s one.tree) xs
  all_free_of one s of xs all = each_weaker (IsBeside one) (IsFreeOf rows s one.tree) (λ other beside. free_of one other s of beside) xs all

  pub beside_by_free : (one : OpenPublication) (s : Signed) → IsOpenOf rows s one.tree one → (xs : List OpenPublication) → AllByRecursion (IsFreeOf rows s one.tree) xs → AllByRecursion (IsBeside one) xs
  beside_by_free one s of xs all = each_weaker (IsFreeOf rows s one.tree) (IsBeside one) (λ other free. (λ e. free.0 (e ∙ of.folder), λ e. free.1 (e ∙ of.name), λ unihash is at. free.2 unihash (sym of.object ∙ is) at)) xs all

  pub free_by : (s : Signed) (tree : Entries) (name : Hash) → name ≡ name_of s.sig → (xs : List OpenPublication) → AllByRecursion (IsOther (task_folder s.task)) xs → AllByRecursion (IsClearOf name (object_for rows s tree)) xs → AllByRecursion (IsFreeOf rows s tree) xs
  free_by s tree name is xs other apart = each_two (IsOther (task_folder s.task)) (IsClearOf name (object_for rows s tree)) (IsFreeOf rows s tree) xs other apart (λ one no meets_not. (
    λ e. false≢true (sym no ∙ ap (λ l. bytes_eq l (task_folder s.task)) e ∙ text_itself (task_folder s.task)),
    λ e. false≢true (sym (or_first (hash_eq one.name name) (objects_meet one.object (object_for rows s tree)) meets_not) ∙ hash_itself one.name name (e ∙ sym is)),
    λ unihash made at. false≢true (sym (or_second (hash_eq one.name name) (objects_meet one.object (object_for rows s tree)) meets_not) ∙ (λ i. objects_meet (at i) (made i)) ∙ hash_itself unihash unihash refl),
  ))

  module _ (s : Signed) (tree : Entries) (all : AllByRecursion IsRow rows) (two : slashes (task_folder s.task) ≡ 1) where
    pub apart_of : (other : OpenPublication) (t : Signed) → IsOpenOf rows t other.tree other → IsFreeOf rows s tree other → AreApart (publication rows s tree) (publication rows t other.tree)
    apart_of other t b free = record {
      folders = subst (IsApart (task_folder s.task)) b.folder (apart_by_count (task_folder s.task) other.folder (two ∙ sym b.fit.parts) free.0);
      names = λ same. free.1 (same_digest other.name (name_of s.sig) b.fit.name (name_is_name s.sig)
          (sym (under_same (codes "rec2") (hash_text (name_of s.sig)) (hash_text other.name) (same ∙ ap record_path (sym b.name)))));
      keys = λ writes. absurd (false≢true writes);
      objects = λ x y is_x is_y.
          let oy : other.object ≡ Some y = b.object ∙ is_y in
          let nx : IsName x = object_name rows s tree all x is_x in
          let ny : IsName y = b.fit.object y oy in
          apart_by_count (hash_text x) (hash_text y) (name_slashes x nx ∙ sym (name_slashes y ny)) (λ same. free.2 x is_x (oy ∙ ap (λ u. Some u) (same_digest y x ny nx same)));
    }

    -- whatever the publication of one does, the others stand as they did
    pub others_stand : (a b : Story) → IsSound a → Passes a b (IsPublishing (publication rows s tree) a.held) →
        (xs : List OpenPublication) → AllByRecursion (IsFreeOf rows s tree) xs → AllByRecursion (Stands rows a) xs → AllByRecursion (Stands rows b) xs
    others_stand a b sound run xs free stand = each_two (IsFreeOf rows s tree) (Stands rows a) (Stands rows b) xs free stand (λ other near stands. record {
      task = stands.task;
      on = open_ones_stay (publication rows stands.task.signed other.tree) (publication rows s tree) (progress_of other) a b sound (apart_of other stands.task.signed stands.task.of near) run stands.on;
    })
