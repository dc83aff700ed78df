-- The line of a publication, and what stores are valid with during it and behind it.
use Rattle.std.proofs.Common.{◌≡◌, ◌∙◌, sym, ap, refl, ℕ, ◌⊎◌, inl, inr, Bool, true, false, List, [], ◌∷◌, ◌++◌, map, Some, None, Result, Ok, append-nil, zero, suc, take}
use Rattle.std.specs.Prelude.{Option, is_none, if◌then◌else◌}
use Rattle.std.specs.Str.{bytes_eq}
use Rattle.std.specs.List.{AllByRecursion, slice_get}
use Rattle.std.proofs.lemmas.List.{map-append}
use Rattle.tree_model.specs.declared.hash.Hash.{Hash}
use Rattle.tree_model.specs.Hash.{hash_text}
use Rattle.tree_model.specs.Manifest.{manifest_lines}
use Rattle.tree_model.specs.Path.{inside}
use Rattle.tree_model.specs.Tree.{entry_at}
use Rattle.outside_traits.specs.Store.{Store}
use Rattle.meta_model.proofs.Bools.{either_way, same_text}
use Rattle.meta_model.specs.declared.plan.PlanTask.{PlanTask}
use Rattle.meta_model.specs.CleanBuild.{Built, Entries, Gives, Lack, clean_build}
use Rattle.plan_model.proofs.Reached.{all_at}
use Rattle.store_model.specs.declared.signature.EquivRow.{EquivRow}
use Rattle.store_model.specs.Origins.{Book, Line, Reading, row_of, rows_of}
use Rattle.store_model.specs.Premises.{HasOneSignature}
use Rattle.store_model.specs.Recording.{NeedsHaveRows, recorded}
use Rattle.store_model.specs.Reuse.{MayReuse}
use Rattle.store_model.specs.Rows.{row_at, unihash_or}
use Rattle.store_model.specs.Signatures.{Signed, signatures}
use Rattle.store_model.specs.Spelling.{key_name, name_of}
use Rattle.store_model.specs.Valid.{IsValid, IsValidBook, IsValidLine, key_file, record_entry, stored_of}
use Rattle.store_model.proofs.Digests.{same_name_text}
use Rattle.store_model.proofs.Listing.{find_behind, hash_itself, hash_other}
use Rattle.store_model.proofs.Ordered.{map_each}
use Rattle.store_model.proofs.Recording.{line_is_valid, stage}
use Rattle.store_model.proofs.Reusing.{reuse_is_clean}
use Rattle.store_model.proofs.Standing.{each_line, row_found, row_none}
use Rattle.store_model.specs.Lines.{HasLine}
use Rattle.build_store.specs.Laws.{IsOfLine, IsOfTask}
use Rattle.store_model.specs.Paths.{record_path}
use Rattle.build_store.specs.Publication.{line_for, publication, rows_with, unihash_for}
use Rattle.store_model.specs.Publication.{Publication, record_file}

-- ---- records of a book

no_entry : (name : Hash) (book : Book) → AllByRecursion (λ (l : Line). bytes_eq (hash_text (name_of l.sig)) (hash_text name) ≡ false) book → entry_at (map record_entry book) (hash_text name) ≡ None
no_entry name [] all = refl
no_entry name (l ∷ book) all = let first = all.0 in simp first (no_entry name book all.1)

-- where no line has the name of a signature, no record is held under it
pub no_record : (gives : Gives) (reading : Reading) (image : Store) (book : Book) (sig : Rattle.store_model.specs.declared.signature.SigRecord.SigRecord) → IsValid gives reading image book → row_at (rows_of book) (name_of sig) ≡ None → image (record_path (name_of sig)) ≡ None
no_record gives reading image book sig valid none =
    valid.records (hash_text (name_of sig))
    ∙ no_entry (name_of sig) book (each_line (λ (l : Line). bytes_eq (hash_text (name_of l.sig)) (hash_text (name_of sig)) ≡ false) book (λ before l s. elim (either_way (bytes_eq (hash_text (name_of l.sig)) (hash_text (name_of sig)))) [
      | inl t ↦ absurd (row_none book (name_of sig) none before l s (same_name_text l.sig sig (same_text (hash_text (name_of l.sig)) (hash_text (name_of sig)) t)))
      | inr f ↦ f
    ]))

object_is : (b : Bool) (h u : Hash) → (if b then Some h else None) ≡ Some u → u ≡ h
object_is true h u e = let k : Some h ≡ Some u = e in cc
object_is false h u e = let k : None ≡ Some u = e in absurd (cc)

-- a line stands in its book once
pub not_twice : (gives : Gives) (reading : Reading) (book : Book) (line : Line) → HasLine book line → IsValidBook gives reading (book ++ line ∷ []) → ⊥
not_twice gives reading book line has valid = (valid book line (record { rest = []; is = refl })).new has.0 line has.1 refl

-- the row of a line that comes behind a book in which none has its name
pub row_last : (book : Book) (line : Line) → row_at (rows_of book) (name_of line.sig) ≡ None → row_at (rows_of (book ++ line ∷ [])) (name_of line.sig) ≡ Some (row_of line)
row_last book line none =
    ap (λ (r : List EquivRow). row_at r (name_of line.sig)) (map-append row_of book (line ∷ []))
    ∙ find_behind (λ r. Rattle.store_model.specs.Rows.hash_eq r.name (name_of line.sig)) (rows_of book) (row_of line) []
    (map_each row_of (λ (r : EquivRow). Rattle.store_model.specs.Rows.hash_eq r.name (name_of line.sig) ≡ false) book
    (each_line (λ (l : Line). Rattle.store_model.specs.Rows.hash_eq (name_of l.sig) (name_of line.sig) ≡ false) book (λ before l s. hash_other (name_of l.sig) (name_of line.sig) (row_none book (name_of line.sig) none before l s))))
    (hash_itself (name_of line.sig) (name_of line.sig) refl)

-- The line of a publication: it stands in the book, or comes behind it, as `more` says.
pub record IsPut (gives : Gives) (reading : Reading) (book : Book) (p : Publication) (s : Signed) (tree : Entries) : Type 0 where
  pub line : Line
  pub more : Book
  pub of : IsOfLine p line
  pub of_task : IsOfTask p line
  pub sig : line.sig ≡ s.sig
  pub pn : line.sig.pn ≡ s.task.id.pn
  pub task : line.sig.task ≡ s.task.id.task
  pub manifest : line.manifest ≡ manifest_lines tree
  pub unihash : line.unihash ≡ unihash_for (rows_of book) s tree
  pub stands : (HasLine book line × (more ≡ []) × (p.is_new ≡ false)) ⊎ (IsValidLine gives reading book line × (more ≡ line ∷ []) × (row_at (rows_of book) (name_of s.sig) ≡ None) × (line ≡ recorded (rows_of book) s tree))
  pub rows : rows_with (rows_of book) s tree ≡ rows_of (book ++ more)
  pub row : row_at (rows_of (book ++ more)) (name_of s.sig) ≡ Some (row_of line)

module _ (gives : Gives) (reading : Reading) (held : Store) (book : Book) (tasks : List PlanTask) (may : MayReuse gives reading held book tasks) (t : ℕ) (s : Signed) (built : Built)
    (is_s : slice_get (signatures (rows_of book) tasks) t ≡ Some s) (is_b : slice_get (clean_build gives tasks) t ≡ Some built) (needs : NeedsHaveRows (rows_of book) (signatures (rows_of book) tasks) s.task) (tree : Entries) (clean : built.outcome ≡ Ok tree) where
  abbrev Rows : List EquivRow
  Rows = rows_of book

  abbrev pub p : Publication
  p = publication (rows_of book) s tree

  sig_pn : s.sig.pn ≡ s.task.id.pn
  sig_pn = ap (λ g. g.pn) (stage gives reading held book tasks may t s built is_s is_b).is_sig

  sig_task : s.sig.task ≡ s.task.id.task
  sig_task = ap (λ g. g.task) (stage gives reading held book tasks may t s built is_s is_b).is_sig

  put_new : row_at (rows_of book) (name_of s.sig) ≡ None → IsPut gives reading book (publication (rows_of book) s tree) s tree
  put_new none =
      let line : Line = recorded (rows_of book) s tree in
      let unihash : unihash_for (rows_of book) s tree ≡ line.unihash = ap (λ (r : Option EquivRow). unihash_or (recorded (rows_of book) s tree).unihash r) none in
      let same : line_for (rows_of book) s tree ≡ recorded (rows_of book) s tree = λ i. record { sig = s.sig; files = s.task.files; manifest = manifest_lines tree; unihash = unihash i } in
      record {
        line = line;
        more = line ∷ [];
        of = record { name = refl; file = ap (λ (l : Line). record_file (stored_of l)) same; key = refl; key_file = refl };
        of_task = record { folder = λ i. inside (sym sig_pn i) (sym sig_task i); object = λ u is. object_is s.task.sstate (unihash_for (rows_of book) s tree) u is ∙ unihash };
        sig = refl;
        pn = sig_pn;
        task = sig_task;
        manifest = refl;
        unihash = sym unihash;
        stands = inr (line_is_valid gives reading held book tasks may t s built is_s is_b needs tree clean none, refl, none, refl);
        rows = ap (λ (r : Option EquivRow). if is_none r then rows_of book ++ row_of (line_for (rows_of book) s tree) ∷ [] else rows_of book) none
            ∙ ap (λ (l : Line). rows_of book ++ row_of l ∷ []) same ∙ sym (map-append row_of book (line ∷ []));
        row = row_last book line none;
      }

  put_known : (row : EquivRow) → row_at (rows_of book) (name_of s.sig) ≡ Some row → IsPut gives reading book (publication (rows_of book) s tree) s tree
  put_known row some =
      let f = row_found book (name_of s.sig) row some in
      let line : Line = f.1 in
      let sig : line.sig ≡ s.sig = all_at (HasOneSignature book) (signatures (rows_of book) tasks) may.no_collision t s is_s f.0 line f.2 f.4 in
      let reused = reuse_is_clean gives reading held book tasks may t s built is_s is_b f.0 line f.2 f.4 in
      let trees : ◌≡◌ {A = Result Entries Lack} (Ok reused.tree) (Ok tree) = sym reused.clean ∙ clean in
      let one : reused.tree ≡ tree = cc in
      let manifest : line.manifest ≡ manifest_lines tree = reused.manifest ∙ ap manifest_lines one in
      let unihash : unihash_for (rows_of book) s tree ≡ line.unihash = ap (λ (r : Option EquivRow). unihash_or (recorded (rows_of book) s tree).unihash r) some ∙ ap (λ (r : EquivRow). r.unihash) (sym f.3) in
      record {
        line = line;
        more = [];
        of = record { name = sym f.4; file = λ i. record_file (record { sig = sym sig i; manifest = sym manifest i; unihash = unihash i }); key = λ i. key_name (sym sig i).key; key_file = λ i. key_file (sym sig i).key };
        of_task = record { folder = λ i. inside (sym (ap (λ g. g.pn) sig ∙ sig_pn) i) (sym (ap (λ g. g.task) sig ∙ sig_task) i); object = λ u is. object_is s.task.sstate (unihash_for (rows_of book) s tree) u is ∙ unihash };
        sig = sig;
        pn = ap (λ g. g.pn) sig ∙ sig_pn;
        task = ap (λ g. g.task) sig ∙ sig_task;
        manifest = manifest;
        unihash = sym unihash;
        stands = inl ((f.0, f.2), refl, ap (λ (r : Option EquivRow). is_none r) some);
        rows = ap (λ (r : Option EquivRow). if is_none r then rows_of book ++ row_of (line_for (rows_of book) s tree) ∷ [] else rows_of book) some ∙ ap rows_of (sym (append-nil book));
        row = ap (λ (b : Book). row_at (rows_of b) (name_of s.sig)) (append-nil book) ∙ some ∙ ap (λ (r : EquivRow). Some r) (sym f.3);
      }

  pub put_line : IsPut gives reading book (publication (rows_of book) s tree) s tree
  put_line = by (row_at (rows_of book) (name_of s.sig)) refl
    where
      by : (r : Option EquivRow) → row_at (rows_of book) (name_of s.sig) ≡ r → IsPut gives reading book (publication (rows_of book) s tree) s tree
      by None e = put_new e
      by (Some row) e = put_known row e

-- ---- what stores are valid with

module _ (gives : Gives) (reading : Reading) (book : Book) (s : Signed) (tree : Entries) (put : IsPut gives reading book (publication (rows_of book) s tree) s tree) where
  abbrev q : Publication
  q = publication (rows_of book) s tree

  -- the line, as the laws of publications ask for it
  pub which : HasLine book put.line ⊎ IsValidLine gives reading book put.line
  which = elim put.stands [ inl known ↦ inl known.0 | inr new ↦ inr new.0 ]

-- ---- fronts of longer lists

pub front_again : {A : Type 0} (c : ℕ) (xs ys : List A) → (d : ℕ) × (take d (xs ++ ys) ≡ take c xs)
front_again zero xs ys = (0, refl)
front_again (suc c) [] ys = (0, refl)
front_again (suc c) (x ∷ xs) ys = let r = front_again c xs ys in (suc r.0, ap (λ l. x ∷ l) r.1)
