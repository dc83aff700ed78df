-- The old records that are read are those of the book of the first format.
use Rattle.std.proofs.Common.{◌≡◌, ◌∙◌, sym, ap, subst, refl, ℕ, zero, suc, Bool, true, false, List, [], ◌∷◌, map, None, Some, inl, inr, arith}
use Rattle.std.specs.Prelude.{slice_get}
use Rattle.std.specs.List.{AllByRecursion}
use Rattle.std.specs.Option.{option_map}
use Rattle.std.specs.Str.{bytes_eq}
use Rattle.std.proofs.lemmas.List.{length-map, map-append}
use Rattle.std.proofs.lemmas.Option.{slice_get-get_or, slice_get-map, slice_get_within}
use Rattle.sha2.proofs.Facts256.{length-sha256}
use Rattle.tree_model.specs.declared.entry.Entry.{Entry}
use Rattle.tree_model.specs.declared.entry.Entry.TheVariants.{File}
use Rattle.tree_model.specs.Hash.{hash_text}
use Rattle.tree_model.specs.Tree.{entry_at}
use Rattle.outside_traits.specs.Store.{Store}
use Rattle.meta_model.proofs.Bools.{either_way, same_text, text_itself}
use Rattle.meta_model.specs.CleanBuild.{Gives}
use Rattle.store_model.specs.declared.candidate.Candidate.{Candidate}
use Rattle.store_model.specs.declared.signature.SigRecord.{SigRecord}
use Rattle.store_model.specs.Lines.{HasLine}
use Rattle.store_model.specs.Origins.{Book, Line, Reading}
use Rattle.store_model.specs.Spelling.{short_stored_of}
use Rattle.store_model.specs.Valid.{StandsIn, stored_of}
use Rattle.store_model.proofs.Listing.{find_behind}
use Rattle.store_model.proofs.Ordered.{each_middle, map_each}
use Rattle.store_model.proofs.Standing.{each_line, stands_behind, stands_first}
use Rattle.store_move.specs.First.{first, first_bytes, first_name, first_record, first_shape}
use Rattle.store_move.specs.Formats.{HasNoneNamed}
use Rattle.store_move.specs.Stores.{AreNames, HoldsBook, Shape, record_entry, record_file}
use Rattle.store_opening.specs.Named.{IsName}
use Rattle.store_opening.proofs.Clean.{same_digest}
use Rattle.store_opening.proofs.Hexed.{digest_bytes_are}
use Rattle.store_opening.proofs.Sorted.{each_at}
use Rattle.record_belief.proofs.Placing.{stands_at}
use Rattle.record_move.specs.declared.records.OldRecord.{OldRecord}
use Rattle.record_move.specs.Moved.{AreLinesOf}
use Rattle.store_upgrade.specs.Halfway.{IsOldReadable}
use Rattle.store_upgrade.specs.Old.{AreOldFound, IsOldFile, candidate_of, old_file, olds_at}
use Rattle.store_upgrade.proofs.AgainBelieved.{HaveCandidates, IsInOrder, IsLineAt}
use Rattle.store_upgrade.proofs.Olden.{one_old_name}

-- ---- names

first_is_name : (sig : SigRecord) → IsName (first_name sig)
unfolding first_name
first_is_name sig = record { size = length-sha256 (first_bytes sig); bytes = digest_bytes_are (first_bytes sig) }

-- names with one text are one
first_names : AreNames first
first_names a b e = same_digest (first_name a) (first_name b) (first_is_name a) (first_is_name b) e

-- ---- entries of a book

module _ (shape : Shape) where
  -- the entry is that of a line, under its name
  record IsEntryOf (book : Book) (path : List ℕ) (e : Entry) : Type 0 where
    line : Line
    in_book : HasLine book line
    text : hash_text (shape.form.name_of line.sig) ≡ path
    file : record_file shape (stored_of line) ≡ e

  further : (l : Line) (rest : Book) (path : List ℕ) (e : Entry) → IsEntryOf rest path e → IsEntryOf (l ∷ rest) path e
  further l rest path e r = record { line = r.line; in_book = (l ∷ r.in_book.0, stands_behind l rest r.in_book.0 r.line r.in_book.1); text = r.text; file = r.file }

  entry_found : (book : Book) (path : List ℕ) (e : Entry) → entry_at (map (record_entry shape) book) path ≡ Some e → IsEntryOf book path e
  entry_found [] path e is = absurd (let f : None ≡ Some e = is in cc)
  entry_found (l ∷ rest) path e is = by (bytes_eq (hash_text (shape.form.name_of l.sig)) path) refl (entry_found rest path e)
    where
      by : (b : Bool) → bytes_eq (hash_text (shape.form.name_of l.sig)) path ≡ b → (entry_at (map (record_entry shape) rest) path ≡ Some e → IsEntryOf rest path e)
          → IsEntryOf (l ∷ rest) path e
      by true t later =
          let f : Some (record_file shape (stored_of l)) ≡ Some e = rw t at is in
          record { line = l; in_book = ([], stands_first l rest); text = same_text (hash_text (shape.form.name_of l.sig)) path t; file = cc }
      by false t later = further l rest path e (later (rw t at is))

  -- no earlier line has this text for its name
  unlike : AreNames shape.form → (before : Book) (line : Line) → HasNoneNamed shape.form before line.sig
      → AllByRecursion (λ e. bytes_eq e.0 (hash_text (shape.form.name_of line.sig)) ≡ false) (map (record_entry shape) before)
  unlike names before line new =
      let path = hash_text (shape.form.name_of line.sig) in
      map_each (record_entry shape) (λ e. bytes_eq e.0 path ≡ false) before (each_line (λ l. bytes_eq (hash_text (shape.form.name_of l.sig)) path ≡ false) before (λ behind l s.
      elim (either_way (bytes_eq (hash_text (shape.form.name_of l.sig)) path)) [
        | inl t ↦ absurd (new behind l s (names l.sig line.sig (same_text (hash_text (shape.form.name_of l.sig)) path t)))
        | inr f ↦ f
      ]))

  entry_there : AreNames shape.form → (book before : Book) (line : Line) → StandsIn book before line → HasNoneNamed shape.form before line.sig
      → entry_at (map (record_entry shape) book) (hash_text (shape.form.name_of line.sig)) ≡ Some (record_file shape (stored_of line))
  entry_there names book before line s new =
      let path = hash_text (shape.form.name_of line.sig) in
      let front = map (record_entry shape) before in
      let rest = map (record_entry shape) s.rest in
      ap (λ b. entry_at (map (record_entry shape) b) path) s.is
      ∙ ap (λ l. entry_at l path) (map-append (record_entry shape) before (line ∷ s.rest))
      ∙ ap (option_map (λ e. e.1)) (find_behind (λ e. bytes_eq e.0 path) front (record_entry shape line) rest (unlike names before line new) (text_itself path))

-- ---- the records of the book

-- the old record of a line
abbrev pub old_of : Line → OldRecord
old_of line = record { name = first_name line.sig; stored = stored_of line }

file_bytes_are : {x y : List ℕ} → File false x ≡ File false y → x ≡ y
file_bytes_are e = cc

-- the old record is that of a line
record IsOldLine (book : Book) (o : OldRecord) : Type 0 where
  line : Line
  in_book : HasLine book line
  is : o ≡ old_of line

-- the old records at the places, and the lines of the book whose records they are
pub record OldBook (book : Book) (found : List OldRecord) (places : List ℕ) : Type 0 where
  pub lines : Book
  pub order : IsInOrder first book (map candidate_of found) places lines
  pub are : AreLinesOf first (olds_at found places) lines

module _ (gives : Gives) (reading : Reading) (held : Store) (book : Book) (holds : HoldsBook first_shape gives reading held book)
    (readable : AllByRecursion IsOldReadable book) where
  pub readable_at : (before : Book) (line : Line) → StandsIn book before line → IsOldReadable line
  readable_at before line s = each_middle IsOldReadable before line s.rest (subst (AllByRecursion IsOldReadable) s.is readable)

  -- each line's record is there
  line_old : (before : Book) (line : Line) → StandsIn book before line → IsOldFile held (old_of line)
  line_old before line s =
      let r = readable_at before line s in
      let v = holds.lines before line s in
      record {
        good = record { name = refl; spelled = r.spelled; short = r.short };
        file = holds.records (hash_text (first_name line.sig)) ∙ entry_there first_shape first_names book before line s v.new;
      }

  -- and each record that is there is a line's
  old_line : (o : OldRecord) → IsOldFile held o → IsOldLine book o
  old_line o f =
      let e = entry_found first_shape book (hash_text o.name) (old_file o.stored) (sym (holds.records (hash_text o.name)) ∙ f.file) in
      let g = line_old e.in_book.0 e.line e.in_book.1 in
      record { line = e.line; in_book = e.in_book; is = sym (one_old_name (first_record (stored_of e.line)) (old_of e.line) o g.good f.good refl (file_bytes_are e.file)) }

  module _ (found : List OldRecord) (are : AreOldFound held found) where
    candidate_at : (p : ℕ) (o : OldRecord) → slice_get found p ≡ Some o → slice_get (map candidate_of found) p ≡ Some (candidate_of o)
    candidate_at p o there = slice_get-map candidate_of found p ∙ ap (option_map candidate_of) there

    pub have_candidates : HaveCandidates first book (map candidate_of found)
    have_candidates before line s =
        let c = are.whole (old_of line) (line_old before line s) in
        record {
          candidate = candidate_of (old_of line);
          among = (c.0, candidate_at c.0 (old_of line) (slice_get-get_or found c.0 (old_of line) c.1 ∙ ap (λ (o : OldRecord). Some o) c.2));
          records = record { name = refl; stored = refl };
        }

    old_more : (p : ℕ) (places : List ℕ) (o : OldRecord) → slice_get found p ≡ Some o → OldBook book found places → OldBook book found (p ∷ places)
    old_more p places o there more = record {
      lines = l.line ∷ more.lines;
      order = record { long = ap suc more.order.long; each = line_at };
      are = rw there (record { name = ap (λ (x : OldRecord). x.name) l.is; stored = sym (ap (λ (x : OldRecord). x.stored) l.is) }, more.are);
    }
      where
        l : IsOldLine book o
        l = old_line o (each_at (IsOldFile held) found p o are.each there)

        line_at : (k : ℕ) (line : Line) → slice_get (l.line ∷ more.lines) k ≡ Some line → IsLineAt first book (map candidate_of found) (p ∷ places) k line
        line_at zero line e =
            let same : l.line ≡ line = cc in
            subst (IsLineAt first book (map candidate_of found) (p ∷ places) zero) same (record {
              place = p;
              candidate = candidate_of o;
              listed = refl;
              stands = candidate_at p o there;
              records = record { name = ap (λ (x : OldRecord). x.name) l.is; stored = ap (λ (x : OldRecord). short_stored_of x.stored) l.is };
              in_book = l.in_book;
            })
        line_at (suc k) line e =
            let r = more.order.each k line e in
            record { place = r.place; candidate = r.candidate; listed = r.listed; stands = r.stands; records = r.records; in_book = r.in_book }

    olds_from : (places : List ℕ) → ((k p : ℕ) → slice_get places k ≡ Some p → (o : OldRecord) × (slice_get found p ≡ Some o)) → OldBook book found places
    olds_from [] each = record { lines = []; order = record { long = refl; each = λ k line e. absurd (let f : None ≡ Some line = e in cc) }; are = tt }
    olds_from (p ∷ places) each = let o = each 0 p refl in old_more p places o.0 o.1 (olds_from places (λ k q e. each (suc k) q e))

    old_at : (p : ℕ) (c : Candidate) → slice_get (map candidate_of found) p ≡ Some c → (o : OldRecord) × (slice_get found p ≡ Some o)
    old_at p c there = stands_at found p (omega (arith, slice_get_within (map candidate_of found) p c there, length-map found candidate_of))

    -- the old records at places of candidates are those of lines
    pub olds_of : (places : List ℕ) → ((k p : ℕ) → slice_get places k ≡ Some p → (c : Candidate) × (slice_get (map candidate_of found) p ≡ Some c)) → OldBook book found places
    olds_of places each = olds_from places (λ k p e. let c = each k p e in old_at p c.0 c.1)
