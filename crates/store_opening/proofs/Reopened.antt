-- What was valid is so once it is opened.
use Rattle.std.proofs.Common.{◌≡◌, ◌≢◌, ◌∙◌, sym, ap, subst, refl, ℕ, zero, suc, inl, inr, List, [], ◌∷◌, length, Option, Some, None}
use Rattle.std.specs.Prelude.{◌⊎◌, codes, map, slice_get}
use Rattle.std.specs.Option.{is_some}
use Rattle.std.specs.List.{AllByRecursion}
use Rattle.std.proofs.lemmas.Option.{none-some}
use Rattle.tree_model.specs.declared.entry.Entry.{Entry}
use Rattle.tree_model.specs.Hash.{hash_text}
use Rattle.tree_model.specs.Path.{IsBelow, inside}
use Rattle.outside_traits.specs.Store.{Store}
use Rattle.meta_model.specs.CleanBuild.{Gives}
use Rattle.meta_model.specs.InOrder.{in_order}
use Rattle.sha2.specs.Sha256.{sha256}
use Rattle.meta_model.specs.declared.value.Key.{Key}
use Rattle.store_model.specs.declared.signature.SigRecord.{SigRecord}
use Rattle.store_model.specs.Origins.{Book, Line, Reading, row_of, rows_of}
use Rattle.store_model.specs.Spelling.{key_bytes, key_name, name_of, record_bytes, short_bytes, short_of, short_record, short_stored_of, signature_bytes, whole_text}
use Rattle.store_model.specs.Stored.{SpellsShort, SpellsStored}
use Rattle.store_model.specs.Paths.{key_path}
use Rattle.store_model.specs.Valid.{IsValid, IsValidBook, StandsIn, record_entry, stored_of}
use Rattle.store_model.proofs.Digests.{key_name_is_hash}
use Rattle.store_model.proofs.Ordered.{each_from_ordered, each_map, each_middle, each_ordered, map_each}
use Rattle.store_model.proofs.Standing.{AllNew, each_line, stands_behind, stands_first}
use Rattle.sig_gen.proofs.ShortLaws.{short_is_whole}
use Rattle.store_model.specs.declared.candidate.Candidate.{Candidate}
use Rattle.store_model.specs.Believed.{AreBelieved, IsAmong}
use Rattle.record_belief.specs.Books.{AreOfBook, IsInOrder, IsOfLine, IsLineAt}
use Rattle.record_belief.proofs.Again.{again_valid, again_whole, line_at}
use Rattle.record_belief.proofs.Bookish.{lines_believed}
use Rattle.record_belief.proofs.Lasting.{order_is_one}
use Rattle.store_model.specs.Opened.{AreFound, IsBlocked, IsLeft, IsRecordFile, row_of_candidate, rows_at}
use Rattle.store_model.specs.Publication.{short_file}
use Rattle.store_opening.specs.Reopened.{ClearedIsValid, OpenedHoldsNoMore, OpenedIsValid, OpenedOneWay}
use Rattle.store_model.specs.Lines.{HaveSameLines}
use Rattle.store_model.specs.Readable.{IsReadable}
use Rattle.store_opening.proofs.Hexed.{name_is_short}
use Rattle.store_opening.proofs.Surveyed.{one_record}
use Rattle.store_opening.proofs.SameLines.{entry_found, entry_there, same_entries}
use Rattle.store_opening.proofs.Sorted.{Differ, ascend_of, each_among, each_at, is_before, one_list, ordered_up}

-- the candidate that a line's record is
abbrev pub candidate_of : Line → Candidate
candidate_of line = record { name = name_of line.sig; stored = short_stored_of (stored_of line); sig = signature_bytes line.sig }

file_is : (line : Line) → Some (record_entry line).1 ≡ Some (short_file (short_stored_of (stored_of line)))
unfolding record_bytes
file_is line = refl

spelled_is : (line : Line) → SpellsStored (record_bytes (stored_of line)) (stored_of line) → SpellsShort (short_record (short_stored_of (stored_of line))) (short_stored_of (stored_of line))
unfolding record_bytes
spelled_is line h = short_is_whole.0 (record_bytes (stored_of line)) (stored_of line) h

key_digest : (key : Key) → sha256 (key_bytes key) ≡ (key_name key).bytes
unfolding key_name
key_digest key = refl

text_is : (sig : SigRecord) → signature_bytes sig ≡ whole_text (short_bytes (short_of sig)) (key_bytes sig.key)
unfolding signature_bytes
text_is sig = refl

-- ---- the records of a valid store

module _ (gives : Gives) (reading : Reading) (held : Store) (book : Book) (valid : IsValid gives reading held book) (readable : AllByRecursion IsReadable book) where
  pub line_readable : (before : Book) (line : Line) → StandsIn book before line → IsReadable line
  line_readable before line s = each_middle IsReadable before line s.rest (subst (AllByRecursion IsReadable) s.is readable)

  -- each line's record is there
  pub line_file : (before : Book) (line : Line) → StandsIn book before line → IsRecordFile held (candidate_of line)
  line_file before line s =
      let r = line_readable before line s in
      record {
        file = valid.records (hash_text (name_of line.sig)) ∙ entry_there gives reading book before line valid.lines s ∙ file_is line;
        name = name_is_short line.sig;
        spelled = spelled_is line r.spelled;
        short = r.short;
        key = key_bytes line.sig.key;
        key_held = record { file = valid.keys before line s; digest = key_digest line.sig.key };
        text = text_is line.sig;
      }

  -- and each record that is there is a line's
  file_line : (c : Candidate) → IsRecordFile held c → (before : Book) × (line : Line) × StandsIn book before line × (c ≡ candidate_of line)
  file_line c file =
      let l = entry_found book (hash_text c.name) (short_file c.stored) (sym (valid.records (hash_text c.name)) ∙ file.file) in
      let f = line_file l.0 l.1 l.2 in
      (l.0, l.1, l.2, one_record held c (candidate_of l.1) file f (ap (inside (codes "rec2")) (sym l.3)))

  -- what is found are the records of the book
  pub of_book : (candidates : List Candidate) → AreFound held candidates → AreOfBook book candidates
  of_book candidates found = record {
    each = λ k c e.
        let l = file_line c (each_at (IsRecordFile held) candidates k c found.each e) in
        record { line = l.1; before = l.0; in_book = l.2; records = record { name = ap (λ (x : Candidate). x.name) l.3; stored = ap (λ (x : Candidate). x.stored) l.3; text = ap (λ (x : Candidate). x.sig) l.3 } };
    whole = λ before line s. record { candidate = candidate_of line; among = found.whole (candidate_of line) (line_file before line s); records = record { name = refl; stored = refl; text = refl } };
  }

  -- they can be found
  differ_from : (b : Book) → AllNew b → Differ (map candidate_of b)
  differ_from [] new = tt
  differ_from (first ∷ rest) new = (
    map_each candidate_of (λ (d : Candidate). d.name ≢ name_of first.sig) rest (each_line (λ (l : Line). name_of l.sig ≢ name_of first.sig) rest (λ before line s same. new (first ∷ before) line (stands_behind first rest before line s) [] first (stands_first first before) (sym same))),
    differ_from rest (λ before line s behind earlier t. new (first ∷ before) line (stands_behind first rest before line s) (first ∷ behind) earlier (stands_behind first before behind earlier t)),
  )

  pub found_there : (candidates : List Candidate) × AreFound held candidates
  found_there = (
    sorted,
    record {
      ascend = ascend_of sorted (ordered_up (map candidate_of book) (differ_from book (λ before line s. (valid.lines before line s).new)));
      each = each_ordered (IsRecordFile held) is_before (map candidate_of book) (map_each candidate_of (IsRecordFile held) book (each_line (λ (l : Line). IsRecordFile held (candidate_of l)) book line_file));
      whole = λ c file.
          let l = file_line c file in
          subst (IsAmong sorted) (sym l.3) (each_middle (λ (x : Line). IsAmong sorted (candidate_of x)) l.0 l.1 l.2.rest (subst (AllByRecursion (λ (x : Line). IsAmong sorted (candidate_of x))) l.2.is among));
    },
  )
    where
      sorted : List Candidate
      sorted = in_order is_before (map candidate_of book)

      among : AllByRecursion (λ (x : Line). IsAmong sorted (candidate_of x)) book
      among = each_map candidate_of (IsAmong sorted) book (each_from_ordered (IsAmong sorted) is_before (map candidate_of book) (each_among sorted))

  -- ---- what opening leaves

  left_by : (candidates : List Candidate) → AreFound held candidates → (path : List ℕ) (o : Option Entry) → held (inside (codes "rec2") path) ≡ o → IsLeft held (inside (codes "rec2") path)
  left_by candidates found path None e = inr (inr (inr (inr e)))
  left_by candidates found path (Some x) e =
      let l = entry_found book path x (sym (valid.records path) ∙ e) in
      let k = found.whole (candidate_of l.1) (line_file l.0 l.1 l.2) in
      inr (inl (
        candidate_of l.1,
        record {
          candidates = candidates;
          found = found;
          believed = lines_believed gives reading book candidates valid.lines (of_book candidates found) k.0 (candidate_of l.1) k.1;
        },
        ap (inside (codes "rec2")) (sym l.3),
      ))

  pub rec_left : (path : List ℕ) → IsLeft held (inside (codes "rec2") path)
  rec_left path = left_by found_there.0 found_there.1 path (held (inside (codes "rec2") path)) refl

pub cleared_is_valid : ClearedIsValid
cleared_is_valid held old new clears gives reading book valid readable other was = record {
  records = λ path. clears.left (inside (codes "rec2") path) (rec_left gives reading held book valid readable path) ∙ was.records path;
  lines = was.lines;
  keys = λ before line s. clears.left (key_path (key_name line.sig.key)) (inr (inr (inl (key_name line.sig.key, key_name_is_hash line.sig.key, refl)))) ∙ was.keys before line s;
}

-- ---- the lines in another order

module _ (book : Book) (candidates : List Candidate) (of : AreOfBook book candidates) where
  record Again (places : List ℕ) : Type 0 where
    again : Book
    order : IsInOrder book candidates places again
    rows_are : rows_at candidates places ≡ rows_of again

  again_more : (p : ℕ) (places : List ℕ) (c : Candidate) → slice_get candidates p ≡ Some c → Again places → Again (p ∷ places)
  again_more p places c stands more = record {
    again = l.line ∷ more.again;
    order = record { long = ap suc more.order.long; each = at };
    rows_are = rw stands ((λ i. row_of_candidate (record { name = l.records.name i; stored = l.records.stored i; sig = l.records.text i }) ∷ rows_at candidates places) ∙ ap (λ rows. row_of l.line ∷ rows) more.rows_are);
  }
    where
      l : IsOfLine book c
      l = of.each p c stands

      at : (k : ℕ) (line : Line) → slice_get (l.line ∷ more.again) k ≡ Some line → IsLineAt book candidates (p ∷ places) k line
      at zero line e =
          let same : l.line ≡ line = cc in
          subst (IsLineAt book candidates (p ∷ places) zero) same (record { place = p; candidate = c; listed = refl; stands = stands; records = l.records; before = l.before; in_book = l.in_book })
      at (suc k) line e =
          let r = more.order.each k line e in
          record { place = r.place; candidate = r.candidate; listed = r.listed; stands = r.stands; records = r.records; before = r.before; in_book = r.in_book }

  again_of : (places : List ℕ) → ((k p : ℕ) → slice_get places k ≡ Some p → (c : Candidate) × (slice_get candidates p ≡ Some c)) → Again places
  again_of [] each = record { again = []; order = record { long = refl; each = λ k line e. absurd (let f : None ≡ Some line = e in cc) }; rows_are = refl }
  again_of (p ∷ places) each = let c = each 0 p refl in again_more p places c.0 c.1 (again_of places (λ k q e. each (suc k) q e))

pub opened_is_valid : OpenedIsValid
opened_is_valid before after rows opened gives reading book valid readable = record {
  again = a.again;
  same = same;
  readable = each_line IsReadable a.again (λ b line s. let l = same.only b line s in line_readable gives reading before book valid readable l.0 line l.1);
  valid = record {
    records = λ path. opened.left (inside (codes "rec2") path) (rec_left gives reading before book valid readable path) ∙ valid.records path ∙ sym (same_entries gives reading book a.again valid.lines lines same path);
    lines = lines;
    keys = λ b line s.
        let l = same.only b line s in
        opened.left (key_path (key_name line.sig.key)) (inr (inr (inl (key_name line.sig.key, key_name_is_hash line.sig.key, refl)))) ∙ valid.keys l.0 line l.1;
  };
  rows_are = opened.rows_are ∙ a.rows_are;
}
  where
    of : AreOfBook book opened.candidates
    of = of_book gives reading before book valid readable opened.candidates opened.found

    a : Again book opened.candidates of opened.places
    a = again_of book opened.candidates of opened.places (λ k p e. let h = opened.believed.each k p e in (h.0, h.1))

    lines : IsValidBook gives reading a.again
    lines = again_valid gives reading book opened.candidates opened.places a.again valid.lines opened.found.ascend of opened.believed a.order

    same : HaveSameLines book a.again
    same = record {
      whole = λ b line s. again_whole gives reading book opened.candidates opened.places a.again valid.lines opened.found.ascend of opened.believed a.order b line s;
      only = λ b line s. let at = line_in b line s in (at.before, at.in_book);
    }
      where
        line_in : (b : Book) (line : Line) → StandsIn a.again b line → IsLineAt book opened.candidates opened.places (length b) line
        line_in b line s = line_at gives reading book opened.candidates opened.places a.again valid.lines opened.found.ascend of opened.believed a.order b line s

-- ---- one way

-- what is held decides the rows of its believed records, and their order
pub rows_one_way : (held : Store) (candidates others : List Candidate) (places elsewhere : List ℕ) → AreFound held candidates → AreFound held others → AreBelieved candidates places → AreBelieved others elsewhere → rows_at candidates places ≡ rows_at others elsewhere
rows_one_way held candidates others places elsewhere one two believed again =
    let same : candidates ≡ others = one_list candidates others one.ascend two.ascend
    (λ c among. two.whole c (each_at (IsRecordFile held) candidates among.0 c one.each among.1))
    (λ c among. one.whole c (each_at (IsRecordFile held) others among.0 c two.each among.1)) in
    let here : AreBelieved candidates elsewhere = subst (λ cs. AreBelieved cs elsewhere) (sym same) again in
    let order : places ≡ elsewhere = order_is_one candidates one.ascend places elsewhere believed here in
    ap (rows_at candidates) order ∙ ap (λ cs. rows_at cs elsewhere) same

pub opened_one_way : OpenedOneWay
opened_one_way before after other rows others one two =
    one.rows_are ∙ rows_one_way before one.candidates two.candidates one.places two.places one.found two.found one.believed two.believed ∙ sym two.rows_are

pub opened_holds_no_more : OpenedHoldsNoMore
opened_holds_no_more before after rows opened q entry is = by (opened.only q (ap is_some is))
  where
    stamp : (after q ≡ before q) ⊎ (IsBlocked before q × (after q ≡ None)) → before q ≡ Some entry
    stamp (inl same) = sym same ∙ is
    stamp (inr gone) = let no : None ≡ Some entry = sym gone.1 ∙ is in absurd (none-some entry no)

    by : IsLeft before q ⊎ IsBelow (codes "stamp") q → before q ≡ Some entry
    by (inl left) = sym (opened.left q left) ∙ is
    by (inr below) = stamp (opened.stamps q below)
