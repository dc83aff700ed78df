-- A valid store is valid at each moment of a clearing.
use Rattle.std.proofs.Common.{◌≡◌, ◌∙◌, sym, ap, subst, refl, arith, ℕ, suc, ◌<◌, ◌⊎◌, inl, inr, Bool, true, false, List, [], ◌∷◌, ◌++◌, filter, length, get_or, map, Option, None, Some}
use Rattle.std.specs.Prelude.{codes, Contains, IsSome}
use Rattle.std.specs.Option.{is_some}
use Rattle.std.specs.List.{AllByRecursion}
use Rattle.std.proofs.lemmas.Bool.{false≢true}
use Rattle.std.proofs.lemmas.List.{get_or-map, length-map}
use Rattle.std.proofs.lemmas.List.Elements.{Contains-append_left, Contains-push}
use Rattle.sha2.specs.Sha256.{sha256}
use Rattle.tree_model.specs.declared.entry.Entry.{Entry}
use Rattle.tree_model.specs.declared.hash.Hash.{Hash}
use Rattle.tree_model.specs.Hash.{hash_text}
use Rattle.tree_model.specs.Path.{inside}
use Rattle.tree_model.specs.Tree.{entry_at}
use Rattle.outside_traits.specs.Store.{Store}
use Rattle.meta_model.specs.CleanBuild.{Gives}
use Rattle.meta_model.specs.declared.value.Key.{Key}
use Rattle.store_model.specs.declared.signature.DepLine.{DepLine}
use Rattle.store_model.specs.declared.signature.EquivRow.{EquivRow}
use Rattle.store_model.specs.declared.signature.SigRecord.{SigRecord}
use Rattle.store_model.specs.Opened.{IsOpened}
use Rattle.store_model.specs.Origins.{Book, Line, Reading, row_of, rows_of}
use Rattle.store_model.specs.Paths.{record_path}
use Rattle.store_model.specs.Readable.{IsHeld, IsReadable, IsRow}
use Rattle.store_model.specs.Recording.{HasRow}
use Rattle.store_model.specs.Rows.{row_at}
use Rattle.store_model.specs.Spelling.{key_bytes, key_name, name_of, record_bytes, short_bytes, short_of, short_record, short_stored_of, signature_bytes, whole_text}
use Rattle.store_model.specs.Stored.{SpellsShort, SpellsStored}
use Rattle.store_model.specs.Valid.{IsNamedAlike, IsNamedBefore, IsValid, IsValidBook, IsValidLine, StandsIn, record_entry, stored_of}
use Rattle.store_model.proofs.Ordered.{each_middle}
use Rattle.store_model.proofs.Standing.{each_line, row_found, stands_earlier}
use Rattle.sig_gen.proofs.ShortLaws.{short_is_whole}
use Rattle.store_opening.proofs.Areas.{differ, heads_differ}
use Rattle.store_opening.proofs.Hexed.{name_is_short}
use Rattle.store_opening.proofs.Opened.{rows_held}
use Rattle.store_opening.proofs.SameLines.{entry_found, entry_there}
use Rattle.book_change.specs.Going.{IsClosed, kept_of, stays}
use Rattle.book_change.proofs.Going.{kept_valid}
use Rattle.store_clean.specs.Naming.{names_in}
use Rattle.store_clean.specs.Cleared.{IsBeside, IsClearing, Stays, is_there}
use Rattle.store_clean.specs.Laws.{ClearedIsValid, ClearingIsValid, IsPartThere}
use Rattle.store_clean.proofs.Lists.{each_in}
use Rattle.store_clean.proofs.Moments.{same_name}
use Rattle.store_clean.proofs.Whence.{stands_kept, was_in}

-- ---- the row of a readable line

spelled_is : (line : Line) → SpellsStored (record_bytes (stored_of line)) (stored_of line) → SpellsShort (short_record (short_stored_of (stored_of line))) (short_stored_of (stored_of line))
unfolding record_bytes
spelled_is line h = short_is_whole.0 (record_bytes (stored_of line)) (stored_of line) h

key_digest : (key : Key) → sha256 (key_bytes key) ≡ (key_name key).bytes
unfolding key_name
key_digest key = refl

text_is : (sig : SigRecord) → signature_bytes sig ≡ whole_text (short_bytes (short_of sig)) (key_bytes sig.key)
unfolding signature_bytes
text_is sig = refl

row_known : (line : Line) → IsReadable line → IsRow (row_of line)
row_known line r = record {
  stored = short_stored_of (stored_of line);
  key = key_bytes line.sig.key;
  is = λ i. record { name = name_is_short line.sig i; pn = line.sig.pn; task = line.sig.task; sig = text_is line.sig i; manifest = line.manifest; unihash = line.unihash };
  spelled = spelled_is line r.spelled;
  short = r.short;
  digest = key_digest line.sig.key;
}

-- a line's row is among the book's
pub row_in : (book before : Book) (line : Line) → StandsIn book before line → Contains (rows_of book) (row_of line)
row_in book before line s = subst (λ (b : Book). Contains (rows_of b) (row_of line)) (sym s.is) (by before)
  where
    by : (b : Book) → Contains (rows_of (b ++ line ∷ s.rest)) (row_of line)
    by [] = (0, omega arith, refl)
    by (x ∷ b) = let w = by b in (suc w.0, (let lt = w.1 in omega (arith, lt)), w.2)

named_in : (deps : List DepLine) (i : ℕ) (d : DepLine) (unihash : Hash) → i < length deps → Contains (map (λ (x : DepLine). x.name) deps ++ unihash ∷ []) (get_or deps i d).name
named_in deps i d unihash lt =
    let name : DepLine → Hash = λ x. x.name in
    let long : length (map name deps) ≡ length deps = length-map deps name in
    Contains-append_left (map name deps) (unihash ∷ []) (get_or deps i d).name (i, omega (arith, lt, long), get_or-map name deps i d (get_or deps i d).name lt)

some_held : (o p : Option Entry) → o ≡ p → IsSome p → IsSome o
some_held o p e some = subst IsSome (sym e) some

module _ (before held image : Store) (rows : List EquivRow) (keep : Hash → Bool) (o : IsOpened before held rows) (cl : IsClearing rows keep held image) where
  pub row_held : (row : EquivRow) → Contains rows row → IsHeld held row
  row_held row has = each_in (IsHeld held) rows row (rows_held before held rows o) has

  -- a record that stays isn't touched
  beside_record : (row : EquivRow) → Stays rows keep row → IsBeside rows keep held (record_path row.name)
  beside_record row s = record {
    records = λ other goes e. false≢true (sym goes.gone ∙ ap keep (sym (same_name row other (row_held row s.among).known (row_held other goes.among).known e)) ∙ s.kept);
    stamps = λ b named. heads_differ (differ 114 115 refl) b.1;
    objects = λ b. absurd (heads_differ (differ 114 111 refl) b.1);
    keys = λ b. absurd (heads_differ (differ 114 107 refl) b.1);
    temporary = heads_differ (differ 114 116 refl);
  }

  pub stays_there : (row : EquivRow) → Stays rows keep row → is_there image row.name ≡ true
  stays_there row s = some_held (image (record_path row.name)) (held (record_path row.name)) (cl.beside (record_path row.name) (beside_record row s)) (subst IsSome (sym (row_held row s.among).held) refl)

  module _ (gives : Gives) (reading : Reading) (book : Book) (valid : IsValid gives reading held book) (readable : AllByRecursion IsReadable book) (are : rows ≡ rows_of book) where
    abbrev there : Hash → Bool
    there = is_there image

    line_readable : (b : Book) (line : Line) → StandsIn book b line → IsReadable line
    line_readable b line s = each_middle IsReadable b line s.rest (subst (AllByRecursion IsReadable) s.is readable)

    pub line_row : (b : Book) (line : Line) → StandsIn book b line → Contains rows (row_of line)
    line_row b line s = subst (λ (l : List EquivRow). Contains l (row_of line)) (sym are) (row_in book b line s)

    -- what a line that is there names is there
    names_there : (b c : Book) (line earlier : Line) → StandsIn book b line → StandsIn book c earlier → there (name_of line.sig) ≡ true → Contains (names_in (short_stored_of (stored_of line))) (name_of earlier.sig) → there (name_of earlier.sig) ≡ true
    unfolding row_known
    names_there b c line earlier s t is named = cl.closed (row_of line) (row_of earlier) (line_row b line s) (line_row c earlier t) (record { known = row_known line (line_readable b line s); named = named }) is

    closed_there : IsClosed there book
    closed_there b line s is = record {
      deps = λ i d lt. dep_there (get_or line.sig.deps i d) (v.deps i d lt) (named_in line.sig.deps i d line.unihash lt);
      unihash = by v.named;
    }
      where
        v : IsValidLine gives reading b line
        v = valid.lines b line s

        dep_there : (dep : DepLine) → IsNamedBefore b dep → Contains (names_in (short_stored_of (stored_of line))) dep.name → there dep.name ≡ true
        dep_there dep n has = ap there (sym n.name) ∙ names_there b n.behind line n.line s (stands_earlier book b n.behind line n.line s n.stands) is (subst (Contains (names_in (short_stored_of (stored_of line)))) (sym n.name) has)

        by : (line.unihash ≡ name_of line.sig) ⊎ IsNamedAlike b line → there line.unihash ≡ true
        by (inl own) = ap there own ∙ is
        by (inr f) = ap there f.name ∙ names_there b f.behind line f.first s (stands_earlier book b f.behind line f.first s f.stands) is (subst (Contains (names_in (short_stored_of (stored_of line)))) f.name (Contains-push (map (λ (d : DepLine). d.name) line.sig.deps) line.unihash))

    lines_there : IsValidBook gives reading (kept_of there book)
    lines_there = kept_valid gives reading book there valid.lines closed_there

    -- under `rec2/` stands just what the lines that are there say
    no_entry : (path : List ℕ) → (x : Option Entry) → entry_at (map record_entry (kept_of there book)) path ≡ x → ((b : Book) (line : Line) → StandsIn book b line → hash_text (name_of line.sig) ≡ path → there (name_of line.sig) ≡ true → ⊥) → entry_at (map record_entry (kept_of there book)) path ≡ None
    no_entry path None e never = e
    no_entry path (Some x) e never =
        let l = entry_found (kept_of there book) path x e in
        let w = was_in (stays there) book l.0 l.1 l.2 in
        absurd (never w.was l.1 w.at l.3 w.kept)

    no_some : (x : Option Entry) → x ≡ None → is_some x ≡ true → ⊥
    no_some x none some = false≢true (sym (ap is_some none) ∙ some)

    entry_of : (path : List ℕ) (x : Option Entry) → entry_at (map record_entry book) path ≡ x → image (inside (codes "rec2") path) ≡ entry_at (map record_entry (kept_of there book)) path
    entry_of path None e =
        let held_none : held (inside (codes "rec2") path) ≡ None = valid.records path ∙ e in
        let none : image (inside (codes "rec2") path) ≡ None = elim (cl.records path) [ inl same ↦ same ∙ held_none | inr n ↦ n ] in
        none ∙ sym (no_entry path (entry_at (map record_entry (kept_of there book)) path) refl (λ b line s text is. no_some (image (record_path (name_of line.sig))) (ap (λ (t : List ℕ). image (inside (codes "rec2") t)) text ∙ none) is))
    entry_of path (Some x) e = by (entry_found book path x e) (is_some (image (inside (codes "rec2") path))) refl
      where
        by : (b : Book) × (line : Line) × StandsIn book b line × (hash_text (name_of line.sig) ≡ path) × ((record_entry line).1 ≡ x) → (t : Bool) → is_some (image (inside (codes "rec2") path)) ≡ t → image (inside (codes "rec2") path) ≡ entry_at (map record_entry (kept_of there book)) path
        by l false gone =
            let none : image (inside (codes "rec2") path) ≡ None = is_none (image (inside (codes "rec2") path)) gone in
            none ∙ sym (no_entry path (entry_at (map record_entry (kept_of there book)) path) refl (λ b line s text is. no_some (image (record_path (name_of line.sig))) (ap (λ (t : List ℕ). image (inside (codes "rec2") t)) text ∙ none) is))
          where
            is_none : (y : Option Entry) → is_some y ≡ false → y ≡ None
            is_none None f = refl
            is_none (Some z) f = absurd (false≢true (sym f))
        by l true some =
            let here : there (name_of l.1.sig) ≡ true = ap (λ (t : List ℕ). is_some (image (inside (codes "rec2") t))) l.3 ∙ some in
            let stands = stands_kept (stays there) book l.0 l.1 l.2 here in
            let same : image (inside (codes "rec2") path) ≡ held (inside (codes "rec2") path) = elim (cl.records path) [ inl s ↦ s | inr n ↦ absurd (no_some (image (inside (codes "rec2") path)) n some) ] in
            same ∙ valid.records path ∙ e ∙ ap (λ (y : Entry). Some y) (sym l.4) ∙ sym (ap (entry_at (map record_entry (kept_of there book))) (sym l.3) ∙ entry_there gives reading (kept_of there book) (filter (stays there) l.0) l.1 lines_there stands)

    pub valid_there : IsValid gives reading image (kept_of there book)
    unfolding row_known
    valid_there = record {
      records = λ path. entry_of path (entry_at (map record_entry book) path) refl;
      lines = lines_there;
      keys = λ b line s.
          let w = was_in (stays there) book b line s in
          cl.keys (row_of line) (line_row w.was line w.at) w.kept (row_known line (line_readable w.was line w.at)) ∙ valid.keys w.was line w.at;
    }

    readable_there : AllByRecursion IsReadable (kept_of there book)
    readable_there = each_line IsReadable (kept_of there book) (λ b line s. let w = was_in (stays there) book b line s in line_readable w.was line w.at)

    some_row : (x : Option EquivRow) → (x ≡ None → ⊥) → (row : EquivRow) × (x ≡ Some row)
    some_row None not = absurd (not refl)
    some_row (Some row) not = (row, refl)

    kept_there : (name : Hash) → keep name ≡ true → HasRow (rows_of book) name → there name ≡ true
    kept_there name kept has =
        let r = some_row (row_at (rows_of book) name) has in
        let l = row_found book name r.0 r.1 in
        ap there (sym l.4) ∙ stays_there (row_of l.1) (record { among = line_row l.0 l.1 l.2; kept = ap keep l.4 ∙ kept })

    pub part_there : IsPartThere gives reading keep book image
    part_there = record { valid = valid_there; readable = readable_there; kept = kept_there }

pub clearing_is_valid : ClearingIsValid
clearing_is_valid before held image rows keep o cl gives reading book valid readable are = part_there before held image rows keep o cl gives reading book valid readable are

-- ---- the end

same_filter : (k l : Line → Bool) (book : Book) → ((b : Book) (line : Line) → StandsIn book b line → k line ≡ l line) → filter k book ≡ filter l book
same_filter k l [] same = refl
same_filter k l (x ∷ xs) same = by (k x) (l x) refl refl (same [] x (record { rest = xs; is = refl })) (same_filter k l xs (λ b line s. same (x ∷ b) line (record { rest = s.rest; is = ap (λ (r : Book). x ∷ r) s.is })))
  where
    by : (a b : Bool) → k x ≡ a → l x ≡ b → k x ≡ l x → filter k xs ≡ filter l xs → filter k (x ∷ xs) ≡ filter l (x ∷ xs)
    by true true e f g rest = rw (e, f) (ap (λ (r : Book). x ∷ r) rest)
    by false false e f g rest = rw (e, f) rest
    by true false e f g rest = absurd (false≢true (sym f ∙ sym g ∙ e))
    by false true e f g rest = absurd (false≢true (sym e ∙ g ∙ f))

pub cleared_is_valid : ClearedIsValid
cleared_is_valid before held now rows keep o c gives reading book valid readable are =
    subst (λ (b : Book). IsValid gives reading now b) (same_filter (stays (is_there now)) (stays keep) book same) (valid_there before held now rows keep o c.moment gives reading book valid readable are)
  where
    same : (b : Book) (line : Line) → StandsIn book b line → is_there now (name_of line.sig) ≡ keep (name_of line.sig)
    same b line s = by (keep (name_of line.sig)) refl
      where
        has : Contains rows (row_of line)
        has = line_row before held now rows keep o c.moment gives reading book valid readable are b line s

        by : (t : Bool) → keep (name_of line.sig) ≡ t → is_there now (name_of line.sig) ≡ keep (name_of line.sig)
        by true e = stays_there before held now rows keep o c.moment (row_of line) (record { among = has; kept = e }) ∙ sym e
        by false e = ap is_some (c.records (row_of line) (record { among = has; gone = e })) ∙ sym e
