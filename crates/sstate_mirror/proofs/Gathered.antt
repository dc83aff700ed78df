-- Rows are gone through from the last one back.
use Rattle.std.proofs.Common.{◌≡◌, ◌∙◌, sym, ap, subst, refl, arith, ℕ, zero, suc, ◌+◌, ◌<◌, ◌≤◌, Bool, false, cond, ◌||◌, List, [], ◌∷◌, map, length, drop, Some, None}
use Rattle.std.specs.Prelude.{slice_get}
use Rattle.std.specs.List.{AllByRecursion}
use Rattle.std.proofs.lemmas.List.{drop_more}
use Rattle.std.proofs.lemmas.Option.{get_or_from_slice_get}
use Rattle.tree_model.specs.declared.manifest.ManifestLine.{ManifestLine}
use Rattle.sig_gen.specs.Sound.{Spells}
use Rattle.store_model.specs.declared.signature.EquivRow.{EquivRow}
use Rattle.store_model.specs.declared.signature.SigRecord.{SigRecord}
use Rattle.store_model.specs.Origins.{Book, Line}
use Rattle.store_model.specs.Readable.{IsReadable}
use Rattle.store_move.specs.Formats.{row_of, rows_of}
use Rattle.store_move.specs.Moves.{present}
use Rattle.record_move.specs.declared.records.OldRecord.{OldRecord}
use Rattle.record_move.specs.Wanted.{is_named, wanted_of}
use Rattle.record_move.proofs.Backwards.{wanted_more}
use Rattle.sstate_mirror.specs.declared.gathering.Gathering.{Gathering}
use Rattle.sstate_mirror.specs.Steps.{IsGathered, IsRowOf}
use Rattle.sstate_mirror.specs.Wanted.{Titles, asked_of, is_wanted, record_of}

-- the row's text is the line's signature
pub spells_of : (row : EquivRow) (line : Line) → IsRowOf row line → Spells row.sig line.sig
spells_of row line is = record { sound = is.readable.spelled.sound.sig; is = ap (λ (r : EquivRow). r.sig) is.is }

-- ... and with the signature it is the line's record
pub record_is : (row : EquivRow) (line : Line) (sig : SigRecord) (manifest : List ManifestLine) → IsRowOf row line → sig ≡ line.sig → manifest ≡ row.manifest
    → record { name = row.name; stored = record { sig = sig; manifest = manifest; unihash = row.unihash } } ≡ record_of line
record_is row line sig manifest is same copied =
    let m : manifest ≡ line.manifest = copied ∙ ap (λ (r : EquivRow). r.manifest) is.is in
    λ i. record { name = (is.is i).name; stored = record { sig = same i; manifest = m i; unihash = (is.is i).unihash } }

pub name_of_row : (row : EquivRow) (line : Line) → IsRowOf row line → row.name ≡ (record_of line).name
name_of_row row line is = ap (λ (r : EquivRow). r.name) is.is

-- ---- places

-- the line whose row stands at a place
pub line_there : (book : Book) (n : ℕ) (row : EquivRow) → slice_get (rows_of present book) n ≡ Some row → (line : Line) × (slice_get book n ≡ Some line) × (row ≡ row_of present line)
line_there [] n row e = absurd (let f : None ≡ Some row = e in cc)
line_there (x ∷ xs) zero row e = let same : row ≡ row_of present x = cc in (x, refl, same)
line_there (x ∷ xs) (suc n) row e = line_there xs n row e

within_list : {A : Type 0} (xs : List A) (n : ℕ) (x : A) → slice_get xs n ≡ Some x → n < length xs
within_list [] n x e = absurd (let f : None ≡ Some x = e in cc)
within_list (y ∷ ys) zero x e = omega arith
within_list (y ∷ ys) (suc n) x e = let lt = within_list ys n x e in omega (arith, lt)

pub drop_at : {A : Type 0} (xs : List A) (n : ℕ) (x : A) → slice_get xs n ≡ Some x → drop n xs ≡ x ∷ drop (n + 1) xs
drop_at {A} xs n x e = drop_more xs n x (within_list xs n x e) ∙ ap (λ (y : A). y ∷ drop (n + 1) xs) (get_or_from_slice_get xs n x x e)

pub map_at : {A B : Type 0} (f : A → B) (xs : List A) (n : ℕ) (x : A) → slice_get xs n ≡ Some x → slice_get (map f xs) n ≡ Some (f x)
map_at f [] n x e = absurd (let g : None ≡ Some x = e in cc)
map_at {A} f (y ∷ ys) zero x e = let same : y ≡ x = cc in ap (λ (z : A). Some (f z)) same
map_at f (y ∷ ys) (suc n) x e = map_at f ys n x e

readable_at : (book : Book) (n : ℕ) (line : Line) → AllByRecursion IsReadable book → slice_get book n ≡ Some line → IsReadable line
readable_at [] n line all e = absurd (let f : None ≡ Some line = e in cc)
readable_at (x ∷ xs) zero line all e = let same : x ≡ line = cc in subst IsReadable same all.0
readable_at (x ∷ xs) (suc n) line all e = readable_at xs n line all.1 e

-- ---- the loop

-- before the first row
pub gathered_none : (asked : List Bool) (records : List OldRecord) (n : ℕ) → length records ≤ n → wanted_of (drop n asked) (drop n records) ≡ []
gathered_none asked records n past = none (drop n asked) (drop n records) (drop_past records n past)
  where
    none : (a : List Bool) (r : List OldRecord) → r ≡ [] → wanted_of a r ≡ []
    none [] r e = refl
    none (a ∷ more) r e = ap (wanted_of (a ∷ more)) e

    drop_past : (xs : List OldRecord) (k : ℕ) → length xs ≤ k → drop k xs ≡ []
    drop_past [] zero le = refl
    drop_past [] (suc k) le = refl
    drop_past (x ∷ xs) zero le = absurd (omega (arith, le))
    drop_past (x ∷ xs) (suc k) le = drop_past xs k (omega (arith, le))

-- one row more
pub gathered_more : (wanted : Titles) (theirs : List EquivRow) (book : Book) (n : ℕ) (row : EquivRow) (asked : Bool) (old new : Gathering) → AllByRecursion IsReadable book → theirs ≡ rows_of present book
    → slice_get theirs n ≡ Some row → asked ≡ is_wanted wanted row
    → ((line : Line) → IsRowOf row line → (records : List OldRecord) → IsGathered records old → IsGathered (cond (asked || is_named (record_of line).name records) (record_of line ∷ records) records) new)
    → IsGathered (wanted_of (drop (n + 1) (asked_of wanted theirs)) (drop (n + 1) (map record_of book))) old
    → IsGathered (wanted_of (drop n (asked_of wanted theirs)) (drop n (map record_of book))) new
gathered_more wanted theirs book n row asked old new readable are here is_asked visit was =
    let l = line_there book n row (subst (λ (rs : List EquivRow). slice_get rs n ≡ Some row) are here) in
    let rest : List OldRecord = drop (n + 1) (map record_of book) in
    let flag : slice_get (asked_of wanted theirs) n ≡ Some (is_wanted wanted row) = map_at (is_wanted wanted) theirs n row here in
    let of : IsRowOf row l.0 = record { readable = readable_at book n l.0 readable l.1; is = l.2 } in
    let next = visit l.0 of (wanted_of (drop (n + 1) (asked_of wanted theirs)) rest) was in
    let more = wanted_more (asked_of wanted theirs) n asked (record_of l.0) rest (within_list (asked_of wanted theirs) n (is_wanted wanted row) flag) (is_asked ∙ sym (get_or_from_slice_get (asked_of wanted theirs) n (is_wanted wanted row) false flag)) in
    subst (λ (l : List OldRecord). IsGathered (wanted_of (drop n (asked_of wanted theirs)) l) new) (sym (drop_at (map record_of book) n (record_of l.0) (map_at record_of book n l.0 l.1)))
    (subst (λ (l : List OldRecord). IsGathered l new) (sym more) next)

pub rows_long : (rows : List EquivRow) (book : Book) → rows ≡ rows_of present book → length (map record_of book) ≡ length rows
rows_long rows book are = long book ∙ sym (ap (length {A = EquivRow}) are)
  where
    long : (b : Book) → length (map record_of b) ≡ length (rows_of present b)
    long [] = refl
    long (x ∷ xs) = ap suc (long xs)
