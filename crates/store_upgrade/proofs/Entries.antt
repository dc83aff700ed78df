-- What a book has under its folder, path by path.
use Rattle.std.proofs.Common.{◌≡◌, ◌≢◌, ◌∙◌, sym, ap, refl, ℕ, zero, suc, ◌⊎◌, inl, inr, Bool, true, false, cond, List, [], ◌∷◌, ◌++◌, map, Option, None, Some, arith}
use Rattle.std.specs.Prelude.{bytes_eq, codes, Contains, IsSome}
use Rattle.std.specs.List.{AllByRecursion, AllZip}
use Rattle.std.specs.Option.{is_some, option_or}
use Rattle.tree_model.specs.declared.entry.Entry.{Entry}
use Rattle.tree_model.specs.Hash.{hash_text}
use Rattle.tree_model.specs.Path.{inside}
use Rattle.tree_model.specs.Tree.{entry_at}
use Rattle.outside_traits.specs.Store.{Store}
use Rattle.outside_traits.proofs.Puts.{path_cases}
use Rattle.meta_model.proofs.Bools.{either_way, same_text, text_itself}
use Rattle.store_model.specs.declared.signature.StoredSig.{StoredSig}
use Rattle.store_model.specs.Origins.{Book, Line}
use Rattle.store_model.specs.Paths.{record_path}
use Rattle.store_model.specs.Publication.{record_file}
use Rattle.store_model.specs.Spelling.{name_of}
use Rattle.store_model.specs.Valid.{record_entry, stored_of}
use Rattle.store_model.proofs.Digests.{same_name_text}
use Rattle.store_model.proofs.Ordered.{each_weaker}
use Rattle.store_move.specs.Moves.{present}
use Rattle.store_move.specs.Parts.{part}
use Rattle.record_move.specs.declared.records.AddedRecord.{AddedRecord}
use Rattle.record_move.specs.Rounds.{IsAddedAs}
use Rattle.store_upgrade.proofs.Zipped.{Distinct}

-- the text of a line's name
abbrev pub text : Line → List ℕ
text line = hash_text (name_of line.sig)

abbrev pub entries : Book → List (List ℕ × Entry)
entries book = map record_entry book

-- ---- one line at the head

pub entry_first : (line : Line) (rest : Book) (path : List ℕ) → text line ≡ path → entry_at (entries (line ∷ rest)) path ≡ Some (record_file (stored_of line))
entry_first line rest path same = rw (ap (λ (p : List ℕ). bytes_eq p path) same ∙ text_itself path) refl

pub entry_other : (line : Line) (rest : Book) (path : List ℕ) → text line ≢ path → entry_at (entries (line ∷ rest)) path ≡ entry_at (entries rest) path
entry_other line rest path other = elim (either_way (bytes_eq (text line) path)) [
  | inl t ↦ absurd (other (same_text (text line) path t))
  | inr f ↦ rw f refl
]

-- no line has the path
pub entry_none : (book : Book) (path : List ℕ) → AllByRecursion (λ (l : Line). text l ≢ path) book → entry_at (entries book) path ≡ None
entry_none [] path all = refl
entry_none (l ∷ ls) path all = entry_other l ls path all.0 ∙ entry_none ls path all.1

-- a line has it
pub entry_some : (book : Book) (line : Line) → Contains book line → IsSome (entry_at (entries book) (text line))
entry_some [] line has = absurd (let lt = has.1 in omega (arith, lt))
entry_some (l ∷ ls) line (zero, lt, e) = ap is_some (entry_first l ls (text line) (ap text e))
entry_some (l ∷ ls) line (suc k, lt, e) = at (path_cases (text l) (text line)) (entry_some ls line (k, omega (arith, lt), e))
  where
    at : (text l ≡ text line) ⊎ (text l ≢ text line) → IsSome (entry_at (entries ls) (text line)) → IsSome (entry_at (entries (l ∷ ls)) (text line))
    at (inl same) some = ap is_some (entry_first l ls (text line) same)
    at (inr other) some = ap is_some (entry_other l ls (text line) other) ∙ some

pub entry_append : (xs ys : Book) (path : List ℕ) → entry_at (entries (xs ++ ys)) path ≡ option_or (entry_at (entries xs) path) (entry_at (entries ys) path)
entry_append [] ys path = refl
entry_append (x ∷ xs) ys path = at (path_cases (text x) path) (entry_append xs ys path)
  where
    at : (text x ≡ path) ⊎ (text x ≢ path) → entry_at (entries (xs ++ ys)) path ≡ option_or (entry_at (entries xs) path) (entry_at (entries ys) path)
        → entry_at (entries (x ∷ (xs ++ ys))) path ≡ option_or (entry_at (entries (x ∷ xs)) path) (entry_at (entries ys) path)
    at (inl same) rest = entry_first x (xs ++ ys) path same ∙ sym (ap (λ (o : Option Entry). option_or o (entry_at (entries ys) path)) (entry_first x xs path same))
    at (inr other) rest = entry_other x (xs ++ ys) path other ∙ rest ∙ sym (ap (λ (o : Option Entry). option_or o (entry_at (entries ys) path)) (entry_other x xs path other))

-- ---- parts

pub each_kept : (P : Line → Type 0) (keep : Line → Bool) (book : Book) → AllByRecursion P book → AllByRecursion P (part keep book)
each_kept P keep [] all = tt
each_kept P keep (l ∷ ls) all = at (keep l) (each_kept P keep ls all.1)
  where
    at : (b : Bool) → AllByRecursion P (part keep ls) → AllByRecursion P (cond b (l ∷ part keep ls) (part keep ls))
    at true rest = (all.0, rest)
    at false rest = rest

pub part_first : (keep : Line → Bool) (line : Line) (rest : Book) → keep line ≡ true → part keep (line ∷ rest) ≡ line ∷ part keep rest
part_first keep line rest t = rw t refl

pub part_other : (keep : Line → Bool) (line : Line) (rest : Book) → keep line ≡ false → part keep (line ∷ rest) ≡ part keep rest
part_other keep line rest f = rw f refl

pub part_all : (keep : Line → Bool) (book : Book) → AllByRecursion (λ (l : Line). keep l ≡ true) book → part keep book ≡ book
part_all keep [] all = refl
part_all keep (l ∷ ls) all = part_first keep l ls all.0 ∙ ap (λ (b : Book). l ∷ b) (part_all keep ls all.1)

-- ---- lines beside the records that are added

-- Of an added record its line is kept, and it stands at its place, or neither.
pub record IsSide (image : Store) (keep : Line → Bool) (line : Line) (a : AddedRecord) : Type 0 where
  pub added : IsAddedAs line a
  pub which : ((keep line ≡ true) × (image (record_path a.name) ≡ Some (record_file a.stored))) ⊎ ((keep line ≡ false) × (image (record_path a.name) ≡ None))

-- at the place of none of them nothing stands
abbrev pub IsNoneElse : Store → List ℕ → List AddedRecord → Type 0
IsNoneElse image path added = ((a : AddedRecord) → Contains added a → path ≢ hash_text a.name) → image (inside (codes "rec2") path) ≡ None

pub part_entries : (image : Store) (keep : Line → Bool) (path : List ℕ) (more : Book) (added : List AddedRecord) → Distinct present more → AllZip (IsSide image keep) more added
    → IsNoneElse image path added
    → image (inside (codes "rec2") path) ≡ entry_at (entries (part keep more)) path
part_entries image keep path [] [] distinct all none = none (λ a has e. let lt = has.1 in omega (arith, lt))
part_entries image keep path [] (x ∷ xs) distinct all none = absurd all
part_entries image keep path (l ∷ ls) [] distinct all none = absurd all
part_entries image keep path (l ∷ ls) (x ∷ xs) distinct all none = at (path_cases (text l) path) all.0.which (part_entries image keep path ls xs distinct.1 all.1)
  where
    place : hash_text x.name ≡ text l
    place = ap hash_text all.0.added.name

    absent : (a : AddedRecord) → text l ≢ path → ((b : AddedRecord) → Contains xs b → path ≢ hash_text b.name) → Contains (x ∷ xs) a → path ≢ hash_text a.name
    absent a other rest (zero, lt, e) same = other (sym place ∙ ap (λ (b : AddedRecord). hash_text b.name) e ∙ sym same)
    absent a other rest (suc k, lt, e) same = rest a (k, omega (arith, lt), e) same

    later : text l ≢ path → (IsNoneElse image path xs → image (inside (codes "rec2") path) ≡ entry_at (entries (part keep ls)) path)
        → image (inside (codes "rec2") path) ≡ entry_at (entries (part keep ls)) path
    later other rest = rest (λ others. none (λ a has. absent a other others has))

    -- those behind have other names
    behind : text l ≡ path → entry_at (entries (part keep ls)) path ≡ None
    behind same = entry_none (part keep ls) path (each_kept (λ (m : Line). text m ≢ path) keep ls
        (each_weaker (λ (m : Line). name_of l.sig ≢ name_of m.sig) (λ (m : Line). text m ≢ path) (λ m ne e. ne (same_name_text l.sig m.sig (same ∙ sym e))) ls distinct.0))

    here : text l ≡ path → image (inside (codes "rec2") path) ≡ image (record_path x.name)
    here same = ap (λ (p : List ℕ). image (inside (codes "rec2") p)) (sym same ∙ sym place)

    at : (text l ≡ path) ⊎ (text l ≢ path) → ((keep l ≡ true) × (image (record_path x.name) ≡ Some (record_file x.stored))) ⊎ ((keep l ≡ false) × (image (record_path x.name) ≡ None))
        → (IsNoneElse image path xs → image (inside (codes "rec2") path) ≡ entry_at (entries (part keep ls)) path) → image (inside (codes "rec2") path) ≡ entry_at (entries (part keep (l ∷ ls))) path
    at (inr other) (inl w) rest = later other rest ∙ sym (ap (λ (b : Book). entry_at (entries b) path) (part_first keep l ls w.0) ∙ entry_other l (part keep ls) path other)
    at (inr other) (inr w) rest = later other rest ∙ sym (ap (λ (b : Book). entry_at (entries b) path) (part_other keep l ls w.0))
    at (inl same) (inl w) rest =
        here same ∙ w.1 ∙ ap (λ (s : StoredSig). Some (record_file s)) all.0.added.stored
        ∙ sym (ap (λ (b : Book). entry_at (entries b) path) (part_first keep l ls w.0) ∙ entry_first l (part keep ls) path same)
    at (inl same) (inr w) rest = here same ∙ w.1 ∙ sym (ap (λ (b : Book). entry_at (entries b) path) (part_other keep l ls w.0) ∙ behind same)
