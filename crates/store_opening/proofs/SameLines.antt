-- Valid books with the same lines.
use Rattle.std.proofs.Common.{inl, inr, ◌≡◌, ◌∙◌, sym, ap, subst, refl, ℕ, zero, suc, ◌<◌, List, [], ◌∷◌, length, get_or, arith, Option, Some, None, Result}
use Rattle.std.specs.Prelude.{slice_get}
use Rattle.std.specs.List.{AllByRecursion}
use Rattle.std.proofs.lemmas.List.{length-append, map-append}
use Rattle.std.proofs.lemmas.List.Elements.{recursion_from_All}
use Rattle.std.proofs.lemmas.Option.{get_or_from_slice_get, slice_get-get_or, slice_get_within}
use Rattle.tree_model.specs.declared.entry.Entry.{Entry}
use Rattle.tree_model.specs.declared.hash.Hash.{Hash}
use Rattle.tree_model.specs.Hash.{hash_text}
use Rattle.tree_model.specs.Tree.{entry_at}
use Rattle.meta_model.proofs.Bools.{either_way, same_text, text_itself}
use Rattle.meta_model.specs.CleanBuild.{Entries, Gives, Lack}
use Rattle.std.specs.Str.{bytes_eq}
use Rattle.std.specs.Option.{option_map}
use Rattle.std.specs.Prelude.{◌++◌, ◌≢◌, Bool, true, false, map}
use Rattle.store_model.specs.declared.signature.DepLine.{DepLine}
use Rattle.store_model.specs.declared.signature.EquivRow.{EquivRow}
use Rattle.store_model.specs.Origins.{Book, Line, Reading, Traced, dep_outputs, origin, outcome_named, row_of, rows_of, traced, traced_over, with_dep}
use Rattle.store_model.specs.Rows.{row_at}
use Rattle.store_model.specs.Spelling.{name_of}
use Rattle.store_model.specs.Valid.{IsNamedBefore, IsValidBook, StandsIn, record_entry}
use Rattle.store_model.proofs.Digests.{same_name_text}
use Rattle.store_model.proofs.Listing.{find_behind}
use Rattle.store_model.proofs.Ordered.{map_each}
use Rattle.store_model.proofs.Standing.{AllNew, each_line, one_place, row_found, row_none, stands_behind, stands_earlier, stands_first}
use Rattle.store_model.proofs.Tracing.{outcome_at}
use Rattle.store_model.specs.Lines.{HaveSameLines}

pub other_lines : (book again : Book) → HaveSameLines book again → HaveSameLines again book
other_lines book again same = record { whole = same.only; only = same.whole }

-- no earlier line has this text for its name
unlike : (before : Book) (line : Line) (path : List ℕ) → hash_text (name_of line.sig) ≡ path → ((behind : Book) (l : Line) → StandsIn before behind l → name_of l.sig ≢ name_of line.sig) → AllByRecursion (λ e. bytes_eq e.0 path ≡ false) (map record_entry before)
unlike before line path is new = map_each record_entry (λ e. bytes_eq e.0 path ≡ false) before (each_line (λ l. bytes_eq (hash_text (name_of l.sig)) path ≡ false) before (λ behind l s.
    elim (either_way (bytes_eq (hash_text (name_of l.sig)) path)) [
      | inl t ↦ absurd (new behind l s (same_name_text l.sig line.sig (same_text (hash_text (name_of l.sig)) path t ∙ sym is)))
      | inr f ↦ f
    ]))

-- what a book says of a line's name
pub entry_of_line : (before rest : Book) (line : Line) → ((behind : Book) (l : Line) → StandsIn before behind l → name_of l.sig ≢ name_of line.sig) → entry_at (map record_entry (before ++ line ∷ rest)) (hash_text (name_of line.sig)) ≡ Some (record_entry line).1
entry_of_line before rest line new =
    let path = hash_text (name_of line.sig) in
    ap (λ l. entry_at l path) (map-append record_entry before (line ∷ rest))
    ∙ ap (option_map (λ e. e.1)) (find_behind (λ e. bytes_eq e.0 path) (map record_entry before) (record_entry line) (map record_entry rest) (unlike before line path refl new) (text_itself path))

-- an earlier line has fewer before it
fewer : (before behind : Book) (earlier : Line) → StandsIn before behind earlier → length behind < length before
fewer before behind earlier s = omega (arith, ap (length {A = Line}) s.is, length-append behind (earlier ∷ s.rest))

-- an entry of a book is that of a line
pub entry_found : (book : Book) (path : List ℕ) (e : Entry) → entry_at (map record_entry book) path ≡ Some e → (before : Book) × (line : Line) × StandsIn book before line × (hash_text (name_of line.sig) ≡ path) × ((record_entry line).1 ≡ e)
entry_found [] path e is = absurd (let f : None ≡ Some e = is in cc)
entry_found (first ∷ rest) path e is = by (bytes_eq (hash_text (name_of first.sig)) path) refl (entry_found rest path e)
  where
    by : (b : Bool) → bytes_eq (hash_text (name_of first.sig)) path ≡ b → (entry_at (map record_entry rest) path ≡ Some e → (before : Book) × (line : Line) × StandsIn rest before line × (hash_text (name_of line.sig) ≡ path) × ((record_entry line).1 ≡ e)) → (before : Book) × (line : Line) × StandsIn (first ∷ rest) before line × (hash_text (name_of line.sig) ≡ path) × ((record_entry line).1 ≡ e)
    by true t later = let e' = rw t at is in let f : Some (record_entry first).1 ≡ Some e = e' in ([], first, stands_first first rest, same_text (hash_text (name_of first.sig)) path t, cc)
    by false t later = let r = later (rw t at is) in (first ∷ r.0, r.1, stands_behind first rest r.0 r.1 r.2, r.3, r.4)

module _ (gives : Gives) (reading : Reading) where
  all_new : (book : Book) → IsValidBook gives reading book → AllNew book
  all_new book valid before line s behind earlier t = let v = valid before line s in v.new behind earlier t

  pub entry_there : (book before : Book) (line : Line) → IsValidBook gives reading book → StandsIn book before line → entry_at (map record_entry book) (hash_text (name_of line.sig)) ≡ Some (record_entry line).1
  entry_there book before line valid s = ap (λ b. entry_at (map record_entry b) (hash_text (name_of line.sig))) s.is ∙ entry_of_line before s.rest line (let v = valid before line s in v.new)

module _ (gives : Gives) (reading : Reading) (book again : Book) (valid : IsValidBook gives reading book) (valid' : IsValidBook gives reading again) (same : HaveSameLines book again) where
  -- their records are the same
  pub same_entries : (path : List ℕ) → entry_at (map record_entry again) path ≡ entry_at (map record_entry book) path
  same_entries path = by (entry_at (map record_entry again) path) (entry_at (map record_entry book) path) refl refl
    where
      by : (o q : Option Entry) → entry_at (map record_entry again) path ≡ o → entry_at (map record_entry book) path ≡ q → entry_at (map record_entry again) path ≡ entry_at (map record_entry book) path
      by None None e f = e ∙ sym f
      by (Some x) q e f =
          let l = entry_found again path x e in
          let b = same.only l.0 l.1 l.2 in
          e ∙ ap Some (sym l.4) ∙ sym (entry_there gives reading book b.0 l.1 valid b.1) ∙ ap (entry_at (map record_entry book)) l.3
      by None (Some y) e f =
          let l = entry_found book path y f in
          let b = same.whole l.0 l.1 l.2 in
          absurd (let k : None ≡ Some (record_entry l.1).1 = sym e ∙ ap (entry_at (map record_entry again)) (sym l.3) ∙ entry_there gives reading again b.0 l.1 valid' b.1 in cc)

  -- two lines of the book with one name are one
  same_line : (b c : Book) (k l : Line) → StandsIn book b k → StandsIn book c l → name_of k.sig ≡ name_of l.sig → k ≡ l
  same_line b c k l s t name = (one_place book b c k l (all_new gives reading book valid) s t name).1

  -- so are their rows
  pub same_rows : (name : Hash) → row_at (rows_of again) name ≡ row_at (rows_of book) name
  same_rows name = by (row_at (rows_of again) name) (row_at (rows_of book) name) refl refl
    where
      by : (o q : Option EquivRow) → row_at (rows_of again) name ≡ o → row_at (rows_of book) name ≡ q → row_at (rows_of again) name ≡ row_at (rows_of book) name
      by None None e f = e ∙ sym f
      by (Some r) None e f =
          let l = row_found again name r e in
          let b = same.only l.0 l.1 l.2 in
          absurd (row_none book name f b.0 l.1 b.1 l.4)
      by None (Some s) e f =
          let l = row_found book name s f in
          let b = same.whole l.0 l.1 l.2 in
          absurd (row_none again name e b.0 l.1 b.1 l.4)
      by (Some r) (Some s) e f =
          let l = row_found again name r e in
          let m = row_found book name s f in
          let b = same.only l.0 l.1 l.2 in
          let one : l.1 ≡ m.1 = same_line b.0 m.0 l.1 m.1 b.1 m.2 (l.4 ∙ sym m.4) in
          e ∙ ap Some (sym l.3 ∙ ap row_of one ∙ m.3) ∙ sym f

  -- outputs of needed tasks that are the same one by one
  same_deps : (xs ys : List Traced) (deps : List DepLine) → AllByRecursion (λ (dep : DepLine). outcome_named xs dep.name ≡ outcome_named ys dep.name) deps → dep_outputs xs deps ≡ dep_outputs ys deps
  same_deps xs ys [] all = refl
  same_deps xs ys (dep ∷ deps) all = ap (λ (r : Result Entries Lack). with_dep dep r (dep_outputs xs deps)) all.0 ∙ ap (with_dep dep (outcome_named ys dep.name)) (same_deps xs ys deps all.1)

  origin_within : (n : ℕ) (before was : Book) (line : Line) → StandsIn again before line → StandsIn book was line → length before < n → origin gives reading before line ≡ origin gives reading was line
  origin_within zero before was line s t lt = absurd (omega (arith, lt))
  origin_within (suc n) before was line s t lt =
      ap (traced_over gives reading line) (same_deps (traced gives reading before) (traced gives reading was) line.sig.deps
      (recursion_from_All (λ (dep : DepLine). outcome_named (traced gives reading before) dep.name ≡ outcome_named (traced gives reading was) dep.name) line.sig.deps
      (λ i d inside. one_dep i (get_or line.sig.deps i d) (slice_get-get_or line.sig.deps i d inside) (λ b w l x y less. origin_within n b w l x y less))))
    where
      one_dep : (i : ℕ) (dep : DepLine) → slice_get line.sig.deps i ≡ Some dep
          → ((b w : Book) (l : Line) → StandsIn again b l → StandsIn book w l → length b < n → origin gives reading b l ≡ origin gives reading w l)
          → outcome_named (traced gives reading before) dep.name ≡ outcome_named (traced gives reading was) dep.name
      one_dep i dep e later =
          let inside = slice_get_within line.sig.deps i dep e in
          let now : IsNamedBefore before dep = subst (IsNamedBefore before) (get_or_from_slice_get line.sig.deps i dep dep e) (let v = valid' before line s in v.deps i dep inside) in
          let old : IsNamedBefore was dep = subst (IsNamedBefore was) (get_or_from_slice_get line.sig.deps i dep dep e) (let v = valid was line t in v.deps i dep inside) in
          let in_again = stands_earlier again before now.behind line now.line s now.stands in
          let in_book = stands_earlier book was old.behind line old.line t old.stands in
          let there = same.only now.behind now.line in_again in
          let one : now.line ≡ old.line = same_line there.0 old.behind now.line old.line there.1 in_book (now.name ∙ sym old.name) in
          let was_there : StandsIn was old.behind now.line = subst (StandsIn was old.behind) (sym one) old.stands in
          let was_in_book : StandsIn book old.behind now.line = subst (StandsIn book old.behind) (sym one) in_book in
          outcome_at gives reading before now.behind now.line dep.name now.stands now.name (λ b l x q. all_new gives reading again valid' now.behind now.line in_again b l x (q ∙ sym now.name))
          ∙ later now.behind old.behind now.line in_again was_in_book (omega (arith, lt, fewer before now.behind now.line now.stands))
          ∙ sym (outcome_at gives reading was old.behind now.line dep.name was_there now.name (λ b l x q. all_new gives reading book valid old.behind now.line was_in_book b l x (q ∙ sym now.name)))

  -- and the origin of each line
  pub same_origin : (before was : Book) (line : Line) → StandsIn again before line → StandsIn book was line → origin gives reading before line ≡ origin gives reading was line
  same_origin before was line s t = origin_within (suc (length before)) before was line s t (omega arith)
