-- Publications keep a store valid.
use Rattle.std.proofs.Common.{◌≡◌, ◌≢◌, ◌∙◌, sym, ap, subst, refl, ℕ, ◌⊎◌, inl, inr, Bool, true, false, List, [], ◌∷◌, ◌++◌, map, Some}
use Rattle.std.specs.Prelude.{codes, find}
use Rattle.std.specs.Option.{option_map}
use Rattle.std.specs.Str.{bytes_eq}
use Rattle.std.proofs.lemmas.List.{map-append}
use Rattle.tree_model.specs.declared.hash.Hash.{Hash}
use Rattle.tree_model.specs.Hash.{hash_text}
use Rattle.tree_model.specs.Path.{inside}
use Rattle.tree_model.specs.Tree.{entry_at}
use Rattle.outside_traits.specs.Store.{Store}
use Rattle.outside_traits.proofs.Folders.{under_same}
use Rattle.outside_traits.proofs.Puts.{path_cases}
use Rattle.meta_model.proofs.Bools.{either_way, same_text}
use Rattle.meta_model.specs.CleanBuild.{Gives}
use Rattle.store_model.specs.Origins.{Book, Line, Reading}
use Rattle.store_model.specs.Spelling.{key_name, name_of}
use Rattle.store_model.specs.Valid.{HasKey, HasKeys, IsValid, IsValidLine, StandsIn, record_entry}
use Rattle.store_model.proofs.Digests.{same_key_text}
use Rattle.store_model.proofs.Standing.{split_last}
use Rattle.store_model.specs.Lines.{HasLine}
use Rattle.build_store.specs.Laws.{IsOfLine, PublishedIsValid, WritesNewKey}
use Rattle.store_model.specs.Paths.{key_path, record_path}
use Rattle.store_model.specs.Publication.{Publication}
use Rattle.build_store.specs.Publication.{Publishes}
use Rattle.store_opening.proofs.Areas.{apart_by_first, differ, heads_differ}
use Rattle.store_opening.proofs.SameLines.{entry_of_line}
use Rattle.build_store.proofs.Stays.{foreign_key_path}

-- ---- the records of a book

find_last : {A : Type 0} (p : A → Bool) (xs : List A) (y : A) → p y ≡ false → find p (xs ++ y ∷ []) ≡ find p xs
find_last p [] y f = rw f refl
find_last p (x ∷ xs) y f = by (p x) refl (find_last p xs y f)
  where
    by : (b : Bool) → p x ≡ b → find p (xs ++ y ∷ []) ≡ find p xs → find p (x ∷ xs ++ y ∷ []) ≡ find p (x ∷ xs)
    by true e more = simp e
    by false e more = simp e more

-- what a book says of another name, with a line behind
entry_beside : (book : Book) (line : Line) (path : List ℕ) → hash_text (name_of line.sig) ≢ path → entry_at (map record_entry (book ++ line ∷ [])) path ≡ entry_at (map record_entry book) path
entry_beside book line path ne =
    ap (λ l. entry_at l path) (map-append record_entry book (line ∷ []))
    ∙ ap (option_map (λ e. e.1)) (find_last (λ e. bytes_eq e.0 path) (map record_entry book) (record_entry line) not)
  where
    not : bytes_eq (hash_text (name_of line.sig)) path ≡ false
    not = elim (either_way (bytes_eq (hash_text (name_of line.sig)) path)) [ inl t ↦ absurd (ne (same_text (hash_text (name_of line.sig)) path t)) | inr f ↦ f ]

-- ---- publications

module _ (p : Publication) (line : Line) (old new : Store) (of : IsOfLine p line) (publishes : Publishes p old new) (gives : Gives) (reading : Reading) (book : Book) (was : IsValid gives reading old book) (unused : WritesNewKey p book) where
  -- other records stay
  beside : (path : List ℕ) → hash_text (name_of line.sig) ≢ path → new (inside (codes "rec2") path) ≡ old (inside (codes "rec2") path)
  beside path ne = publishes.others (inside (codes "rec2") path) (record {
    temporary = λ below. heads_differ (differ 114 116 refl) below.1;
    work = apart_by_first (101 ∷ 99 ∷ 50 ∷ 47 ∷ path) (111 ∷ 114 ∷ 107 ∷ 47 ∷ p.folder) (differ 114 119 refl);
    stamp = apart_by_first (101 ∷ 99 ∷ 50 ∷ 47 ∷ path) (116 ∷ 97 ∷ 109 ∷ 112 ∷ 47 ∷ p.folder) (differ 114 115 refl);
    stored = λ is_new same. ne (sym (ap hash_text of.name) ∙ sym (under_same (codes "rec2") path (hash_text p.name) same));
    key = λ writes. heads_differ (differ 114 107 refl);
    shared = λ unihash is. apart_by_first (101 ∷ 99 ∷ 50 ∷ 47 ∷ path) (98 ∷ 106 ∷ 47 ∷ hash_text unihash) (differ 114 111 refl);
  })

  -- and so do the keys of the book
  keys_stay : HasKeys new book
  keys_stay before l s = publishes.others (key_path (key_name l.sig.key)) (foreign_key_path p (key_name l.sig.key) (λ writes same.
      let text : hash_text (key_name l.sig.key) ≡ hash_text (key_name line.sig.key) = under_same (codes "key") (hash_text (key_name l.sig.key)) (hash_text (key_name line.sig.key)) (same ∙ ap key_path of.key) in
      unused writes before l s (same_key_text l.sig.key line.sig.key text ∙ sym of.key))) ∙ was.keys before l s

  place : record_path p.name ≡ inside (codes "rec2") (hash_text (name_of line.sig))
  place = ap record_path of.name

  -- where its own path is as it was, so are all records
  same_book : new (record_path p.name) ≡ old (record_path p.name) → IsValid gives reading new book
  same_book same = record { records = λ path. all path ∙ was.records path; lines = was.lines; keys = keys_stay }
    where
      all : (path : List ℕ) → new (inside (codes "rec2") path) ≡ old (inside (codes "rec2") path)
      all path = elim (path_cases (hash_text (name_of line.sig)) path) [
        | inl e ↦ ap (λ (q : List ℕ). new (inside (codes "rec2") q)) (sym e) ∙ ap new (sym place) ∙ same ∙ ap old place ∙ ap (λ (q : List ℕ). old (inside (codes "rec2") q)) e
        | inr ne ↦ beside path ne
      ]

  stored_line : new (record_path p.name) ≡ Some p.file → new (inside (codes "rec2") (hash_text (name_of line.sig))) ≡ Some (record_entry line).1
  stored_line now = ap new (sym place) ∙ now ∙ ap (λ e. Some e) of.file

  -- the line stands in the book already
  known_line : HasLine book line → new (record_path p.name) ≡ Some p.file → IsValid gives reading new book
  known_line has now = same_book (
      now ∙ ap (λ e. Some e) of.file ∙ sym (
      ap old place ∙ was.records (hash_text (name_of line.sig)) ∙ ap (λ b. entry_at (map record_entry b) (hash_text (name_of line.sig))) has.1.is
      ∙ entry_of_line has.0 has.1.rest line (was.lines has.0 line has.1).new))

  -- the line comes behind it
  new_line : IsValidLine gives reading book line → new (record_path p.name) ≡ Some p.file → new (key_path p.key) ≡ Some p.key_file → IsValid gives reading new (book ++ line ∷ [])
  new_line valid now has = record {
    records = λ path. elim (path_cases (hash_text (name_of line.sig)) path) [
      | inl e ↦ ap (λ (q : List ℕ). new (inside (codes "rec2") q)) (sym e) ∙ stored_line now ∙ sym (entry_of_line book [] line valid.new) ∙ ap (entry_at (map record_entry (book ++ line ∷ []))) e
      | inr ne ↦ beside path ne ∙ was.records path ∙ sym (entry_beside book line path ne)
    ];
    lines = λ before l s. by before l (split_last book before line l s);
    keys = λ before l s. key_of before l (split_last book before line l s);
  }
    where
      own : HasKey new line.sig.key
      own = ap (λ (h : Hash). new (key_path h)) (sym of.key) ∙ has ∙ ap (λ e. Some e) of.key_file

      key_of : (before : Book) (l : Line) → ((before ≡ book) × (l ≡ line)) ⊎ StandsIn book before l → HasKey new l.sig.key
      key_of before l (inr s) = keys_stay before l s
      key_of before l (inl e) = subst (λ (x : Line). HasKey new x.sig.key) (sym e.1) own

      by : (before : Book) (l : Line) → ((before ≡ book) × (l ≡ line)) ⊎ StandsIn book before l → IsValidLine gives reading before l
      by before l (inr s) = was.lines before l s
      by before l (inl e) =
          let P : Book → Type 0 = λ b. IsValidLine gives reading b l in
          let Q : Line → Type 0 = λ x. IsValidLine gives reading book x in
          subst P (sym e.0) (subst Q (sym e.1) valid)

  valid_after : HasLine book line ⊎ IsValidLine gives reading book line → IsValid gives reading new book ⊎ IsValid gives reading new (book ++ line ∷ [])
  valid_after line_is = by publishes.stored line_is
    where
      by : (new (record_path p.name) ≡ old (record_path p.name)) ⊎ ((p.is_new ≡ true) × (new (record_path p.name) ≡ Some p.file) × (new (key_path p.key) ≡ Some p.key_file)) → HasLine book line ⊎ IsValidLine gives reading book line → IsValid gives reading new book ⊎ IsValid gives reading new (book ++ line ∷ [])
      by (inl same) which = inl (same_book same)
      by (inr now) (inl has) = inl (known_line has now.1)
      by (inr now) (inr valid) = inr (new_line valid now.1 now.2)

pub published_is_valid : PublishedIsValid
published_is_valid p line old new of publishes gives reading book was unused line_is = valid_after p line old new of publishes gives reading book was unused line_is
