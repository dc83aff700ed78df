-- A recorded line keeps a store valid.
use Rattle.std.proofs.Common.{◌≡◌, ◌≢◌, ◌∙◌, sym, ap, refl, subst, ℕ, Bool, true, false, List, [], ◌∷◌, ◌++◌, map, Some, None, Ok, inl, inr}
use Rattle.std.specs.Prelude.{codes, find, if◌then◌else◌}
use Rattle.std.specs.Option.{option_map}
use Rattle.std.specs.Str.{bytes_eq}
use Rattle.std.specs.List.{AllByRecursion, filter_map, slice_get}
use Rattle.std.proofs.lemmas.List.{append-nil, map-append}
use Rattle.std.proofs.lemmas.List.Elements.{All-from_recursion, recursion_from_All}
use Rattle.tree_model.specs.Hash.{hash_text}
use Rattle.tree_model.specs.Path.{inside}
use Rattle.tree_model.specs.Tree.{entry_at}
use Rattle.meta_model.proofs.Bools.{either_way, same_text}
use Rattle.meta_model.specs.declared.plan.PlanTask.{PlanTask}
use Rattle.meta_model.specs.CleanBuild.{Built, Entries, Gives, clean_build}
use Rattle.store_model.specs.declared.signature.EquivRow.{EquivRow}
use Rattle.store_model.specs.Paths.{key_path}
use Rattle.store_model.specs.Premises.{HasOneKey}
use Rattle.store_model.specs.Spelling.{key_bytes, key_name, name_of}
use Rattle.store_model.specs.Rows.{row_at}
use Rattle.store_model.specs.Signatures.{Signed, dep_line, is_dep_before, signatures, signed_needs}
use Rattle.store_model.specs.Origins.{Book, Line, Reading, origin, rows_of}
use Rattle.outside_traits.specs.Store.{Store}
use Rattle.outside_traits.proofs.Puts.{put-same}
use Rattle.tree_model.specs.declared.entry.Entry.TheVariants.{File}
use Rattle.meta_model.specs.declared.value.Key.{Key}
use Rattle.store_model.specs.Valid.{HasKey, HasKeys, IsNamedBefore, IsValidLine, StandsIn, key_file, record_entry}
use Rattle.store_model.specs.Reuse.{MayReuse}
use Rattle.store_model.specs.Recording.{HasRow, NeedsHaveRows, RecordingIsValid, recorded, with_record}
use Rattle.store_model.proofs.Listing.{find_behind}
use Rattle.store_model.proofs.Standing.{each_line, row_none, split_last}
use Rattle.store_model.proofs.Ordered.{each_ordered, map_each}
use Rattle.store_model.proofs.Signing.{both_at, both_places}
use Rattle.store_model.specs.Spelled.{IsSpelled}
use Rattle.store_model.proofs.Spelled.{signature_is_spelled}
use Rattle.store_model.proofs.Digests.{same_key_text, same_name_text}
use Rattle.store_model.proofs.Unihashes.{new_unihash_is}
use Rattle.store_model.proofs.Reusing.{Reused, clean_line}
use Rattle.store_model.proofs.Staging.{Staged, all_named, all_staged, each_front}

-- ---- what is held under `rec2/` and `key/`

find_last : {A : Type 0} (p : A → Bool) (xs : List A) (y : A) → p y ≡ false → find p (xs ++ y ∷ []) ≡ find p xs
find_last p [] y f = rw f refl
find_last p (x ∷ xs) y f = by (p x) refl (find_last p xs y f)
  where
    by : (b : Bool) → p x ≡ b → find p (xs ++ y ∷ []) ≡ find p xs → find p (x ∷ xs ++ y ∷ []) ≡ find p (x ∷ xs)
    by true e more = simp e
    by false e more = simp e more

-- the store with one more record holds the records of the book and that one
records_kept : (now : Store) (book : Book) (line : Line) → ((path : List ℕ) → now (inside (codes "rec2") path) ≡ entry_at (map record_entry book) path) → ((before : Book) (l : Line) → StandsIn book before l → name_of l.sig ≢ name_of line.sig) → (path : List ℕ) → with_record now line (inside (codes "rec2") path) ≡ entry_at (map record_entry (book ++ line ∷ [])) path
records_kept now book line held new path = by (bytes_eq (hash_text (name_of line.sig)) path) refl
  where
    lists : map record_entry (book ++ line ∷ []) ≡ map record_entry book ++ record_entry line ∷ []
    lists = map-append record_entry book (line ∷ [])

    unlike : hash_text (name_of line.sig) ≡ path → (before : Book) (l : Line) → StandsIn book before l → bytes_eq (hash_text (name_of l.sig)) path ≡ false
    unlike is before l s = elim (either_way (bytes_eq (hash_text (name_of l.sig)) path)) [
      | inl t ↦ absurd (new before l s (same_name_text l.sig line.sig (same_text (hash_text (name_of l.sig)) path t ∙ sym is)))
      | inr f ↦ f
    ]

    by : (b : Bool) → bytes_eq (hash_text (name_of line.sig)) path ≡ b → (if b then Some (record_entry line).1 else now (inside (codes "rec2") path)) ≡ entry_at (map record_entry (book ++ line ∷ [])) path
    by true t =
        let is = same_text (hash_text (name_of line.sig)) path t in
        let none = map_each record_entry (λ e. bytes_eq e.0 path ≡ false) book (each_line (λ l. bytes_eq (hash_text (name_of l.sig)) path ≡ false) book (unlike is)) in
        sym (ap (λ l. entry_at l path) lists ∙ ap (option_map (λ e. e.1)) (find_behind (λ e. bytes_eq e.0 path) (map record_entry book) (record_entry line) [] none t))
    by false f =
        held path ∙ sym (ap (λ l. entry_at l path) lists ∙ ap (option_map (λ e. e.1)) (find_last (λ e. bytes_eq e.0 path) (map record_entry book) (record_entry line) f))

-- the store with one more record holds the keys of the book and that one
keys_kept : (now : Store) (book : Book) (line : Line) → HasKeys now book → HasOneKey book line.sig → HasKeys (with_record now line) (book ++ line ∷ [])
keys_kept now book line held one before l s = elim (split_last book before line l s) [
  | inl p ↦ subst (λ (x : Line). HasKey (with_record now line) x.sig.key) (sym p.1) (own line.sig.key refl refl)
  | inr u ↦ by before l u
]
  where
    -- a key with this digest and these bytes is there
    own : (key : Key) → key_name line.sig.key ≡ key_name key → key_bytes line.sig.key ≡ key_bytes key → HasKey (with_record now line) key
    own key name bytes = put-same now (key_path (key_name line.sig.key)) (key_path (key_name key)) (Some (key_file line.sig.key)) (ap key_path (sym name)) ∙ ap (λ (b : List ℕ). Some (File false b)) bytes

    by : (c : Book) (x : Line) → StandsIn book c x → HasKey (with_record now line) x.sig.key
    by c x u = elim (either_way (bytes_eq (hash_text (key_name line.sig.key)) (hash_text (key_name x.sig.key)))) [
      | inl t ↦
          let name = same_key_text line.sig.key x.sig.key (same_text (hash_text (key_name line.sig.key)) (hash_text (key_name x.sig.key)) t) in
          own x.sig.key name (sym (one c x u (sym name)))
      | inr f ↦ ap (λ (a : Bool). if a then Some (key_file line.sig.key) else now (key_path (key_name x.sig.key))) f ∙ held c x u
    ]

-- ---- the new line

module _ (gives : Gives) (reading : Reading) (held : Store) (book : Book) (tasks : List PlanTask) (may : MayReuse gives reading held book tasks) (n : ℕ) (s : Signed) (built : Built) (is_s : slice_get (signatures (rows_of book) tasks) n ≡ Some s) (is_b : slice_get (clean_build gives tasks) n ≡ Some built) where
  abbrev Rows : List EquivRow
  Rows = rows_of book

  abbrev Stage : Signed → Built → Type 0
  Stage = Staged gives reading held book tasks may.valid may.no_clash

  pub stage : Stage s built
  stage = both_at Stage (signatures Rows tasks) (clean_build gives tasks) n s built (all_staged gives reading held book tasks may.valid may.no_clash may.sound may.blind may.no_collision) is_s is_b

  -- the needed tasks of a task, of which each has a row
  pub rows_of_needs : NeedsHaveRows Rows (signatures Rows tasks) s.task → AllByRecursion (λ x. HasRow Rows (name_of x.sig)) (signed_needs stage.front s.task)
  rows_of_needs needs =
      each_front (λ x. HasRow Rows (name_of x.sig)) stage.front (s ∷ stage.rest) s.task.deps
      (subst (λ l. AllByRecursion (λ d. (x : Signed) → slice_get l d ≡ Some x → HasRow Rows (name_of x.sig)) s.task.deps) stage.grown
      (recursion_from_All (λ d. (x : Signed) → slice_get (signatures Rows tasks) d ≡ Some x → HasRow Rows (name_of x.sig)) s.task.deps needs))

  -- they are named by lines of the book
  deps_named : NeedsHaveRows Rows (signatures Rows tasks) s.task → AllByRecursion (IsNamedBefore book) s.sig.deps
  deps_named needs =
      let listed = signed_needs stage.front s.task in
      let fit = both_places (Reused gives reading held book tasks may.valid may.no_clash) stage.front stage.older s.task.deps stage.both in
      let named = all_named gives reading held book tasks may.valid may.no_clash listed (filter_map (slice_get stage.older) s.task.deps) fit (rows_of_needs needs) in
      let each = each_ordered (IsNamedBefore book) is_dep_before (map (dep_line Rows) listed) (map_each (dep_line Rows) (IsNamedBefore book) listed named) in
      subst (λ g. AllByRecursion (IsNamedBefore book) g.deps) (sym stage.is_sig) each

  pub line_origin : NeedsHaveRows Rows (signatures Rows tasks) s.task → (tree : Entries) → built.outcome ≡ Ok tree → origin gives reading book (recorded Rows s tree) ≡ Ok tree
  line_origin needs tree clean =
      let is = clean_line gives reading held book tasks may.valid may.no_clash book [] stage.front stage.older s.task (recorded Rows s tree) (sym (append-nil book)) stage.both stage.sound stage.blind stage.is_sig refl (deps_named needs) in
      is.back tree (sym stage.is_clean ∙ clean)

  pub line_is_valid : NeedsHaveRows Rows (signatures Rows tasks) s.task → (tree : Entries) → built.outcome ≡ Ok tree → row_at Rows (name_of s.sig) ≡ None → IsValidLine gives reading book (recorded Rows s tree)
  line_is_valid needs tree clean none =
      let line = recorded Rows s tree in
      let deps = deps_named needs in
      let unihash = new_unihash_is gives reading book may.valid line refl in
      record {
        spelled = subst IsSpelled (sym stage.is_sig) (signature_is_spelled Rows stage.front s.task stage.sound);
        new = λ behind earlier t same. row_none book (name_of s.sig) none behind earlier t same;
        plain = stage.sound.plain;
        tree = stage.sound.tree;
        files = sym (ap (λ g. g.files) stage.is_sig);
        deps = All-from_recursion (IsNamedBefore book) s.sig.deps deps;
        output = tree;
        origin = line_origin needs tree clean;
        manifest = refl;
        shared = unihash.shared;
        named = unihash.named;
      }

pub recording_is_valid : RecordingIsValid
recording_is_valid gives reading held now book tasks may valid n s built is_s is_b needs tree clean none one =
    let line = recorded (rows_of book) s tree in
    let v = line_is_valid gives reading held book tasks may n s built is_s is_b needs tree clean none in
    record {
      records = records_kept now book line valid.records (λ before l t same. row_none book (name_of s.sig) none before l t same);
      lines = λ before l t. elim (split_last book before line l t) [
        | inl p ↦ subst (λ b. IsValidLine gives reading b l) (sym p.0) (subst (λ x. IsValidLine gives reading book x) (sym p.1) v)
        | inr u ↦ valid.lines before l u
      ];
      keys = keys_kept now book line valid.keys one;
    }
