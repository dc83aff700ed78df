-- What stands while a move is written is a book: what stood before, and some of what is added.
use Rattle.std.proofs.Common.{◌≡◌, ◌∙◌, sym, ap, subst, refl, ℕ, ◌<◌, ◌⊎◌, inl, inr, Bool, true, false, List, ◌++◌, Option, None, Some, arith}
use Rattle.std.specs.Prelude.{codes, Contains, IsSome}
use Rattle.std.specs.List.{AllZip}
use Rattle.std.specs.Option.{is_some, option_or}
use Rattle.std.proofs.lemmas.Bool.{cases_lt, false≢true}
use Rattle.std.proofs.lemmas.List.Elements.{filter-append}
use Rattle.tree_model.specs.declared.entry.Entry.{Entry}
use Rattle.tree_model.specs.declared.hash.Hash.{Hash}
use Rattle.tree_model.specs.Hash.{hash_text}
use Rattle.tree_model.specs.Tree.{entry_at}
use Rattle.tree_model.specs.Path.{inside}
use Rattle.outside_traits.specs.Store.{Store}
use Rattle.outside_traits.proofs.Folders.{under_same}
use Rattle.meta_model.specs.CleanBuild.{Gives}
use Rattle.store_model.specs.declared.signature.StoredSig.{StoredSig}
use Rattle.store_model.specs.Origins.{Book, Line, Reading}
use Rattle.store_model.specs.Paths.{record_path}
use Rattle.store_model.specs.Publication.{record_file}
use Rattle.store_model.specs.Spelling.{key_bytes, key_name, name_of}
use Rattle.store_model.specs.Valid.{StandsIn}
use Rattle.store_model.proofs.Digests.{key_name_is_hash}
use Rattle.store_model.proofs.Standing.{each_line}
use Rattle.store_move.specs.First.{second_keys, second_shape}
use Rattle.store_move.specs.Formats.{IsValidBook}
use Rattle.store_move.specs.Moves.{present}
use Rattle.store_move.specs.Parts.{part}
use Rattle.store_move.specs.Stores.{HasKey, HasKeys, HoldsBook}
use Rattle.store_move.proofs.Closing.{part_stands}
use Rattle.record_move.specs.declared.moving.Moved.{Moved}
use Rattle.record_move.specs.declared.records.AddedRecord.{AddedRecord}
use Rattle.record_move.specs.Rounds.{IsAddedAs, IsInRound}
use Rattle.store_upgrade.specs.Steps.{ArePut, HoldsKeys}
use Rattle.store_upgrade.specs.Writes.{HoldsRounds, Writes}
use Rattle.store_upgrade.proofs.Called.{none_some}
use Rattle.store_upgrade.proofs.Entries.{IsSide, entries, entry_append, entry_some, part_all, part_entries, text}
use Rattle.store_upgrade.proofs.Ready.{IsReady, keys_differ, line_key, names, unheld}
use Rattle.store_upgrade.proofs.Zipped.{among_stands, beside_for, later_distinct, split_stands, zip_so}

module _ (gives : Gives) (reading : Reading) (held image : Store) (again more : Book) (moved : Moved) (keys : List (List ℕ))
    (r : IsReady gives reading held again more moved.added.items keys) (w : Writes moved held image) where
  none_held : (a : AddedRecord) → Contains moved.added.items a → held (record_path a.name) ≡ None
  none_held = unheld gives reading held again more moved.added.items keys r

  -- what is held under `rec2` stands at the place of no added record, and stays
  held_stays : (path : List ℕ) → IsSome (held (inside (codes "rec2") path)) → image (inside (codes "rec2") path) ≡ held (inside (codes "rec2") path)
  held_stays path some = w.records path (λ a has e. none_some (held (inside (codes "rec2") path)) (ap held e ∙ none_held a has) some)

  line_held : (before : Book) (line : Line) → StandsIn again before line → IsSome (held (inside (codes "rec2") (text line)))
  line_held before line s = subst IsSome (sym (r.valid.records (text line))) (entry_some again line (among_stands again before line s))

  -- ---- whether an added record is there

  abbrev pub IsThereOrNot : AddedRecord → Type 0
  IsThereOrNot a = (image (record_path a.name) ≡ Some (record_file a.stored)) ⊎ (image (record_path a.name) ≡ None)

  in_round : (h : HoldsRounds moved.added.items held image) (a : AddedRecord) → Contains moved.added.items a → IsThereOrNot a
  in_round h a has = elim (cases_lt a.round h.round) [
    | inl before ↦ inl (h.earlier a has before)
    | inr le ↦ elim (cases_lt h.round a.round) [
      | inl behind ↦ inr (h.later a has behind ∙ none_held a has)
      | inr up ↦ elim (h.now a has (omega (arith, le, up))) [
        | inl still ↦ inr (still ∙ none_held a has)
        | inr there ↦ inl there
      ]
    ]
  ]

  -- ---- the part of the book that is there, by a test that tells it

  module _ (keep : Line → Bool) (stood : (before : Book) (line : Line) → StandsIn again before line → keep line ≡ true) (sides : AllZip (IsSide image keep) more moved.added.items) where
    part_is : part keep (again ++ more) ≡ again ++ part keep more
    part_is = filter-append keep again more ∙ ap (λ (b : Book). b ++ part keep more) (part_all keep again (each_line (λ (l : Line). keep l ≡ true) again stood))

    records : (path : List ℕ) → image (inside (codes "rec2") path) ≡ entry_at (entries (part keep (again ++ more))) path
    records path = at (held (inside (codes "rec2") path)) refl
      where
        both : entry_at (entries (part keep (again ++ more))) path ≡ option_or (held (inside (codes "rec2") path)) (entry_at (entries (part keep more)) path)
        both = ap (λ (b : Book). entry_at (entries b) path) part_is ∙ entry_append again (part keep more) path
            ∙ ap (λ (o : Option Entry). option_or o (entry_at (entries (part keep more)) path)) (sym (r.valid.records path))

        at : (o : Option Entry) → held (inside (codes "rec2") path) ≡ o → image (inside (codes "rec2") path) ≡ entry_at (entries (part keep (again ++ more))) path
        at None none =
            part_entries image keep path more moved.added.items (later_distinct present again more r.stand.new) sides
            (λ absent. w.records path (λ a has e. absent a has (under_same (codes "rec2") path (hash_text a.name) e)) ∙ none)
            ∙ sym (both ∙ ap (λ (o : Option Entry). option_or o (entry_at (entries (part keep more)) path)) none)
        at (Some e) some =
            held_stays path (subst IsSome (sym some) refl) ∙ some
            ∙ sym (both ∙ ap (λ (o : Option Entry). option_or o (entry_at (entries (part keep more)) path)) some)

    old_key : (before : Book) (line : Line) → StandsIn again before line → HasKey second_keys image line.sig.key
    old_key before line t =
        w.keys (key_name line.sig.key) (key_bytes line.sig.key) (key_name_is_hash line.sig.key) (r.valid.keys before line t) (line_key gives reading held again more moved.added.items keys r before line t)
        ∙ r.valid.keys before line t

    new_key : (line : Line) → keep line ≡ true → (a : AddedRecord) → Contains moved.added.items a → IsSide image keep line a → HasKey second_keys image line.sig.key
    new_key line kept a has side = subst (λ (stored : StoredSig). HasKey second_keys image stored.sig.key) side.added.stored (at (w.keyed (keys_differ gives reading held again more moved.added.items keys r)) side.which)
      where
        at : HoldsKeys moved.added.items image ⊎ ((b : AddedRecord) → Contains moved.added.items b → image (record_path b.name) ≡ held (record_path b.name))
            → ((keep line ≡ true) × (image (record_path a.name) ≡ Some (record_file a.stored))) ⊎ ((keep line ≡ false) × (image (record_path a.name) ≡ None))
            → HasKey second_keys image a.stored.sig.key
        at (inl all) which = all a has
        at (inr still) (inl t) = absurd (none_some (image (record_path a.name)) (still a has ∙ none_held a has) (subst IsSome (sym t.1) refl))
        at (inr still) (inr f) = absurd (false≢true (sym f.0 ∙ kept))

    pub has_keys : HasKeys second_keys image (part keep (again ++ more))
    has_keys behind line s =
        let k = part_stands keep (again ++ more) behind line s in
        elim (split_stands again more k.before line k.stands) [
          | inl t ↦ old_key k.before line t
          | inr m ↦ (
              let b = beside_for (IsSide image keep) more moved.added.items line sides (among_stands more m.0 line m.2) in
              new_key line k.passes b.0 b.1 b.2
              )
        ]

    pub holds : IsValidBook present gives reading (part keep (again ++ more)) → HoldsBook second_shape gives reading image (part keep (again ++ more))
    holds lines = record { records = records; lines = lines }

  -- ---- what stands while records are put

  -- the line's record is there
  abbrev pub is_there : Line → Bool
  is_there line = is_some (image (record_path (name_of line.sig)))

  there_stood : (before : Book) (line : Line) → StandsIn again before line → is_there line ≡ true
  there_stood before line s = let some = line_held before line s in ap is_some (held_stays (text line) some) ∙ some

  there_as : (line : Line) (a : AddedRecord) → IsAddedAs line a → (o : Option Entry) → image (record_path a.name) ≡ o → is_there line ≡ is_some o
  there_as line a added o is = ap is_some (ap (λ (n : Hash). image (record_path n)) (sym added.name) ∙ is)

  there_sides : HoldsRounds moved.added.items held image → AllZip (IsSide image is_there) more moved.added.items
  there_sides h = zip_so IsAddedAs (IsSide image is_there) more moved.added.items (λ l a has added. record { added = added; which = at l a added (in_round h a has) }) r.lines
    where
      at : (l : Line) (a : AddedRecord) → IsAddedAs l a → IsThereOrNot a
          → ((is_there l ≡ true) × (image (record_path a.name) ≡ Some (record_file a.stored))) ⊎ ((is_there l ≡ false) × (image (record_path a.name) ≡ None))
      at l a added (inl there) = inl (there_as l a added (Some (record_file a.stored)) there, there)
      at l a added (inr none) = inr (there_as l a added None none, none)

  there_in_round : (h : HoldsRounds moved.added.items held image) → IsInRound again more moved.added.items h.round is_there
  there_in_round h = record {
    stood = there_stood;
    earlier = zip_so IsAddedAs (λ (l : Line) (a : AddedRecord). a.round < h.round → is_there l ≡ true) more moved.added.items
        (λ l a has added lt. there_as l a added (Some (record_file a.stored)) (h.earlier a has lt)) r.lines;
    later = zip_so IsAddedAs (λ (l : Line) (a : AddedRecord). h.round < a.round → is_there l ≡ false) more moved.added.items
        (λ l a has added lt. there_as l a added None (h.later a has lt ∙ none_held a has)) r.lines;
  }

  -- The lines that stood before, and of the others those that a test tells, are the store's book, and their keys are held.
  pub record IsHalf : Type 0 where
    pub keep : Line → Bool
    pub stood : (before : Book) (line : Line) → StandsIn again before line → keep line ≡ true
    pub holds_part : HoldsBook second_shape gives reading image (part keep (again ++ more))
    pub keys_there : HasKeys second_keys image (part keep (again ++ more))

  pub half : IsHalf
  half = let h = w.rounds (names gives reading held again more moved.added.items keys r) in record {
    keep = is_there;
    stood = there_stood;
    holds_part = holds is_there there_stood (there_sides h) (r.stopped h.round is_there (there_in_round h));
    keys_there = has_keys is_there there_stood (there_sides h);
  }

  -- ---- what stands when all are put

  module _ (put : ArePut moved.added.items image) where
    every_side : AllZip (IsSide image (λ (l : Line). true)) more moved.added.items
    every_side = zip_so IsAddedAs (IsSide image (λ (l : Line). true)) more moved.added.items (λ l a has added. record { added = added; which = inl (refl, put a has) }) r.lines

    every_part : part (λ (l : Line). true) (again ++ more) ≡ again ++ more
    every_part = part_all (λ (l : Line). true) (again ++ more) (each_line (λ (l : Line). true ≡ true) (again ++ more) (λ before line s. refl))

    pub all_hold : HoldsBook second_shape gives reading image (again ++ more)
    all_hold = subst (HoldsBook second_shape gives reading image) every_part
        (holds (λ (l : Line). true) (λ before line s. refl) every_side (subst (IsValidBook present gives reading) (sym every_part) r.whole))

    pub all_keys : HasKeys second_keys image (again ++ more)
    all_keys = subst (HasKeys second_keys image) every_part (has_keys (λ (l : Line). true) (λ before line s. refl) every_side)
