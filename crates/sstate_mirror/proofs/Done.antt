-- What stands once all is written.
use Rattle.std.proofs.Common.{◌≡◌, ◌≢◌, ◌∙◌, sym, ap, subst, refl, ℕ, inl, inr, List, [], ◌∷◌, ◌++◌, length, arith}
use Rattle.std.specs.Prelude.{Contains}
use Rattle.std.specs.List.{AllByRecursion, AllZip}
use Rattle.tree_model.specs.declared.hash.Hash.{Hash}
use Rattle.tree_model.specs.declared.manifest.ManifestLine.{ManifestLine}
use Rattle.outside_traits.specs.Store.{Store}
use Rattle.meta_model.specs.CleanBuild.{Gives}
use Rattle.store_model.specs.declared.signature.EquivRow.{EquivRow}
use Rattle.store_model.specs.Available.{Matches, object_folder}
use Rattle.store_model.specs.Origins.{Book, Reading}
use Rattle.store_model.specs.Readable.{HasShortPaths, IsReadable}
use Rattle.store_model.specs.Valid.{IsValid}
use Rattle.store_move.specs.Formats.{row_of}
use Rattle.store_move.specs.Moves.{Move, ObjectsAreThere, Pair, present}
use Rattle.store_move.proofs.Same.{is_one_store}
use Rattle.store_opening.proofs.Surveyed.{each_of}
use Rattle.record_move.specs.declared.moving.Moved.{Moved}
use Rattle.record_move.specs.declared.records.MovedRecord.{MovedRecord}
use Rattle.record_move.specs.Moved.{IsPairOf}
use Rattle.record_move.specs.Rounds.{IsAddedAs}
use Rattle.store_upgrade.specs.Steps.{HasManifest}
use Rattle.store_upgrade.specs.Writes.{AreWritten}
use Rattle.store_upgrade.proofs.Halved.{all_hold, all_keys}
use Rattle.store_upgrade.proofs.Ready.{names}
use Rattle.store_upgrade.proofs.Zipped.{among_stands, beside_for}
use Rattle.sstate_mirror.specs.declared.bringing.Brought.{Brought}
use Rattle.sstate_mirror.specs.Brought.{AreApart, HoldBoth, IsCopied, IsCounted, IsDone}
use Rattle.sstate_mirror.specs.Copying.{AreCopied, AreRowsApart, HasObject, IsNew}
use Rattle.sstate_mirror.specs.Steps.{IsFound, IsWritten}
use Rattle.sstate_mirror.specs.Wanted.{Titles, wanted_book, whole_move}
use Rattle.sstate_mirror.proofs.Copied.{found_row, one_row}
use Rattle.sstate_mirror.proofs.Moments.{all_readable, one_whole, own_kept}
use Rattle.sstate_mirror.proofs.Paired.{IsPlaced, found_placed, pair_of, pair_placed, placed_row, record_of}
use Rattle.sstate_mirror.proofs.Ready.{IsPrepared, prepared}

zip_length : {A B : Type 0} (R : A → B → Type 0) (xs : List A) (ys : List B) → AllZip R xs ys → length xs ≡ length ys
zip_length R [] [] all = refl
zip_length R [] (y ∷ ys) all = absurd all
zip_length R (x ∷ xs) [] all = absurd all
zip_length R (x ∷ xs) (y ∷ ys) all = let e = zip_length R xs ys all.1 in omega (arith, e)

-- a list that has no length has no items
pub no_items : {A : Type 0} (xs : List A) → length xs ≡ 0 → xs ≡ []
no_items [] none = refl
no_items (x ∷ xs) none = absurd (omega (arith, none))

matches_as : (held : Store) (u v : Hash) (k l : List ManifestLine) → u ≡ v → k ≡ l → Matches held (object_folder u) k → Matches held (object_folder v) l
matches_as held u v k l same manifest m = subst (λ (h : Hash). Matches held (object_folder h) l) same (subst (Matches held (object_folder u)) manifest m)

-- ---- rows and pairs side by side

-- the pair is that of a row whose object was copied
pub record IsCopiedFor (move : Move) (mirror held now : Store) (row : EquivRow) (pair : Pair) : Type 0 where
  pub copied : IsCopied move mirror held now pair
  pub unihash : pair.new.unihash ≡ row.unihash

module _ (move : Move) (mirror held now : Store) where
  abbrev For : EquivRow → Pair → Type 0
  For = IsCopiedFor move mirror held now

  pairs_of : (P : EquivRow → Type 0) → ((row : EquivRow) → P row → (pair : Pair) × For row pair) → (rows : List EquivRow) → AllByRecursion P rows → (pairs : List Pair) × AllZip For rows pairs
  pairs_of P to [] all = ([], tt)
  pairs_of P to (row ∷ rows) all = let w = to row all.0 in let more = pairs_of P to rows all.1 in (w.0 ∷ more.0, (w.1, more.1))

  each_copied : (rows : List EquivRow) (pairs : List Pair) → AllZip For rows pairs → AllByRecursion (IsCopied move mirror held now) pairs
  each_copied [] [] all = tt
  each_copied [] (y ∷ ys) all = absurd all
  each_copied (x ∷ xs) [] all = absurd all
  each_copied (x ∷ xs) (y ∷ ys) all = (all.0.copied, each_copied xs ys all.1)

  other_pairs : (x : EquivRow) (y : Pair) (xs : List EquivRow) (ys : List Pair) → y.new.unihash ≡ x.unihash → AllByRecursion (λ (r : EquivRow). x.unihash ≢ r.unihash) xs → AllZip For xs ys
      → AllByRecursion (λ (q : Pair). y.new.unihash ≢ q.new.unihash) ys
  other_pairs x y [] [] same other all = tt
  other_pairs x y [] (q ∷ ys) same other all = absurd all
  other_pairs x y (r ∷ xs) [] same other all = absurd all
  other_pairs x y (r ∷ xs) (q ∷ ys) same other all = ((λ e. other.0 (sym same ∙ e ∙ all.0.unihash)), other_pairs x y xs ys same other.1 all.1)

  pairs_apart : (rows : List EquivRow) (pairs : List Pair) → AreRowsApart rows → AllZip For rows pairs → AreApart pairs
  pairs_apart [] [] apart all = tt
  pairs_apart [] (y ∷ ys) apart all = absurd all
  pairs_apart (x ∷ xs) [] apart all = absurd all
  pairs_apart (x ∷ xs) (y ∷ ys) apart all = (other_pairs x y xs ys all.0.unihash apart.0 all.1, pairs_apart xs ys apart.1 all.1)

-- ---- all of it

module _ (gives : Gives) (reading : Reading) (wanted : Titles) (own : List EquivRow) (mirror held : Store) (start theirs : Book) (both : HoldBoth gives reading own held mirror start theirs) (moved : Moved)
    (p : IsPrepared gives reading wanted own mirror held start theirs moved) where
  abbrev W : Book
  W = wanted_book wanted p.again

  abbrev M : Move
  M = whole_move wanted p.again start

  module _ (now : Store) (count : ℕ) (w : IsWritten moved mirror held now count) where
    whole_valid : IsValid gives reading now M.book
    whole_valid =
        let put = w.put (names gives reading held start p.told.more moved.added.items moved.keys p.ready) in
        subst (IsValid gives reading now) (sym p.told.longer)
        ((is_one_store gives reading now (start ++ p.told.more)).0 (all_hold gives reading held now start p.told.more moved moved.keys p.ready w.writing.writes put)
        (all_keys gives reading held now start p.told.more moved moved.keys p.ready w.writing.writes put))

    -- the row of what stands for a line
    manifest_of : (pair : Pair) (m : MovedRecord) → IsPlaced gives reading W start p.may moved p.told pair → IsPairOf present pair m → HasManifest moved.rows m (row_of present pair.new)
    manifest_of pair m placed is = record {
      is_row = placed_row gives reading W start p.may moved p.told pair m placed is;
      short = subst HasShortPaths (sym placed.manifest) (let r = each_of IsReadable W pair.old p.readable (among_stands W placed.old_before pair.old placed.old_stands) in r.short);
    }

    copied_all : AreCopied moved.rows moved.records.items mirror held now count
    copied_all = w.copied (one_whole gives reading wanted own mirror held start theirs both moved p)

    object_there : ObjectsAreThere present M mirror now
    object_there pair found matched =
        let r = record_of gives reading W start p.may moved p.told pair found in
        let placed = found_placed gives reading W start p.may moved p.told pair found in
        let source : Matches mirror (object_folder r.0.old_unihash) pair.new.manifest =
        matches_as mirror pair.old.unihash r.0.old_unihash pair.old.manifest pair.new.manifest (sym r.2.old_unihash) (sym placed.manifest) matched in
        matches_as now pair.new.unihash pair.new.unihash pair.new.manifest pair.old.manifest refl placed.manifest (copied_all.there r.0 (row_of present pair.new) r.1 (manifest_of pair r.0 placed r.2) source)

    -- the pair of a row whose object was copied
    copied_for : (row : EquivRow) → IsNew moved.rows moved.records.items mirror held now row → (pair : Pair) × IsCopiedFor M mirror held now row pair
    copied_for row new =
        let w = pair_of gives reading W start p.may moved p.told new.m new.among in
        let is : row ≡ row_of present w.0.new = one_row moved.rows new.m.name row (row_of present w.0.new) new.manifest.is_row (placed_row gives reading W start p.may moved p.told w.0 new.m w.1 w.2) in
        let manifest : row.manifest ≡ w.0.old.manifest = ap (λ (r : EquivRow). r.manifest) is ∙ w.1.manifest in
        let unihash : row.unihash ≡ w.0.new.unihash = ap (λ (r : EquivRow). r.unihash) is in (
          w.0,
          record {
            copied = record {
              among = w.3;
              source = matches_as mirror new.m.old_unihash w.0.old.unihash row.manifest w.0.old.manifest w.2.old_unihash manifest new.source;
              was_not = λ was. new.was_not (matches_as held w.0.new.unihash row.unihash w.0.old.manifest row.manifest (sym unihash) (sym manifest) was);
              is = matches_as now row.unihash w.0.new.unihash row.manifest w.0.old.manifest unihash manifest new.is;
            };
            unihash = sym unihash;
          },
        )

    counted : IsCounted M mirror held now count
    counted = record {
      copied = pairs.0;
      many = sym (zip_length (For M mirror held now) c.copied pairs.0 pairs.1) ∙ c.many;
      each = each_copied M mirror held now c.copied pairs.0 pairs.1;
      apart = pairs_apart M mirror held now c.copied pairs.0 c.apart pairs.1;
      whole = all;
    }
      where
        c : AreCopied moved.rows moved.records.items mirror held now count
        c = copied_all

        pairs : (pairs : List Pair) × AllZip (For M mirror held now) c.copied pairs
        pairs = pairs_of M mirror held now (IsNew moved.rows moved.records.items mirror held now) copied_for c.copied c.each

        all : (pair : Pair) → IsCopied M mirror held now pair → (other : Pair) × Contains pairs.0 other × (other.new.unihash ≡ pair.new.unihash)
        all pair is =
            let placed = pair_placed gives reading W start p.may moved p.told pair is.among in
            let m = beside_for (IsPairOf present) M.pairs moved.records.items pair p.told.each is.among in
            let row : EquivRow = row_of present pair.new in
            let at = placed_row gives reading W start p.may moved p.told pair m.0 placed m.2 in
            let here : HasObject now row = matches_as now pair.new.unihash pair.new.unihash pair.old.manifest pair.new.manifest refl (sym placed.manifest) is.is in
            elim (c.whole row (found_row moved.rows m.0.name row at) here) [
              | inl before ↦ absurd (is.was_not (matches_as held pair.new.unihash pair.new.unihash pair.new.manifest pair.old.manifest refl placed.manifest before))
              | inr other ↦ (let b = beside_for (For M mirror held now) c.copied pairs.0 other.0 pairs.1 other.1 in (b.0, b.1, b.2.unihash ∙ other.2))
            ]

    pub done : AreWritten moved → (brought : Brought) → brought.rows ≡ moved.rows → brought.records ≡ length moved.added.items → brought.objects ≡ count
        → IsDone gives reading wanted own mirror held now start theirs brought
    done written brought rows records objects = record {
      again = p.again;
      taken = p.taken;
      may = p.may;
      more = p.told.more;
      longer = p.told.longer;
      many = zip_length IsAddedAs p.told.more moved.added.items p.told.lines ∙ sym records;
      rows_are = rows ∙ p.told.rows_are;
      valid = whole_valid;
      readable = subst (AllByRecursion IsReadable) (sym p.told.longer) (all_readable gives reading wanted own mirror held start theirs both moved p written);
      kept = own_kept gives reading wanted own mirror held start theirs both moved p now w.writing;
      objects = object_there;
      counted = subst (IsCounted M mirror held now) (sym objects) counted;
    }

pub is_done : (wanted : Titles) (own : List EquivRow) (mirror held now : Store) (moved : Moved) (count : ℕ) (brought : Brought) → IsFound wanted own mirror moved → IsWritten moved mirror held now count → AreWritten moved
    → brought.rows ≡ moved.rows → brought.records ≡ length moved.added.items → brought.objects ≡ count
    → (gives : Gives) (reading : Reading) (start theirs : Book) → HoldBoth gives reading own held mirror start theirs → IsDone gives reading wanted own mirror held now start theirs brought
is_done wanted own mirror held now moved count brought found w written rows records objects gives reading start theirs both =
    done gives reading wanted own mirror held start theirs both moved (prepared gives reading wanted own mirror held start theirs both moved found) now count w written brought rows records objects
