-- What stands while records are written is a valid store, whose lines can be read.
use Rattle.std.proofs.Common.{◌≡◌, ◌∙◌, sym, ap, subst, refl, ◌⊎◌, inl, inr, Bool, List, ◌++◌, None}
use Rattle.std.specs.Prelude.{Contains, IsSome}
use Rattle.std.specs.List.{AllByRecursion}
use Rattle.std.proofs.lemmas.List.{map-append}
use Rattle.std.proofs.lemmas.List.Elements.{Contains-append_left}
use Rattle.tree_model.specs.declared.hash.Hash.{Hash}
use Rattle.outside_traits.specs.Store.{Store}
use Rattle.meta_model.specs.CleanBuild.{Gives}
use Rattle.store_model.specs.declared.signature.EquivRow.{EquivRow}
use Rattle.store_model.specs.declared.signature.StoredSig.{StoredSig}
use Rattle.store_model.specs.Origins.{Book, Line, Reading}
use Rattle.store_model.specs.Paths.{record_path}
use Rattle.store_model.specs.Readable.{IsReadable}
use Rattle.store_model.specs.Spelled.{IsSpelled}
use Rattle.store_model.specs.Spelling.{name_of, record_bytes}
use Rattle.store_model.specs.Stored.{SpellsStored}
use Rattle.store_model.specs.Valid.{StandsIn, stored_of}
use Rattle.store_model.proofs.Ordered.{each_append, each_weaker}
use Rattle.store_model.proofs.Standing.{each_line}
use Rattle.sig_gen.specs.Stored.{IsInOrder}
use Rattle.store_move.specs.Formats.{row_of, rows_of}
use Rattle.store_move.specs.Moves.{begun, present}
use Rattle.store_move.specs.Parts.{part}
use Rattle.store_move.proofs.Closing.{part_stands}
use Rattle.store_move.proofs.Same.{is_one_store}
use Rattle.store_opening.proofs.Surveyed.{each_of}
use Rattle.record_move.specs.declared.moving.Moved.{Moved}
use Rattle.record_move.specs.Rounds.{IsAddedAs}
use Rattle.store_upgrade.specs.Writes.{AreWritten}
use Rattle.store_upgrade.proofs.Called.{none_some}
use Rattle.store_upgrade.proofs.Entries.{entry_some, text}
use Rattle.store_upgrade.proofs.Halved.{half}
use Rattle.store_upgrade.proofs.Readied.{IsGood, from_each}
use Rattle.store_upgrade.proofs.Ready.{unheld}
use Rattle.store_upgrade.proofs.Zipped.{among_stands, beside_for, split_stands, stands_later}
use Rattle.sstate_mirror.specs.Brought.{Brings, HoldBoth, IsMoment, KeepsObjects}
use Rattle.sstate_mirror.specs.Copying.{HaveOneObject}
use Rattle.sstate_mirror.specs.Steps.{AreNotPut, IsFound, IsWriting}
use Rattle.sstate_mirror.specs.Wanted.{Titles, wanted_book}
use Rattle.sstate_mirror.proofs.Paired.{one_object}
use Rattle.sstate_mirror.proofs.Ready.{IsPrepared, prepared}

good_line : (line : Line) → IsReadable line → IsGood line.manifest
good_line line r = record { ascends = r.spelled.sound.ascends; paths = r.spelled.paths; short = r.short }

in_order : (line : Line) → IsSpelled line.sig → IsGood line.manifest → IsInOrder (stored_of line)
in_order line spelled good = record { sig = spelled; ascends = good.ascends; paths = good.paths }

module _ (gives : Gives) (reading : Reading) (wanted : Titles) (own : List EquivRow) (mirror held : Store) (start theirs : Book) (both : HoldBoth gives reading own held mirror start theirs) (moved : Moved)
    (p : IsPrepared gives reading wanted own mirror held start theirs moved) where
  abbrev pub more : Book
  more = p.told.more

  -- ---- rows

  pub rows_whole : moved.rows ≡ rows_of present (start ++ more)
  rows_whole = p.told.rows_are ∙ ap (rows_of present) p.told.longer

  pub one_whole : HaveOneObject moved.rows
  one_whole = one_object gives reading (start ++ more) p.ready.whole moved.rows rows_whole

  own_among : (row : EquivRow) → Contains own row → Contains moved.rows row
  own_among row has =
      subst (λ (l : List EquivRow). Contains l row) (sym (rows_whole ∙ map-append (row_of present) start more))
      (Contains-append_left (rows_of present start) (rows_of present more) row (subst (λ (l : List EquivRow). Contains l row) both.rows_are has))

  pub own_kept : (image : Store) → IsWriting moved held image → KeepsObjects own held image
  own_kept image w row has matched = w.kept one_whole row (own_among row has) matched

  -- ---- lines that can be read

  goods : AllByRecursion (λ (l : Line). IsGood l.manifest) (start ++ more)
  goods = subst (AllByRecursion (λ (l : Line). IsGood l.manifest)) p.told.longer
      (from_each IsGood present present (begun start) (wanted_book wanted p.again)
      (each_weaker IsReadable (λ (l : Line). IsGood l.manifest) good_line (wanted_book wanted p.again) p.readable) (each_weaker IsReadable (λ (l : Line). IsGood l.manifest) good_line start both.readable))

  -- a line that is added is readable, as its record was written
  added_readable : AreWritten moved → (before : Book) (line : Line) → StandsIn more before line → IsReadable line
  added_readable written before line s =
      let b = beside_for IsAddedAs more moved.added.items line p.told.lines (among_stands more before line s) in
      let there = stands_later start more before line s in
      let good = each_of (λ (l : Line). IsGood l.manifest) (start ++ more) line goods (among_stands (start ++ more) (start ++ before) line there) in
      let spelled = let v = p.ready.whole (start ++ before) line there in v.spelled in
      record {
        spelled = subst (λ (stored : StoredSig). SpellsStored (record_bytes stored) stored) b.2.stored (written b.0 b.1 (subst IsInOrder (sym b.2.stored) (in_order line spelled good)));
        short = good.short;
      }

  pub all_readable : AreWritten moved → AllByRecursion IsReadable (start ++ more)
  all_readable written = each_append IsReadable start more both.readable (each_line IsReadable more (added_readable written))

  -- ---- a moment

  module _ (image : Store) (w : IsWriting moved held image) where
    abbrev keep : Line → Bool
    keep = (half gives reading held image start more moved moved.keys p.ready w.writes).keep

    abbrev there : Book
    there = part keep (start ++ more)

    -- the line's record is held
    record_there : (behind : Book) (line : Line) → StandsIn there behind line → IsSome (image (record_path (name_of line.sig)))
    record_there behind line s =
        let h = half gives reading held image start more moved moved.keys p.ready w.writes in
        subst IsSome (sym (h.holds_part.records (text line))) (entry_some there line (among_stands there behind line s))

    -- so it can be read
    line_readable : (behind : Book) (line : Line) → StandsIn there behind line → IsReadable line
    line_readable behind line s =
        let k = part_stands keep (start ++ more) behind line s in
        elim (split_stands start more k.before line k.stands) [
          | inl t ↦ each_of IsReadable start line both.readable (among_stands start k.before line t)
          | inr m ↦ by m.0 m.2 w.written
        ]
      where
        by : (before : Book) → StandsIn more before line → AreWritten moved ⊎ AreNotPut moved held image → IsReadable line
        by before t (inl written) = added_readable written before line t
        by before t (inr none) =
            let b = beside_for IsAddedAs more moved.added.items line p.told.lines (among_stands more before line t) in
            let gone : image (record_path b.0.name) ≡ None = none b.0 b.1 ∙ unheld gives reading held start more moved.added.items moved.keys p.ready b.0 b.1 in
            absurd (none_some (image (record_path b.0.name)) gone (subst (λ (n : Hash). IsSome (image (record_path n))) (sym b.2.name) (record_there behind line s)))

    pub moment : IsMoment gives reading wanted own mirror held image start theirs
    moment =
        let h = half gives reading held image start more moved moved.keys p.ready w.writes in
        record {
          book = there;
          partly = inr (record { again = p.again; taken = p.taken; keep = keep; stood = h.stood; is = sym (ap (part keep) p.told.longer) });
          valid = (is_one_store gives reading image there).0 h.holds_part h.keys_there;
          readable = each_line IsReadable there line_readable;
          objects = own_kept image w;
        }

-- before anything is written
pub brings_start : (wanted : Titles) (own : List EquivRow) (mirror held : Store) → Brings wanted own mirror held held
brings_start wanted own mirror held gives reading start theirs both = record { book = start; partly = inl refl; valid = both.valid; readable = both.readable; objects = λ row has matched. matched }

-- whatever books the stores hold
pub brings : (wanted : Titles) (own : List EquivRow) (mirror held image : Store) (moved : Moved) → IsFound wanted own mirror moved → IsWriting moved held image → Brings wanted own mirror held image
brings wanted own mirror held image moved found w gives reading start theirs both =
    moment gives reading wanted own mirror held start theirs both moved (prepared gives reading wanted own mirror held start theirs both moved found) image w
