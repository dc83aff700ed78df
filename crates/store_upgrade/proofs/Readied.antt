-- What stands once a move is written is the whole moved book, whose lines are readable.
use Rattle.std.proofs.Common.{sym, subst, ℕ, List, [], ◌∷◌, ◌++◌, Option, None, Some}
use Rattle.std.specs.List.{AllByRecursion}
use Rattle.tree_model.specs.declared.manifest.ManifestLine.{ManifestLine}
use Rattle.outside_traits.specs.Store.{Store}
use Rattle.meta_model.specs.CleanBuild.{Gives}
use Rattle.store_model.specs.declared.signature.EquivRow.{EquivRow}
use Rattle.store_model.specs.declared.signature.StoredSig.{StoredSig}
use Rattle.store_model.specs.Origins.{Book, Line, Reading}
use Rattle.store_model.specs.Readable.{HasShortPaths, IsReadable}
use Rattle.store_model.specs.Spelled.{Ascends, IsSpelled}
use Rattle.store_model.specs.Spelling.{record_bytes}
use Rattle.store_model.specs.Stored.{ArePaths, SpellsStored, path_cmp}
use Rattle.store_model.specs.Valid.{IsValid, StandsIn, stored_of}
use Rattle.store_model.proofs.Ordered.{each_append, each_weaker}
use Rattle.store_model.proofs.Standing.{each_line}
use Rattle.sig_gen.specs.Stored.{IsInOrder}
use Rattle.store_move.specs.First.{first}
use Rattle.store_move.specs.Formats.{Format}
use Rattle.store_move.specs.Moves.{Move, begun, line_at, moved_by, moved_from, moved_line, present, step}
use Rattle.store_move.proofs.Same.{is_one_store}
use Rattle.store_opening.proofs.Surveyed.{each_of}
use Rattle.record_move.specs.declared.moving.Moved.{Moved}
use Rattle.record_move.specs.declared.records.OldRecord.{OldRecord}
use Rattle.record_move.specs.Rounds.{IsAddedAs}
use Rattle.store_upgrade.specs.Halfway.{IsOldReadable, whole_move}
use Rattle.store_upgrade.specs.Writes.{AreWritten, IsWritten}
use Rattle.store_upgrade.proofs.Asked.{IsAsked}
use Rattle.store_upgrade.proofs.Halved.{all_hold, all_keys}
use Rattle.store_upgrade.proofs.Made.{IsMade, ready, told}
use Rattle.store_upgrade.proofs.Ready.{IsReady, names}
use Rattle.store_upgrade.proofs.Zipped.{among_stands, beside_for, stands_later}

-- ---- manifests stay what they are

module _ (P : List ManifestLine → Type 0) where
  abbrev pub Each : Book → Type 0
  Each book = AllByRecursion (λ (l : Line). P l.manifest) book

  step_each : (move : Move) (line made : Line) (o : Option Line) → P made.manifest → Each move.book → Each (moved_by move line made o).book
  step_each move line made None p each = each_append (λ (l : Line). P l.manifest) move.book (made ∷ []) each (p, tt)
  step_each move line made (Some held) p each = each

  -- what holds of each manifest of the old book, and of those that stood, holds of each of the moved one
  pub from_each : (from to : Format) (move : Move) (lines : Book) → Each lines → Each move.book → Each (moved_from from to move lines).book
  from_each from to move [] all each = each
  from_each from to move (line ∷ lines) all each =
      from_each from to (step from to move line) lines all.1
      (step_each move line (moved_line from to move line) (line_at to move.book (to.name_of (moved_line from to move line).sig)) all.0 each)

-- The manifest can be written and read again.
pub record IsGood (lines : List ManifestLine) : Type 0 where
  pub ascends : Ascends path_cmp lines
  pub paths : ArePaths lines
  pub short : HasShortPaths lines

good_old : (line : Line) → IsOldReadable line → IsGood line.manifest
good_old line r = record { ascends = r.spelled.ascends; paths = r.spelled.paths; short = r.short }

good_new : (line : Line) → IsReadable line → IsGood line.manifest
good_new line r = record { ascends = r.spelled.sound.ascends; paths = r.spelled.paths; short = r.short }

-- the line's record is written in order
in_order : (line : Line) → IsSpelled line.sig → IsGood line.manifest → IsInOrder (stored_of line)
in_order line spelled good = record { sig = spelled; ascends = good.ascends; paths = good.paths }

module _ (gives : Gives) (reading : Reading) (held now : Store) (again more : Book) (moved : Moved) (keys : List (List ℕ)) (r : IsReady gives reading held again more moved.added.items keys) where
  put_valid : IsWritten moved held now → IsValid gives reading now (again ++ more)
  put_valid w =
      let put = w.put (names gives reading held again more moved.added.items keys r) in
      (is_one_store gives reading now (again ++ more)).0 (all_hold gives reading held now again more moved keys r w.writes put) (all_keys gives reading held now again more moved keys r w.writes put)

  -- a line that is added is readable, as its record was written
  added_readable : AreWritten moved → AllByRecursion (λ (l : Line). IsGood l.manifest) (again ++ more) → (before : Book) (line : Line) → StandsIn more before line → IsReadable line
  added_readable written goods before line s =
      let b = beside_for IsAddedAs more moved.added.items line r.lines (among_stands more before line s) in
      let there = stands_later again more before line s in
      let good = each_of (λ (l : Line). IsGood l.manifest) (again ++ more) line goods (among_stands (again ++ more) (again ++ before) line there) in
      let spelled = let v = r.whole (again ++ before) line there in v.spelled in
      record {
        spelled = subst (λ (stored : StoredSig). SpellsStored (record_bytes stored) stored) b.2.stored (written b.0 b.1 (subst IsInOrder (sym b.2.stored) (in_order line spelled good)));
        short = good.short;
      }

  all_readable : AreWritten moved → AllByRecursion IsReadable again → AllByRecursion (λ (l : Line). IsGood l.manifest) (again ++ more) → AllByRecursion IsReadable (again ++ more)
  all_readable written old goods = each_append IsReadable again more old (each_line IsReadable more (added_readable written goods))

module _ (gives : Gives) (reading : Reading) (held : Store) (book start : Book) (rows : List EquivRow) (records : List OldRecord) (keys : List (List ℕ))
    (a : IsAsked gives reading held book start rows records keys) (moved : Moved) (m : IsMade rows records keys moved) where
  good_lines : AllByRecursion (λ (l : Line). IsGood l.manifest) (whole_move a.olds a.again).book
  good_lines = from_each IsGood first present (begun a.again) a.olds
      (each_weaker IsOldReadable (λ (l : Line). IsGood l.manifest) good_old a.olds a.old_readable) (each_weaker IsReadable (λ (l : Line). IsGood l.manifest) good_new a.again a.readable)

  pub written_valid : (now : Store) → IsWritten moved held now → IsValid gives reading now (whole_move a.olds a.again).book
  written_valid now w =
      let t = told gives reading held book start rows records keys a moved m in
      subst (IsValid gives reading now) (sym t.longer) (put_valid gives reading held now a.again t.more moved moved.keys (ready gives reading held book start rows records keys a moved m) w)

  pub written_readable : AreWritten moved → AllByRecursion IsReadable (whole_move a.olds a.again).book
  written_readable written =
      let t = told gives reading held book start rows records keys a moved m in
      subst (AllByRecursion IsReadable) (sym t.longer) (all_readable gives reading held held a.again t.more moved moved.keys (ready gives reading held book start rows records keys a moved m) written a.readable
      (subst (AllByRecursion (λ (l : Line). IsGood l.manifest)) t.longer good_lines))
