-- The books of both stores, as a move of the wanted lines asks for them.
use Rattle.std.proofs.Common.{◌≡◌, ◌∙◌, sym, ap, subst, refl, ℕ, zero, suc, Bool, true, false, cond, ◌||◌, List, [], ◌∷◌, map, Some, arith}
use Rattle.std.specs.Prelude.{Contains}
use Rattle.std.specs.List.{AllByRecursion}
use Rattle.std.proofs.Math.Seq.{drop-append_seam}
use Rattle.tree_model.specs.declared.hash.Hash.{Hash}
use Rattle.outside_traits.specs.Store.{Store}
use Rattle.meta_model.specs.CleanBuild.{Gives}
use Rattle.store_model.specs.declared.signature.EquivRow.{EquivRow}
use Rattle.store_model.specs.declared.signature.SigRecord.{SigRecord}
use Rattle.store_model.specs.Origins.{Book, Line, Reading}
use Rattle.store_model.specs.Readable.{IsReadable}
use Rattle.store_model.specs.Sound.{IsSignature}
use Rattle.store_model.specs.Spelling.{key_bytes, key_part, short_bytes, short_of, signature_bytes}
use Rattle.store_model.specs.Valid.{StandsIn}
use Rattle.store_model.proofs.Ordered.{each_middle}
use Rattle.store_model.proofs.Standing.{each_line}
use Rattle.store_move.specs.Formats.{IsValidBook, row_of, rows_of}
use Rattle.store_move.specs.Moves.{HasNoClash, MayMove, present}
use Rattle.store_move.specs.Parts.{part}
use Rattle.store_move.proofs.Same.{is_one_definition}
use Rattle.store_opening.specs.Survey.{AreJudged}
use Rattle.store_opening.proofs.Surveyed.{each_of}
use Rattle.record_move.specs.declared.moving.Moved.{Moved}
use Rattle.record_move.specs.declared.records.OldRecord.{OldRecord}
use Rattle.record_move.specs.Known.{AreKnown, digest, key_named}
use Rattle.record_move.specs.Moved.{AreLinesOf, IsMoveOf, StandWell}
use Rattle.record_move.specs.Wanted.{IsWantedPart, is_named_by, wanted_lines, wanted_of}
use Rattle.record_move.specs.Whole.{AreAsAsked, LeavesValid}
use Rattle.record_move.proofs.Choosing.{wanted_is_valid}
use Rattle.record_move.proofs.Keeping.{key_name_is}
use Rattle.record_move.proofs.Wholly.{move_leaves_valid, valid_are_as_asked}
use Rattle.store_upgrade.proofs.Again.{IsReordered, reordered_of}
use Rattle.store_upgrade.proofs.AgainSame.{no_clash_again}
use Rattle.store_upgrade.proofs.Ready.{IsReady}
use Rattle.store_upgrade.proofs.Zipped.{among_stands, stands_among}
use Rattle.sstate_mirror.specs.Brought.{HoldBoth, IsTaken}
use Rattle.sstate_mirror.specs.Steps.{AreGathered, AreRowsKnown, IsFound}
use Rattle.sstate_mirror.specs.Wanted.{Titles, asked_of, record_of, wanted_book, whole_move}
use Rattle.sstate_mirror.proofs.Judged.{IsJudgedBook, judged_book}

-- ---- wanted lines stand in their book

wanted_among : (asked : List Bool) (book : Book) (line : Line) → Contains (wanted_lines present asked book) line → Contains book line
wanted_among [] book line has = absurd (let lt = has.1 in omega (arith, lt))
wanted_among (a ∷ more) [] line has = absurd (let lt = has.1 in omega (arith, lt))
wanted_among (a ∷ more) (x ∷ book) line has = by (a || is_named_by (present.name_of x.sig) (wanted_lines present more book)) has (wanted_among more book line)
  where
    later : Contains book line → Contains (x ∷ book) line
    later c = (suc c.0, (let lt = c.1 in omega (arith, lt)), c.2)

    by : (b : Bool) → Contains (cond b (x ∷ wanted_lines present more book) (wanted_lines present more book)) line → (Contains (wanted_lines present more book) line → Contains book line) → Contains (x ∷ book) line
    by false c rest = later (rest c)
    by true (zero, lt, e) rest = (0, omega arith, e)
    by true (suc k, lt, e) rest = later (rest (k, omega (arith, lt), e))

-- the records of a book's lines are those of its lines
lines_of : (book : Book) → AreLinesOf present (map record_of book) book
lines_of [] = tt
lines_of (x ∷ xs) = (record { name = refl; stored = refl }, lines_of xs)

-- ---- keys

key_of_text : (sig : SigRecord) → key_part (signature_bytes sig) ≡ key_bytes sig.key
unfolding signature_bytes
key_of_text sig = drop-append_seam (short_bytes (short_of sig)) (key_bytes sig.key)

row_among : (book : Book) (line : Line) → Contains book line → Contains (rows_of present book) (row_of present line)
row_among [] line has = absurd (let lt = has.1 in omega (arith, lt))
row_among (x ∷ xs) line (zero, lt, e) = (0, omega arith, ap (row_of present) e)
row_among (x ∷ xs) line (suc k, lt, e) = let w = row_among xs line (k, omega (arith, lt), e) in (suc w.0, (let m = w.1 in omega (arith, m)), w.2)

-- the keys of the own lines are known
known_lines : (keys : List (List ℕ)) (own : List EquivRow) (start : Book) → AreRowsKnown keys own → own ≡ rows_of present start → AreKnown keys start
known_lines keys own start known are before line s =
    let there : Contains own (row_of present line) = subst (λ (l : List EquivRow). Contains l (row_of present line)) (sym are) (row_among start line (among_stands start before line s)) in
    let k = known (row_of present line) there in
    let bytes : key_part (signature_bytes line.sig) ≡ key_bytes line.sig.key = key_of_text line.sig in
    let by_digest : key_named keys (digest (key_bytes line.sig.key)) ≡ Some (key_bytes line.sig.key) = subst (λ (b : List ℕ). key_named keys (digest b) ≡ Some b) bytes k in
    subst (λ (n : Hash). key_named keys n ≡ Some (key_bytes line.sig.key)) (key_name_is line.sig.key) by_digest

signature_of : (again before : Book) (line : Line) → AllByRecursion IsReadable again → StandsIn again before line → IsSignature line.sig
signature_of again before line readable s = let r = each_middle IsReadable before line s.rest (subst (AllByRecursion IsReadable) s.is readable) in r.spelled.sound.sig

-- ---- what a move asks for

-- The books, and the move of the one behind the other.
pub record IsPrepared (gives : Gives) (reading : Reading) (wanted : Titles) (own : List EquivRow) (mirror held : Store) (start theirs : Book) (moved : Moved) : Type 0 where
  pub again : Book
  pub taken : IsTaken mirror theirs again
  pub lines : IsValidBook present gives reading again
  pub readable : AllByRecursion IsReadable (wanted_book wanted again)
  pub may : MayMove present present gives reading (wanted_book wanted again) start
  pub told : IsMoveOf present start (whole_move wanted again start) moved.rows moved.records.items moved.added.items
  pub ready : IsReady gives reading held start told.more moved.added.items moved.keys

module _ (gives : Gives) (reading : Reading) (wanted : Titles) (own : List EquivRow) (mirror held : Store) (start theirs : Book) (both : HoldBoth gives reading own held mirror start theirs) where
  their_lines : IsValidBook present gives reading theirs
  their_lines = let d = is_one_definition gives reading theirs in d.1 both.mirror_valid.lines

  start_lines : IsValidBook present gives reading start
  start_lines = let d = is_one_definition gives reading start in d.1 both.valid.lines

  module _ (rows : List EquivRow) (j : IsJudgedBook gives reading theirs rows) where
    abbrev W : Book
    W = wanted_book wanted j.again

    again_lines : IsValidBook present gives reading j.again
    again_lines = let d = is_one_definition gives reading j.again in d.1 j.lines

    chosen : IsWantedPart present gives reading (asked_of wanted (rows_of present j.again)) (map record_of j.again) j.again
    chosen = wanted_is_valid present gives reading (asked_of wanted (rows_of present j.again)) (map record_of j.again) j.again again_lines (lines_of j.again)

    pub wanted_readable : AllByRecursion IsReadable W
    wanted_readable = each_line IsReadable W (λ before line s. each_of IsReadable j.again line j.readable (wanted_among (asked_of wanted (rows_of present j.again)) j.again line (among_stands W before line s)))

    pub lines_gathered : (records : List OldRecord) → AreGathered wanted rows records → AreLinesOf present records W
    lines_gathered records gathered =
        let is : records ≡ wanted_of (asked_of wanted (rows_of present j.again)) (map record_of j.again) =
        gathered j.again j.readable j.rows_are ∙ ap (λ (rs : List EquivRow). wanted_of (asked_of wanted rs) (map record_of j.again)) j.rows_are in
        subst (λ (l : List OldRecord). AreLinesOf present l W) (sym is) chosen.records

    reordered : IsReordered present theirs W
    reordered =
        let r = reordered_of present gives reading W W chosen.valid (record { whole = λ before line s. (before, s); only = λ before line s. (before, s) }) in
        record {
          new = r.new;
          only = λ before line s. let there = stands_among j.again line (wanted_among (asked_of wanted (rows_of present j.again)) j.again line (among_stands W before line s)) in j.same.only there.0 line there.1;
          deps = r.deps;
          unihash = r.unihash;
        }

    pub no_clash : HasNoClash present present gives reading W start
    no_clash = no_clash_again present present gives reading theirs start W start their_lines start_lines reordered
        (reordered_of present gives reading start start start_lines (record { whole = λ before line s. (before, s); only = λ before line s. (before, s) })) both.no_clash

    pub as_asked : (keys : List (List ℕ)) → AreRowsKnown keys own → AreAsAsked present gives reading keys W start
    as_asked keys known =
        valid_are_as_asked present gives reading keys W start chosen.valid start_lines (λ before line s. signature_of start before line both.readable s) (known_lines keys own start known both.rows_are)

pub prepared : (gives : Gives) (reading : Reading) (wanted : Titles) (own : List EquivRow) (mirror held : Store) (start theirs : Book) → HoldBoth gives reading own held mirror start theirs → (moved : Moved)
    → IsFound wanted own mirror moved → IsPrepared gives reading wanted own mirror held start theirs moved
prepared gives reading wanted own mirror held start theirs both moved f = record {
  again = j.again;
  taken = record { judged = subst (AreJudged mirror) j.rows_are f.judged; same = j.same };
  lines = again_lines gives reading wanted own mirror held start theirs both f.theirs j;
  readable = wanted_readable gives reading wanted own mirror held start theirs both f.theirs j;
  may = may;
  told = told;
  ready = record {
    valid = both.valid;
    lines = told.lines;
    stand = subst (StandWell moved.keys) told.longer (f.translated.well present (wanted_book wanted j.again) start lines both.rows_are asked.spelled asked.well);
    whole = subst (IsValidBook present gives reading) told.longer leaves.whole_valid;
    stopped = λ round keep at. subst (λ (b : Book). IsValidBook present gives reading (part keep b)) told.longer (leaves.stopped round keep at);
  };
}
  where
    j : IsJudgedBook gives reading theirs f.theirs
    j = judged_book gives reading mirror theirs both.mirror_valid both.mirror_readable f.theirs f.judged

    lines : AreLinesOf present f.translated.records (wanted_book wanted j.again)
    lines = lines_gathered gives reading wanted own mirror held start theirs both f.theirs j f.translated.records f.translated.gathered

    asked : AreAsAsked present gives reading f.translated.keys (wanted_book wanted j.again) start
    asked = as_asked gives reading wanted own mirror held start theirs both f.theirs j f.translated.keys f.translated.known

    may : MayMove present present gives reading (wanted_book wanted j.again) start
    may = asked.may (no_clash gives reading wanted own mirror held start theirs both f.theirs j) (f.translated.clear present (wanted_book wanted j.again) start lines both.rows_are asked.spelled asked.well)

    told : IsMoveOf present start (whole_move wanted j.again start) moved.rows moved.records.items moved.added.items
    told = f.translated.told present (wanted_book wanted j.again) start lines both.rows_are

    leaves : LeavesValid gives reading start (whole_move wanted j.again start).book told.more moved.added.items
    leaves = move_leaves_valid present gives reading (wanted_book wanted j.again) start moved.rows moved.records.items moved.added.items may told

-- a wanted line stands in the whole book, in which names differ
pub old_stands : (gives : Gives) (reading : Reading) (wanted : Titles) (own : List EquivRow) (mirror held : Store) (start theirs : Book) (moved : Moved) (p : IsPrepared gives reading wanted own mirror held start theirs moved)
    → (line : Line) → Contains (wanted_book wanted p.again) line → (before : Book) × StandsIn p.again before line × IsValidBook present gives reading p.again
old_stands gives reading wanted own mirror held start theirs moved p line has =
    let s = stands_among p.again line (wanted_among (asked_of wanted (rows_of present p.again)) p.again line has) in (s.0, s.1, p.lines)
