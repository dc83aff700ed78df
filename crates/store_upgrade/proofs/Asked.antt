-- The books of a store as they are read, and what a move of the one behind the other asks for.
use Rattle.std.proofs.Common.{◌≡◌, sym, subst, refl, map, ℕ, false, List, Some}
use Rattle.std.specs.Prelude.{Contains, codes}
use Rattle.std.specs.List.{AllByRecursion}
use Rattle.tree_model.specs.declared.entry.Entry.TheVariants.{File}
use Rattle.outside_traits.specs.Store.{Store}
use Rattle.sha2.specs.Sha256.{sha256}
use Rattle.meta_model.specs.CleanBuild.{Gives}
use Rattle.meta_model.specs.declared.value.Key.{Key}
use Rattle.store_model.specs.declared.signature.EquivRow.{EquivRow}
use Rattle.store_model.specs.Lines.{HaveSameLines}
use Rattle.store_model.specs.Opened.{IsOpened}
use Rattle.store_model.specs.Origins.{Book, Line, Reading}
use Rattle.store_model.specs.Paths.{key_path}
use Rattle.store_model.specs.Readable.{IsReadable}
use Rattle.store_model.specs.Sound.{IsSignature}
use Rattle.store_model.specs.Spelling.{key_bytes, key_name}
use Rattle.store_model.specs.Valid.{HasKeys, IsValid, StandsIn}
use Rattle.store_model.proofs.Ordered.{each_middle}
use Rattle.store_model.proofs.Standing.{each_line}
use Rattle.store_move.specs.First.{first}
use Rattle.store_move.specs.Formats.{IsValidBook, rows_of}
use Rattle.store_move.specs.Moves.{HasNoClash, present}
use Rattle.store_move.proofs.Same.{is_one_definition}
use Rattle.store_opening.specs.Reopened.{IsBookAgain}
use Rattle.store_opening.specs.Survey.{AreUnder, HeldFile}
use Rattle.store_opening.proofs.Reopened.{opened_is_valid}
use Rattle.store_opening.proofs.Surveyed.{key_found}
use Rattle.record_move.specs.declared.records.OldRecord.{OldRecord}
use Rattle.record_move.specs.Known.{AreKnown, IsKnown, digest, key_named}
use Rattle.record_move.specs.Moved.{AreLinesOf, AreSpelled, StandWell}
use Rattle.record_move.specs.Whole.{AreAsAsked}
use Rattle.record_move.proofs.Wholly.{valid_are_as_asked}
use Rattle.store_upgrade.specs.Halfway.{AreTaken, HoldsBoth, IsOldReadable}
use Rattle.store_upgrade.specs.Old.{AreOlds, candidate_of}
use Rattle.store_upgrade.proofs.Again.{IsReordered, again_valid, reordered_of}
use Rattle.store_upgrade.proofs.AgainBelieved.{HaveCandidates, again_reordered, again_whole}
use Rattle.store_upgrade.proofs.AgainOlds.{OldBook, have_candidates, olds_of, readable_at}
use Rattle.store_upgrade.proofs.AgainSame.{no_clash_again}

-- The books of a store in the orders in which they are read, with what a move of the one behind the other asks for.
pub record IsAsked (gives : Gives) (reading : Reading) (held : Store) (book start : Book) (rows : List EquivRow) (records : List OldRecord) (keys : List (List ℕ)) : Type 0 where
  pub olds : Book
  pub again : Book
  pub taken : AreTaken book start olds again
  pub old_valid : IsValidBook first gives reading olds
  pub old_lines : AreLinesOf first records olds
  pub old_readable : AllByRecursion IsOldReadable olds
  pub valid : IsValid gives reading held again
  pub readable : AllByRecursion IsReadable again
  pub rows_are : rows ≡ rows_of present again
  pub spelled : AreSpelled olds
  pub well : StandWell keys again
  pub no_clash : HasNoClash first present gives reading olds again

-- ---- keys that were read

abbrev AreKnownFiles : List HeldFile → List (List ℕ) → Type 0
AreKnownFiles files keys = (path bytes : List ℕ) → Contains files (path, File false bytes) → key_named keys (digest bytes) ≡ Some bytes

key_digest : (key : Key) → sha256 (key_bytes key) ≡ (key_name key).bytes
unfolding key_name
key_digest key = refl

known_by : (keys : List (List ℕ)) (key : Key) → key_named keys (digest (key_bytes key)) ≡ Some (key_bytes key) → IsKnown keys key
unfolding key_name
known_by keys key is = is

-- the keys of lines are known
known_lines : (held : Store) (files : List HeldFile) (keys : List (List ℕ)) (again : Book) → AreUnder (codes "key/") held files → AreKnownFiles files keys → HasKeys held again
    → AreKnown keys again
known_lines held files keys again are known have before line s =
    let found = key_found held files (key_name line.sig.key) (key_bytes line.sig.key) are (record { file = have before line s; digest = key_digest line.sig.key }) in
    known_by keys line.sig.key (known (key_path (key_name line.sig.key)) (key_bytes line.sig.key) found.among)

signature_of : (again before : Book) (line : Line) → AllByRecursion IsReadable again → StandsIn again before line → IsSignature line.sig
signature_of again before line readable s = let r = each_middle IsReadable before line s.rest (subst (AllByRecursion IsReadable) s.is readable) in r.spelled.sound.sig

-- ---- what a move asks for

pub asked : (entry held : Store) (gives : Gives) (reading : Reading) (book start : Book) → HoldsBoth gives reading held book start → HoldsBoth gives reading entry book start
    → (rows : List EquivRow) → IsOpened entry held rows → (files : List HeldFile) → AreUnder (codes "key/") held files
    → (keys : List (List ℕ)) → ((path bytes : List ℕ) → Contains files (path, File false bytes) → key_named keys (digest bytes) ≡ Some bytes)
    → (records : List OldRecord) → AreOlds held records → IsAsked gives reading held book start rows records keys
asked entry held gives reading book start both was rows opened files are keys known records read = record {
  olds = b.lines;
  again = a.again;
  taken = record { old_lines = same; lines = a.same };
  old_valid = old_valid;
  old_lines = subst (λ (l : List OldRecord). AreLinesOf first l b.lines) (sym read.is) b.are;
  old_readable = each_line IsOldReadable b.lines (λ before line s. let l = re.only before line s in readable_at gives reading held book both.old both.old_readable l.0 line l.1);
  valid = a.valid;
  readable = a.readable;
  rows_are = a.rows_are;
  spelled = ready.spelled;
  well = ready.well;
  no_clash = no_clash_again first present gives reading book start b.lines a.again both.old.lines new_lines re
      (reordered_of present gives reading start a.again again_lines a.same) both.no_clash;
}
  where
    a : IsBookAgain gives reading start held rows
    a = opened_is_valid entry held rows opened gives reading start was.new was.new_readable

    have : HaveCandidates first book (map candidate_of read.found)
    have = have_candidates gives reading held book both.old both.old_readable read.found read.are

    b : OldBook book read.found read.places
    b = olds_of gives reading held book both.old both.old_readable read.found read.are read.places (λ k p e. let c = read.believed.each k p e in (c.0, c.1))

    re : IsReordered first book b.lines
    re = again_reordered first gives reading book (map candidate_of read.found) read.places b.lines both.old.lines read.are.ascend have read.believed b.order

    same : HaveSameLines book b.lines
    same = record {
      whole = again_whole first gives reading book (map candidate_of read.found) read.places b.lines both.old.lines read.are.ascend have read.believed b.order;
      only = re.only;
    }

    old_valid : IsValidBook first gives reading b.lines
    old_valid = again_valid first gives reading book b.lines both.old.lines re

    new_lines : IsValidBook present gives reading start
    new_lines = let d = is_one_definition gives reading start in d.1 both.new.lines

    again_lines : IsValidBook present gives reading a.again
    again_lines = let d = is_one_definition gives reading a.again in d.1 a.valid.lines

    ready : AreAsAsked first gives reading keys b.lines a.again
    ready = valid_are_as_asked first gives reading keys b.lines a.again old_valid again_lines
        (λ before line s. signature_of a.again before line a.readable s) (known_lines held files keys a.again are known a.valid.keys)
