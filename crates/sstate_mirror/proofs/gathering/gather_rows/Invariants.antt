use Rattle.std.proofs.Common.{◌≡◌, ◌≤◌, length, drop, map}
use Rattle.std.specs.List.{AllByRecursion}
use Rattle.store_model.specs.Origins.{Book}
use Rattle.store_model.specs.Readable.{IsReadable}
use Rattle.store_move.specs.Formats.{rows_of}
use Rattle.store_move.specs.Moves.{present}
use Rattle.record_move.specs.Wanted.{wanted_of}
use Rattle.sstate_mirror.specs.Steps.{IsGathered}
use Rattle.sstate_mirror.specs.Titles.{AreTitles}
use Rattle.sstate_mirror.specs.Wanted.{Titles, asked_of, record_of}
use Rattle.sstate_mirror.proofs.gathering.gather_rows.Given as goal

abbrev pub invariant-loop-left : goal.invariant-loop-left
invariant-loop-left l = record {
  within : l.left ≤ length l.theirs;
  so_far : (wanted : Titles) → AreTitles wanted l.of_pn → (book : Book) → AllByRecursion IsReadable book → l.theirs ≡ rows_of present book
      → IsGathered (wanted_of (drop l.left (asked_of wanted l.theirs)) (drop l.left (map record_of book))) l.gathering;
}

abbrev pub decreases-loop-left : goal.decreases-loop-left
decreases-loop-left l = l.left
