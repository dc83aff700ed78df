-- What a move leaves.
use Rattle.std.proofs.Common.{sym, subst, [], append-nil}
use Rattle.store_model.specs.Origins.{Book}
use Rattle.store_move.specs.Formats.{IsValidBook}
use Rattle.store_move.specs.Moves.{begun, moved_from, present}
use Rattle.store_move.specs.Parts.{part}
use Rattle.store_move.proofs.Whole.{moving_is_valid}
use Rattle.record_move.specs.Whole.{MoveLeavesValid, ValidAreAsAsked}
use Rattle.record_move.proofs.Rounding.{round_is_valid}

pub valid_are_as_asked : ValidAreAsAsked
valid_are_as_asked from gives reading keys book start old new sound known = record {
  spelled = λ before line s. let v = old before line s in v.spelled;
  well = record { new = λ before line s. let v = new before line s in v.new; sound = sound; known = known };
  may = λ no_clash clear. record { old = old; new = new; no_clash = no_clash; clear = clear };
}

pub move_leaves_valid : MoveLeavesValid
move_leaves_valid from gives reading book start rows records added may told = record {
  whole_valid = whole;
  stopped = λ round keep at. subst (λ (b : Book). IsValidBook present gives reading (part keep b)) (sym told.longer)
      (round_is_valid gives reading start told.more added round keep (subst (IsValidBook present gives reading) told.longer whole) told.lines told.in_rounds at);
}
  where
    whole : IsValidBook present gives reading (moved_from from present (begun start) book).book
    whole = let good = moving_is_valid from present gives reading book start book [] may (sym (append-nil book)) in good.valid
