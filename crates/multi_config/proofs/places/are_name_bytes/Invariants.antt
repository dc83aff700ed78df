use Rattle.std.proofs.Common.{◌≡◌, true, take, codes}
use Rattle.std.specs.List.{list_all}
use Rattle.meta_model.specs.Text.{is_letter_digit_or}
use Rattle.multi_config.proofs.places.are_name_bytes.Given as goal

abbrev pub invariant-loop-byte : goal.invariant-loop-byte
invariant-loop-byte l = list_all (is_letter_digit_or (codes "-_")) (take l.byte-index l.bytes) ≡ true
