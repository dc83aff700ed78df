-- Where a run may begin.
use Rattle.store_model.proofs.Lasting.{empty_is_valid}
use Rattle.build_resume.specs.Laws.{FirstEntry, NextEntry}

pub first_entry : FirstEntry
first_entry gives reading plan planned may = record {
  sound = planned.sound;
  valid = empty_is_valid gives reading;
  readable = tt;
  may = may;
  spellings = planned.spellings;
}

pub next_entry : NextEntry
next_entry gives reading book image crash plan planned may = record {
  sound = planned.sound;
  valid = crash.valid;
  readable = crash.readable;
  may = may;
  spellings = planned.spellings;
}
