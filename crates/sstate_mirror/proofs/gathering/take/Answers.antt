use Rattle.std.proofs.Common.{◌∙◌, ◌∷◌, [], ap, List, reverse}
use Rattle.std.proofs.lemmas.List.{reverse-append}
use Rattle.record_move.specs.declared.records.OldRecord.{OldRecord}
use Rattle.record_move.proofs.Backwards.{taken_noted}
use Rattle.sstate_mirror.proofs.gathering.take.Goals as goal

pub returns : goal.returns
returns c = λ records w. record {
  found = ap (reverse {A = OldRecord}) c.in_ok-push.ensures.items ∙ reverse-append c.args.gathering.now.found.items (c.args.old ∷ []) ∙ ap (λ (l : List OldRecord). c.args.old ∷ l) w.found;
  noted = taken_noted c.args.gathering.now.noted.entries c.note_names.new.noted.entries c.args.old records w.noted c.in_ok-note_names.ensures;
}
