use Rattle.std.specs.BTreeMap.{get_by_text}
use Rattle.value_maps.specs.Forms.{rests, KeepsRests, HasFormsTo}
use Rattle.value_maps.proofs.forms.note_forms.Given as goal

abbrev pub invariant-loop-place : goal.invariant-loop-place
invariant-loop-place l = record {
  keeps : KeepsRests (λ name. rests (get_by_text l.fn.forms name)) (λ name. rests (get_by_text l.forms name));
  noted : HasFormsTo (λ name. rests (get_by_text l.forms name)) l.name l.place;
}
