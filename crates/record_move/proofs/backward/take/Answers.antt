use Rattle.std.proofs.Common.{◌∙◌, ap, sym, subst, Bool, cond, ◌||◌, List, [], ◌∷◌, reverse}
use Rattle.std.proofs.lemmas.List.{reverse-append}
use Rattle.record_move.specs.declared.records.OldRecord.{OldRecord}
use Rattle.record_move.specs.Wanted.{IsWanting}
use Rattle.record_move.proofs.Backwards.{taken_noted}
use Rattle.record_move.proofs.backward.take.Goals as goal

pub returns-then-not-is_taken : goal.returns-then-not-is_taken
returns-then-not-is_taken c = λ records w.
    let test = ap (λ (b : Bool). c.args.asked || b) (sym (w.noted c.args.old.name)) ∙ sym c.is_wanted-is_taken.ensures ∙ c.if-not-is_taken.true in
    subst (λ (b : Bool). IsWanting (cond b (c.args.old ∷ records) records) c.args.wanting.now) (sym test) w

pub returns : goal.returns
returns c = λ records w.
    let test = ap (λ (b : Bool). c.args.asked || b) (sym (w.noted c.args.old.name)) ∙ sym c.is_wanted-is_taken.ensures ∙ c.if-not-is_taken.false in
    subst (λ (b : Bool). IsWanting (cond b (c.args.old ∷ records) records) (record { found = c.push.new.self; noted = c.note_names.new.noted })) (sym test) (record {
      found = ap (reverse {A = OldRecord}) c.in_ok-push.ensures.items ∙ reverse-append c.args.wanting.now.found.items (c.args.old ∷ []) ∙ ap (λ (l : List OldRecord). c.args.old ∷ l) w.found;
      noted = taken_noted c.args.wanting.now.noted.entries c.note_names.new.noted.entries c.args.old records w.noted c.in_ok-note_names.ensures;
    })
