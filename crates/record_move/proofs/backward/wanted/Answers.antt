use Rattle.std.proofs.Common.{◌≡◌, ◌∙◌, ap, sym, subst, arith, ℕ, ◌+◌, ◌<◌, false, List, [], ◌∷◌, ◌++◌, append_assoc, length, length-append, get_or, drop}
use Rattle.record_move.specs.declared.records.OldRecord.{OldRecord}
use Rattle.record_move.specs.Wanted.{IsWanting, wanted_of}
use Rattle.record_move.proofs.Backwards.{wanted_more}
use Rattle.record_move.proofs.backward.wanted.Goals as goal

pub loop-old-preserved : goal.loop-old-preserved
loop-old-preserved c =
    let asked = c.args.asked.now in
    let left = c.pop.new.self.items in
    let old = c.in-Some.old in
    let rest = c.loop-old.invariant.rest in
    let n = length left in
    let items : c.loop-old.left.items ≡ left ++ old ∷ [] = c.in-Some.ensures.items in
    let longer : length c.loop-old.left.items ≡ n + 1 = ap (length {A = OldRecord}) items ∙ length-append left (old ∷ []) in
    let whole : left ++ old ∷ rest ≡ c.args.olds.items = sym (append_assoc left (old ∷ []) rest) ∙ ap (λ (l : List OldRecord). l ++ rest) (sym items) ∙ c.loop-old.invariant.whole in
    let lt : n < length asked = omega (arith, c.requires, ap (length {A = OldRecord}) whole, length-append left (old ∷ rest)) in
    let w = subst (λ (k : ℕ). IsWanting (wanted_of (drop k asked) rest) c.loop-old.wanting) longer c.loop-old.invariant.wanting in
    let t = c.in_ok-take.ensures (wanted_of (drop (n + 1) asked) rest) w in
    record {
      rest = old ∷ rest;
      whole = whole;
      wanting = subst (λ (l : List OldRecord). IsWanting l c.take.new.wanting) (sym (wanted_more asked n _ old rest lt (ap (λ (k : ℕ). get_or c.args.asked.now k false) (c.len.ensures ∙ c.pop.new.self.ok.0)))) t;
    }
