use Rattle.std.proofs.Common.{◌≡◌, ◌∙◌, ◌-◌, ◌≤◌, ap, sym, subst, arith, ℕ, Bool, List, length, drop, map, reverse}
use Rattle.std.specs.Option.{is_some}
use Rattle.record_move.specs.declared.records.OldRecord.{OldRecord}
use Rattle.record_move.specs.Named.{value_at}
use Rattle.record_move.specs.Wanted.{wanted_of}
use Rattle.sstate_mirror.specs.Steps.{IsGathered}
use Rattle.sstate_mirror.specs.Wanted.{asked_of, record_of}
use Rattle.sstate_mirror.proofs.Gathered.{gathered_more, gathered_none, rows_long}
use Rattle.sstate_mirror.proofs.gathering.gather_rows.Goals as goal

pub loop-left-init : goal.loop-left-init
loop-left-init c = record {
  within = omega (arith, c.len-left.ensures);
  so_far = λ wanted titles book readable are.
      let past : length (map record_of book) ≤ c.len-left.result = (let e = rows_long c.args.theirs.now book are in omega (arith, c.len-left.ensures, e)) in
      subst (λ (l : List OldRecord). IsGathered l (record { found = c.new.result; noted = c.new-2.result })) (sym (gathered_none (asked_of wanted c.args.theirs.now) (map record_of book) c.len-left.result past))
      (record { found = ap (reverse {A = OldRecord}) c.new.ensures.items; noted = λ q. ap (λ (l : List (List ℕ × Bool)). is_some (value_at l q)) c.new-2.ensures.empty });
}

pub loop-left-preserved : goal.loop-left-preserved
loop-left-preserved c = record {
  within = (let le = c.loop-left.invariant.within in omega arith);
  so_far = λ wanted titles book readable are.
      let n : ℕ = c.loop-left.left - 1 in
      let row = c.row_at-row.result.now in
      gathered_more wanted c.args.theirs.now book n row c.is_asked.result c.loop-left.gathering c.visit.new.gathering readable are c.row_at-row.ensures (c.is_asked.ensures ∙ titles row.pn row.task)
      (λ line is. c.in_ok-visit.ensures line is)
      (subst (λ (k : ℕ). IsGathered (wanted_of (drop k (asked_of wanted c.args.theirs.now)) (drop k (map record_of book))) c.loop-left.gathering) (omega arith) (c.loop-left.invariant.so_far wanted titles book readable are));
}

pub returns : goal.returns
returns c = λ wanted titles book readable are.
    let zero : c.loop-left.left ≡ 0 = omega arith in
    c.reverse.ensures.items ∙ subst (λ (k : ℕ). reverse c.loop-left.gathering.found.items ≡ wanted_of (drop k (asked_of wanted c.args.theirs.now)) (drop k (map record_of book))) zero (c.loop-left.invariant.so_far wanted titles book readable are).found
