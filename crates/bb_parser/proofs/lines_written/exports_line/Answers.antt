use Rattle.std.proofs.Common.{◌≡◌, ◌++◌, true, codes, Bool, false, sym, ap, ◌∙◌, refl, ◌||◌}
use Rattle.std.proofs.Common.{is_some}
use Rattle.meta_model.specs.Lines.{opens_body}
use Rattle.meta_model.specs.Grammar.{assignment}
use Rattle.bb_parser.proofs.WritableFacts.{exports-plain, exports-odd}
use Rattle.bb_parser.proofs.lines_written.exports_line.Goals as goal
use Rattle.bb_parser.proofs.lines_written.exports_line.Goals.{else-not-is_assignment-via-then-not-is_assignment+else-not-opens, else-not-is_assignment-via-else-not-is_assignment}

pub returns-then-not-opens : goal.returns-then-not-opens
returns-then-not-opens c = exports-plain c.args.names.now c.in_ok-line.line c.in_ok-line.ensures
    (ap (λ t. is_some (assignment false t)) (sym c.as_str.ensures) ∙ (sym c.is_assignment.ensures ∙ c.if-not-is_assignment.true)) (ap opens_body (sym c.as_str-then-not-is_assignment.ensures) ∙ (sym c.opens.ensures ∙ c.if-not-opens.true))

pub returns : goal.returns
returns c = c.in_ok-push_str.ensures.ok ∙ (ap (λ t. t ++ codes " ") c.in_ok-odd.ensures ∙ exports-odd c.args.names.now c.in_ok-line.line c.in_ok-line.ensures
    (elim c.else-not-is_assignment.branch [
      | else-not-is_assignment-via-then-not-is_assignment+else-not-opens w ↦ odd-opens (is_some (assignment false c.in_ok-line.line)) (opens_body c.in_ok-line.line) (ap opens_body (sym w.as_str-then-not-is_assignment.ensures) ∙ (sym w.opens.ensures ∙ w.if-not-opens.false))
      | else-not-is_assignment-via-else-not-is_assignment w ↦ ap (λ t. t || opens_body c.in_ok-line.line) (ap (λ t. is_some (assignment false t)) (sym c.as_str.ensures) ∙ (sym c.is_assignment.ensures ∙ w.if-not-is_assignment.false))
    ]))
  where
    odd-opens : (a b : Bool) → b ≡ true → (a || b) ≡ true
    odd-opens true b e = refl
    odd-opens false b e = e
