-- What a whole logical line does to the lines that follow it.
use Rattle.std.proofs.Common.{◌≡◌, ℕ, suc, false, ◌||◌, List, [], ◌∷◌, ◌++◌, refl, ap, ◌∙◌, Result, Ok, Err, append_assoc, append-nil}
use Rattle.meta_model.specs.Text.{is_empty}
use Rattle.meta_model.specs.Lines.{Standing, outside, joining, Step, nothing, line, fault, step, whole, is_comment, is_joined, with_first, OrFault, logical_from}
use Rattle.meta_model.specs.declared.line.Line.{Line}
use Rattle.bb_lexer.specs.declared.step.Stand.{Stand}
use Rattle.bb_lexer.specs.declared.fault.LexFault.{LexFault}
use Rattle.bb_lexer.specs.Steps.{onto, IsWhole, Steps}

pub onto-with_first : (old : List Line) (l : Line) (r : OrFault (List Line)) → onto (old ++ l ∷ []) r ≡ onto old (with_first l r)
onto-with_first old l (Ok ys) = ap Ok (append_assoc old (l ∷ []) ys)
onto-with_first old l (Err e) = refl

-- what is found behind a step
follow : ℕ → List (List ℕ) → Step → OrFault (List Line)
follow n ps (nothing next) = logical_from next (suc n) ps
follow n ps (line l next) = with_first l (logical_from next (suc n) ps)
follow n ps (fault at wrong) = Err (at, wrong)

logical_from-step : (s : Standing) (n : ℕ) (p : List ℕ) (ps : List (List ℕ)) (x : Step) → step s n p ≡ x → logical_from s n (p ∷ ps) ≡ follow n ps x
unfolding follow
logical_from-step s n p ps x e = next (step s n p) ∙ ap (follow n ps) e
  where
    next : (y : Step) → ◌≡◌ {A = OrFault (List Line)} (elim y [ nothing next ↦ logical_from next (suc n) ps | line l next ↦ with_first l (logical_from next (suc n) ps) | fault at wrong ↦ Err (at, wrong) ]) (follow n ps y)
    next (nothing s') = refl
    next (line l s') = refl
    next (fault at wrong) = refl

pub whole-Steps : (s : Standing) (n m : ℕ) (p text : List ℕ) (old new : List Line) (r : Result Stand LexFault) → step s n p ≡ whole m text → IsWhole m text old new r → Steps s n p old new r
unfolding follow
whole-Steps s n m p text old new (Ok next) e h = λ ps. rw (logical_from-step s n p ps (whole m text) e, h.0, h.1, onto-with_first)
whole-Steps s n m p text old new (Err x) e h = λ ps. rw h refl

pub step-outside : (n : ℕ) (p text : List ℕ) → (is_empty p || is_comment p) ≡ false → is_joined p ≡ false → text ≡ p ++ [] → step outside n p ≡ whole n text
step-outside n p text d j e = rw (d, j, e, append-nil)

pub step-joining : (b n : ℕ) (t p text : List ℕ) → is_comment p ≡ false → is_joined p ≡ false → text ≡ t ++ p → step (joining b t) n p ≡ whole b text
step-joining b n t p text d j e = rw (d, j, e)
