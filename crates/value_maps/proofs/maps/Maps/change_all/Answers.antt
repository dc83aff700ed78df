use Rattle.std.proofs.Common.{◌∙◌, ap, sym, subst, append_assoc, ◌++◌, ◌∷◌, [], take}
use Rattle.std.proofs.lemmas.List.{take_all, take_more}
use Rattle.value_maps.specs.Maps.{Keeps}
use Rattle.value_maps.proofs.Keeping.{keeps_step}
use Rattle.value_maps.proofs.maps.Maps.change_all.Goals as goal

pub loop-line-preserved : goal.loop-line-preserved
loop-line-preserved c =
    let xs = c.args.lines.now in
    let i = c.loop-line.line-index in
    let x = c.line-item.result in
    let goes = c.in_ok-change.ensures.ok in
    record {
      same = goes.same ∙ c.loop-line.invariant.same;
      keeps = λ list keeps.
          subst (λ l. Keeps l c.change.new.self) (append_assoc list (take i xs) (x ∷ []) ∙ ap (λ l. list ++ l) (ap (λ z. take i xs ++ z ∷ []) c.line-item.is ∙ sym (take_more xs i x c.loop-line-test.true)))
          (keeps_step (list ++ take i xs) c.loop-line.self c.change.new.self x (c.loop-line.invariant.keeps list keeps) goes);
    }

pub returns-clause-keeps : goal.returns-clause-keeps
returns-clause-keeps c = λ list keeps. rw (take_all _ _ c.loop-line-test.false) at c.loop-line.invariant.keeps list keeps
