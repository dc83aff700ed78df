use Rattle.std.proofs.Common.{◌∙◌, ap, sym, map}
use Rattle.meta_model.specs.Parts.{end, with_braces}
use Rattle.var_expand.specs.Pieces.{text_before}
use Rattle.var_expand.specs.Standing.{wrapped, in_front}
use Rattle.var_expand.specs.ReadOn.{held}
use Rattle.var_expand.proofs.Openings.{front_front}
use Rattle.var_expand.proofs.standing.Standing.with_run.Goals as goal

pub returns : goal.returns
returns c = λ rest.
    ap (λ p. with_braces (wrapped (map held c.args.self.outer.items) (in_front p rest))) c.in_ok-with_text.ensures
    ∙ ap (λ l. with_braces (wrapped (map held c.args.self.outer.items) l)) (sym (front_front (held c.args.self.inner) (text_before c.args.text.now end) rest))
