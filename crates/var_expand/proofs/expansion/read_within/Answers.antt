use Rattle.std.proofs.Common.{◌≤◌, subst, sym}
use Rattle.meta_model.specs.Parts.{depth}
use Rattle.meta_model.specs.Expansion.{deepest}
use Rattle.var_expand.specs.Expanding.{last_name}
use Rattle.var_expand.proofs.Expanding.{text_parts}
use Rattle.var_expand.specs.Pieces.{parts_in}
use Rattle.var_expand.proofs.expansion.read_within.Goals as goal

pub returns-in-Ok : goal.returns-in-Ok
returns-in-Ok c = record { ok = λ values. text_parts values (last_name c.args.within.now) c.args.text.now (parts_in c.in-Ok.parts) c.in-Ok.ensures.ok c.in-Ok.ensures.shallow; shallow = subst (λ p. depth p ≤ deepest) (sym c.in-Ok.ensures.ok) c.in-Ok.ensures.shallow; err = tt }
