use Rattle.std.proofs.Common.{◌∙◌, ap, arith}
use Rattle.std.proofs.lemmas.Grind.{common_steps}
use Rattle.meta_model.specs.Parts.{depth}
use Rattle.var_expand.specs.Pieces.{parts_in, parts_in_list}
use Rattle.var_expand.proofs.Openings.{joined_depth}
use Rattle.var_expand.proofs.Pieces.{list_append}
use Rattle.var_expand.proofs.frame.Frame.with_frame.Goals as goal

pub returns : goal.returns
returns c = ap parts_in_list c.in_ok-append.ensures.items ∙ list_append c.args.self.parts.list.items c.args.more.parts.list.items

pub invariant_of-result : goal.invariant_of-result
invariant_of-result c =
    let deep = ap depth (ap parts_in_list c.in_ok-append.ensures.items ∙ list_append c.args.self.parts.list.items c.args.more.parts.list.items) ∙ joined_depth (parts_in c.args.self.parts) (parts_in c.args.more.parts) in
    record {
      exact = grind (arith, common_steps, deep, c.max.ensures, c.args.self.exact, c.args.more.exact);
      shallow = grind (arith, common_steps, c.max.ensures, c.args.self.shallow, c.args.more.shallow);
    }
