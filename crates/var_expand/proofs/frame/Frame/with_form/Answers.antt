use Rattle.std.proofs.Common.{◌≡◌, ◌∙◌, ap, arith}
use Rattle.std.proofs.lemmas.Grind.{common_steps}
use Rattle.meta_model.specs.Parts.{end, form, joined_with, depth}
use Rattle.var_expand.specs.declared.parts.Part.{Call}
use Rattle.var_expand.specs.Pieces.{parts_in, parts_in_list}
use Rattle.var_expand.proofs.Openings.{joined_depth}
use Rattle.var_expand.proofs.Pieces.{list_more}
use Rattle.var_expand.proofs.frame.Frame.with_form.Goals as goal

pub returns : goal.returns
returns c = list_more c.args.self.parts.list.items c.push.new.self.items (Call c.args.form) c.in_ok-push.ensures.items

pub invariant_of-result : goal.invariant_of-result
invariant_of-result c =
    let same : parts_in_list c.push.new.self.items ≡ joined_with (parts_in c.args.self.parts) (form c.args.form end) =
    list_more c.args.self.parts.list.items c.push.new.self.items (Call c.args.form) c.in_ok-push.ensures.items in
    let deep = ap depth same ∙ joined_depth (parts_in c.args.self.parts) (form c.args.form end) in
    record {
      exact = grind (arith, common_steps, deep, c.args.self.exact);
      shallow = c.args.self.shallow;
    }
