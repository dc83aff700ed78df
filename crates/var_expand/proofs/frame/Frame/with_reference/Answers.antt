use Rattle.std.proofs.Common.{◌≡◌, ◌∙◌, ap, arith}
use Rattle.std.proofs.lemmas.Grind.{common_steps}
use Rattle.meta_model.specs.Parts.{end, reference, joined_with, depth}
use Rattle.var_expand.specs.declared.parts.Part.{Ref}
use Rattle.var_expand.specs.Pieces.{parts_in, parts_in_list}
use Rattle.var_expand.proofs.Openings.{joined_depth}
use Rattle.var_expand.proofs.Pieces.{list_more, ref_part}
use Rattle.var_expand.proofs.frame.Frame.with_reference.Goals as goal

pub returns : goal.returns
returns c =
    list_more c.args.self.parts.list.items c.push.new.self.items (Ref c.args.name.parts) c.in_ok-push.ensures.items
    ∙ ap (joined_with (parts_in c.args.self.parts)) (ref_part c.args.name.parts end)

pub invariant_of-result : goal.invariant_of-result
invariant_of-result c =
    let same : parts_in_list c.push.new.self.items ≡ joined_with (parts_in c.args.self.parts) (reference (parts_in c.args.name.parts) end) =
    list_more c.args.self.parts.list.items c.push.new.self.items (Ref c.args.name.parts) c.in_ok-push.ensures.items
    ∙ ap (joined_with (parts_in c.args.self.parts)) (ref_part c.args.name.parts end) in
    let deep = ap depth same ∙ joined_depth (parts_in c.args.self.parts) (reference (parts_in c.args.name.parts) end) in
    record {
      exact = grind (arith, common_steps, deep, c.max.ensures, c.args.self.exact, c.args.name.exact);
      shallow = grind (arith, common_steps, c.max.ensures, c.args.self.shallow, c.requires);
    }
