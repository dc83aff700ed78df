use Rattle.std.proofs.Common.{◌∙◌, ap, sym}
use Rattle.meta_model.specs.Parts.{end, joined_with, depth}
use Rattle.var_expand.specs.declared.parts.Part.{Plain}
use Rattle.var_expand.specs.Pieces.{text_before, parts_in}
use Rattle.var_expand.proofs.Pieces.{list_more, depth_text}
use Rattle.var_expand.proofs.frame.Frame.with_text.Goals as goal

pub returns : goal.returns
returns c =
    list_more c.args.self.parts.list.items c.push.new.self.items (Plain c.in_ok-from_str.field-0) c.in_ok-push.ensures.items
    ∙ ap (λ t. joined_with (parts_in c.args.self.parts) (text_before t end)) c.in_ok-from_str.ensures

pub invariant_of-result : goal.invariant_of-result
invariant_of-result c = record {
  exact =
      c.args.self.exact ∙ sym (depth_text (parts_in c.args.self.parts) c.in_ok-from_str.field-0)
      ∙ ap depth (sym (list_more c.args.self.parts.list.items c.push.new.self.items (Plain c.in_ok-from_str.field-0) c.in_ok-push.ensures.items));
  shallow = c.args.self.shallow;
}
