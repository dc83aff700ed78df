use Rattle.std.proofs.Common.{◌∙◌, ap, sym}
use Rattle.std.specs.List.{list_all, list_any}
use Rattle.var_expand.specs.Pieces.{is_name_part, is_something}
use Rattle.var_expand.proofs.Pieces.{is_name_found, is_name_none}
use Rattle.var_expand.proofs.frame.Frame.is_name.Goals as goal

pub returns-then-hold_something : goal.returns-then-hold_something
returns-then-hold_something c =
    is_name_found c.args.self.now.parts.list.items c.are_name_parts.result
    (ap (list_any is_something) (sym c.as_slice-list.ensures.value) ∙ sym c.hold_something.ensures ∙ c.if-hold_something.true)
    (c.are_name_parts.ensures ∙ ap (list_all is_name_part) c.as_slice-list.ensures.value)

pub returns-else-hold_something : goal.returns-else-hold_something
returns-else-hold_something c =
    c.if-hold_something.false ∙ is_name_none c.args.self.now.parts.list.items
    (ap (list_any is_something) (sym c.as_slice-list.ensures.value) ∙ sym c.hold_something.ensures ∙ c.if-hold_something.false)
