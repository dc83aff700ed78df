use Rattle.std.proofs.Common.{◌≡◌, ◌∙◌, ◌++◌, ◌+◌, ap, sym, drop, option_map}
use Rattle.meta_model.specs.Parts.{plain_bytes}
use Rattle.var_expand.specs.Pieces.{parts_in_list}
use Rattle.var_expand.proofs.Pieces.{bytes_more}
use Rattle.var_expand.proofs.frame.plain_text.Goals as goal

pub loop-part-preserved : goal.loop-part-preserved
loop-part-preserved c =
    let more : c.push_str.new.self ≡ c.loop-part.made ++ c.in-Plain.text = c.in_ok-push_str-in-Plain.ensures.ok ∙ ap (λ t. c.loop-part.made ++ t) c.as_str.ensures in
    c.loop-part.invariant
    ∙ bytes_more c.args.parts.now c.loop-part.part-index c.in-Plain.text c.loop-part.made c.part-item.result (sym c.in-Plain.is ∙ c.part-item.is) c.loop-part-test.true
    ∙ ap (λ m. option_map (λ b. m ++ b) (plain_bytes (parts_in_list (drop (c.loop-part.part-index + 1) c.args.parts.now)))) (sym more)
