use Rattle.std.proofs.Common.{◌∙◌, ap, not}
use Rattle.std.specs.List.{list_any}
use Rattle.meta_model.specs.Text.{is_white}
use Rattle.meta_model.proofs.FormReading.{some_word}
use Rattle.meta_model.proofs.word_list.has_word.Goals as goal

pub returns : goal.returns
returns c = c.holds_more.ensures ∙ ap (list_any (λ c. not (is_white c))) c.as_bytes.ensures.value ∙ some_word c.args.text.now
