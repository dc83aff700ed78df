use Rattle.std.proofs.Common.{ap, sym, ◌∙◌, bytes_eq}
use Rattle.meta_model.specs.Text.{is_in}
use Rattle.load_model.specs.Loading.{Loaded}
use Rattle.class_inherit.proofs.Adding.{any_reverse}
use Rattle.class_inherit.proofs.reading.Reading.has_begun.Goals as goal

pub returns : goal.returns
returns c =
    c.is_among.ensures ∙ ap (is_in c.args.name.now) c.as_slice.ensures.value ∙ sym (any_reverse (bytes_eq c.args.name.now) c.self.inside.begun.items)
    ∙ ap (λ (r : Loaded). is_in c.args.name.now r.classes) c.self.view_is
