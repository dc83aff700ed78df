use Rattle.std.proofs.Common.{◌≡◌, ◌∙◌, ap, filter}
use Rattle.std.proofs.lemmas.Result.{IfOk-weaker}
use Rattle.meta_model.specs.Base.{is_left, names}
use Rattle.value_maps.proofs.Naming.{names_are}
use Rattle.value_maps.proofs.maps.Maps.names.Goals as goal

pub returns : goal.returns
returns c = λ list keeps.
    let keys = c.as_slice.result.now in
    IfOk-weaker c.left_among.result (λ made. made ≡ filter (is_left list) keys) (λ made. made ≡ names list)
    (λ made e. e ∙ ap (filter (is_left list)) c.as_slice.ensures ∙ names_are list c.args.self.now c.in_ok-keys.keys keeps c.in_ok-keys.ensures)
    (c.left_among.ensures list keeps)
