use Rattle.std.proofs.Common.{◌≡◌, ◌∙◌, ap, sym, [], get_or}
use Rattle.std.proofs.lemmas.Result.{IfOk-weaker}
use Rattle.std.proofs.lemmas.List.{get_or_default}
use Rattle.meta_model.specs.Overrides.{winning}
use Rattle.value_maps.specs.Maps.{named_at}
use Rattle.value_maps.specs.Found.{form_of, own_at, own_of}
use Rattle.value_maps.proofs.Winning.{won_none, won_some, own_is}
use Rattle.value_maps.proofs.maps.Maps.winner.Goals as goal

pub returns-in-Some : goal.returns-in-Some
returns-in-Some c = λ list keeps.
    let maps = c.args.self.now in
    let active = c.args.active.now in
    let name = c.args.name.now in
    let forms = c.as_slice-all.result.now in
    let place = c.in-Some.place in
    let form = form_of name (get_or forms place []) in
    let read : c.index-all-place.result ≡ get_or forms place [] = c.index-all-place.is ∙ get_or_default forms place c.index-all-place.result [] c.in-Some.ensures.0 in
    let text : c.as_str-in-Some.result.now ≡ form = c.as_str-in-Some.ensures ∙ c.in_ok-form-in-Some.ensures ∙ ap (form_of name) (c.as_str.ensures ∙ read) in
    IfOk-weaker c.own.result (λ made. made ≡ own_at active (named_at maps c.as_str-in-Some.result.now)) (λ won. won ≡ own_of list active (winning list active name))
    (λ made e. e ∙ ap (λ t. own_at active (named_at maps t)) text ∙ own_is list maps active form keeps
    ∙ ap (own_of list active) (sym (won_some list maps active name forms place keeps (c.as_slice-all.ensures ∙ c.in_ok-forms.ensures) c.in-Some.ensures)))
    c.own.ensures

pub returns : goal.returns
returns c = λ list keeps.
    ap (own_of list c.args.active.now) (sym (won_none list c.args.self.now c.args.active.now c.args.name.now c.as_slice-all.result.now keeps (c.as_slice-all.ensures ∙ c.in_ok-forms.ensures) c.in-None.ensures))
