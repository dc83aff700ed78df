use Rattle.std.proofs.Common.{◌≡◌, ◌∙◌, ap, sym, [], Some}
use Rattle.std.specs.Option.{option_copied}
use Rattle.std.proofs.lemmas.Result.{IfOk-weaker}
use Rattle.meta_model.proofs.Winner.{winning_wins}
use Rattle.meta_model.specs.Slot.{at_end}
use Rattle.meta_model.specs.Base.{base}
use Rattle.meta_model.specs.Overrides.{winning, resolved}
use Rattle.value_maps.specs.Named.{slot_at}
use Rattle.value_maps.specs.Maps.{named_at}
use Rattle.value_maps.specs.Found.{joined_at}
use Rattle.value_maps.proofs.Winning.{joined_is, own_some_is, own_none_is}
use Rattle.value_maps.proofs.maps.Maps.resolve.Goals as goal

pub returns-in-Some : goal.returns-in-Some
returns-in-Some c = λ list keeps.
    let maps = c.args.self.now in
    let active = c.args.active.now in
    let name = c.args.name.now in
    let kept = option_copied c.of-named.result in
    let won = sym c.in-Some.is ∙ c.in_ok-own.ensures list keeps in
    let own = c.in-Some.own in
    IfOk-weaker c.with_lates.result (λ made. made ≡ joined_at active kept (Some c.as_str.result.now) own.removes) (λ made. made ≡ resolved list active name)
    (λ made e. e ∙ ap (λ t. joined_at active kept (Some t) own.removes) c.as_str.ensures ∙ ap (λ n. joined_at active n (Some own.text) own.removes) c.of-named.ensures
    ∙ joined_is list maps active name (Some own.text) own.removes keeps ∙ sym (own_some_is list active name (winning list active name) own won))
    c.with_lates.ensures

pub returns-in-None : goal.returns-in-None
returns-in-None c = λ list keeps.
    let maps = c.args.self.now in
    let active = c.args.active.now in
    let name = c.args.name.now in
    let kept = option_copied c.of-named.result in
    let won = sym c.in-None.is ∙ c.in_ok-own.ensures list keeps in
    IfOk-weaker c.with_lates-in-None.result (λ made. made ≡ joined_at active kept (option_copied c.base_in.result) c.new.result) (λ made. made ≡ resolved list active name)
    (λ made e. e ∙ ap (λ v. joined_at active kept v c.new.result) (c.base_in.ensures ∙ ap (λ n. at_end (slot_at n)) c.of-named.ensures ∙ ap at_end (keeps.value name))
    ∙ ap (λ n. joined_at active n (base list name) c.new.result) c.of-named.ensures ∙ ap (joined_at active (named_at maps name) (base list name)) c.new.ensures
    ∙ joined_is list maps active name (base list name) [] keeps ∙ sym (own_none_is list active name (winning list active name) (winning_wins list active name) won))
    c.with_lates-in-None.ensures
