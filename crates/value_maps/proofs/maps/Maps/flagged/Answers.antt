use Rattle.std.proofs.Common.{◌≡◌, ◌∙◌, ap, filter, is_some}
use Rattle.std.proofs.lemmas.Result.{IfOk-weaker}
use Rattle.meta_model.specs.Base.{flag, names}
use Rattle.value_maps.specs.Flagged.{is_flagged}
use Rattle.value_maps.specs.Maps.{named_at}
use Rattle.value_maps.proofs.Flagging.{flagged_are, if_flagged_are}
use Rattle.value_maps.proofs.maps.Maps.flagged.Goals as goal

pub returns-clause-names : goal.returns-clause-names
returns-clause-names c = λ list keeps.
    let maps = c.args.self.now in
    let f = c.args.flag.now in
    let keys = c.as_slice.result.now in
    IfOk-weaker c.with_flag.result (λ made. made ≡ filter (λ t. is_flagged f (named_at maps t)) keys) (λ made. made ≡ filter (λ t. is_some (flag list t f)) (names list))
    (λ made e. e ∙ ap (filter (λ t. is_flagged f (named_at maps t))) c.as_slice.ensures ∙ flagged_are list maps f c.in_ok-names.names keeps c.in_ok-names.ensures)
    c.with_flag.ensures

pub returns-clause-all : goal.returns-clause-all
returns-clause-all c = λ list keeps. if_flagged_are list c.args.flag.now c.with_flag.result (returns-clause-names c list keeps)
