use Rattle.std.proofs.Common.{◌≡◌, ◌∙◌, sym, ◌++◌, Some, None, flat_map}
use Rattle.std.proofs.lemmas.Result.{on_ok_weaker}
use Rattle.value_maps.specs.Maps.{named_at}
use Rattle.value_maps.specs.Telling.{told_kept}
use Rattle.value_maps.proofs.Lines.{named_told, none_told}
use Rattle.value_maps.proofs.maps.Maps.push_named.Goals as goal

pub returns-in_ok-push_value-in-Some : goal.returns-in_ok-push_value-in-Some
returns-in_ok-push_value-in-Some c = λ list keeps.
    let found : named_at c.args.self.now c.args.source.now ≡ Some c.in-Some.named.now = sym c.in-Some.ensures in
    let fs = c.as_slice.result.now in
    on_ok_weaker c.push_flags.result
    (λ (h : c.push_flags.new.lines.items ≡ c.push_value.new.lines.items ++ flat_map (told_kept c.args.target.now c.in-Some.named.now.flags) fs).
    h ∙ named_told list c.args.self.now c.args.source.now c.args.target.now c.in-Some.named.now c.args.lines.now.items c.push_value.new.lines.items fs keeps found c.in_ok-flags-in-Some.ensures.ordered
    (c.as_slice.ensures ∙ c.in_ok-flags-in-Some.ensures.flags) c.in_ok-push_value-in-Some.ensures)
    c.push_flags.ensures

pub returns-in-None : goal.returns-in-None
returns-in-None c = λ list keeps.
    let found : named_at c.args.self.now c.args.source.now ≡ None = sym c.in-None.ensures in
    none_told list c.args.self.now c.args.source.now c.args.target.now c.args.lines.now.items keeps found
