use Rattle.std.proofs.Common.{◌≡◌, ◌∙◌, ap, sym, subst, ◌++◌, [], append-nil, ℕ, List, false}
use Rattle.name_walk.specs.Walk.{IsWalk, with_more}
use Rattle.name_walk.proofs.Steps.{starts}
use Rattle.task_model.specs.Leads.{without}
use Rattle.task_model.specs.Keys.{IsLeast, names_led}
use Rattle.var_deps.specs.Exports.{plain_led}
use Rattle.var_deps.specs.Known.{read_led}
use Rattle.var_deps.specs.Reading.{view_by}
use Rattle.var_deps.specs.Leaders.{shared_led, shared_led_is}
use Rattle.var_deps.proofs.exports.exports_of.Goals as goal

pub returns-clause-exports : goal.returns-clause-exports
returns-clause-exports c =
    let s = c.args.shared.now in
    let plain = plain_led s.seen.store.now s.ignored in
    let led = shared_led s in
    let start = c.in_ok-start.start.names.items in
    let more = c.in_ok-reached.reached.items in
    let same : led ≡ plain = shared_led_is s ∙ ap (λ o. λ (name : List ℕ). names_led (read_led (view_by s.seen.store.now o s.ignored false []) false name)) c.requires.plain in
    let names : c.push_all.new.list.items ≡ c.args.all = c.in_ok-push_all.ensures ∙ ap (λ l. l ++ c.as_slice.result.now) c.new-names.ensures.items ∙ c.as_slice.ensures in
    let todo : c.push_all-2.new.list.items ≡ start = c.in_ok-push_all-2.ensures ∙ ap (λ l. l ++ c.as_slice-3.result.now) c.new-todo.ensures.items ∙ c.as_slice-3.ensures.value in
    let least : IsLeast led start (with_more [] more) = c.in_ok-reached.ensures.least start (subst (IsWalk led start []) (sym todo) (starts led start)) in
    record {
      all = c.requires.all;
      start = c.in_ok-start.ensures ∙ ap (λ i. without (i ++ []) c.push_all.new.list.items) c.as_slice-2.ensures ∙ ap (λ i. without i c.push_all.new.list.items) (append-nil s.ignored) ∙ ap (without s.ignored) names;
      reached = subst (λ f. IsLeast f start more) same (subst (IsLeast led start) c.in_ok-reached.ensures.ordered least);
    }
