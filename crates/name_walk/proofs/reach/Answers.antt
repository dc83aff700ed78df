use Rattle.std.proofs.Common.{◌≡◌, refl, sym, ap, subst, ◌∙◌, ◌<◌, ◌+◌, ◌++◌, ◌∷◌, [], length}
use Rattle.meta_model.specs.Text.{in_byte_order}
use Rattle.name_walk.specs.Walk.{IsWalk, HasGoneOn, weight, todo_after, with_more}
use Rattle.name_walk.proofs.Steps.{empty_of, ended, goes_further, weighs_less}
use Rattle.name_walk.proofs.Besides.{none_besides, goes_on_here}
use Rattle.name_walk.proofs.reach.Goals as goal

pub returns-clause-least : goal.returns-clause-least
returns-clause-least g c start walk =
    let led = g.L.Leading.led c.args.from.now in
    let done = with_more c.args.done.now c.loop-name.more.items in
    let none : length c.loop-name.todo.items ≡ 0 = sym c.loop-name.todo.ok.0 ∙ c.in_default.ensures.cases.0 in
    ended led start done (subst (λ t. IsWalk led start done t) (empty_of c.loop-name.todo.items none) (c.loop-name.invariant.on.walks start walk))

pub loop-name-preserved : goal.loop-name-preserved
loop-name-preserved g c =
    let led = g.L.Leading.led c.args.from.now in
    let first = c.args.done.now in
    let rest = c.args.todo.items in
    let done = with_more first c.loop-name.more.items in
    let after = with_more first c.step_on.new.more.items in
    let todo = c.pop.new.self.items in
    let name = c.in-Some.name in
    let todo_is : c.step_on.new.todo.items ≡ todo_after led name done todo = c.in_ok-step_on.ensures.todo ∙ ap (λ l. todo_after l name done todo) c.loop-name.invariant.same in
    let next = goes_further led first rest done todo name (subst (λ t. HasGoneOn led first rest done t) c.in-Some.ensures.items c.loop-name.invariant.on) in
    record {
      ready = c.step_on.ensures.ready;
      ordered = c.in_ok-step_on.ensures.ordered;
      on = subst (λ t. HasGoneOn led first rest after t) (sym todo_is) (subst (λ d. HasGoneOn led first rest d (todo_after led name done todo)) (sym c.in_ok-step_on.ensures.done) next);
      same = c.step_on.ensures.same ∙ c.loop-name.invariant.same;
      leaders = c.step_on.ensures.leaders ∙ c.loop-name.invariant.leaders;
      stays = g.met.L.Leading.stays_on c.args.from.now c.loop-name.from c.step_on.new.from c.loop-name.invariant.stays c.step_on.ensures.stays;
    }

pub loop-name-smaller : goal.loop-name-smaller
loop-name-smaller g c =
    let led = g.L.Leading.led c.args.from.now in
    let leaders = g.L.Leading.leaders c.args.from.now in
    let done = with_more c.args.done.now c.loop-name.more.items in
    let after = with_more c.args.done.now c.step_on.new.more.items in
    let todo = c.pop.new.self.items in
    let name = c.in-Some.name in
    let items : c.loop-name.todo.items ≡ todo ++ name ∷ [] = c.in-Some.ensures.items in
    let todo_is : c.step_on.new.todo.items ≡ todo_after led name done todo = c.in_ok-step_on.ensures.todo ∙ ap (λ l. todo_after l name done todo) c.loop-name.invariant.same in
    let less = weighs_less led leaders done todo name (g.met.L.Leading.others c.args.from.now name c.requires.ready) in
    let first = subst (λ d. weight led leaders d + length (todo_after led name done todo) < weight led leaders done + length (todo ++ name ∷ [])) (sym c.in_ok-step_on.ensures.done) less in
    let second = subst (λ t. weight led leaders after + length t < weight led leaders done + length (todo ++ name ∷ [])) (sym todo_is) first in
    subst (λ t. weight led leaders after + length c.step_on.new.todo.items < weight led leaders done + length t) (sym items) second

pub loop-name-init : goal.loop-name-init
loop-name-init g c =
    let led = g.L.Leading.led c.args.from.now in
    let done = c.args.done.now in
    let todo = c.args.todo.items in
    record {
      ready = c.requires.ready;
      ordered = ap in_byte_order c.new-more.ensures.items ∙ sym c.new-more.ensures.items;
      on = subst (λ d. HasGoneOn led done todo d todo) (sym (ap (with_more done) c.new-more.ensures.items ∙ none_besides done c.requires.begun)) (goes_on_here led done todo c.requires.begun);
      same = refl;
      leaders = refl;
      stays = g.met.L.Leading.stays_itself c.args.from.now;
    }

pub returns-in_err-step_on-clause-stays : goal.returns-in_err-step_on-clause-stays
returns-in_err-step_on-clause-stays g c = g.met.L.Leading.stays_on c.args.from.now c.loop-name.from c.step_on.new.from c.loop-name.invariant.stays c.step_on.ensures.stays
