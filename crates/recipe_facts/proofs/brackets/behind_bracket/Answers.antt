use Rattle.std.proofs.Common.{◌∙◌, ap, sym, ◌∷◌, reverse}
use Rattle.load_model.specs.Facts.{bracket_before}
use Rattle.recipe_facts.specs.Brackets.{with_open}
use Rattle.recipe_facts.proofs.Bracketed.{opens, closes, onto_reverse, other_one}
use Rattle.recipe_facts.proofs.brackets.behind_bracket.Goals as goal

pub returns-then-byte-eq40 : goal.returns-then-byte-eq40
returns-then-byte-eq40 c = λ text texts.
    let old = reverse c.args.kept.now.items in
    let pushed = ap reverse c.in_ok-push.ensures.items ∙ onto_reverse c.args.kept.now.items c.args.last in
    ap (λ l. with_open l c.new.result (text ∷ texts)) pushed ∙ ap (λ l. with_open (c.args.last ∷ old) l (text ∷ texts)) c.new.ensures
    ∙ opens old c.args.last text texts ∙ ap (λ b. with_open old c.args.last (bracket_before b (text ∷ texts))) (sym c.if-byte-eq40.true)

pub returns-in-Some : goal.returns-in-Some
returns-in-Some c = λ text texts.
    let left = reverse c.pop.new.self.items in
    let popped = ap reverse c.in-Some.ensures.items ∙ onto_reverse c.pop.new.self.items c.in-Some.before in
    closes left c.in-Some.before c.args.last text texts
    ∙ ap (λ l. with_open l c.args.last (bracket_before 41 (text ∷ texts))) (sym popped)
    ∙ ap (λ b. with_open (reverse c.args.kept.now.items) c.args.last (bracket_before b (text ∷ texts))) (sym (other_one c.args.byte c.requires c.if-byte-eq40.false))
