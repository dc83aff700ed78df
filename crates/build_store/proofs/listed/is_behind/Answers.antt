use Rattle.std.proofs.Common.{◌≡◌, ◌∙◌, sym, ap, ◌∷◌, []}
use Rattle.std.specs.Str.{bytes_eq}
use Rattle.build_store.proofs.Positions.{eq_behind, other_text}
use Rattle.build_store.proofs.listed.is_behind.Goals as goal

pub returns-in-Some : goal.returns-in-Some
returns-in-Some c =
    let h = c.in-Some.ensures.cases in
    let rest : c.args.rest.now ≡ 47 ∷ c.in-Some.found.now = h.1.1 ∙ ap (λ l. 47 ∷ l) (sym h.2) in
    c.eq.ensures ∙ sym (eq_behind (47 ∷ []) c.in-Some.found.now c.args.name.now) ∙ ap (λ l. bytes_eq l (47 ∷ c.args.name.now)) (sym rest)

pub returns-in-None : goal.returns-in-None
returns-in-None c = sym (other_text c.args.rest.now (47 ∷ c.args.name.now) (c.in-None.ensures.cases c.args.name.now))
