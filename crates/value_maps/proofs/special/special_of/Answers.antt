use Rattle.std.proofs.Common.{◌∙◌, ap, sym, subst, ◌++◌, ◌∷◌, [], ℕ, List, not, filter, take, is_some, if◌then◌else◌}
use Rattle.std.specs.BTreeMap.{get_by_text}
use Rattle.std.proofs.lemmas.List.{take_all}
use Rattle.value_maps.specs.Plain.{is_plain}
use Rattle.value_maps.specs.Keys.{AreKeys}
use Rattle.value_maps.proofs.Naming.{filter_turn}
use Rattle.value_maps.proofs.Hiding.{special_are}
use Rattle.value_maps.proofs.special.special_of.Goals as goal

pub loop-name-preserved : goal.loop-name-preserved
loop-name-preserved c =
    let test = λ (name : List ℕ). not (is_plain name (get_by_text c.args.named.now name)) in
    let xs = c.as_slice-name-items.result.now in
    let i = c.loop-name.name-index in
    let x = c.name-item.result in
    c.in_ok-push_if.ensures ∙ ap (λ m. m ++ (if c.is_special.result then x ∷ [] else [])) c.loop-name.invariant
    ∙ ap (λ b. filter test (take i xs) ++ (if b then x ∷ [] else [])) (c.is_special.ensures ∙ ap test c.as_str.ensures)
    ∙ filter_turn test xs i x c.name-item.is c.loop-name-test.true

pub returns : goal.returns
returns c =
    let names = c.as_slice-name-items.result.now in
    special_are (get_by_text c.args.named.now) names c.loop-name.made (subst (λ l. AreKeys l (λ name. is_some (get_by_text c.args.named.now name))) (sym c.as_slice-name-items.ensures) c.in_ok-names.ensures)
    (rw (take_all _ _ c.loop-name-test.false) at c.loop-name.invariant)
