use Rattle.std.proofs.Common.{◌≡◌, refl, ℕ, List, Some, bytes_eq}
use Rattle.std.specs.BTreeMap.{get_by_text}
use Rattle.std.specs.Map.{update}
use Rattle.std.proofs.lemmas.Result.{on_ok_weaker, on_err_weaker}
use Rattle.value_maps.proofs.Sets.{on_err}
use Rattle.value_maps.proofs.Steps.{goes_first, stays_noted}
use Rattle.value_maps.proofs.maps.Maps.add.Goals as goal

pub returns-in_err-note_forms-clause-err : goal.returns-in_err-note_forms-clause-err
returns-in_err-note_forms-clause-err c =
    on_err c.from_residual.result (stays_noted c.args.self.now c.args.self.now.named c.note_forms.new.forms (λ q. refl) c.in_err-note_forms.ensures.keeps)

pub returns-in_err-named-clause-err : goal.returns-in_err-named-clause-err
returns-in_err-named-clause-err c =
    on_err c.from_residual-in_err-named.result (stays_noted c.args.self.now c.args.self.now.named c.note_forms.new.forms (λ q. refl) c.in_ok-note_forms.ensures.keeps)

pub returns-clause-ok : goal.returns-clause-ok
returns-clause-ok c =
    let maps = c.args.self.now in
    let n = c.put_value.new.map in
    let k = c.args.name.now in
    let w = c.in_ok-named.named in
    on_ok_weaker c.put_value.result
    (λ (u : (q : List ℕ) → get_by_text n q ≡ update bytes_eq (get_by_text maps.named) k (Some w) q).
    goes_first maps n c.note_forms.new.forms k w c.args.line.now c.requires.name c.requires.absent u c.in_ok-named.ensures c.in_ok-note_forms.ensures.keeps c.in_ok-note_forms.ensures.ok)
    c.put_value.ensures.ok

pub returns-clause-err : goal.returns-clause-err
returns-clause-err c =
    let maps = c.args.self.now in
    let n = c.put_value.new.map in
    on_err_weaker c.put_value.result
    (λ (u : (q : List ℕ) → get_by_text n q ≡ get_by_text maps.named q). stays_noted maps n c.note_forms.new.forms u c.in_ok-note_forms.ensures.keeps)
    c.put_value.ensures.err
