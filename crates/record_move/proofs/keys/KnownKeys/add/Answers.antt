use Rattle.std.proofs.Common.{◌≡◌, ◌∙◌, sym, ap, refl, ℕ, List, Some, None, true≢false, bytes_eq}
use Rattle.sha2.specs.Sha256.{sha256}
use Rattle.meta_model.proofs.Bools.{same_text, text_itself}
use Rattle.record_move.proofs.Keeping.{fault_is, found_by_digest}
use Rattle.record_move.proofs.keys.KnownKeys.add.Goals as goal

pub returns-in-Some-clause-added : goal.returns-in-Some-clause-added
returns-in-Some-clause-added c = λ none.
    let found = found_by_digest c.args.self.now c.of-name.result c.as_slice.result.now c.args.key _ c.of-name.ensures c.as_slice.ensures c.in-Some.ensures in
    absurd (let bad : Some c.in-Some.held.now ≡ None = sym found ∙ none in cc)

pub returns-in-Some-clause-known : goal.returns-in-Some-clause-known
returns-in-Some-clause-known c = λ held some.
    let found = found_by_digest c.args.self.now c.of-name.result c.as_slice.result.now c.args.key _ c.of-name.ensures c.as_slice.ensures c.in-Some.ensures in
    let same : Some held ≡ Some c.in-Some.held.now = sym some ∙ found in
    let one : held ≡ c.in-Some.held.now = cc in
    (one ∙ same_text c.in-Some.held.now c.args.key (sym c.eq.ensures ∙ c.if-eq.true), refl)

pub returns-in-Some-2-clause-err : goal.returns-in-Some-2-clause-err
returns-in-Some-2-clause-err c =
    fault_is c.args.self.now c.of-name.result c.in-Some.held.now c.args.key c.collision.result (sym c.in-Some.ensures) (c.of-name.ensures ∙ ap sha256 c.as_slice.ensures)
    (λ same. true≢false (sym (text_itself c.args.key) ∙ ap (λ (x : List ℕ). bytes_eq x c.args.key) (sym same) ∙ sym c.eq.ensures ∙ c.if-eq.false)) c.collision.ensures

pub returns-in_ok-put-in-None-clause-known : goal.returns-in_ok-put-in-None-clause-known
returns-in_ok-put-in-None-clause-known c = λ held some.
    let found = found_by_digest c.args.self.now c.of-name.result c.as_slice.result.now c.args.key _ c.of-name.ensures c.as_slice.ensures c.in-None.ensures in
    absurd (let bad : Some held ≡ None = sym some ∙ found in cc)
