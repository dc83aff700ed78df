use Rattle.std.proofs.Common.{◌≡◌, ◌∙◌, sym, ap, [], ◌∷◌, ◌++◌, List, ℕ}
use Rattle.std.proofs.lemmas.List.{append_cancel_right}
use Rattle.tree_model.specs.Hash.{hash_text}
use Rattle.build_store.proofs.finding.is_stamp_text.Goals as goal

pub returns-then-last-eq10 : goal.returns-then-last-eq10
returns-then-last-eq10 c =
    let digits : c.as_slice.result.now ≡ hash_text c.args.name.now = c.as_slice.ensures ∙ c.digits.ensures in
    let bytes : c.args.bytes.now ≡ c.in-Some.front.now ++ 10 ∷ [] = c.in-Some.ensures.cases.0 ∙ ap (λ (n : ℕ). c.in-Some.front.now ++ n ∷ []) c.if-last-eq10.true in (
      λ t. bytes ∙ ap (λ (l : List ℕ). l ++ 10 ∷ []) (c.same_bytes.ensures.0 t ∙ digits),
      λ e. c.same_bytes.ensures.1 (append_cancel_right c.in-Some.front.now (hash_text c.args.name.now) (10 ∷ []) (sym bytes ∙ e) ∙ sym digits),
    )
