-- Signatures that are kept and forgotten again.
use Rattle.std.proofs.Common.{◌≡◌, ◌∙◌, ap, refl, Bool, true, false, List, [], ◌∷◌, ◌++◌, append-nil}
use Rattle.std.specs.Prelude.{not, if◌then◌else◌}
use Rattle.std.specs.List.{list_any}
use Rattle.std.proofs.lemmas.List.Elements.{filter-append}
use Rattle.meta_model.proofs.Bools.{both, text_itself}
use Rattle.store_model.specs.Signatures.{Signed}
use Rattle.build_store.specs.declared.kept.KeptSig.{KeptSig}
use Rattle.build_store.specs.View.{is_kept_for, kept_sig, kept_with, kept_without}

own_is : (s : Signed) → is_kept_for s.task.id.pn s.task.id.task (kept_sig s) ≡ true
own_is s = both _ _ (text_itself s.task.id.pn) (text_itself s.task.id.task)

pub forgotten : (s : Signed) (kept : List KeptSig) → kept_without s (kept_with s kept) ≡ kept_without s kept
forgotten s kept = by (list_any (is_kept_for s.task.id.pn s.task.id.task) kept)
  where
    by : (b : Bool) → kept_without s (if b then kept else kept ++ kept_sig s ∷ []) ≡ kept_without s kept
    by true = refl
    by false = filter-append (λ k. not (is_kept_for s.task.id.pn s.task.id.task k)) kept (kept_sig s ∷ []) ∙ ap (λ l. kept_without s kept ++ l) last ∙ append-nil (kept_without s kept)
      where
        last : kept_without s (kept_sig s ∷ []) ≡ []
        last = rw (own_is s) refl
