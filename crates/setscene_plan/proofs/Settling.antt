-- Rows after a task was settled.
use Rattle.std.proofs.Common.{◌∙◌, sym, ap, subst, ℕ, List, Some, inl, inr}
use Rattle.std.proofs.lemmas.Bool.{cases_eq}
use Rattle.store_model.specs.declared.signature.EquivRow.{EquivRow}
use Rattle.store_model.specs.Rows.{unihash_or}
use Rattle.store_model.specs.Spelling.{name_of}
use Rattle.sig_gen.specs.Signing.{signature_by}
use Rattle.setscene_plan.specs.declared.replan.Replan.{Replan}
use Rattle.setscene_plan.specs.View.{Says, View}
use Rattle.setscene_plan.specs.Names.{IsClearAt}
use Rattle.setscene_plan.specs.Reworks.{HaveOneName}
use Rattle.setscene_plan.specs.Replans.{AreSettling, IsCurrent, IsSettled, names_in, unihashes_in}

pub settles : (says : Says) (view : View) (rows : List EquivRow) (task : ℕ) (kept : Replan) → IsCurrent says view kept → AreSettling view rows task kept → IsSettled says (record view { rows = rows }) task kept
settles says view rows task kept is grown = record {
  made = is.made;
  hashed = λ t apart name at. is.hashed t name at ∙ ap (λ r. Some (unihash_or name r)) (sym (grown.others name (λ own. apart (at ∙ sym own))));
  clear = λ t apart. elim (cases_eq t task) [
    | inl same ↦ subst (IsClearAt rows view.plan.tasks (unihashes_in kept)) (sym same) grown.own
    | inr differs ↦ unlike t (apart differs)
  ];
  needs = record {
    least = is.needs.least;
    long = is.needs.long;
    known = λ t member. record {
      told = (is.needs.known t member).told;
      stored = λ own at there. grown.kept (name_of (signature_by view.plan.tasks (unihashes_in kept) own)) ((is.needs.known t member).stored own at there);
    };
  };
}
  where
    unlike : (t : ℕ) → (HaveOneName (names_in kept) t task → ⊥) → IsClearAt rows view.plan.tasks (unihashes_in kept) t
    unlike t apart own at row found =
        let name = name_of (signature_by view.plan.tasks (unihashes_in kept) own) in
        is.clear t own at row (sym (grown.others name (λ e. apart (is.made.named t own at ∙ sym e))) ∙ found)
