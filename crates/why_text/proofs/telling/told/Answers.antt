use Rattle.std.proofs.Common.{◌∙◌, ap, sym, subst, List, length}
use Rattle.std.proofs.lemmas.List.{length-map}
use Rattle.store_model.specs.Rows.{uni}
use Rattle.store_model.specs.Signatures.{Signed, signatures}
use Rattle.store_model.specs.Spelling.{name_of}
use Rattle.setscene_plan.proofs.Naming.{signed_count}
use Rattle.meta_model.specs.declared.plan.PlanTask.{PlanTask}
use Rattle.why_model.specs.Seen.{narrowed_task, seen_over}
use Rattle.why_text.specs.Telling.{AreMarked}
use Rattle.why_text.proofs.telling.told.Goals as goal

pub lines_of-requires-clause-known : goal.lines_of-requires-clause-known
lines_of-requires-clause-known g c = record {
  over = c.unihashes.ensures ∙ c.requires.over;
  wide = ap (λ us. length us) (c.unihashes.ensures ∙ c.requires.over) ∙ length-map (signatures c.args.rows.now c.args.plan.now.tasks) (λ (s : Signed). uni c.args.rows.now (name_of s.sig)) ∙ signed_count c.args.rows.now c.args.plan.now.tasks;
  there_long = ap (λ xs. length xs) c.avail-2.ensures ∙ c.requires.there;
  seen_is = c.as_slice-3.ensures.value ∙ c.in_ok-seen.ensures ∙ ap (λ (ts : List PlanTask). seen_over c.args.rows.now ts) c.as_slice.ensures;
  certain_long = ap (λ xs. length xs) c.as_slice-4.ensures.value ∙ c.in_ok-certain.ensures.long ∙ length-map c.args.plan.now.tasks (narrowed_task c.as_slice-2.result.now);
  forced_are = subst (AreMarked c.args.force c.args.plan.now) (sym c.as_slice-5.ensures.value) c.in_ok-forced.ensures;
}
