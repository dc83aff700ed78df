use Rattle.std.proofs.Common.{◌≡◌, ◌∙◌, sym, ap, inr, List, Option, Some, None}
use Rattle.std.specs.Option.{option_and_then}
use Rattle.outside_traits.specs.Store.{Store}
use Rattle.tree_model.specs.declared.entry.Entry.{Entry}
use Rattle.tree_model.specs.declared.hash.Hash.{Hash}
use Rattle.meta_model.specs.declared.plan.PlanTask.{PlanTask}
use Rattle.stamp_store.specs.Stamp.{IsCurrent}
use Rattle.store_model.specs.declared.signature.EquivRow.{EquivRow}
use Rattle.store_model.specs.declared.signature.SigRecord.{SigRecord}
use Rattle.store_model.specs.Rows.{row_at}
use Rattle.why_model.specs.Fates.{IsStamped}
use Rattle.why_model.specs.Judged.{SaysName}
use Rattle.why_text.specs.Telling.{IsEarlierOf, IsRead}
use Rattle.why_text.proofs.earlier.earlier_of.Goals as goal

-- what a stamp says
says : (entry : Option Entry) (named : Option Hash) → IsCurrent entry named → SaysName entry named
says entry None is = is
says entry (Some name) is = is

-- what is read of the row that a stamp names is what the stamp leads to
earlier_by : (held : Store) (rows : List EquivRow) (of : PlanTask) (row : EquivRow) (found : Option SigRecord) → IsStamped held rows of (Some row) → IsRead row.sig found → IsEarlierOf held rows of found
earlier_by held rows of row None stamped read = inr (row, stamped, λ was sound spelled. read was (record { sound = sound; is = spelled }))
earlier_by held rows of row (Some was) stamped read = record { row = row; stamped = stamped; sound = read.sound; spelled = read.is }

pub returns-in_ok-sig_in-in-Some-clause-found : goal.returns-in_ok-sig_in-in-Some-clause-found
returns-in_ok-sig_in-in-Some-clause-found g c told =
    earlier_by (g.D.Disk.story c.args.disk.now).held c.args.rows.now c.args.task.now c.in-Some.row.now c.in_ok-sig_in-in-Some.field-0
    (record {
      named = c.in_ok-name.name;
      stamp = says _ c.in_ok-name.name (c.in_ok-name.ensures.found told);
      is = c.in-Some.ensures ∙ (λ i. option_and_then (row_at (c.index.ensures.index i)) (c.as_ref.ensures.value i));
    }) c.in_ok-sig_in-in-Some.ensures
