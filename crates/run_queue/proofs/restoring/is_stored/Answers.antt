use Rattle.std.proofs.Common.{◌≡◌, ◌≢◌, ◌∙◌, sym, subst, ◌<◌, List, [], length, get_or, Some, None}
use Rattle.std.specs.Prelude.{IfSome, Option}
use Rattle.std.specs.List.{slice_get}
use Rattle.std.specs.Option.{option_map}
use Rattle.tree_model.specs.declared.hash.Hash.{Hash}
use Rattle.setscene_plan.specs.declared.replan.Replan.{Replan}
use Rattle.setscene_plan.specs.Replans.{names_in}
use Rattle.store_model.specs.declared.signature.EquivRow.{EquivRow}
use Rattle.store_model.specs.Rows.{row_at}
use Rattle.run_queue.proofs.OwnSignature.{row_there}
use Rattle.run_queue.proofs.restoring.is_stored.Goals as goal

pub returns-in-Some : goal.returns-in-Some
returns-in-Some g c stored =
    let names = names_in c.in-Some.known in
    let none : Hash = record { bytes = [] } in
    let rows = c.args.store.now.rows in
    let lt = subst (λ (r : Option Replan). IfSome r (λ k. c.args.task < length (names_in k))) c.in-Some.is c.requires.named in
    let answered = subst (λ (l : List Hash). c.unihash.result ≡ option_map (λ (row : EquivRow). row.unihash) (row_at rows (get_or l c.args.task none))) c.names.ensures c.unihash.ensures in
    subst (λ (r : Option Replan). IfSome r (λ k. (name : Hash) → slice_get (names_in k) c.args.task ≡ Some name → row_at rows name ≢ None)) (sym c.in-Some.is)
    (row_there rows names c.args.task none c.unihash.result lt answered (sym c.is_some.ensures ∙ stored))
