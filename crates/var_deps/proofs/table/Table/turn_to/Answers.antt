use Rattle.std.proofs.Common.{◌≡◌, ◌∙◌, sym, subst, true, false, Some, Ok}
use Rattle.meta_model.specs.Active.{find_in}
use Rattle.task_model.specs.Views.{seen_by, is_bare}
use Rattle.meta_model.specs.declared.value.Resolved.{Resolved}
use Rattle.var_deps.specs.Seen.{seen_with}
use Rattle.var_deps.specs.Reading.{view_by}
use Rattle.var_deps.specs.Known.{IsKnown}
use Rattle.var_deps.proofs.Tabling.{seen_bare, seen_plain}
use Rattle.var_deps.proofs.table.Table.turn_to.Goals as goal
use Rattle.var_deps.proofs.table.Table.turn_to.Goals.{then-bare+in_ok-from_str, else-bare}

pub returns-clause-ready : goal.returns-clause-ready
returns-clause-ready c =
    let shared = c.look_as.new.self in
    let store = shared.seen.store.now in
    let task = c.args.task.now in
    let made = c.in_ok-name.name in
    record {
      right = c.look_as.ensures.right;
      own = subst (λ n. IsKnown (view_by store shared.seen.task shared.ignored c.args.sstate n) true n c.in_ok-own.own) (sym c.in_ok-name.ensures) c.in_ok-own.ensures;
      seen = elim c.if-bare.branch as (λ _. seen_with store shared.seen.task ≡ seen_by made (find_in store)) [
        | then-bare+in_ok-from_str w ↦ seen_bare store shared.seen.task w.in_ok-from_str.field-0 task made (c.look_as.ensures.task ∙ w.own_name-is) w.in_ok-from_str.ensures c.in_ok-name.ensures
        | else-bare w ↦ seen_plain store shared.seen.task task made (c.look_as.ensures.task ∙ w.own_name-is) c.in_ok-name.ensures
            (subst (λ s. (found : Resolved) → (find_in s).at task ≡ Ok (Some found) → is_bare found ≡ false) (sym c.look_as.ensures.store) (c.requires.seen w.if-bare.false))
      ];
    }
