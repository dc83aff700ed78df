use Rattle.std.proofs.Common.{◌≡◌, ◌∷◌, [], ◌++◌, sym, subst}
use Rattle.tree_model.specs.Tree.{entry_at}
use Rattle.outside_traits.proofs.Puts.{puts-own}
use Rattle.outside_mem.proofs.Stories.{story_after}
use Rattle.outside_mem.proofs.kept.keep_failed_move.Goals as goal

pub returns-clause-ok : goal.returns-clause-ok
returns-clause-ok c =
    story_after c.args.tree.now _ c.args.calls.now.items c.push.new.self.items _ (sym (puts-own (entry_at c.args.tree.now) c.args.from.now c.args.to.now))
    (subst (λ call. c.push.new.self.items ≡ c.args.calls.now.items ++ call ∷ []) c.in_ok-move_call.ensures c.in_ok-push.ensures.items)
