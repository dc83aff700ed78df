use Rattle.std.proofs.Common.{◌≡◌, ◌≢◌, ◌∙◌, ◌∷◌, [], ◌++◌, ap, sym, subst, Some, None}
use Rattle.std.proofs.lemmas.Bool.{false≢true}
use Rattle.std.proofs.lemmas.Slice.Eq.{bytes_eq-Decides}
use Rattle.tree_model.specs.Tree.{entry_at}
use Rattle.outside_traits.specs.Store.{put}
use Rattle.outside_mem.proofs.Stories.{story_after, moved_apart, moved_onto, ok_of}
use Rattle.outside_mem.proofs.kept.keep_move.Goals as goal

pub returns-then-not-is_same-clause-ok : goal.returns-then-not-is_same-clause-ok
returns-then-not-is_same-clause-ok c =
    let h = entry_at c.args.tree.now in
    let some_is : Some c.in-Some.entry ≡ h c.args.from.now = sym c.in-Some.is ∙ c.in_ok-entry.ensures in
    let set : entry_at c.put.new.self ≡ put h c.args.to.now (Some c.in-Some.entry) = ok_of c.put.result _ c.if-is_err.ensures.value c.put.ensures.ok in
    let ne : c.args.from.now ≢ c.args.to.now = λ is. false≢true (sym c.if-not-is_same.true ∙ c.is_same.ensures ∙ (bytes_eq-Decides c.args.from.now c.args.to.now).1 is) in
    let left : entry_at c.take.new.self ≡ put (put h c.args.from.now None) c.args.to.now (h c.args.from.now) =
    c.take.ensures.rest ∙ ap (λ g. put g c.args.from.now None) set ∙ moved_apart h c.args.from.now c.args.to.now (Some c.in-Some.entry) ne
    ∙ ap (λ x. put (put h c.args.from.now None) c.args.to.now x) some_is in
    story_after c.take.new.self _ c.args.calls.now.items c.push.new.self.items _ left
    (subst (λ call. c.push.new.self.items ≡ c.args.calls.now.items ++ call ∷ []) c.in_ok-move_call.ensures c.in_ok-push.ensures.items)

pub returns-else-not-is_same-clause-ok : goal.returns-else-not-is_same-clause-ok
returns-else-not-is_same-clause-ok c =
    let h = entry_at c.args.tree.now in
    let some_is : Some c.in-Some.entry ≡ h c.args.from.now = sym c.in-Some.is ∙ c.in_ok-entry.ensures in
    let set : entry_at c.put.new.self ≡ put h c.args.to.now (Some c.in-Some.entry) = ok_of c.put.result _ c.if-is_err.ensures.value c.put.ensures.ok in
    let same : c.args.from.now ≡ c.args.to.now = (bytes_eq-Decides c.args.from.now c.args.to.now).0 (sym c.is_same.ensures ∙ c.if-not-is_same.false) in
    let left : entry_at c.put.new.self ≡ put (put h c.args.from.now None) c.args.to.now (h c.args.from.now) =
    set ∙ moved_onto h c.args.from.now c.args.to.now (Some c.in-Some.entry) same ∙ ap (λ x. put (put h c.args.from.now None) c.args.to.now x) some_is in
    story_after c.put.new.self _ c.args.calls.now.items c.push.new.self.items _ left
    (subst (λ call. c.push.new.self.items ≡ c.args.calls.now.items ++ call ∷ []) c.in_ok-move_call.ensures c.in_ok-push.ensures.items)
