use Rattle.std.proofs.Common.{◌≡◌, sym, subst, true, ◌||◌, List}
use Rattle.std.specs.List.{list_any}
use Rattle.std.specs.Option.{is_some}
use Rattle.std.proofs.lemmas.List.{take_all}
use Rattle.tree_model.specs.declared.hash.Hash.{Hash}
use Rattle.store_model.specs.declared.signature.DepLine.{DepLine}
use Rattle.store_model.specs.Rows.{hash_eq}
use Rattle.record_move.specs.Named.{PutsFirst, value_at}
use Rattle.record_move.proofs.Backwards.{deps_noted, or_last}
use Rattle.record_move.proofs.backward.note_deps.Goals as goal

pub loop-dep-init : goal.loop-dep-init
loop-dep-init c = λ q. sym (or_last (is_some (value_at c.args.noted.now.entries q)))

pub loop-dep-preserved : goal.loop-dep-preserved
loop-dep-preserved c =
    deps_noted c.args.noted.now.entries c.loop-dep.noted.entries c.put_first.new.map.entries c.args.deps.now c.loop-dep.dep-index c.dep-item.result c.loop-dep-test.true c.loop-dep.invariant
    (subst (λ (d : DepLine). PutsFirst c.loop-dep.noted.entries c.put_first.new.map.entries d.name true) c.dep-item.is c.in_ok-put_first.ensures)

pub returns : goal.returns
returns c =
    subst (λ (l : List DepLine). (q : Hash) → is_some (value_at c.loop-dep.noted.entries q) ≡ (is_some (value_at c.args.noted.now.entries q) || list_any (λ (dep : DepLine). hash_eq dep.name q) l)) (take_all c.loop-dep.dep-index c.args.deps.now c.loop-dep-test.false) c.loop-dep.invariant
