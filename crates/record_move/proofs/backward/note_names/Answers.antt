use Rattle.std.proofs.Common.{◌≡◌, subst, true, ◌||◌, List}
use Rattle.std.specs.List.{list_any}
use Rattle.std.specs.Option.{is_some}
use Rattle.tree_model.specs.declared.hash.Hash.{Hash}
use Rattle.store_model.specs.declared.signature.DepLine.{DepLine}
use Rattle.store_model.specs.Rows.{hash_eq}
use Rattle.std.proofs.lemmas.Result.{on_ok_weaker}
use Rattle.record_move.specs.Named.{PutsFirst, value_at}
use Rattle.record_move.proofs.Backwards.{names_noted}
use Rattle.record_move.proofs.backward.note_names.Goals as goal

pub returns : goal.returns
returns c =
    on_ok_weaker c.put_first.result
    (λ (puts : PutsFirst c.note_deps.new.noted.entries c.put_first.new.map.entries c.args.stored.now.unihash true).
    names_noted c.args.noted.now.entries c.note_deps.new.noted.entries c.put_first.new.map.entries c.args.stored.now (subst (λ (l : List DepLine). (q : Hash) → is_some (value_at c.note_deps.new.noted.entries q) ≡ (is_some (value_at c.args.noted.now.entries q) || list_any (λ (dep : DepLine). hash_eq dep.name q) l)) c.as_slice.ensures c.in_ok-note_deps.ensures) puts)
    c.put_first.ensures
